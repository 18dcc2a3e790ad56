-- The structure written row by row, into rows R by cursors C: the cursor of a column is the place that its next row
-- takes. Each column has its parent from the start; then row u comes to the columns that the climbs from the lower
-- neighbours of u pass.
use Rattle.std.specs.Prelude.{◌≡◌, ◌≢◌, ℕ, ◌+◌, ◌-◌, ◌<◌, ◌≤◌, true, cond, ◌&&◌, ◌⊎◌, length, nat_lt, slice_index_or}
use Rattle.pattern.specs.Lists.{upto, keep}
use Rattle.pattern.specs.Patterns.{Pattern}
use Rattle.pattern.specs.Elimination.{fill, parent}
use Rattle.pattern.specs.Structure as structure
use Rattle.pattern.specs.Structure.{taken}

-- how many of the rows of column v are at most u, its own vertex left out
unfoldable pub passed : Pattern → ℕ → ℕ → ℕ
passed p u v = length (keep (λ w. nat_lt v w && fill p v w) (upto u))

-- the cursor of column v once its rows up to u are written, and its parent if that is above u
unfoldable pub cursor : Pattern → ℕ → ℕ → ℕ
cursor p u v = taken p (v - 1) + passed p u v + cond (nat_lt u (parent p v)) 1 0

-- what stands under the cursors of the columns 1 to k is the structure's
abbrev pub Written : Pattern → ℕ → (ℕ → ℕ) → (ℕ → ℕ) → Type 0
Written p k C R =
    (v j : ℕ) → 1 ≤ v → v ≤ k → taken p (v - 1) ≤ j → j < C v → R j ≡ slice_index_or (structure.rows p) j 0

-- the columns 1 to k have their rows up to u
pub record Filled (p : Pattern) (k u : ℕ) (C R : ℕ → ℕ) : Type 0 where
  pub cursors : (v : ℕ) → 1 ≤ v → v ≤ k → C v ≡ cursor p u v
  pub written : Written p k C R

-- v is one of the vertices under u in row u
pub record InRow (p : Pattern) (u v : ℕ) : Type 0 where
  pub under : v < u
  pub joined : fill p v u ≡ true

-- Row u is begun, and the climb has come to v, 0 between climbs: each column has its rows up to u - 1 or up to u, and
-- where one in row u has u, its parent's has it too, unless that is v.
pub record Climbing (p : Pattern) (u v : ℕ) (C R : ℕ → ℕ) : Type 0 where
  pub cursors : (w : ℕ) → 1 ≤ w → w ≤ p.order → (C w ≡ cursor p (u - 1) w) ⊎ (C w ≡ cursor p u w)
  pub written : Written p p.order C R
  pub closed : (w : ℕ) → InRow p u w → C w ≡ cursor p u w → parent p w ≢ v →
      C (parent p w) ≡ cursor p u (parent p w)

-- all but the cursors of the columns, and their places, is as it was
pub record Rest (p : Pattern) (C R C' R' : ℕ → ℕ) : Type 0 where
  pub first : C' 0 ≡ C 0
  pub cursors : (j : ℕ) → p.order < j → C' j ≡ C j
  pub places : (j : ℕ) → taken p p.order ≤ j → R' j ≡ R j

-- Row u has come to column x and the columns above it; the columns that had it have it still.
pub record Climbed (p : Pattern) (u x : ℕ) (C R C' R' : ℕ → ℕ) : Type 0 where
  pub done : Climbing p u 0 C' R'
  pub met : C' x ≡ cursor p u x
  pub kept : (w : ℕ) → 1 ≤ w → w ≤ p.order → C w ≡ cursor p u w → C' w ≡ cursor p u w
  pub rest : Rest p C R C' R'
