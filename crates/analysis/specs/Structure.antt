-- What the structure is found from: the records of an analysed pattern, and arrays with places for all of it.
use Rattle.std.specs.Prelude.{◌≡◌, ℕ, ◌<◌, ◌≤◌, List, length, pos, slice_index}
use Rattle.pattern.specs.Elimination.{col_count}
use Rattle.pattern.specs.Filling as filling
use Rattle.pattern.specs.Patterns.{Pattern}
use Rattle.pattern.specs.Structure.{taken}
use Rattle.analysis.specs.declared.records.Vertex.{Vertex}
use Rattle.analysis.specs.Growth.{Tree}
use Rattle.analysis.specs.Tables.{vertex}

-- the records of the vertices of p, not too many, have their parents and their column counts
pub record Found (p : Pattern) (vs : List Vertex) : Type 0 where
  pub order : p.order ≡ length vs
  pub few : p.order ≤ 16384
  pub tree : Tree p vs
  pub columns : (v : ℕ) → 1 ≤ v → v ≤ p.order → (vertex vs v).weight.0 ≡ pos (col_count p v)

-- the two arrays have a place for each start and for each row
pub record Room (p : Pattern) (long wide : ℕ) : Type 0 where
  pub starts : p.order < long
  pub rows : taken p p.order ≤ wide

-- the columns 1 to k have their rows up to u
abbrev pub Filled : Pattern → ℕ → ℕ → List ℕ → List ℕ → Type 0
Filled p k u starts rows = filling.Filled p k u (slice_index starts) (slice_index rows)

abbrev pub Climbing : Pattern → ℕ → ℕ → List ℕ → List ℕ → Type 0
Climbing p u v starts rows = filling.Climbing p u v (slice_index starts) (slice_index rows)

abbrev pub Climbed : Pattern → ℕ → ℕ → List ℕ → List ℕ → List ℕ → List ℕ → Type 0
Climbed p u x starts rows starts' rows' =
    filling.Climbed p u x (slice_index starts) (slice_index rows) (slice_index starts') (slice_index rows')

-- nothing else of the two arrays has changed
abbrev pub Rest : Pattern → List ℕ → List ℕ → List ℕ → List ℕ → Type 0
Rest p starts rows starts' rows' =
    filling.Rest p (slice_index starts) (slice_index rows) (slice_index starts') (slice_index rows')
