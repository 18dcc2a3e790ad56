-- Row counts by the paths from lower neighbours, and column counts by weights: the same meeting vertices serve both.
use Rattle.std.specs.Prelude.{◌≡◌, ℕ, ◌+◌, ◌-◌, ◌<◌, ◌≤◌, Bool, true, ◌&&◌, List, [], ◌∷◌, ◌++◌, length, ℤ, pos, ◌+ℤ◌, ◌-ℤ◌, nat_le, nat_lt}
use Rattle.pattern.specs.Lists.{upto, keep, occurs, sum}
use Rattle.pattern.specs.Patterns.{Pattern, shares}
use Rattle.pattern.specs.Elimination.{row_count, col_count, parent}
use Rattle.pattern.specs.Forest.{walk, subtree, children}
use Rattle.pattern.specs.Analysis.{place_of, level_of}
use Rattle.pattern.specs.Fill.{in_subtree, weight}
use Rattle.pattern.specs.Walks.{times}
use Rattle.pattern.specs.Meets.{meet}

-- what f makes of each two neighbours in xs
unfoldable pub between : (ℕ → ℕ → ℕ) → List ℕ → List ℕ
between f [] = []
between f (x ∷ []) = []
between f (x ∷ y ∷ xs) = f x y ∷ between f (y ∷ xs)

-- f does not fall from one of xs to the next
unfoldable pub unfalling : (ℕ → ℕ) → List ℕ → Bool
unfalling f [] = true
unfalling f (x ∷ []) = true
unfalling f (x ∷ y ∷ xs) = nat_le (f x) (f y) && unfalling f (y ∷ xs)

-- the meeting vertex of x and y in the tree of the parents, or 0
abbrev pub meet_of : Pattern → ℕ → ℕ → ℕ
meet_of p x y = meet p.order (parent p) x y

-- l serves row u: lower neighbours of u whose places do not fall, and every lower neighbour of u has one of l in its
-- subtree. All of them in the order of their places serve, some twice, or only those that have no other below them
pub record RowFrom (p : Pattern) (u : ℕ) (l : List ℕ) : Type 0 where
  pub lower : (x : ℕ) → occurs x l ≡ true → (x < u) × (shares p x u ≡ true)
  pub placed : unfalling (place_of p) l ≡ true
  pub covers : (y : ℕ) → y < u → shares p y u ≡ true → (x : ℕ) × (occurs x l ≡ true) × (in_subtree p x y ≡ true)

-- the lower neighbours of u in the order of their places
unfoldable pub lower_neighbours : Pattern → ℕ → List ℕ
lower_neighbours p u = keep (λ x. nat_lt x u && shares p x u) (walk p.order (parent p))

-- l and then u, and the meeting vertices of neighbours there
unfoldable pub stops : List ℕ → ℕ → List ℕ
stops l u = l ++ u ∷ []

unfoldable pub bends : Pattern → List ℕ → ℕ → List ℕ
bends p l u = between (meet_of p) (stops l u)

-- how many vertices the path from x up to its meeting vertex with y passes, that one left out
unfoldable pub climb : Pattern → ℕ → ℕ → ℕ
climb p x y = level_of p x - level_of p (meet_of p x y)

-- row u is u and, for each of l, the path up to where the next of l, or u, joins it
pub record RowCounted (p : Pattern) (u : ℕ) (l : List ℕ) : Type 0 where
  pub by_levels : row_count p u + sum (level_of p) (bends p l u) ≡ 1 + sum (level_of p) l
  pub by_paths : row_count p u ≡ 1 + sum (λ k. k) (between (climb p) (stops l u))

abbrev pub RowCountsByPaths : Type 0
RowCountsByPaths = (p : Pattern) (u : ℕ) → 1 ≤ u → u ≤ p.order →
    ((l : List ℕ) → RowFrom p u l → RowCounted p u l) × RowFrom p u (lower_neighbours p u)

-- the sum of whole numbers over a list
unfoldable pub sum_ℤ : (ℕ → ℤ) → List ℕ → ℤ
sum_ℤ f [] = pos 0
sum_ℤ f (x ∷ xs) = f x +ℤ sum_ℤ f xs

-- with a list for each row: the weight of v is how often v is a stop, less how often it is a bend, less its children;
-- and the column count of v is the sum of the weights of its subtree
pub record ColumnCounted (p : Pattern) (l : ℕ → List ℕ) (v : ℕ) : Type 0 where
  pub weighs : weight p v
      ≡ pos (sum (λ u. times v (stops (l u) u)) (upto p.order))
      -ℤ pos (sum (λ u. times v (bends p (l u) u)) (upto p.order))
      -ℤ pos (length (children p.order (parent p) v))
  pub summed : pos (col_count p v) ≡ sum_ℤ (weight p) (subtree p.order (parent p) v)

abbrev pub ColumnCountsByWeights : Type 0
ColumnCountsByWeights = (p : Pattern) (l : ℕ → List ℕ) →
    ((u : ℕ) → 1 ≤ u → u ≤ p.order → RowFrom p u (l u)) →
    (v : ℕ) → 1 ≤ v → v ≤ p.order → ColumnCounted p l v
