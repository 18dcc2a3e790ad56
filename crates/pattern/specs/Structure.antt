-- The factor's structure in columns: where each column starts, and its rows, column after column.
use Rattle.std.specs.Prelude.{◌≡◌, ℕ, zero, suc, ◌+◌, ◌-◌, ◌<◌, true, ◌&&◌, List, ◌∷◌, ◌++◌, map, length, drop, nat_lt, slice_index_or, slice_range}
use Rattle.pattern.specs.Lists.{upto, keep, each}
use Rattle.pattern.specs.Patterns.{Pattern, within}
use Rattle.pattern.specs.Elimination.{fill, col, col_count, total}

-- column v without v, ascending
unfoldable pub higher : Pattern → ℕ → List ℕ
higher p v = keep (λ u. nat_lt v u && fill p v u) (upto p.order)

-- how many rows the columns 1 to v take, each without its own vertex
unfoldable pub taken : Pattern → ℕ → ℕ
taken p zero = 0
taken p (suc v) = taken p v + (col_count p (suc v) - 1)

-- where each column starts, and at last where the rows end: n + 1 numbers, the first 0
unfoldable pub starts : Pattern → List ℕ
starts p = 0 ∷ map (taken p) (upto p.order)

-- column after column, each without its own vertex
unfoldable pub rows : Pattern → List ℕ
rows p = each (higher p) (upto p.order)

-- an array with xs in its first places, and after them what stood there
abbrev pub over : List ℕ → List ℕ → List ℕ
over xs before = xs ++ drop (length xs) before

-- from each column's start to the next stand its rows
pub record InColumns (p : Pattern) : Type 0 where
  pub starts_are : length (starts p) ≡ p.order + 1
  pub rows_are : length (rows p) + p.order ≡ total p
  pub own_first : (v : ℕ) → within p.order v ≡ true → col p v ≡ v ∷ higher p v
  pub column : (v : ℕ) → v < p.order →
      let from = slice_index_or (starts p) v 0 in
      let to = slice_index_or (starts p) (v + 1) 0 in
      slice_range (rows p) from to ≡ higher p (v + 1)

abbrev pub StructureInColumns : Type 0
StructureInColumns = (p : Pattern) → InColumns p
