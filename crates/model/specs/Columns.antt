-- A column read from arrays of starts and rows, whatever they hold.
use Rattle.std.specs.Prelude.{◌≡◌, true, ℕ, ◌-◌, cond, ◌&&◌, List, length, Some, None, Option, nat_le, nat_lt}
use Rattle.std.specs.Prelude.{slice_index, slice_range}
use Rattle.pattern.specs.Patterns.{Pattern, within}
use Rattle.pattern.specs.Structure as structure
use Rattle.pattern.specs.Structure.{higher, over}

-- the rows from one place to another, if they are a part of them; an empty part is a part
abbrev pub part : List ℕ → ℕ → ℕ → Option (List ℕ)
part rows from to = cond (nat_le from to && nat_le to (length rows)) (Some (slice_range rows from to)) None

-- column v: the rows between the numbers v and v + 1 of the starts, counted from 1, if there are these two
abbrev pub column_in : List ℕ → List ℕ → ℕ → Option (List ℕ)
column_in starts rows v =
    cond (nat_le 1 v && nat_lt v (length starts)) (part rows (slice_index starts (v - 1)) (slice_index starts v)) None

-- from arrays that begin with the starts and the rows of a pattern each of its columns is read
abbrev pub ColumnsReadBack : Type 0
ColumnsReadBack = (p : Pattern) (starts rows : List ℕ) (v : ℕ) → within p.order v ≡ true →
    column_in (over (structure.starts p) starts) (over (structure.rows p) rows) v ≡ Some (higher p v)
