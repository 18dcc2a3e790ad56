-- What a table of vertices tells, and what an array holds once an answer of each vertex is copied into it.
use Rattle.std.specs.Prelude.{◌≡◌, ℕ, ◌-◌, ◌<◌, min, cond, List, length, drop, nat_lt, slice_index_or}
use Rattle.pattern.specs.Structure.{over}
use Rattle.analysis.specs.Counts as counts
use Rattle.analysis.specs.Tables.{no_vertex}
use Rattle.analysis.specs.declared.records.Vertex.{Vertex}
use Rattle.model.specs.Refusals.{number_of}
use Rattle.model.specs.declared.refusals.Refusal.TheVariants.{ArraysTooShort}

-- the number that is answered where n places are needed: 0 where there are as many
abbrev pub number_for : ℕ → ℕ → ℕ
number_for n places = cond (nat_lt places n) (number_of ArraysTooShort) 0

-- the array with xs in its first places, or as it was where these are too few
abbrev pub written : List ℕ → List ℕ → List ℕ
written xs before = cond (nat_lt (length before) (length xs)) before (over xs before)

-- the height and the column count that a record tells, of no more than 32 bits whatever it holds
abbrev pub height_told : Vertex → ℕ
height_told x = x.deepest.0 - x.level

abbrev pub column_told : Vertex → ℕ
column_told x = min (counts.column_of x.weight.0) 4294967295

-- Each of the first places holds what `gives` allows for the record there, and the others are as before.
pub record ReadOff (gives : Vertex → ℕ → Type 0) (vs : List Vertex) (before after : List ℕ) : Type 0 where
  pub given : (k : ℕ) → k < length vs → gives (slice_index_or vs k no_vertex) (slice_index_or after k 0)
  pub others : drop (length vs) after ≡ drop (length vs) before
