-- The entries that a table holds: where one stands, and that none stands twice.
use Rattle.std.specs.Prelude.{ℕ, min, max, Bool, true, not, ◌&&◌, List, [], ◌∷◌, Option, ◌==◌}
use Rattle.std.specs.List.{position_from}
use Rattle.analysis.specs.declared.records.Entry.{Entry}
use Rattle.pattern.specs.Patterns.{listed}
use Rattle.model.specs.declared.pairs.Pair.{Pair}

-- two vertices, the lower one first
abbrev pub sorted : ℕ → ℕ → Pair
sorted i j = record { low = min i j; high = max i j }

-- the entry has these two vertices
abbrev pub joins : Pair → Entry → Bool
joins p e = e.low == p.low && e.high == p.high

-- the index of the first entry with these two vertices
abbrev pub index_of : Pair → List Entry → Option ℕ
index_of p es = position_from (joins p) 0 es

-- no entry stands twice
abbrev pub distinct : List (ℕ × ℕ) → Bool
distinct [] = true
distinct (e ∷ es) = not (listed es e.0 e.1) && distinct es
