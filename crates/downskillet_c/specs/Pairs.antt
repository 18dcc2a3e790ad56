-- Pairs of vertices as callers lend them, and the pattern that they make up.
use Rattle.std.specs.Prelude.{ℕ, ◌<◌, min, max, List, map, length, slice_index_or}
use Rattle.pattern.specs.Patterns.{Pattern}
use Rattle.downskillet_c.specs.declared.pairs.Pair.{Pair}

abbrev pub no_pair : Pair
no_pair = record { first = 0; second = 0 }

abbrev pub ends_of : Pair → ℕ × ℕ
ends_of p = (p.first, p.second)

-- the pairs of a list lent
abbrev pub given : List Pair → List (ℕ × ℕ)
given ps = map ends_of ps

-- a pair, the lower vertex first
abbrev pub turned : (ℕ × ℕ) → ℕ × ℕ
turned e = (min e.0 e.1, max e.0 e.1)

-- the pattern that pairs make up of the vertices 1 to n; one that stands twice says no more than once
abbrev pub pattern_given : ℕ → List (ℕ × ℕ) → Pattern
pattern_given n ps = record { order = n; entries = map turned ps }

-- each higher vertex fits the 16 bits that an entry has for it
abbrev pub Narrow : List (ℕ × ℕ) → Type 0
Narrow ps = (k : ℕ) → k < length ps → (slice_index_or ps k (0, 0)).1 < 65536
