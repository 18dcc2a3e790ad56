-- The lines of a file: the bytes of each, and whether an LF (byte 10), which is not part of it, ends it.
use Rattle.std.specs.Prelude.{ℕ, Bool, true, false, cond, List, [], ◌∷◌, ◌==◌}

-- b put before the first line; where none comes, it stands in a last line that has no LF
abbrev pub onto_line : ℕ → List (List ℕ × Bool) → List (List ℕ × Bool)
onto_line b [] = ((b ∷ []), false) ∷ []
onto_line b ((bs, ended) ∷ ls) = ((b ∷ bs), ended) ∷ ls

abbrev pub lines : List ℕ → List (List ℕ × Bool)
lines [] = []
lines (b ∷ bs) = cond (b == 10) (([], true) ∷ lines bs) (onto_line b (lines bs))
