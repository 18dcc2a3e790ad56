-- The ancestor sets lent to a run, one after another.
use Rattle.std.specs.Prelude.{ℕ, zero, suc, List, [], ◌∷◌}
use Rattle.sets.specs.Meaning.{Sets}
use Rattle.model.specs.SetsAfter.{sets_after}
use Rattle.model.specs.States.{State, Analyse}

-- the size of the sets at an index, counted from 0; where none stand there, as of sets with no room
abbrev pub size_at : List Sets → ℕ → ℕ
size_at [] k = 0
size_at (s ∷ ss) zero = s.size
size_at (s ∷ ss) (suc k) = size_at ss k

-- the sets after an analysis with those at an index: the others stay
abbrev pub analysed_at : State → List Sets → ℕ → List Sets
analysed_at state [] k = []
analysed_at state (s ∷ ss) zero = sets_after state (Analyse s.size) s ∷ ss
analysed_at state (s ∷ ss) (suc k) = s ∷ analysed_at state ss k
