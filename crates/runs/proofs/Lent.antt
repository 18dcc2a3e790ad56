-- The sets lent to a run, by their index.
use Rattle.std.proofs.Common.{◌≡◌, ℕ, zero, suc, ◌-◌, ◌≢◌, List, ◌∷◌, refl, sym, ap, arith}
use Rattle.sets.specs.Meaning.{Sets}
use Rattle.runs.specs.Lending.{size_at}

-- behind the first stand the others
pub size_next : (s : Sets) (ss : List Sets) (i : ℕ) → i ≢ 0 → size_at (s ∷ ss) i ≡ size_at ss (i - 1)
size_next s ss zero other = absurd (other refl)
size_next s ss (suc i) other = let less : suc i - 1 ≡ i = omega arith in ap (size_at ss) (sym less)
