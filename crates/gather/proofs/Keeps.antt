-- Lists of vertices that pass a test.
use Rattle.std.proofs.Common.{◌≡◌, ℕ, Bool, false, eqb, List, [], ◌∷◌, sym, refl, ap, ◌∙◌}
use mathlib.Core.Bool.{or-false}
use mathlib.Core.Path.{fun_ext}
use Rattle.pattern.specs.Lists.{upto, keep}
use Rattle.pattern.proofs.Tests.{Vertex}
use Rattle.pattern.proofs.Lists.{keep_none, keep_own}

pub keep_same : (p q : ℕ → Bool) → ((x : ℕ) → p x ≡ q x) → (xs : List ℕ) → keep p xs ≡ keep q xs
keep_same p q same xs = ap (λ test. keep test xs) (fun_ext same)

-- of the numbers from 1 to n only v is v
pub keep_alone : (n v : ℕ) → Vertex n v → keep (λ x. eqb x v) (upto n) ≡ v ∷ []
keep_alone n v vertex =
    keep_same _ _ (λ x. sym (or-false (eqb x v))) (upto n)
    ∙ keep_own (λ _. false) v vertex.named (λ _ _. refl) n vertex.fits
    ∙ ap (λ l. v ∷ l) (keep_none (λ _. false) (upto n) (λ _ _. refl))
