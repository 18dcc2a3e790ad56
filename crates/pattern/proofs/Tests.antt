-- What the tests on vertices and entries say.
use Rattle.std.proofs.Common.{◌≡◌, ℕ, suc, ◌≤◌, Bool, true, false, eqb, ◌⊎◌, inl, inr, arith}
use Rattle.std.proofs.lemmas.Bool.{and_parts, and_from, leb-true, le-leb, cases_eq, false_from_ne_true}
use Rattle.std.proofs.lemmas.Bool.Decides.{nat_tests, same_from_decides}
use Rattle.pattern.specs.Patterns.{within}

pub record Vertex (n v : ℕ) : Type 0 where
  pub named : 1 ≤ v
  pub fits : v ≤ n

pub within_parts : (n v : ℕ) → within n v ≡ true → Vertex n v
unfolding within
within_parts n v e =
    let (low, high) = and_parts _ _ e in
    record { named = leb-true 1 v low; fits = leb-true v n high }

pub within_from : (n v : ℕ) → Vertex n v → within n v ≡ true
unfolding within
within_from n v h = and_from _ _ (le-leb 1 v h.named) (le-leb v n h.fits)

pub outside : (n v : ℕ) → (Vertex n v → ⊥) → within n v ≡ false
outside n v not-one = false_from_ne_true _ (λ there. not-one (within_parts n v there))

-- a vertex of 1 to n + 1 is the last of them or one of 1 to n
pub vertex_last : {n v : ℕ} → Vertex (suc n) v → (v ≡ suc n) ⊎ Vertex n v
vertex_last {n} {v} vv =
    elim (cases_eq v (suc n)) [
      | inl same ↦ inl same
      | inr other ↦ inr (record { named = vv.named; fits = omega arith })
    ]

-- two tests that hold together are the same test
pub same_test : (a b : Bool) → (a ≡ true → b ≡ true) → (b ≡ true → a ≡ true) → a ≡ b
same_test a b f g = same_from_decides a b (f, g) (λ e. e, λ e. e)

pub eqb_swap : (a b : ℕ) → eqb a b ≡ eqb b a
eqb_swap a b = grind (arith, nat_tests)
