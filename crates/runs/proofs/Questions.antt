-- What an analysed model answers to a question of one of its vertices, and what an answer tells.
use Rattle.std.proofs.Common.{◌≡◌, ℕ, true, false, not, eqb, None, Ok, ap, ◌∙◌, arith}
use Rattle.std.proofs.lemmas.Bool.{cond-false, ne_eqb, not-false}
use Rattle.pattern.specs.Patterns.{Pattern, within}
use Rattle.pattern.proofs.Tests.{within_parts}
use Rattle.model.specs.Asked.{asked, pattern_held}
use Rattle.model.specs.Meaning.{meaning}
use Rattle.model.specs.States.{Question, answer, first_refusal, rules}
use Rattle.model.specs.declared.models.Model.{Model}
use Rattle.model.proofs.Rules.{answered, unmet}

module _ (m : Model) where
  -- a vertex of an analysed model can be asked of
  accepted : (v : ℕ) → (meaning m).analysed ≡ true → within (meaning m).order v ≡ true →
      first_refusal (meaning m) (Question v) ≡ None
  accepted v analysed here =
      let vertex = within_parts (meaning m).order v here in
      let made : eqb (meaning m).order 0 ≡ false
      = ne_eqb _ _ (λ e. omega (arith, vertex.named, vertex.fits, e)) in
      cond-false _ _ _ made ∙ cond-false _ _ _ (ap not here) ∙ cond-false _ _ _ (ap not analysed)

  pub asked_of : {X : Type 0} (f : Pattern → ℕ → X) (v : ℕ) → (meaning m).analysed ≡ true →
      within (meaning m).order v ≡ true → asked f m v ≡ Ok (f (pattern_held m) v)
  asked_of f v analysed here = ap (λ o. answer o (f (pattern_held m) v)) (accepted v analysed here)

  -- what is answered is so, of a vertex
  pub asked_tells : {X : Type 0} (f : Pattern → ℕ → X) (v : ℕ) (x : X) → asked f m v ≡ Ok x →
      (within (meaning m).order v ≡ true) × (f (pattern_held m) v ≡ x)
  asked_tells f v x e =
      let (none, same) = answered _ _ _ e in
      let (empty, (outside, rest)) = unmet (rules (meaning m) (Question v)) none in (not-false _ outside, same)
