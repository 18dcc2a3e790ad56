-- What lies below a joint by the parents answered lies below it in the tree, and so is told by paths.
use Rattle.std.proofs.Common.{◌≡◌, ℕ, ◌<◌, ◌≤◌, true, ◌⊎◌, ◌↔◌, Ok, refl, sym, ap, ◌∙◌, subst, inl, inr, arith}
use Rattle.std.proofs.lemmas.Bool.{and_parts, and_from, not-true, not_from_false, eqb-false, ne_eqb}
use Rattle.pattern.specs.Patterns.{within}
use Rattle.pattern.specs.Elimination.{parent}
use Rattle.pattern.specs.Fill.{below}
use Rattle.pattern.proofs.Tests.{Vertex, within_parts, within_from}
use Rattle.pattern.proofs.Lines.{Climb, here, step, climb_of, climb_start, under_of}
use Rattle.pattern.proofs.Tree.{parents_grow}
use Rattle.pattern.proofs.Theorems.{below_by_paths}
use Rattle.model.specs.Asked.{pattern_held}
use Rattle.model.specs.Meaning.{meaning}
use Rattle.model.specs.declared.models.Model.{Model}
use Rattle.runs.specs.Laws.{LiesBelow, LeadsUnder, to_parent, by_parent}
use Rattle.runs.proofs.Questions.{asked_of, asked_tells}

module _ (m : Model) where
  abbrev Up : ℕ → ℕ → Type 0
  Up u v = Climb (pattern_held m).order (parent (pattern_held m)) u v

  -- one step up
  stepped : (v w : ℕ) → within (meaning m).order v ≡ true → parent (pattern_held m) v ≡ w → 1 ≤ w →
      (v < w) × Vertex (pattern_held m).order w × ((u : ℕ) → Up u w → Up u v)
  stepped v w inside is some =
      let vertex = within_parts (meaning m).order v inside in
      let grows = parents_grow (pattern_held m) in
      let rises = grows.rises v vertex.named vertex.fits (omega (arith, is, some)) in
      let stays = grows.stays v vertex.named vertex.fits in (
        omega (arith, is, rises),
        record { named = some; fits = omega (arith, is, stays) },
        λ u c. step v vertex (subst (Up u) (sym is) c),
      )

  climbs : {v u : ℕ} → LiesBelow m v u → (v < u) × Up u v
  climbs (to_parent v u some e) =
      let (inside, is) = asked_tells m parent v u e in
      let (less, vertex, up) = stepped v u inside is some in (less, up u (here vertex))
  climbs (by_parent v w u e rest) =
      let (inside, is) = asked_tells m parent v w e in
      let (above, c) = climbs rest in
      let (less, vertex, up) = stepped v w inside is (climb_start c).named in (omega (arith, less, above), up u c)

  lies : (meaning m).analysed ≡ true → {u v : ℕ} → Up u v → (v ≡ u) ⊎ LiesBelow m v u
  lies analysed (here vertex) = inl refl
  lies analysed {u} (step v vertex c) =
      let e = asked_of m parent v analysed (within_from (meaning m).order v vertex) in
      inr
      (elim (lies analysed c) [
        | inl same ↦
            to_parent v u (let some = (climb_start c).named in omega arith) (e ∙ ap Ok same)
        | inr later ↦ by_parent v (parent (pattern_held m) v) u e later
      ])

  pub lies_below : (v u : ℕ) → LiesBelow m v u → below (pattern_held m) v u ≡ true
  unfolding below
  lies_below v u l =
      let (less, c) = climbs l in
      and_from _ _ (not_from_false _ (ne_eqb v u (λ e. omega (arith, less, e))))
      (under_of (pattern_held m).order (parent (pattern_held m)) (parents_grow (pattern_held m)) c)

  pub below_lies : (meaning m).analysed ≡ true → (v u : ℕ) → below (pattern_held m) v u ≡ true → LiesBelow m v u
  unfolding below
  below_lies analysed v u e =
      let (apart, under) = and_parts _ _ e in
      elim (lies analysed (climb_of (pattern_held m).order (parent (pattern_held m)) v u under)) [
        | inl same ↦ absurd (eqb-false v u (not-true _ apart) same)
        | inr l ↦ l
      ]

  pub below_is_led : (meaning m).analysed ≡ true → (v u : ℕ) → LiesBelow m v u ↔ LeadsUnder (meaning m) v u
  below_is_led analysed v u =
      let paths = below_by_paths (pattern_held m) v u in
      (λ l. paths.0 (lies_below v u l), λ led. below_lies analysed v u (paths.1 led))
