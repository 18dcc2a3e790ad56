-- What the gatherings leave in the vertices' fields: the sizes of the subtrees, first places and greatest levels.
use Rattle.std.proofs.Common.{◌≡◌, ℕ, ◌≤◌, max, true, List, [], ◌∷◌, length, ℤ, pos, ◌+ℤ◌, refl, ap, ◌∙◌, ap₂, arith, w64, SFits}
use Rattle.std.specs.Int.{int_wrap}
use Rattle.std.proofs.lemmas.Int.{int_wrap_fits}
use Rattle.std.proofs.lemmas.Bool.{eq-eqb, or_left, or_right}
use Rattle.pattern.specs.Lists.{occurs, least, greatest}
use Rattle.pattern.specs.Forest.{Grows, subtree, level, place, first_place}
use Rattle.pattern.specs.Walks.{size}
use Rattle.pattern.specs.Counts.{sum_ℤ}
use Rattle.pattern.proofs.Tests as math
use Rattle.pattern.proofs.Lists.{in_keep, keep_has}
use Rattle.pattern.proofs.Tallies.{least_le, least_ge}
use Rattle.pattern.proofs.Lines.{under_self}
use Rattle.pattern.proofs.Forest.{size_bound}
use Rattle.pattern.proofs.Places.{place_bounds}
use Rattle.gather.specs.declared.kinds.LeastPlace.{LeastPlace}
use Rattle.gather.specs.declared.kinds.GreatestLevel.{GreatestLevel}
use Rattle.gather.specs.Joinings.{joined_both}
use Rattle.gather.specs.Kinds.{no_weight, summed, no_place, lesser, no_level, greater}
use Rattle.gather.specs.Gatherings.{Gathered}
use Rattle.gather.proofs.Totals.{weights_over, places_over, levels_over, both_over}
use Rattle.analysis.specs.declared.records.Vertex.{Vertex}
use Rattle.analysis.specs.Tables.{vertex, no_vertex, parent_of, with_weight, with_reach}
use Rattle.analysis.specs.Tables.{weight_from, reach_from, Only}
use Rattle.analysis.specs.Order.{Forest, AllWeighOne, greatest_level_under, Sized, ReachBegun, FirstPlaced, Sounded}
use Rattle.analysis.proofs.Changes.{weight_takes, reach_takes, only_gathered}
use Rattle.analysis.proofs.Passes.{holds_after}

sum_ones : (f : ℕ → ℤ) (xs : List ℕ) → ((x : ℕ) → occurs x xs ≡ true → f x ≡ pos 1) → sum_ℤ f xs ≡ pos (length xs)
unfolding sum_ℤ occurs
sum_ones f [] one = refl
sum_ones f (x ∷ xs) one =
    ap₂ ◌+ℤ◌ (one x (or_left _ _ (eq-eqb x x refl))) (sum_ones f xs (λ y o. one y (or_right _ _ o)))
    ∙ ap pos (omega arith)

-- a bound that some of them keeps does not matter
least_agrees : (b c : ℕ) (f g : ℕ → ℕ) (xs : List ℕ) → ((x : ℕ) → occurs x xs ≡ true → f x ≡ g x) →
    (y : ℕ) → occurs y xs ≡ true → g y ≤ b → g y ≤ c → least b f xs ≡ least c g xs
least_agrees b c f g xs same y o p q =
    let e = same y o in
    let l = least_le b f xs y o in
    let m = least_le c g xs y o in
    let low = least_ge c g xs (least b f xs) (omega arith)
    (λ x i. let a = least_le b f xs x i in let s = same x i in omega arith) in
    let high = least_ge b f xs (least c g xs) (omega arith)
    (λ x i. let a = least_le c g xs x i in let s = same x i in omega arith) in
    omega arith

greatest_agrees : (f g : ℕ → ℕ) (xs : List ℕ) → ((x : ℕ) → occurs x xs ≡ true → f x ≡ g x) →
    greatest f xs ≡ greatest g xs
unfolding greatest occurs
greatest_agrees f g [] same = refl
greatest_agrees f g (x ∷ xs) same =
    ap₂ max (same x (or_left _ _ (eq-eqb x x refl))) (greatest_agrees f g xs (λ y o. same y (or_right _ _ o)))

module _ (n : ℕ) (up : ℕ → ℕ) where
  in_subtree : (v x : ℕ) → occurs x (subtree n up v) ≡ true → math.Vertex n x
  unfolding subtree
  in_subtree v x o = (in_keep n _ x o).1

  on_subtree : Grows n up → (v : ℕ) → math.Vertex n v → occurs v (subtree n up v) ≡ true
  unfolding subtree
  on_subtree grows v h = keep_has n _ v (under_self n up grows v h) h

-- once they are gathered
module _ {vs ws : List Vertex} (forest : Forest vs) (long : length ws ≡ length vs) where
  pub sizes_gathered : AllWeighOne vs →
      Gathered no_weight summed no_vertex (λ x. x.parent) (λ x. x.weight) with_weight (length vs) vs ws →
      Sized (length ws) ws × Only weight_from vs ws
  unfolding size
  sizes_gathered ones g =
      let n = length vs in
      let up = parent_of vs in
      let only = only_gathered _ _ _ _ _ weight_from weight_takes (λ _ _. refl) n vs ws g in (
        holds_after weight_from (λ _ _. refl) _ _ only long (λ x. x.weight.0) (λ n up v. pos (size n up v))
            (λ v p q.
            let b : length (subtree n up v) ≤ n = size_bound n up forest.grows v in
            let few = forest.few in
            let small : SFits w64 (pos (length (subtree n up v))) = record { sfits = omega arith } in
            ap (λ x. x.weight.0) (g.vertices v p q)
            ∙ ap (λ x. x.0) (weights_over (λ x. (vertex vs x).weight) (subtree n up v))
            ∙ ap (int_wrap w64)
            (sum_ones _ (subtree n up v) (λ x o. let k = in_subtree n up v x o in ones x k.named k.fits))
            ∙ int_wrap_fits w64 _ small),
        only,
      )

  pub reach_gathered : ReachBegun (length vs) vs →
      Gathered (no_place, no_level) (joined_both lesser greater) no_vertex (λ x. x.parent) (λ x. (x.first, x.deepest))
      with_reach (length vs) vs ws →
      FirstPlaced (length ws) ws × Sounded (length ws) ws × Only reach_from vs ws
  unfolding first_place
  reach_gathered begun g =
      let n = length vs in
      let up = parent_of vs in
      let only = only_gathered _ _ _ _ _ reach_from reach_takes (λ _ _. refl) n vs ws g in
      let own : ℕ → LeastPlace × GreatestLevel = λ x. ((vertex vs x).first, (vertex vs x).deepest) in
      let both = λ (v : ℕ). both_over no_place no_level lesser greater own (subtree n up v) in (
        holds_after reach_from (λ _ _. refl) _ _ only long (λ x. x.first.0) first_place
            (λ v p q.
            let h : math.Vertex n v = record { named = p; fits = q } in
            let b = (place_bounds n up forest.grows v h).1 in
            let few = forest.few in
            ap (λ x. x.first.0) (g.vertices v p q)
            ∙ ap (λ j. j.0.0) (both v)
            ∙ ap (λ j. j.0) (places_over (λ x. (vertex vs x).first) (subtree n up v))
            ∙ least_agrees 65535 n _ (place n up) (subtree n up v)
            (λ x o. let k = in_subtree n up v x o in begun.places x k.named k.fits)
            v (on_subtree n up forest.grows v h) (omega arith) b),
        holds_after reach_from (λ _ _. refl) _ _ only long (λ x. x.deepest.0) greatest_level_under
            (λ v p q.
            ap (λ x. x.deepest.0) (g.vertices v p q)
            ∙ ap (λ j. j.1.0) (both v)
            ∙ ap (λ j. j.0) (levels_over (λ x. (vertex vs x).deepest) (subtree n up v))
            ∙ greatest_agrees _ (level n up) (subtree n up v)
            (λ x o. let k = in_subtree n up v x o in begun.levels x k.named k.fits)),
        only,
      )
