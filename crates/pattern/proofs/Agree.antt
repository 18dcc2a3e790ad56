-- Two parent functions that agree on the vertices 1 to n make the same trees, with the same walk.
use Rattle.std.proofs.Common.{◌≡◌, ℕ, zero, suc, ◌-◌, ◌≤◌, Bool, true, cond, eqb, List, [], ◌∷◌, ◌++◌, length, get_or, sym, refl, ap, ◌∙◌, ap₂, inl, inr, arith}
use mathlib.Core.Path.{fun_ext}
use Rattle.std.proofs.lemmas.Bool.{cases_Bool, cond-false, or_right}
use Rattle.pattern.specs.Lists.{upto, keep, occurs, position, each, least, greatest}
use Rattle.pattern.specs.Patterns.{within}
use Rattle.pattern.specs.Forest.{
  Grows,
  line_from,
  line,
  under,
  subtree,
  level,
  children,
  visit,
  walk,
  place,
  first_place,
  height,
}
use Rattle.pattern.specs.Walks.{at_place}
use Rattle.pattern.proofs.Tests.{within_parts}
use Rattle.pattern.proofs.Lists.{in_upto, occurs_here}

keep_agrees : (s t : ℕ → Bool) (xs : List ℕ) → ((x : ℕ) → occurs x xs ≡ true → s x ≡ t x) → keep s xs ≡ keep t xs
unfolding keep occurs
keep_agrees s t [] same = refl
keep_agrees s t (x ∷ xs) same =
    ap₂ (λ b l. cond b (x ∷ l) l) (same x (occurs_here x xs))
    (keep_agrees s t xs (λ y o. same y (or_right _ _ o)))

module _ (n : ℕ) (up up' : ℕ → ℕ) (same : (v : ℕ) → 1 ≤ v → v ≤ n → up v ≡ up' v) where
  pub grows_agrees : Grows n up → Grows n up'
  grows_agrees grows =
      record {
        rises = λ v p q h. let e = same v p q in let r = grows.rises v p q (omega arith) in omega arith;
        stays = λ v p q. let e = same v p q in let s = grows.stays v p q in omega arith;
      }

  line_from_agrees : (k x : ℕ) → line_from n up k x ≡ line_from n up' k x
  unfolding line_from
  line_from_agrees zero x = refl
  line_from_agrees (suc k) x =
      elim (cases_Bool (within n x)) [
        | inl w ↦
            let h = within_parts n x w in
            ap (λ l. cond (within n x) (x ∷ l) [])
            (line_from_agrees k (up x) ∙ ap (line_from n up' k) (same x h.named h.fits))
        | inr w ↦ cond-false _ _ _ w ∙ sym (cond-false _ _ _ w)
      ]

  pub line_agrees : (x : ℕ) → line n up x ≡ line n up' x
  unfolding line
  line_agrees x = line_from_agrees n x

  pub under_agrees : (x v : ℕ) → under n up x v ≡ under n up' x v
  unfolding under
  under_agrees x v = ap (occurs v) (line_agrees x)

  pub subtree_agrees : (v : ℕ) → subtree n up v ≡ subtree n up' v
  unfolding subtree
  subtree_agrees v = keep_agrees _ _ (upto n) (λ x o. under_agrees x v)

  pub level_agrees : (v : ℕ) → level n up v ≡ level n up' v
  unfolding level
  level_agrees v = ap (λ l. length l - 1) (line_agrees v)

  pub children_agrees : (v : ℕ) → children n up v ≡ children n up' v
  unfolding children
  children_agrees v =
      keep_agrees _ _ (upto n)
      (λ c o. let h = in_upto n c o in ap (λ u. eqb u v) (same c h.named h.fits))

  pub visit_agrees : (k v : ℕ) → visit n up k v ≡ visit n up' k v
  unfolding visit
  visit_agrees zero v = refl
  visit_agrees (suc k) v = ap₂ (λ f l. each f l ++ v ∷ []) (fun_ext (visit_agrees k)) (children_agrees v)

  pub walk_agrees : walk n up ≡ walk n up'
  unfolding walk
  walk_agrees = ap₂ each (fun_ext (visit_agrees n)) (children_agrees 0)

  pub place_agrees : (v : ℕ) → place n up v ≡ place n up' v
  unfolding place
  place_agrees v = ap (position v) walk_agrees

  pub at_place_agrees : (k : ℕ) → at_place n up k ≡ at_place n up' k
  unfolding at_place
  at_place_agrees k = ap (λ l. get_or l (k - 1) 0) walk_agrees

  pub first_place_agrees : (v : ℕ) → first_place n up v ≡ first_place n up' v
  unfolding first_place
  first_place_agrees v = ap₂ (least n) (fun_ext place_agrees) (subtree_agrees v)

  pub greatest_level_agrees : (v : ℕ) →
      greatest (level n up) (subtree n up v) ≡ greatest (level n up') (subtree n up' v)
  greatest_level_agrees v = ap₂ greatest (fun_ext level_agrees) (subtree_agrees v)

  pub height_agrees : (v : ℕ) → height n up v ≡ height n up' v
  unfolding height
  height_agrees v = ap₂ ◌-◌ (greatest_level_agrees v) (level_agrees v)
