-- What each kind comes to over a list of vertices: the sum, wrapped, the least and the greatest of the numbers held,
-- and of two that are joined at once what each comes to.
use Rattle.std.proofs.Common.{◌≡◌, ℕ, List, [], ◌∷◌, pos, refl, ap, ◌∙◌, w64}
use Rattle.std.specs.Int.{int_wrap}
use Rattle.std.proofs.lemmas.Int.{int_wrap-add_right}
use Rattle.pattern.specs.Lists.{least, greatest}
use Rattle.pattern.specs.Counts.{sum_ℤ}
use Rattle.gather.specs.Joinings.{joined_over, joined_both}
use Rattle.gather.specs.declared.kinds.Weight.{Weight}
use Rattle.gather.specs.declared.kinds.LeastPlace.{LeastPlace}
use Rattle.gather.specs.declared.kinds.GreatestLevel.{GreatestLevel}
use Rattle.gather.specs.Kinds.{weight, no_weight, summed, least_place, no_place, lesser, greatest_level, no_level, greater}

none_wrapped : pos 0 ≡ int_wrap w64 (pos 0)
unfolding int_wrap
none_wrapped = refl

pub weights_over : (value : ℕ → Weight) (xs : List ℕ) →
    joined_over no_weight summed value xs ≡ weight (int_wrap w64 (sum_ℤ (λ x. (value x).0) xs))
unfolding joined_over sum_ℤ
weights_over value [] = ap weight none_wrapped
weights_over value (x ∷ xs) =
    ap (summed (value x)) (weights_over value xs) ∙ ap weight (int_wrap-add_right w64 (value x).0 _)

pub places_over : (value : ℕ → LeastPlace) (xs : List ℕ) →
    joined_over no_place lesser value xs ≡ least_place (least 65535 (λ x. (value x).0) xs)
unfolding joined_over least
places_over value [] = refl
places_over value (x ∷ xs) = ap (lesser (value x)) (places_over value xs)

pub levels_over : (value : ℕ → GreatestLevel) (xs : List ℕ) →
    joined_over no_level greater value xs ≡ greatest_level (greatest (λ x. (value x).0) xs)
unfolding joined_over greatest
levels_over value [] = refl
levels_over value (x ∷ xs) = ap (greater (value x)) (levels_over value xs)

pub both_over : {A B : Type 0} (a : A) (b : B) (f : A → A → A) (g : B → B → B) (value : ℕ → A × B) (xs : List ℕ) →
    joined_over (a, b) (joined_both f g) value xs
    ≡ (joined_over a f (λ x. (value x).0) xs, joined_over b g (λ x. (value x).1) xs)
unfolding joined_over
both_over a b f g value [] = refl
both_over a b f g value (x ∷ xs) = ap (joined_both f g (value x)) (both_over a b f g value xs)
