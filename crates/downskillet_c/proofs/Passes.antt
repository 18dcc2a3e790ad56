-- One more step of a pass over a list: what it has written, and what it has tested.
use Rattle.std.proofs.Common.{◌≡◌, ℕ, ◌+◌, ◌<◌, Bool, ◌||◌, List, [], ◌∷◌, ◌++◌, map, length, take, get_or, sym, ap, ◌∙◌, arith}
use Rattle.std.specs.List.{list_any}
use Rattle.std.proofs.Math.ListN.{set}
use Rattle.std.proofs.lemmas.List.{length-map, map-set, take_more, take_more_set, get_or-map}
use Rattle.std.proofs.lemmas.List.Folds.{list_any_more}

-- what f reads of the first elements is what ys begins with, and so it is with one more
pub written_more : {X Y : Type 0} (f : X → Y) (xs : List X) (ys : List Y) (i : ℕ) (x : X) (y : Y) →
    i < length xs → i < length ys → take i (map f xs) ≡ take i ys → f x ≡ get_or ys i y →
    take (i + 1) (map f (set xs i x)) ≡ take (i + 1) ys
written_more f xs ys i x y fits there so_far is =
    ap (take (i + 1)) (map-set f xs i x)
    ∙ take_more_set (map f xs) i (f x) (omega (arith, length-map xs f))
    ∙ ap (λ zs. zs ++ f x ∷ []) so_far
    ∙ ap (λ z. take i ys ++ z ∷ []) is
    ∙ sym (take_more ys i y there)

-- a test of the first elements, and of one more
pub tested_more : {X Y : Type 0} (test : Y → Bool) (f : X → Y) (xs : List X) (i : ℕ) (x : X) (before : Bool) →
    i < length xs → x ≡ get_or xs i x → before ≡ list_any test (take i (map f xs)) →
    (before || test (f x)) ≡ list_any test (take (i + 1) (map f xs))
tested_more test f xs i x before fits is so_far =
    ap (λ b. b || test (f x)) so_far
    ∙ ap (λ y. list_any test (take i (map f xs)) || test y) (ap f is ∙ sym (get_or-map f xs i x (f x) fits))
    ∙ sym (list_any_more test (map f xs) i (f x) (omega (arith, length-map xs f)))

-- an element of a list that is mapped twice
pub mapped_twice : {X Y Z : Type 0} (f : X → Y) (g : Y → Z) (xs : List X) (i : ℕ) (x : X) (z : Z) → i < length xs →
    get_or (map g (map f xs)) i z ≡ g (f (get_or xs i x))
mapped_twice f g xs i x z fits =
    get_or-map g (map f xs) i (f x) z (omega (arith, length-map xs f)) ∙ ap g (get_or-map f xs i x (f x) fits)
