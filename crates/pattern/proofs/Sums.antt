-- Sums over lists of vertices: of two functions, of sums in either order, and a count as a sum; and over lists of
-- numbers in any commutative sum, with the exchange of two of them.
use Rattle.std.proofs.Common.{◌≡◌, ℕ, ◌+◌, Bool, cond, List, [], ◌∷◌, ◌++◌, length, ℤ, pos, ◌+ℤ◌, refl, sym, ap, ◌∙◌, ap₂, arith}
use Rattle.std.proofs.lemmas.Int.{ints}
use Rattle.pattern.specs.Lists.{sum, keep}

pub sum_plus : (f g : ℕ → ℕ) (xs : List ℕ) → sum (λ x. f x + g x) xs ≡ sum f xs + sum g xs
unfolding sum
sum_plus f g [] = omega arith
sum_plus f g (x ∷ xs) = let i = sum_plus f g xs in omega arith

sum_none : (xs : List ℕ) → sum (λ _. 0) xs ≡ 0
unfolding sum
sum_none [] = refl
sum_none (x ∷ xs) = let i = sum_none xs in omega arith

-- rows first or columns first, the sum is the same
pub sum_exchange : (f : ℕ → ℕ → ℕ) (xs ys : List ℕ) →
    sum (λ x. sum (λ y. f x y) ys) xs ≡ sum (λ y. sum (λ x. f x y) xs) ys
unfolding sum
sum_exchange f [] ys = sym (sum_none ys)
sum_exchange f (x ∷ xs) ys =
    omega (arith, sum_exchange f xs ys, sum_plus (f x) (λ y. sum (λ x. f x y) xs) ys)

-- how many pass a test: the sum of 1 for each that passes and 0 for each other
pub count_is_sum : (test : ℕ → Bool) (xs : List ℕ) → length (keep test xs) ≡ sum (λ x. cond (test x) 1 0) xs
unfolding sum keep
count_is_sum test [] = refl
count_is_sum test (x ∷ xs) = let i = count_is_sum test xs in grind arith

-- what a commutative sum is: a value for no summands, and an adding in which order and brackets do not count
pub record CommutativeSum (M : Type 0) : Type 0 where
  pub none : M
  pub plus : M → M → M
  pub none_plus : (a : M) → plus none a ≡ a
  pub assoc : (a b c : M) → plus (plus a b) c ≡ plus a (plus b c)
  pub comm : (a b : M) → plus a b ≡ plus b a

-- the sum of f over xs
unfoldable pub over : {M : Type 0} → CommutativeSum M → (ℕ → M) → List ℕ → M
over s f [] = s.none
over s f (x ∷ xs) = s.plus (f x) (over s f xs)

module _ {M : Type 0} (s : CommutativeSum M) where
  -- four summands, the two in the middle changed over
  pub swap_middle : (a b c d : M) → s.plus (s.plus a b) (s.plus c d) ≡ s.plus (s.plus a c) (s.plus b d)
  swap_middle a b c d =
      s.assoc a b (s.plus c d)
      ∙ ap (s.plus a) (sym (s.assoc b c d) ∙ ap (λ x. s.plus x d) (s.comm b c) ∙ s.assoc c b d)
      ∙ sym (s.assoc a c (s.plus b d))

  pub over_none : (xs : List ℕ) → over s (λ _. s.none) xs ≡ s.none
  unfolding over
  over_none [] = refl
  over_none (x ∷ xs) = s.none_plus _ ∙ over_none xs

  pub over_plus : (f g : ℕ → M) (xs : List ℕ) →
      over s (λ x. s.plus (f x) (g x)) xs ≡ s.plus (over s f xs) (over s g xs)
  unfolding over
  over_plus f g [] = sym (s.none_plus s.none)
  over_plus f g (x ∷ xs) = ap (s.plus (s.plus (f x) (g x))) (over_plus f g xs) ∙ swap_middle _ _ _ _

  pub over_same : (f g : ℕ → M) → ((x : ℕ) → f x ≡ g x) → (xs : List ℕ) → over s f xs ≡ over s g xs
  unfolding over
  over_same f g same [] = refl
  over_same f g same (x ∷ xs) = ap₂ s.plus (same x) (over_same f g same xs)

  pub over_append : (f : ℕ → M) (xs ys : List ℕ) → over s f (xs ++ ys) ≡ s.plus (over s f xs) (over s f ys)
  unfolding over
  over_append f [] ys = sym (s.none_plus _)
  over_append f (x ∷ xs) ys = ap (s.plus (f x)) (over_append f xs ys) ∙ sym (s.assoc _ _ _)

  -- rows first or columns first, the sum is the same
  pub exchange : (f : ℕ → ℕ → M) (xs ys : List ℕ) →
      over s (λ x. over s (λ y. f x y) ys) xs ≡ over s (λ y. over s (λ x. f x y) xs) ys
  unfolding over
  exchange f [] ys = sym (over_none ys)
  exchange f (x ∷ xs) ys = ap (s.plus (over s (f x) ys)) (exchange f xs ys) ∙ sym (over_plus (f x) _ ys)

pub naturals : CommutativeSum ℕ
naturals = record {
  none = 0;
  plus = ◌+◌;
  none_plus = λ a. omega arith;
  assoc = λ a b c. omega arith;
  comm = λ a b. omega arith;
}

pub integers : CommutativeSum ℤ
integers = record {
  none = pos 0;
  plus = ◌+ℤ◌;
  none_plus = λ a. omega (arith, ints);
  assoc = λ a b c. omega (arith, ints);
  comm = λ a b. omega (arith, ints);
}

pub sum_is_over : (f : ℕ → ℕ) (xs : List ℕ) → sum f xs ≡ over naturals f xs
unfolding sum over naturals
sum_is_over f [] = refl
sum_is_over f (x ∷ xs) = ap (◌+◌ (f x)) (sum_is_over f xs)
