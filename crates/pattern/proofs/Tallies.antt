-- Sums over lists of vertices, how often a number is one of them, and where it stands.
use Rattle.std.proofs.Common.{◌≡◌, ℕ, zero, suc, ◌+◌, ◌*◌, ◌<◌, ◌≤◌, Bool, true, false, cond, eqb, ltb, List, [], ◌∷◌, ◌++◌, length, get_or, sym, refl, ap, ◌∙◌, ap₂, inl, inr, arith}
use Rattle.std.proofs.lemmas.Bool.{cases_lt, lt-ltb, le-ltb, false≢true, or_left, or_right, eq-eqb, ne_eqb, cond-true, cond-false, true_from_ne_false, false_from_ne_true}
use Rattle.std.proofs.lemmas.Bool.Decides.{nat_tests}
use Rattle.std.proofs.lemmas.List.{append_assoc}
use Rattle.std.proofs.lemmas.List.Folds.{list_any_at}
use Rattle.pattern.specs.Lists.{upto, keep, occurs, position, each, sum, least, greatest}
use Rattle.pattern.proofs.Lists.{in_upto, sum_append, keep_append, keep_none, occurs_here}
use Rattle.pattern.proofs.Sums.{sum_exchange}
use Rattle.pattern.proofs.Tests.{Vertex}

-- 1 where the test passes, 0 where it fails
abbrev pub bit : Bool → ℕ
bit b = cond b 1 0

-- how often v is one of xs
abbrev pub tally : ℕ → List ℕ → ℕ
tally v xs = sum (λ y. bit (eqb y v)) xs

pub bit_bound : (b : Bool) → bit b ≤ 1
bit_bound true = omega arith
bit_bound false = omega arith

-- the sums of two functions that agree on the list
pub sum_same : (f g : ℕ → ℕ) (xs : List ℕ) → ((x : ℕ) → occurs x xs ≡ true → f x ≡ g x) → sum f xs ≡ sum g xs
unfolding sum occurs
sum_same f g [] same = refl
sum_same f g (x ∷ xs) same =
    ap₂ ◌+◌ (same x (occurs_here x xs)) (sum_same f g xs (λ y o. same y (or_right _ _ o)))

pub sum_zero : (f : ℕ → ℕ) (xs : List ℕ) → ((x : ℕ) → occurs x xs ≡ true → f x ≡ 0) → sum f xs ≡ 0
unfolding sum occurs
sum_zero f [] none = refl
sum_zero f (x ∷ xs) none =
    omega (arith, sum_zero f xs (λ y o. none y (or_right _ _ o)), none x (occurs_here x xs))

pub sum_keep : (f : ℕ → ℕ) (test : ℕ → Bool) (xs : List ℕ) → sum f (keep test xs) ≡ sum (λ x. cond (test x) (f x) 0) xs
unfolding sum keep
sum_keep f test [] = refl
sum_keep f test (x ∷ xs) = let i = sum_keep f test xs in grind arith

pub sum_scale : (test : ℕ → Bool) (k : ℕ) (xs : List ℕ) →
    sum (λ x. cond (test x) k 0) xs ≡ sum (λ x. bit (test x)) xs * k
unfolding sum
sum_scale test k [] = omega arith
sum_scale test k (x ∷ xs) = let i = sum_scale test k xs in grind arith

pub sum_each : (f : ℕ → ℕ) (g : ℕ → List ℕ) (xs : List ℕ) → sum f (each g xs) ≡ sum (λ x. sum f (g x)) xs
unfolding sum each
sum_each f g [] = refl
sum_each f g (x ∷ xs) = sum_append f (g x) (each g xs) ∙ ap (◌+◌ (sum f (g x))) (sum_each f g xs)

pub length_is_sum : (xs : List ℕ) → length xs ≡ sum (λ _. 1) xs
unfolding sum
length_is_sum [] = refl
length_is_sum (x ∷ xs) = let i = length_is_sum xs in omega arith

pub tally_append : (v : ℕ) (xs ys : List ℕ) → tally v (xs ++ ys) ≡ tally v xs + tally v ys
tally_append v xs ys = sum_append (λ y. bit (eqb y v)) xs ys

-- of 1 to n at most n pass a test
pub bits_fit : (test : ℕ → Bool) (n : ℕ) → sum (λ x. bit (test x)) (upto n) ≤ n
unfolding upto sum
bits_fit test zero = omega arith
bits_fit test (suc n) =
    omega (arith, bits_fit test n, bit_bound (test (suc n)), sum_append (λ x. bit (test x)) (upto n) (suc n ∷ []))

-- a sum from 1 to n that counts only x
pub sum_past : (n x : ℕ) (f : ℕ → ℕ) → n < x → sum (λ c. cond (eqb x c) (f c) 0) (upto n) ≡ 0
sum_past n x f past = sum_zero _ (upto n) (λ c o.
    cond-false _ _ _ (ne_eqb x c (λ e. let h = (in_upto n c o).fits in omega arith)))

pub sum_at : (n x : ℕ) (f : ℕ → ℕ) → 1 ≤ x → x ≤ n → sum (λ c. cond (eqb x c) (f c) 0) (upto n) ≡ f x
unfolding upto sum
sum_at zero x f low high = absurd (omega arith)
sum_at (suc n) x f low high =
    let a = sum_append (λ c. cond (eqb x c) (f c) 0) (upto n) (suc n ∷ []) in
    let p = sum_past n x f in
    let i = sum_at n x f low in
    grind (arith, nat_tests)

-- a test that only numbers from 1 to n pass, counted over them, is counted at most once for each member
pub length_by_values : (n : ℕ) (xs : List ℕ) → ((x : ℕ) → occurs x xs ≡ true → Vertex n x) →
    sum (λ x. tally x xs) (upto n) ≡ length xs
length_by_values n xs inside =
    sum_exchange (λ x y. bit (eqb y x)) (upto n) xs
    ∙ sum_same _ (λ _. 1) xs (λ y o. let h = inside y o in sum_at n y (λ _. 1) h.named h.fits)
    ∙ sym (length_is_sum xs)

-- a number is a member exactly when it is counted
pub occurs_counted : (v : ℕ) (xs : List ℕ) → occurs v xs ≡ true → 1 ≤ tally v xs
unfolding occurs sum
occurs_counted v [] o = absurd (false≢true o)
occurs_counted v (x ∷ xs) o = let i = occurs_counted v xs in grind (arith, nat_tests)

pub occurs_uncounted : (v : ℕ) (xs : List ℕ) → occurs v xs ≡ false → tally v xs ≡ 0
unfolding occurs sum
occurs_uncounted v [] o = refl
occurs_uncounted v (x ∷ xs) o = let i = occurs_uncounted v xs in grind (arith, nat_tests)

-- where a member stands
pub position_bounds : (v : ℕ) (xs : List ℕ) → occurs v xs ≡ true → (1 ≤ position v xs) × (position v xs ≤ length xs)
unfolding occurs position
position_bounds v [] o = absurd (false≢true o)
position_bounds v (x ∷ xs) o = let i = position_bounds v xs in grind (arith, nat_tests)

pub position_left : (v : ℕ) (xs ys : List ℕ) → occurs v xs ≡ true → position v (xs ++ ys) ≡ position v xs
unfolding occurs position
position_left v [] ys o = absurd (false≢true o)
position_left v (x ∷ xs) ys o = let i = position_left v xs ys in grind (arith, nat_tests)

pub position_right : (v : ℕ) (xs ys : List ℕ) → occurs v xs ≡ false → occurs v ys ≡ true →
    position v (xs ++ ys) ≡ length xs + position v ys
unfolding occurs position
position_right v [] ys o h = omega arith
position_right v (x ∷ xs) ys o h =
    grind (arith, nat_tests, position_right v xs ys, position_bounds v ys h)

pub occurs_from_count : (v : ℕ) (xs : List ℕ) → 1 ≤ tally v xs → occurs v xs ≡ true
occurs_from_count v xs l = true_from_ne_false _ (λ o. omega (arith, occurs_uncounted v xs o))

pub absent_from_count : (v : ℕ) (xs : List ℕ) → tally v xs ≡ 0 → occurs v xs ≡ false
absent_from_count v xs z = false_from_ne_true _ (λ o. omega (arith, occurs_counted v xs o))

-- where v stands in a list that holds it once
pub position_here : (v : ℕ) (xs ys : List ℕ) → tally v (xs ++ v ∷ ys) ≤ 1 →
    position v (xs ++ v ∷ ys) ≡ suc (length xs)
unfolding sum occurs position
position_here v xs ys l =
    let a = tally_append v xs (v ∷ ys) in
    let e = eq-eqb v v refl in
    let b : bit (eqb v v) ≡ 1 = ap bit e in
    let o = absent_from_count v xs (omega arith) in
    let p = position_right v xs (v ∷ ys) o (or_left _ _ e) in
    let q : position v (v ∷ ys) ≡ 1 = cond-true (eqb v v) _ _ e in
    omega arith

pub occurs_get_or : (xs : List ℕ) (k d : ℕ) → k < length xs → occurs (get_or xs k d) xs ≡ true
unfolding occurs
occurs_get_or xs k d l = list_any_at (λ x. eqb x (get_or xs k d)) xs k d l (eq-eqb _ _ refl)

pub position_get_or : (xs : List ℕ) (k d : ℕ) → k < length xs → tally (get_or xs k d) xs ≤ 1 →
    position (get_or xs k d) xs ≡ suc k
unfolding sum position
position_get_or [] k d l o = absurd (omega arith)
position_get_or (x ∷ xs) zero d l o = cond-true (eqb x x) _ _ (eq-eqb x x refl)
position_get_or (x ∷ xs) (suc k) d l o =
    let m = occurs_counted (get_or xs k d) xs (occurs_get_or xs k d (omega arith)) in
    let i = position_get_or xs k d (omega arith) in
    grind (arith, nat_tests)

-- two tests one after the other, either first
pub keep_swap : (s t : ℕ → Bool) (xs : List ℕ) → keep s (keep t xs) ≡ keep t (keep s xs)
unfolding keep
keep_swap s t [] = refl
keep_swap s t (x ∷ xs) = let i = keep_swap s t xs in grind arith

-- 1 to n cut at c: those below c, c, and those above it
pub upto_cut : (n c : ℕ) → suc c ≤ n → upto n ≡ upto c ++ suc c ∷ keep (λ d. ltb (suc c) d) (upto n)
unfolding upto keep
upto_cut zero c l = absurd (omega arith)
upto_cut (suc n) c l =
    elim (cases_lt c n) [
      | inl m ↦
          rw (keep_append (λ d. ltb (suc c) d) (upto n) (suc n ∷ []), lt-ltb (suc c) (suc n) (omega arith))
          (ap (λ l. l ++ suc n ∷ []) (upto_cut n c m) ∙ append_assoc (upto c) _ _)
      | inr m ↦
          let e : c ≡ n = omega arith in
          rw (
            e,
            keep_none (λ d. ltb (suc n) d) (upto n ++ suc n ∷ []) (λ d o.
                le-ltb (suc n) d (let h = (in_upto (suc n) d (unfold upto in o)).fits in omega arith)),
          ) refl
    ]

-- the least and the greatest value over a list
pub least_le : (b : ℕ) (f : ℕ → ℕ) (xs : List ℕ) (x : ℕ) → occurs x xs ≡ true → least b f xs ≤ f x
unfolding least occurs
least_le b f [] x o = absurd (false≢true o)
least_le b f (y ∷ xs) x o = let i = least_le b f xs x in grind (arith, nat_tests)

pub least_ge : (b : ℕ) (f : ℕ → ℕ) (xs : List ℕ) (a : ℕ) → a ≤ b → ((x : ℕ) → occurs x xs ≡ true → a ≤ f x) →
    a ≤ least b f xs
unfolding least occurs
least_ge b f [] a l all = l
least_ge b f (y ∷ xs) a l all =
    omega (arith, least_ge b f xs a l (λ x o. all x (or_right _ _ o)), all y (occurs_here y xs))

pub greatest_ge : (f : ℕ → ℕ) (xs : List ℕ) (x : ℕ) → occurs x xs ≡ true → f x ≤ greatest f xs
unfolding greatest occurs
greatest_ge f [] x o = absurd (false≢true o)
greatest_ge f (y ∷ xs) x o = let i = greatest_ge f xs x in grind (arith, nat_tests)
