-- Members with a property that stand together are as many as the neighbours that both have it, and one more.
use Rattle.std.proofs.Common.{◌≡◌, ℕ, suc, ◌+◌, ◌-◌, ◌<◌, ◌≤◌, Bool, true, false, ◌&&◌, eqb, List, [], ◌∷◌, ◌++◌, length, sym, refl, ap, ◌∙◌, subst, inl, inr, arith}
use Rattle.std.specs.List.{list_any}
use Rattle.std.proofs.lemmas.Bool.{both_ways, false≢true, or_cases, or_left, or_right, or_from, and_parts, and_from, eqb-true, le-leb, false_from_ne_true, cond_both}
use Rattle.std.proofs.lemmas.Bool.Decides.{nat_tests}
use Rattle.std.proofs.lemmas.List.{append_assoc, length-append}
use Rattle.pattern.specs.Lists.{sum, occurs, position, keep}
use Rattle.pattern.specs.Counts.{between, unfalling}
use Rattle.pattern.proofs.Lists.{occurs_append, keep_occurs, occurs_here}
use Rattle.pattern.proofs.Tallies.{
  bit,
  tally,
  tally_append,
  occurs_counted,
  absent_from_count,
  position_right,
  position_bounds,
  position_here,
}

pub any_has : (test : ℕ → Bool) (xs : List ℕ) (x : ℕ) → occurs x xs ≡ true → test x ≡ true → list_any test xs ≡ true
unfolding occurs
any_has test [] x o t = absurd (false≢true o)
any_has test (y ∷ xs) x o t =
    elim (or_cases _ _ o) [
      | inl e ↦ or_left _ _ (ap test (eqb-true y x e) ∙ t)
      | inr m ↦ or_right _ _ (any_has test xs x m t)
    ]

pub any_tells : (test : ℕ → Bool) (xs : List ℕ) → list_any test xs ≡ true →
    (x : ℕ) × (occurs x xs ≡ true) × (test x ≡ true)
unfolding occurs
any_tells test [] a = absurd (false≢true a)
any_tells test (y ∷ xs) a =
    elim (or_cases _ _ a) [
      | inl t ↦ (y, occurs_here y xs, t)
      | inr m ↦ let (x, o, t) = any_tells test xs m in (x, or_right _ _ o, t)
    ]

pub any_none : (test : ℕ → Bool) (xs : List ℕ) → ((x : ℕ) → occurs x xs ≡ true → test x ≡ false) →
    list_any test xs ≡ false
unfolding occurs
any_none test [] none = refl
any_none test (x ∷ xs) none =
    or_from _ _ (none x (occurs_here x xs)) (any_none test xs (λ y o. none y (or_right _ _ o)))

-- what does not fall along a list
pub unfalling_more : (f : ℕ → ℕ) (x : ℕ) (xs : List ℕ) → unfalling f xs ≡ true →
    ((y : ℕ) → occurs y xs ≡ true → f x ≤ f y) → unfalling f (x ∷ xs) ≡ true
unfolding unfalling occurs
unfalling_more f x [] r le = refl
unfalling_more f x (y ∷ xs) r le = and_from _ _ (le-leb (f x) (f y) (le y (occurs_here y xs))) r

pub unfalling_rest : (f : ℕ → ℕ) (x : ℕ) (xs : List ℕ) → unfalling f (x ∷ xs) ≡ true → unfalling f xs ≡ true
unfolding unfalling
unfalling_rest f x [] r = refl
unfalling_rest f x (y ∷ xs) r = (and_parts _ _ r).1

pub unfalling_first : (f : ℕ → ℕ) (x : ℕ) (xs : List ℕ) → unfalling f (x ∷ xs) ≡ true →
    (y : ℕ) → occurs y xs ≡ true → f x ≤ f y
unfolding unfalling occurs
unfalling_first f x [] r y o = absurd (false≢true o)
unfalling_first f x (z ∷ xs) r y o = let i = unfalling_first f z xs in grind (arith, nat_tests)

pub unfalling_push : (f : ℕ → ℕ) (u : ℕ) (xs : List ℕ) → unfalling f xs ≡ true →
    ((x : ℕ) → occurs x xs ≡ true → f x ≤ f u) → unfalling f (xs ++ u ∷ []) ≡ true
unfolding unfalling occurs
unfalling_push f u [] r le = refl
unfalling_push f u (x ∷ []) r le = and_from _ _ (le-leb (f x) (f u) (le x (occurs_here x []))) refl
unfalling_push f u (x ∷ y ∷ xs) r le =
    let (a, b) = and_parts _ _ r in
    and_from _ _ a (unfalling_push f u (y ∷ xs) b (λ z o. le z (or_right _ _ o)))

-- a list that holds each of its members once: what is kept of it is kept in the order of the positions
pub position_after : (all before xs : List ℕ) → all ≡ before ++ xs → (y : ℕ) → occurs y xs ≡ true →
    tally y all ≤ 1 → length before < position y all
position_after all before xs e y o l =
    let a = tally_append y before xs in
    let b = ap (tally y) e in
    let c = occurs_counted y xs o in
    let d = position_right y before xs (absent_from_count y before (omega arith)) o in
    let f = position_bounds y xs o in
    let g = ap (position y) e in
    omega arith

pub kept_in_order : (all : List ℕ) → ((x : ℕ) → occurs x all ≡ true → tally x all ≤ 1) →
    (test : ℕ → Bool) (before xs : List ℕ) → all ≡ before ++ xs → unfalling (λ x. position x all) (keep test xs) ≡ true
unfolding keep unfalling occurs
kept_in_order all once test before [] e = refl
kept_in_order all once test before (x ∷ xs) e =
    let i = kept_in_order all once test (before ++ x ∷ []) xs split in
    cond_both (test x) (x ∷ keep test xs) (keep test xs) (λ ys. unfalling (λ x. position x all) ys ≡ true)
    (λ _. unfalling_more (λ x. position x all) x (keep test xs) i next)
    (λ _. i)
  where
    split : all ≡ (before ++ x ∷ []) ++ xs
    split = e ∙ sym (append_assoc before (x ∷ []) xs)

    held : (y : ℕ) → occurs y (x ∷ xs) ≡ true → occurs y all ≡ true
    held y o = ap (occurs y) e ∙ occurs_append y before (x ∷ xs) ∙ or_right (occurs y before) _ o

    next : (y : ℕ) → occurs y (keep test xs) ≡ true → position x all ≤ position y all
    next y o =
        let m = (and_parts (test y) (occurs y xs) (sym (keep_occurs test y xs) ∙ o)).1 in
        let k : occurs y (x ∷ xs) ≡ true = or_right (eqb x y) _ m in
        let a = position_after all (before ++ x ∷ []) xs split y m (once y (held y k)) in
        let b = ap (position x) e in
        let c = ap (tally x) e in
        let f = once x (held x (occurs_here x xs)) in
        let d = position_here x before xs (omega arith) in
        let g = length-append before (x ∷ []) in
        omega arith

-- what holds of all that is made between neighbours
pub in_between : (P : ℕ → Type 0) (f : ℕ → ℕ → ℕ) (xs : List ℕ) →
    ((x y : ℕ) → occurs x xs ≡ true → occurs y xs ≡ true → P (f x y)) →
    (m : ℕ) → occurs m (between f xs) ≡ true → P m
unfolding between occurs
in_between P f [] all m o = absurd (false≢true o)
in_between P f (x ∷ []) all m o = absurd (false≢true o)
in_between P f (x ∷ y ∷ xs) all m o =
    elim (or_cases _ _ o) [
      | inl e ↦
          subst P (eqb-true (f x y) m e)
          (all x y (occurs_here x (y ∷ xs)) (or_right _ _ (occurs_here y xs)))
      | inr t ↦ in_between P f (y ∷ xs) (λ a b s t. all a b (or_right _ _ s) (or_right _ _ t)) m t
    ]

pub length_between : (f : ℕ → ℕ → ℕ) (u : ℕ) (xs : List ℕ) → length (between f (xs ++ u ∷ [])) ≡ length xs
unfolding between
length_between f u [] = refl
length_between f u (x ∷ []) = refl
length_between f u (x ∷ y ∷ xs) = ap suc (length_between f u (y ∷ xs))

-- the falls between neighbours, and what is left of each, make up the values themselves
pub falls_and_rests : (g : ℕ → ℕ) (f : ℕ → ℕ → ℕ) (u : ℕ) (xs : List ℕ) →
    ((x y : ℕ) → occurs x xs ≡ true → g (f x y) ≤ g x) →
    sum (λ k. k) (between (λ x y. g x - g (f x y)) (xs ++ u ∷ [])) + sum g (between f (xs ++ u ∷ [])) ≡ sum g xs
unfolding between sum occurs
falls_and_rests g f u [] le = refl
falls_and_rests g f u (x ∷ []) le = let a = le x u (occurs_here x []) in omega arith
falls_and_rests g f u (x ∷ y ∷ xs) le =
    omega (arith, le x y (occurs_here x (y ∷ xs)), falls_and_rests g f u (y ∷ xs) (λ z w o. le z w (or_right _ _ o)))

-- has: the members whose value under f is past a and at most b; f does not fall, so they stand together
module _ (has : ℕ → Bool) (f : ℕ → ℕ) (a b : ℕ) (meet : ℕ → ℕ → ℕ) where
  pub record Together (xs : List ℕ) : Type 0 where
    pub inside : (x : ℕ) → occurs x xs ≡ true → has x ≡ true → (a < f x) × (f x ≤ b)
    pub outside : (x : ℕ) → occurs x xs ≡ true → a < f x → f x ≤ b → has x ≡ true
    pub both : (x y : ℕ) → occurs x xs ≡ true → has (meet x y) ≡ (has x && has y)

  rest : (x : ℕ) (xs : List ℕ) → Together (x ∷ xs) → Together xs
  unfolding occurs
  rest x xs t = record {
    inside = λ y o. t.inside y (or_right _ _ o);
    outside = λ y o. t.outside y (or_right _ _ o);
    both = λ y z o. t.both y z (or_right _ _ o);
  }

  -- past one that has left the interval none has the property
  none_after : (x y : ℕ) (xs : List ℕ) → Together (x ∷ y ∷ xs) → unfalling f (x ∷ y ∷ xs) ≡ true →
      has x ≡ true → has y ≡ false → list_any has (y ∷ xs) ≡ false
  unfolding occurs
  none_after x y xs t r hx hy = any_none has (y ∷ xs) (λ z o. false_from_ne_true _ (λ so.
      let low = (t.inside x (occurs_here x (y ∷ xs)) hx).0 in
      let high = (t.inside z (or_right _ _ o) so).1 in
      let first : f x ≤ f y = unfalling_first f x (y ∷ xs) r y (occurs_here y xs) in
      let then : f y ≤ f z = elim (or_cases (eqb y z) (occurs z xs) o) [
        | inl e ↦ omega (arith, ap f (eqb-true y z e))
        | inr m ↦ unfalling_first f y xs (unfalling_rest f x (y ∷ xs) r) z m
      ] in
      let next = or_right _ _ (occurs_here y xs) in
      both_ways _ hy (t.outside y next (omega arith) (omega arith))))

  pub telescope : (xs : List ℕ) → Together xs → unfalling f xs ≡ true →
      sum (λ x. bit (has x)) xs ≡ sum (λ m. bit (has m)) (between meet xs) + bit (list_any has xs)
  unfolding sum between
  telescope [] t r = refl
  telescope (x ∷ []) t r = grind arith
  telescope (x ∷ y ∷ xs) t r =
      let m = t.both x y (occurs_here x (y ∷ xs)) in
      let i = telescope (y ∷ xs) (rest x (y ∷ xs) t) (unfalling_rest f x (y ∷ xs) r) in
      let none = none_after x y xs t r in
      grind arith
