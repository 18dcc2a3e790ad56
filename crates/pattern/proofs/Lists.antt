-- Lists of vertices: what occurs in them, how many pass a test, and the first that passes.
use Rattle.std.proofs.Common.{◌≡◌, ℕ, zero, suc, ◌+◌, ◌<◌, ◌≤◌, Bool, true, false, cond, ◌&&◌, ◌||◌, eqb, List, [], ◌∷◌, ◌++◌, length, get_or, sym, refl, ap, ◌∙◌, subst, ap₂, inl, inr, arith}
use Rattle.std.proofs.lemmas.Bool.{cases_eq, or_cases, or_left, or_right, eq-eqb, eqb-true, and_parts, and_from, cond-true, cond-false, both_ways, or_from, ne_eqb, false≢true, cond_both}
use Rattle.std.proofs.lemmas.Bool.Decides.{nat_tests}
use Rattle.std.proofs.lemmas.List.{length-append, append-nil, append_assoc, get_or_append_left, get_or-append-add}
use Rattle.std.proofs.lemmas.List.Concat.{flat_map-append}
use Rattle.std.proofs.lemmas.List.Elements.{filter-append}
use Rattle.std.proofs.lemmas.List.Folds.{list_any-append}
use Rattle.std.proofs.lemmas.Map.Views.{any-filter_same}
use Rattle.pattern.specs.Lists.{upto, keep, first, occurs, each, sum}
use Rattle.pattern.proofs.Tests.{Vertex, vertex_last}

pub occurs_here : (x : ℕ) (xs : List ℕ) → occurs x (x ∷ xs) ≡ true
unfolding occurs
occurs_here x xs = or_left _ _ (eq-eqb x x refl)

pub occurs_append : (v : ℕ) (xs ys : List ℕ) → occurs v (xs ++ ys) ≡ (occurs v xs || occurs v ys)
unfolding occurs
occurs_append v xs ys = list_any-append (λ x. eqb x v) xs ys

-- of 1 to n occur just the vertices 1 to n
pub in_upto : (n v : ℕ) → occurs v (upto n) ≡ true → Vertex n v
unfolding upto occurs
in_upto zero v e = absurd (false≢true e)
in_upto (suc n) v e =
    elim (or_cases _ _ (sym (occurs_append v (upto n) (suc n ∷ [])) ∙ e)) [
      | inl before ↦ let vx = in_upto n v before in record { named = vx.named; fits = omega arith }
      | inr last ↦ record { named = grind (arith, nat_tests); fits = grind (arith, nat_tests) }
    ]

pub upto_has : (n v : ℕ) → Vertex n v → occurs v (upto n) ≡ true
unfolding upto occurs
upto_has zero v vx = absurd (omega arith)
upto_has (suc n) v vx =
    occurs_append v (upto n) (suc n ∷ [])
    ∙ elim (vertex_last vx) [
      | inl same ↦ or_right _ _ (or_left _ _ (eq-eqb (suc n) v (sym same)))
      | inr less ↦ or_left _ _ (upto_has n v less)
    ]

-- of what is kept occurs just what occurred and passes
pub keep_occurs : (test : ℕ → Bool) (v : ℕ) (xs : List ℕ) → occurs v (keep test xs) ≡ (test v && occurs v xs)
unfolding keep occurs
keep_occurs test v xs = any-filter_same (λ x. eqb x v) test (test v) (λ x e. ap test (eqb-true x v e)) xs

pub in_keep : (n : ℕ) (test : ℕ → Bool) (v : ℕ) → occurs v (keep test (upto n)) ≡ true → (test v ≡ true) × Vertex n v
in_keep n test v e =
    let (passes, there) = and_parts _ _ (sym (keep_occurs test v (upto n)) ∙ e) in (passes, in_upto n v there)

pub keep_has : (n : ℕ) (test : ℕ → Bool) (v : ℕ) → test v ≡ true → Vertex n v → occurs v (keep test (upto n)) ≡ true
keep_has n test v passes vx = keep_occurs test v (upto n) ∙ and_from _ _ passes (upto_has n v vx)

-- o and those that pass two tests: of others, the second test tells
pub in_own : (n o : ℕ) (s t : ℕ → Bool) (v : ℕ) → (v ≡ o → ⊥) →
    occurs v (keep (λ x. eqb x o || (s x && t x)) (upto n)) ≡ true → t v ≡ true
in_own n o s t v other e =
    elim (or_cases _ _ (in_keep n _ v e).0) [
      | inl same ↦ absurd (other (eqb-true v o same))
      | inr both ↦ (and_parts (s v) (t v) both).1
    ]

pub own_has : (n o : ℕ) (s t : ℕ → Bool) (v : ℕ) → s v ≡ true → t v ≡ true → Vertex n v →
    occurs v (keep (λ x. eqb x o || (s x && t x)) (upto n)) ≡ true
own_has n o s t v first second vv = keep_has n _ v (or_right _ _ (and_from _ _ first second)) vv

pub keep_append : (test : ℕ → Bool) (xs ys : List ℕ) → keep test (xs ++ ys) ≡ keep test xs ++ keep test ys
unfolding keep
keep_append test xs ys = filter-append test xs ys

-- going on to n + 1
pub keep_next : (test : ℕ → Bool) (n : ℕ) →
    keep test (upto (suc n)) ≡ keep test (upto n) ++ cond (test (suc n)) (suc n ∷ []) []
unfolding upto keep
keep_next test n = keep_append test (upto n) (suc n ∷ [])

pub keep_none : (test : ℕ → Bool) (xs : List ℕ) → ((x : ℕ) → occurs x xs ≡ true → test x ≡ false) → keep test xs ≡ []
unfolding keep occurs
keep_none test [] fails = refl
keep_none test (x ∷ xs) fails =
    cond-false _ _ _ (fails x (occurs_here x xs))
    ∙ keep_none test xs (λ y o. fails y (or_right _ _ o))

-- v, and others above v: v comes first
pub keep_own : (test : ℕ → Bool) (v : ℕ) → 1 ≤ v → ((x : ℕ) → x ≤ v → test x ≡ false) →
    (n : ℕ) → v ≤ n → keep (λ x. eqb x v || test x) (upto n) ≡ v ∷ keep test (upto n)
keep_own test v some fails zero le = absurd (omega arith)
keep_own test v some fails (suc n) le =
    keep_next own n
    ∙ elim (cases_eq (suc n) v) [
      | inl same ↦
          ap₂ ◌++◌ (keep_none own (upto n) (λ x o. none x (in_upto n x o).fits same))
          (cond-true _ _ _ (or_left _ _ (eq-eqb (suc n) v same)))
          ∙ ap₂ ◌∷◌ same
          (sym (keep_none test (upto (suc n)) (λ x o. fails x (omega (arith, (in_upto (suc n) x o).fits)))))
      | inr other ↦
          ap₂ ◌++◌ (keep_own test v some fails n (omega arith))
          (ap (λ t. cond (t || test (suc n)) (suc n ∷ []) []) (ne_eqb (suc n) v other))
          ∙ ap (◌∷◌ v) (sym (keep_next test n))
    ]
  where
    own : ℕ → Bool
    own x = eqb x v || test x

    none : (x : ℕ) → x ≤ n → suc n ≡ v → own x ≡ false
    none x low same = or_from _ _ (ne_eqb x v (λ e. omega arith)) (fails x (omega arith))

-- a test that passes more keeps as many or more
pub keep_grows : (s t : ℕ → Bool) → ((x : ℕ) → s x ≡ true → t x ≡ true) → (xs : List ℕ) →
    length (keep s xs) ≤ length (keep t xs)
unfolding keep
keep_grows s t more [] = omega arith
keep_grows s t more (x ∷ xs) = let m = more x in let i = keep_grows s t more xs in grind (arith, nat_tests)

pub keep_all : (xs : List ℕ) → length (keep (λ _. true) xs) ≡ length xs
unfolding keep
keep_all [] = refl
keep_all (x ∷ xs) = ap suc (keep_all xs)

pub sum_grows : (f g : ℕ → ℕ) → ((x : ℕ) → f x ≤ g x) → (xs : List ℕ) → sum f xs ≤ sum g xs
unfolding sum
sum_grows f g more [] = omega arith
sum_grows f g more (x ∷ xs) = omega (arith, more x, sum_grows f g more xs)

pub sum_append : (f : ℕ → ℕ) (xs ys : List ℕ) → sum f (xs ++ ys) ≡ sum f xs + sum f ys
unfolding sum
sum_append f [] ys = omega arith
sum_append f (x ∷ xs) ys = omega (arith, sum_append f xs ys)

pub sum_next : (f : ℕ → ℕ) (n : ℕ) → sum f (upto (suc n)) ≡ sum f (upto n) + f (suc n)
unfolding upto sum
sum_next f n = omega (arith, sum_append f (upto n) (suc n ∷ []))

pub length_upto : (n : ℕ) → length (upto n) ≡ n
unfolding upto
length_upto zero = refl
length_upto (suc n) = omega (arith, length-append (upto n) (suc n ∷ []), length_upto n)

pub get_or_upto : (n i d : ℕ) → i < n → get_or (upto n) i d ≡ suc i
unfolding upto
get_or_upto zero i d less = absurd (omega arith)
get_or_upto (suc n) i d less =
    elim (cases_eq i n) [
      | inl same ↦
          ap (λ k. get_or (upto n ++ suc n ∷ []) k d) (omega (arith, length_upto n))
          ∙ get_or-append-add (upto n) (suc n ∷ []) 0 d
          ∙ ap suc (sym same)
      | inr other ↦
          get_or_append_left (upto n) (suc n ∷ []) d i (omega (arith, length_upto n))
          ∙ get_or_upto n i d (omega arith)
    ]

pub each_append : (f : ℕ → List ℕ) (xs ys : List ℕ) → each f (xs ++ ys) ≡ each f xs ++ each f ys
unfolding each
each_append f xs ys = flat_map-append f xs ys

pub each_next : (f : ℕ → List ℕ) (n : ℕ) → each f (upto (suc n)) ≡ each f (upto n) ++ f (suc n)
unfolding upto each
each_next f n = each_append f (upto n) (suc n ∷ []) ∙ ap (◌++◌ (each f (upto n))) (append-nil (f (suc n)))

-- the lists of 1 to n, cut before and after that of v + 1
pub each_cut : (f : ℕ → List ℕ) (v n : ℕ) → v < n →
    (rest : List ℕ) × (each f (upto n) ≡ each f (upto v) ++ (f (suc v) ++ rest))
each_cut f v zero less = absurd (omega arith)
each_cut f v (suc n) less =
    elim (cases_eq v n) [
      | inl same ↦ (
        [],
        subst (λ k. each f (upto (suc k)) ≡ each f (upto v) ++ (f (suc v) ++ [])) same
            (each_next f v ∙ ap (◌++◌ (each f (upto v))) (sym (append-nil (f (suc v))))),
      )
      | inr other ↦
          let (rest, cut) = each_cut f v n (omega arith) in (
            rest ++ f (suc n),
            each_next f n ∙ ap (λ l. l ++ f (suc n)) cut ∙ simp append_assoc,
          )
    ]

-- u is the first of 1 to n that passes, or 0 where none does
pub data First (n : ℕ) (test : ℕ → Bool) : ℕ → Type 0 where
  nothing : ((w : ℕ) → Vertex n w → test w ≡ false) → First n test 0
  found : (u : ℕ) → Vertex n u → test u ≡ true → ((w : ℕ) → Vertex n w → test w ≡ true → u ≤ w) → First n test u

first_kept : (test : ℕ → Bool) (xs ys : List ℕ) → 1 ≤ first test xs → first test (xs ++ ys) ≡ first test xs
unfolding first
first_kept test [] ys some = absurd (omega (arith, some))
first_kept test (x ∷ xs) ys some = let i = first_kept test xs ys in grind (arith, nat_tests)

first_later : (test : ℕ → Bool) (xs ys : List ℕ) → ((x : ℕ) → occurs x xs ≡ true → test x ≡ false) →
    first test (xs ++ ys) ≡ first test ys
unfolding first occurs
first_later test [] ys fail = refl
first_later test (x ∷ xs) ys fail =
    cond-false _ _ _ (fail x (occurs_here x xs))
    ∙ first_later test xs ys (λ y o. fail y (or_right _ _ o))

pub first_tells : (n : ℕ) (test : ℕ → Bool) → First n test (first test (upto n))
unfolding upto first
first_tells zero test = nothing (λ w vx. absurd (omega (arith, vx.named, vx.fits)))
first_tells (suc n) test = go (first test (upto n)) (first_tells n test) refl
  where
    last : ((w : ℕ) → Vertex n w → test w ≡ false) → First (suc n) test (cond (test (suc n)) (suc n) 0)
    last none =
        cond_both (test (suc n)) (suc n) 0 (First (suc n) test)
        (λ passes.
        found (suc n) (record { named = omega arith; fits = omega arith }) passes
        (λ w vw so.
        elim (vertex_last vw) [ inl same ↦ omega arith | inr vw ↦ absurd (both_ways _ (none w vw) so) ]))
        (λ fails.
        nothing (λ w vw. elim (vertex_last vw) [ inl same ↦ ap test same ∙ fails | inr vw ↦ none w vw ]))

    go : (f : ℕ) → First n test f → first test (upto n) ≡ f → First (suc n) test (first test (upto n ++ suc n ∷ []))
    go f (nothing none) e =
        subst (First (suc n) test) (sym (first_later test (upto n) (suc n ∷ []) (λ x o. none x (in_upto n x o))))
        (last none)
    go f (found _ vf passes least) e =
        subst (First (suc n) test)
        (sym (first_kept test (upto n) (suc n ∷ []) (omega (arith, e, vf.named)) ∙ e))
        (found f (record { named = vf.named; fits = omega (arith, vf.fits) }) passes
        (λ w vw so. elim (vertex_last vw) [ inl same ↦ omega (arith, vf.fits) | inr vw ↦ least w vw so ]))
