-- The rows that a column has once some rows are written: how many they are, and where the next one belongs.
use Rattle.std.proofs.Common.{◌≡◌, ℕ, zero, suc, ◌+◌, ◌-◌, ◌<◌, ◌≤◌, Bool, true, cond, ◌&&◌, ltb, List, [], ◌∷◌, ◌++◌, length, get_or, sym, refl, ap, ◌∙◌, subst, inl, inr, arith}
use Rattle.std.proofs.lemmas.Bool.{cases_eq, cases_lt, and_parts, and_from, ltb-true, lt-ltb, le-ltb, eq-eqb, cond-true, cond-false, false≢true, false_from_ne_true}
use Rattle.std.proofs.lemmas.List.{length-append, append-nil, append_assoc, get_or_append_left, get_or_at}
use Rattle.std.proofs.lemmas.List.Folds.{list_any_at}
use Rattle.pattern.specs.Lists.{upto, keep, occurs}
use Rattle.pattern.specs.Patterns.{Pattern}
use Rattle.pattern.specs.Elimination.{fill, parent}
use Rattle.pattern.specs.Structure.{higher, taken, rows}
use Rattle.pattern.specs.Filling.{passed, cursor, InRow}
use Rattle.pattern.proofs.Tests.{Vertex}
use Rattle.pattern.proofs.Lists.{keep_next, in_keep, keep_has}
use Rattle.pattern.proofs.Joins.{fill_ends}
use Rattle.pattern.proofs.Tree.{parent_is, parent_of_joined, parents_grow}
use Rattle.pattern.proofs.Tallies.{bit}
use Rattle.pattern.proofs.Columns.{row_at, taken_next}

-- what is kept of 1 to n begins with what is kept of 1 to u
keep_cut : (test : ℕ → Bool) (u n : ℕ) → u ≤ n → (rest : List ℕ) × (keep test (upto n) ≡ keep test (upto u) ++ rest)
keep_cut test u zero le =
    let e : 0 ≡ u = omega arith in ([], ap (λ k. keep test (upto k)) e ∙ sym (append-nil (keep test (upto u))))
keep_cut test u (suc n) le =
    elim (cases_eq (suc n) u) [
      | inl e ↦ ([], ap (λ k. keep test (upto k)) e ∙ sym (append-nil (keep test (upto u))))
      | inr other ↦
          let (rest, cut) = keep_cut test u n (omega arith) in
          let last = cond (test (suc n)) (suc n ∷ []) [] in (
            rest ++ last,
            keep_next test n ∙ ap (λ l. l ++ last) cut ∙ append_assoc (keep test (upto u)) rest last,
          )
    ]

at_occurs : (xs : List ℕ) (i : ℕ) → i < length xs → occurs (get_or xs i 0) xs ≡ true
unfolding occurs
at_occurs xs i less = list_any_at _ xs i 0 less (eq-eqb (get_or xs i 0) (get_or xs i 0) refl)

occurs_some : (v : ℕ) (xs : List ℕ) → occurs v xs ≡ true → 1 ≤ length xs
unfolding occurs
occurs_some v [] e = absurd (false≢true e)
occurs_some v (x ∷ xs) e = omega arith

module _ (p : Pattern) (v : ℕ) where
  above : ℕ → Bool
  above w = ltb v w && fill p v w

  passed_is : (u : ℕ) → passed p u v ≡ length (keep above (upto u))
  unfolding passed above
  passed_is u = refl

  higher_is : higher p v ≡ keep above (upto p.order)
  unfolding higher above
  higher_is = refl

  above_true : (w : ℕ) → v < w → fill p v w ≡ true → above w ≡ true
  unfolding above
  above_true w less e = and_from _ _ (lt-ltb v w less) e

  above_parts : (w : ℕ) → above w ≡ true → (v < w) × (fill p v w ≡ true)
  unfolding above
  above_parts w e = let (high, joins) = and_parts _ _ e in (ltb-true v w high, joins)

  pub passed_all : passed p p.order v ≡ length (higher p v)
  passed_all = passed_is p.order ∙ sym (ap length higher_is)

  pub passed_none : passed p 0 v ≡ 0
  unfolding passed upto keep
  passed_none = refl

  passed_more : (u : ℕ) → passed p (suc u) v ≡ passed p u v + bit (above (suc u))
  passed_more u =
      let a = passed_is (suc u) in
      let b = passed_is u in
      let c = ap length (keep_next above u) in
      let d = length-append (keep above (upto u)) (cond (above (suc u)) (suc u ∷ []) []) in
      grind arith

  pub passed_within : (u : ℕ) → u ≤ p.order → passed p u v ≤ length (higher p v)
  passed_within u le =
      let (rest, cut) = keep_cut above u p.order le in
      omega (arith, passed_is u, ap length higher_is, ap length cut, length-append (keep above (upto u)) rest)

  -- row u comes to the column, after all rows before u
  pub passed_joined : (u : ℕ) → v < u → fill p v u ≡ true → passed p u v ≡ passed p (u - 1) v + 1
  passed_joined zero less e = absurd (omega (arith, less))
  passed_joined (suc u) less e =
      let back : suc u - 1 ≡ u = omega arith in
      passed_more u
      ∙ ap (◌+◌ (passed p u v)) (cond-true _ _ _ (above_true (suc u) less e))
      ∙ ap (λ k. passed p k v + 1) (sym back)

  pub passed_other : (u : ℕ) → 1 ≤ u → (v < u → fill p v u ≡ true → ⊥) → passed p u v ≡ passed p (u - 1) v
  passed_other zero some other = absurd (omega (arith, some))
  passed_other (suc u) some other =
      let no = false_from_ne_true (above (suc u)) (λ e. let (less, joins) = above_parts _ e in other less joins) in
      let back : suc u - 1 ≡ u = omega arith in
      let none : bit (above (suc u)) ≡ 0 = cond-false _ _ _ no in
      omega (arith, passed_more u, none, ap (λ k. passed p k v) back)

  pub next_row : (u : ℕ) → v < u → u ≤ p.order → fill p v u ≡ true → get_or (higher p v) (passed p (u - 1) v) 0 ≡ u
  next_row zero less le e = absurd (omega (arith, less))
  next_row (suc u) less le e =
      let before = keep above (upto u) in
      let (rest, cut) = keep_cut above (suc u) p.order le in
      let here = keep_next above u ∙ ap (◌++◌ before) (cond-true _ _ _ (above_true (suc u) less e)) in
      let whole = higher_is ∙ cut ∙ ap (λ l. l ++ rest) here ∙ append_assoc before (suc u ∷ []) rest in
      let back : suc u - 1 ≡ u = omega arith in
      ap (λ k. get_or (higher p v) (passed p k v) 0) back
      ∙ ap (λ l. get_or l (passed p u v) 0) whole
      ∙ get_or_at before (suc u) rest 0 (passed p u v) (sym (passed_is u))

  -- the rows of the column that are passed are at most u
  early_row : (u i : ℕ) → u ≤ p.order → i < passed p u v → get_or (higher p v) i 0 ≤ u
  early_row u i le less =
      let (rest, cut) = keep_cut above u p.order le in
      let short : i < length (keep above (upto u)) = omega (arith, passed_is u) in
      let there = (in_keep u above _ (at_occurs (keep above (upto u)) i short)).1 in
      let e = ap (λ l. get_or l i 0) (higher_is ∙ cut) ∙ get_or_append_left (keep above (upto u)) rest 0 i short in
      omega (arith, there.fits)

  -- if some are passed, the parent is
  pub parent_passed : (u : ℕ) → 1 ≤ passed p u v → (1 ≤ parent p v) × (parent p v ≤ u)
  parent_passed u some =
      let first = at_occurs (keep above (upto u)) 0 (omega (arith, passed_is u)) in
      let (passes, there) = in_keep u above _ first in
      let (less, joins) = above_parts _ passes in
      let q = parent_of_joined p v _ less joins in
      let le = q.smallest _ less joins in
      (omega (arith, q.above), omega (arith, there.fits))

  pub passed_parent : (u : ℕ) → 1 ≤ parent p v → parent p v ≤ u → 1 ≤ passed p u v
  passed_parent u some le =
      let q = parent_is p v some in
      let there = keep_has u above _ (above_true _ q.above q.joins) (record { named = some; fits = le }) in
      omega (arith, occurs_some _ _ there, passed_is u)

  -- so the parent is the first row
  pub first_row : 1 ≤ parent p v → get_or (higher p v) 0 0 ≡ parent p v
  first_row some =
      let q = parent_is p v some in
      let none : passed p (parent p v - 1) v ≡ 0 = elim (cases_lt 0 (passed p (parent p v - 1) v)) [
        | inl few ↦ absurd (omega (arith, (parent_passed _ few).1))
        | inr few ↦ omega arith
      ] in
      ap (λ k. get_or (higher p v) k 0) (sym none)
      ∙ next_row (parent p v) q.above (fill_ends p v (parent p v) q.joins).right.fits q.joins

  cursor_parent : (u : ℕ) → u < parent p v → cursor p u v ≡ taken p (v - 1) + passed p u v + 1
  unfolding cursor
  cursor_parent u less = ap (◌+◌ (taken p (v - 1) + passed p u v)) (cond-true _ _ _ (lt-ltb u (parent p v) less))

  cursor_rows : (u : ℕ) → parent p v ≤ u → cursor p u v ≡ taken p (v - 1) + passed p u v
  unfolding cursor
  cursor_rows u le =
      ap (◌+◌ (taken p (v - 1) + passed p u v)) (cond-false _ _ _ (le-ltb u (parent p v) le)) ∙ omega arith

  -- no row is passed before the parent
  none_before : (u : ℕ) → u < parent p v → passed p u v ≡ 0
  none_before u less = elim (cases_lt 0 (passed p u v)) [
    | inl few ↦ absurd (omega (arith, (parent_passed u few).1))
    | inr few ↦ omega arith
  ]

  pub cursor_from : (u : ℕ) → taken p (v - 1) ≤ cursor p u v
  cursor_from u = elim (cases_lt u (parent p v)) [
    | inl less ↦ omega (arith, cursor_parent u less)
    | inr le ↦ omega (arith, cursor_rows u le)
  ]

  pub cursor_within : (u : ℕ) → Vertex p.order v → u ≤ p.order → cursor p u v ≤ taken p v
  cursor_within u vv le = elim (cases_lt u (parent p v)) [
    | inl less ↦
        let q = parent_is p v (omega arith) in
        let fits = (fill_ends p v (parent p v) q.joins).right.fits in
        omega (
          arith,
          cursor_parent u less,
          none_before u less,
          taken_next p v vv,
          passed_parent p.order (omega arith) fits,
          passed_all,
        )
    | inr le' ↦ omega (arith, cursor_rows u le', passed_within u le, taken_next p v vv)
  ]

  pub cursor_all : Vertex p.order v → cursor p p.order v ≡ taken p v
  cursor_all vv =
      let fits = (parents_grow p).stays v vv.named vv.fits in
      omega (arith, cursor_rows p.order fits, passed_all, taken_next p v vv)

  -- row u comes to a column unless it is the parent's, which is there
  module _ (u : ℕ) (le : u ≤ p.order) (row : InRow p u v) where
    pub low_vertex : Vertex p.order v
    low_vertex = (fill_ends p v u row.joined).left

    pub parent_low : (1 ≤ parent p v) × (parent p v ≤ u)
    parent_low =
        let q = parent_of_joined p v u row.under row.joined in
        let least = q.smallest u row.under row.joined in
        (omega (arith, q.above), least)

    more : passed p u v ≡ passed p (u - 1) v + 1
    more = passed_joined u row.under row.joined

    pub cursor_own : parent p v ≡ u → cursor p (u - 1) v ≡ cursor p u v
    cursor_own same =
        let (some, low) = parent_low in
        omega (arith, more, cursor_parent (u - 1) (omega arith), cursor_rows u low)

    pub cursor_some : taken p (v - 1) < cursor p (u - 1) v
    cursor_some = elim (cases_lt (u - 1) (parent p v)) [
      | inl less ↦ omega (arith, cursor_parent (u - 1) less)
      | inr le' ↦ omega (arith, cursor_rows (u - 1) le', passed_parent (u - 1) parent_low.0 le')
    ]

    pub last_row : get_or (rows p) (cursor p u v - 1) 0 ≡ u
    last_row =
        let at : cursor p u v - 1 ≡ taken p (v - 1) + passed p (u - 1) v =
        omega (arith, more, cursor_rows u parent_low.1) in
        ap (λ k. get_or (rows p) k 0) at
        ∙ row_at p v (passed p (u - 1) v) low_vertex (omega (arith, more, passed_within u le))
        ∙ next_row u row.under le row.joined

    module _ (other : parent p v < u) where
      before : cursor p (u - 1) v ≡ taken p (v - 1) + passed p (u - 1) v
      before = cursor_rows (u - 1) (omega arith)

      pub cursor_more : cursor p (u - 1) v + 1 ≡ cursor p u v
      cursor_more = omega (arith, more, before, cursor_rows u parent_low.1)

      pub row_before : get_or (rows p) (cursor p (u - 1) v - 1) 0 < u
      row_before =
          let some = passed_parent (u - 1) parent_low.0 (omega arith) in
          let i = passed p (u - 1) v - 1 in
          let at : cursor p (u - 1) v - 1 ≡ taken p (v - 1) + i = omega (arith, before) in
          let e = ap (λ k. get_or (rows p) k 0) at
          ∙ row_at p v i low_vertex (omega (arith, passed_within (u - 1) (omega arith))) in
          omega (arith, early_row (u - 1) i (omega arith) (omega arith))

      pub row_next : get_or (rows p) (cursor p (u - 1) v) 0 ≡ u
      row_next =
          ap (λ k. get_or (rows p) k 0) before
          ∙ row_at p v (passed p (u - 1) v) low_vertex (omega (arith, more, passed_within u le))
          ∙ next_row u row.under le row.joined

  pub cursor_other : (u : ℕ) → 1 ≤ u → (InRow p u v → ⊥) → cursor p u v ≡ cursor p (u - 1) v
  cursor_other u some out =
      let same = passed_other u some (λ less e. out (record { under = less; joined = e })) in
      elim (cases_eq (parent p v) u) [
        | inl e ↦
            let q = parent_is p v (omega arith) in
            absurd (out (record {
              under = omega (arith, q.above);
              joined = subst (λ w. fill p v w ≡ true) e q.joins;
            }))
        | inr other ↦ elim (cases_lt u (parent p v)) [
          | inl less ↦ omega (arith, cursor_parent u less, cursor_parent (u - 1) (omega arith))
          | inr le ↦ omega (arith, cursor_rows u le, cursor_rows (u - 1) (omega arith))
        ]
      ]

  -- as a column is begun: with its parent, if it has one
  pub cursor_root : parent p v ≡ 0 → cursor p 0 v ≡ taken p (v - 1)
  cursor_root root = omega (arith, cursor_rows 0 (omega arith), passed_none)

  pub cursor_begun : 1 ≤ parent p v → cursor p 0 v ≡ taken p (v - 1) + 1
  cursor_begun some = omega (arith, cursor_parent 0 some, passed_none)

  pub row_begun : 1 ≤ parent p v → get_or (rows p) (taken p (v - 1)) 0 ≡ parent p v
  row_begun some =
      let q = parent_is p v some in
      let ends = fill_ends p v (parent p v) q.joins in
      let all = passed_parent p.order some ends.right.fits in
      let none : taken p (v - 1) ≡ taken p (v - 1) + 0 = omega arith in
      ap (λ k. get_or (rows p) k 0) none ∙ row_at p v 0 ends.left (omega (arith, passed_all)) ∙ first_row some
