-- The meeting vertex of two vertices: it lies under just those vertices that both lie under.
use Rattle.std.proofs.Common.{◌≡◌, ℕ, ◌≤◌, true, false, cond, ◌&&◌, sym, ap, ◌∙◌, subst, inl, inr, arith}
use Rattle.std.proofs.lemmas.Bool.{cases_Bool, cases_lt, both_ways, and_parts, and_from, cond-true, cond-false, false_from_ne_true}
use Rattle.std.proofs.lemmas.Bool.Decides.{nat_tests}
use Rattle.pattern.specs.Lists.{first}
use Rattle.pattern.specs.Forest.{Grows, under}
use Rattle.pattern.specs.Meets.{meet, Lowest}
use Rattle.pattern.proofs.Tests.{Vertex, within_from, same_test}
use Rattle.pattern.proofs.Lines.{under_step, under_self, under_trans}
use Rattle.pattern.proofs.Forest.{from_parents, line_none, line_more, under_none, under_parts, under_level}

module _ (n : ℕ) (up : ℕ → ℕ) (grows : Grows n up) where
  pub meet_none : (y : ℕ) → meet n up 0 y ≡ 0
  unfolding meet first
  meet_none y = ap (first (λ v. under n up y v)) (line_none n up grows)

  pub meet_more : (x y : ℕ) → Vertex n x → meet n up x y ≡ cond (under n up y x) x (meet n up (up x) y)
  unfolding meet first
  meet_more x y h = ap (first (λ v. under n up y v)) (line_more n up grows x h)

  pub meet_here : (x y : ℕ) → Vertex n x → under n up y x ≡ true → meet n up x y ≡ x
  meet_here x y h u = meet_more x y h ∙ cond-true _ _ _ u

  pub meet_higher : (x y : ℕ) → Vertex n x → under n up y x ≡ false → meet n up x y ≡ meet n up (up x) y
  meet_higher x y h u = meet_more x y h ∙ cond-false _ _ _ u

  -- the one fact that is used of it
  pub meet_under : (y v x : ℕ) → x ≤ n → under n up (meet n up x y) v ≡ (under n up x v && under n up y v)
  meet_under y v = from_parents n up grows
      (λ x. under n up (meet n up x y) v ≡ (under n up x v && under n up y v))
      (let a = under_none n up grows v in ap (λ m. under n up m v) (meet_none y) ∙ grind arith)
      (λ x h i.
      elim (cases_Bool (under n up y x)) [
        | inl u ↦
            ap (λ m. under n up m v) (meet_here x y h u)
            ∙ same_test _ _ (λ a. and_from _ _ a (under_trans n up grows y x v u a)) (λ b. (and_parts _ _ b).0)
        | inr u ↦ ap (λ m. under n up m v) (meet_higher x y h u) ∙ i ∙ above x h u
      ])
    where
      above : (x : ℕ) → Vertex n x → under n up y x ≡ false →
          (under n up (up x) v && under n up y v) ≡ (under n up x v && under n up y v)
      above x h u = let s = under_step n up grows x v in let w = within_from n x h in grind (arith, nat_tests)

  -- it is a vertex, or 0
  pub meet_vertex : (x y : ℕ) → x ≤ n → 1 ≤ meet n up x y → Vertex n (meet n up x y)
  meet_vertex x y h = from_parents n up grows (λ x. 1 ≤ meet n up x y → Vertex n (meet n up x y))
      (λ l. absurd (let e = meet_none y in omega arith))
      (λ x g i l.
      elim (cases_Bool (under n up y x)) [
        | inl u ↦ subst (Vertex n) (sym (meet_here x y g u)) g
        | inr u ↦ let e = meet_higher x y g u in subst (Vertex n) (sym e) (i (omega arith))
      ])
      x h

  pub meet_of_both : (x y v : ℕ) → under n up x v ≡ true → under n up y v ≡ true → under n up (meet n up x y) v ≡ true
  meet_of_both x y v a b = meet_under y v x (under_parts n up grows x v a).0.fits ∙ and_from _ _ a b

  pub meet_has_both : (x y : ℕ) → x ≤ n → 1 ≤ meet n up x y →
      (under n up x (meet n up x y) ≡ true) × (under n up y (meet n up x y) ≡ true)
  meet_has_both x y h l =
      let m = meet n up x y in
      and_parts _ _ (sym (meet_under y m x h) ∙ under_self n up grows m (meet_vertex x y h l))

  pub meet_lowest : (x y : ℕ) → x ≤ n → Lowest n up x y (meet n up x y)
  meet_lowest x y h = record {
    both = λ l. let b = meet_has_both x y h l in ((meet_vertex x y h l).fits, b.0, b.1);
    lowest = λ v a b.
        let u = meet_of_both x y v a b in
        let g = (under_parts n up grows (meet n up x y) v u).0 in (
          g.named,
          elim (under_level n up grows (meet n up x y) g.fits v u) [ inl e ↦ inl (sym e) | inr less ↦ inr less ],
        );
    none = λ e v a. false_from_ne_true _ (λ b.
        let g = (under_parts n up grows (meet n up x y) v (meet_of_both x y v a b)).0.named in omega arith);
    only = λ none. elim (cases_lt 0 (meet n up x y)) [
      | inl l ↦ let b = meet_has_both x y h l in absurd (both_ways _ (none _ b.0) b.1)
      | inr l ↦ omega arith
    ];
  }
