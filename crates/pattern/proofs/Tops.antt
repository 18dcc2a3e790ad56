-- The tops of the pass by place: at first each vertex itself, at the end its root, in between the meeting vertices.
use Rattle.std.proofs.Common.{◌≡◌, ℕ, suc, ◌-◌, ◌<◌, ◌≤◌, true, false, cond, not, ◌&&◌, ◌||◌, eqb, ltb, sym, ap, ◌∙◌, inl, inr, arith}
use Rattle.std.proofs.lemmas.Bool.{cases_eq, cases_lt, both_ways, and_left, and_from, or_left, or_right, or_from, cond-true, cond-false, lt-ltb, le-ltb, eq-eqb, ne_eqb, false_from_ne_true}
use Rattle.std.proofs.lemmas.Bool.Decides.{nat_tests}
use Rattle.pattern.specs.Lists.{first}
use Rattle.pattern.specs.Forest.{Grows, under, place}
use Rattle.pattern.specs.Meets.{meet}
use Rattle.pattern.specs.Tops.{root, top_after}
use Rattle.pattern.proofs.Tests.{Vertex}
use Rattle.pattern.proofs.Lines.{under_self}
use Rattle.pattern.proofs.Forest.{from_parents, line_more, under_none, under_once, under_parent, parent_vertex}
use Rattle.pattern.proofs.Places.{place_bounds, place_apart, place_rises, block}
use Rattle.pattern.proofs.Tallies.{bit}
use Rattle.pattern.proofs.Meets.{meet_here, meet_higher}

module _ (n : ℕ) (up : ℕ → ℕ) (grows : Grows n up) where
  pub top_more : (t x : ℕ) → Vertex n x →
      top_after n up t x ≡ cond (ltb t (place n up x) || eqb (up x) 0) x (top_after n up t (up x))
  unfolding top_after first
  top_more t x h = ap (first (λ y. ltb t (place n up y) || eqb (up y) 0)) (line_more n up grows x h)

  pub top_here : (t x : ℕ) → Vertex n x → t < place n up x → top_after n up t x ≡ x
  top_here t x h less = top_more t x h ∙ cond-true _ _ _ (or_left _ _ (lt-ltb t (place n up x) less))

  pub top_root : (t x : ℕ) → Vertex n x → up x ≡ 0 → top_after n up t x ≡ x
  top_root t x h e = top_more t x h ∙ cond-true _ _ _ (or_right (ltb t (place n up x)) _ (eq-eqb (up x) 0 e))

  pub top_higher : (t x : ℕ) → Vertex n x → place n up x ≤ t → 1 ≤ up x → top_after n up t x ≡ top_after n up t (up x)
  top_higher t x h passed l =
      top_more t x h
      ∙ cond-false _ _ _ (or_from _ _ (le-ltb t (place n up x) passed) (ne_eqb (up x) 0 (λ e. omega arith)))

  pub root_more : (x : ℕ) → Vertex n x → root n up x ≡ cond (eqb (up x) 0) x (root n up (up x))
  unfolding root first
  root_more x h = ap (first (λ y. eqb (up y) 0)) (line_more n up grows x h)

  -- before the first place every vertex is its own top
  pub top_at_first : (x : ℕ) → Vertex n x → top_after n up 0 x ≡ x
  top_at_first x h = top_here 0 x h (place_bounds n up grows x h).0

  -- after the last place it is the root
  pub top_at_last : (x : ℕ) → x ≤ n → 1 ≤ x → top_after n up n x ≡ root n up x
  top_at_last = from_parents n up grows (λ x. 1 ≤ x → top_after n up n x ≡ root n up x)
      (λ l. absurd (omega arith))
      (λ x h i l.
      elim (cases_lt 0 (up x)) [
        | inl more ↦
            top_higher n x h (place_bounds n up grows x h).1 more ∙ i more
            ∙ sym (root_more x h ∙ cond-false _ _ _ (ne_eqb (up x) 0 (λ e. omega arith)))
        | inr none ↦
            let e : up x ≡ 0 = omega arith in
            top_root n x h e ∙ sym (root_more x h ∙ cond-true _ _ _ (eq-eqb (up x) 0 e))
      ])

  -- passing z redirects just the tops that are z to its parent, if it has one
  pub top_step : (t z : ℕ) → Vertex n z → place n up z ≡ suc t → (x : ℕ) → x ≤ n → 1 ≤ x →
      top_after n up (suc t) x
      ≡ cond (eqb (top_after n up t x) z && not (eqb (up z) 0)) (up z) (top_after n up t x)
  top_step t z g at = from_parents n up grows (λ x. 1 ≤ x → top_after n up (suc t) x ≡ next (top_after n up t x))
      (λ l. absurd (omega arith))
      (λ x h i l.
      elim (cases_lt 0 (up x)) [
        | inr none ↦
            let e : up x ≡ 0 = omega arith in
            top_root (suc t) x h e ∙ root_stays x e ∙ ap next (sym (top_root t x h e))
        | inl more ↦
            elim (cases_lt t (place n up x)) [
              | inl later ↦ now x h later more
              | inr passed ↦
                  top_higher (suc t) x h (omega arith) more ∙ i more ∙ ap next (sym (top_higher t x h passed more))
            ]
      ])
    where
      next : ℕ → ℕ
      next y = cond (eqb y z && not (eqb (up z) 0)) (up z) y

      root_stays : (x : ℕ) → up x ≡ 0 → x ≡ next x
      root_stays x e = grind (arith, nat_tests)

      now : (x : ℕ) → Vertex n x → t < place n up x → 1 ≤ up x →
          top_after n up (suc t) x ≡ next (top_after n up t x)
      now x h later more =
          elim (cases_eq x z) [
            | inl s ↦
                let e = ap (place n up) s in
                let r = place_rises n up grows x h more in
                top_higher (suc t) x h (omega arith) more
                ∙ top_here (suc t) (up x) (parent_vertex n up grows x h more) (omega arith)
                ∙ ap up s
                ∙ sym (ap next (top_here t x h later)
                ∙ cond-true _ _ _
                (and_from _ _ (eq-eqb x z s) (ap not (ne_eqb (up z) 0 (λ e. omega (arith, ap up s))))))
            | inr d ↦
                let ne : place n up x ≡ suc t → ⊥ = λ e. d (place_apart n up grows x z h g (e ∙ sym at)) in
                top_here (suc t) x h (omega arith)
                ∙ sym (ap next (top_here t x h later) ∙ cond-false _ _ _ (and_left _ _ (ne_eqb x z d)))
          ]

  -- where two vertices with a common ancestor meet, the earlier has its top when the later is about to be passed
  pub top_meets : (y : ℕ) → Vertex n y → (a : ℕ) → under n up y a ≡ true → (x : ℕ) → x ≤ n →
      under n up x a ≡ true → place n up x ≤ place n up y → top_after n up (place n up y - 1) x ≡ meet n up x y
  top_meets y g a ya = from_parents n up grows
      (λ x. under n up x a ≡ true → place n up x ≤ place n up y → top_after n up (place n up y - 1) x ≡ meet n up x y)
      (λ u l. absurd (both_ways _ (under_none n up grows a) u))
      (λ x h i u l.
      elim (cases_eq x y) [
        | inl s ↦
            let b = place_bounds n up grows x h in
            let e = ap (place n up) s in
            top_here (place n up y - 1) x h (omega arith)
            ∙ sym (meet_here n up grows x y h (ap (λ z. under n up z x) (sym s) ∙ under_self n up grows x h))
        | inr s ↦
            elim (cases_lt 0 (up x)) [
              | inr none ↦
                  let e : up x ≡ 0 = omega arith in
                  let c = under_once n up grows x a h in
                  let f = ap bit (ap (λ z. under n up z a) e ∙ under_none n up grows a) in
                  let k = ap bit u in
                  let same : x ≡ a = grind (arith, nat_tests) in
                  top_root (place n up y - 1) x h e
                  ∙ sym (meet_here n up grows x y h (ap (under n up y) same ∙ ya))
              | inl more ↦
                  let q = parent_vertex n up grows x h more in
                  let apart : place n up x ≡ place n up y → ⊥ = λ e. s (place_apart n up grows x y h g e) in
                  let off = not_under x h (omega arith) in
                  let c = under_once n up grows x a h in
                  let ahead : under n up (up x) a ≡ true = grind (arith, nat_tests) in
                  top_higher (place n up y - 1) x h (omega arith) more
                  ∙ elim (cases_lt (place n up y) (place n up (up x))) [
                    | inl past ↦
                        let c = block n up grows (up x) q in
                        let d = c.inner x (under_parent n up grows x h more) in
                        let e = c.last in
                        top_here (place n up y - 1) (up x) q (omega arith)
                        ∙ sym (meet_here n up grows (up x) y q (c.outer y g (omega arith) (omega arith)))
                    | inr before ↦ i ahead before
                  ]
                  ∙ sym (meet_higher n up grows x y h off)
            ]
      ])
    where
      not_under : (x : ℕ) → Vertex n x → place n up x < place n up y → under n up y x ≡ false
      not_under x h less = false_from_ne_true _ (λ b.
          let c = block n up grows x h in
          let d = c.inner y b in
          let e = c.last in
          omega arith)
