-- Lines to the root over any rising parent function: `under` by one parent step, and ancestors as a chain.
use Rattle.std.proofs.Common.{◌≡◌, ℕ, zero, suc, ◌+◌, ◌<◌, ◌≤◌, true, cond, ◌&&◌, ◌||◌, eqb, ◌⊎◌, [], ◌∷◌, sym, refl, ap, ◌∙◌, subst, inl, inr, arith}
use Rattle.std.proofs.lemmas.Bool.{cases_Bool, or_cases, or_left, or_right, eq-eqb, eqb-true, and_from, and_parts, true≢false, cond-false}
use Rattle.pattern.specs.Lists.{occurs}
use Rattle.pattern.specs.Patterns.{within}
use Rattle.pattern.specs.Forest.{Grows, line_from, line, under}
use Rattle.pattern.proofs.Tests.{Vertex, within_parts, within_from, outside}

-- v is reached from x by parent steps, none or more, through vertices
pub data Climb (n : ℕ) (up : ℕ → ℕ) (v : ℕ) : ℕ → Type 0 where
  here : Vertex n v → Climb n up v v
  step : (x : ℕ) → Vertex n x → Climb n up v (up x) → Climb n up v x

module _ (n : ℕ) (up : ℕ → ℕ) where
  line_occurs : (k x v : ℕ) →
      occurs v (line_from n up (suc k) x) ≡ (within n x && (eqb x v || occurs v (line_from n up k (up x))))
  unfolding line_from occurs
  line_occurs k x v = grind arith

  on_line : (k x v : ℕ) → occurs v (line_from n up k x) ≡ true → Climb n up v x
  unfolding line_from occurs
  on_line zero x v e = absurd (true≢false (sym e))
  on_line (suc k) x v e =
      let (w, o) = and_parts _ _ (sym (line_occurs k x v) ∙ e) in
      let vx = within_parts n x w in
      elim (or_cases _ _ o) [
        | inl same ↦ subst (λ y. Climb n up y x) (eqb-true x v same) (here vx)
        | inr later ↦ step x vx (on_line k (up x) v later)
      ]

  pub climb_of : (x v : ℕ) → under n up x v ≡ true → Climb n up v x
  unfolding under line
  climb_of x v e = on_line n x v e

  -- no vertex, no line
  ended : (k x : ℕ) → (Vertex n x → ⊥) → line_from n up k x ≡ []
  unfolding line_from
  ended zero x out = refl
  ended (suc k) x out = cond-false _ _ _ (outside n x out)

  -- the line does not change with the steps allowed, once they are enough to pass n
  pub enough : Grows n up → (k m x : ℕ) → (Vertex n x → n < k + x) → (Vertex n x → n < m + x) →
      line_from n up k x ≡ line_from n up m x
  unfolding line_from
  enough grows zero m x h j = sym (ended m x (λ vx. omega (arith, h vx, vx.fits)))
  enough grows (suc k) zero x h j = ended (suc k) x (λ vx. omega (arith, j vx, vx.fits))
  enough grows (suc k) (suc m) x h j =
      elim (cases_Bool (within n x)) [
        | inl w ↦
            let vx = within_parts n x w in
            let rises = grows.rises x vx.named vx.fits in
            ap (λ l. cond (within n x) (x ∷ l) [])
            (enough grows k m (up x)
            (λ u. omega (arith, h vx, rises u.named))
            (λ u. omega (arith, j vx, rises u.named)))
        | inr w ↦ cond-false _ _ _ w ∙ sym (cond-false _ _ _ w)
      ]

  -- x lies under v: it is a vertex, and it is v or its parent lies under v
  pub under_step : Grows n up → (x v : ℕ) → under n up x v ≡ (within n x && (eqb x v || under n up (up x) v))
  unfolding under line
  under_step grows x v =
      ap (occurs v) (enough grows n (suc n) x (λ h. omega (arith, h.named)) (λ h. omega (arith, h.named)))
      ∙ line_occurs n x v

  pub under_of : Grows n up → {v x : ℕ} → Climb n up v x → under n up x v ≡ true
  under_of grows {v} (here vx) =
      under_step grows v v ∙ and_from _ _ (within_from n v vx) (or_left _ _ (eq-eqb v v refl))
  under_of grows {v} (step x vx c) =
      under_step grows x v ∙ and_from _ _ (within_from n x vx) (or_right _ _ (under_of grows c))

module _ {n : ℕ} {up : ℕ → ℕ} where
  pub climb_start : {v x : ℕ} → Climb n up v x → Vertex n x
  climb_start (here vx) = vx
  climb_start (step x vx c) = vx

  pub climb_end : {v x : ℕ} → Climb n up v x → Vertex n v
  climb_end (here vx) = vx
  climb_end (step x vx c) = climb_end c

  pub climb_trans : {u v x : ℕ} → Climb n up v x → Climb n up u v → Climb n up u x
  climb_trans (here vx) d = d
  climb_trans (step x vx c) d = step x vx (climb_trans c d)

  -- one parent step at the end
  pub climb_up : {v x : ℕ} → Climb n up v x → Vertex n (up v) → Climb n up (up v) x
  climb_up {v} c vu = climb_trans c (step v (climb_end c) (here vu))

  -- of two ancestors one lies under the other
  pub chain : {v w x : ℕ} → Climb n up v x → Climb n up w x → Climb n up w v ⊎ Climb n up v w
  chain (here vx) d = inl d
  chain (step x vx c) (here vw) = inr (step x vx c)
  chain (step x vx c) (step _ _ d) = chain c d

  -- the last step up goes from a child of v
  pub last_climb : {v x : ℕ} → Climb n up v x → (x ≡ v) ⊎ ((c : ℕ) × (up c ≡ v) × Climb n up c x)
  last_climb (here vx) = inl refl
  last_climb {v} (step x vx c) =
      inr
      (elim (last_climb c) [
        | inl same ↦ (x, same, here vx)
        | inr (c, is, d) ↦ (c, is, step x vx d)
      ])

  pub climb_le : Grows n up → {v x : ℕ} → Climb n up v x → x ≤ v
  climb_le grows (here vx) = omega arith
  climb_le grows (step x vx c) =
      let more = climb_le grows c in
      let vu = climb_start c in
      omega (arith, grows.rises x vx.named vx.fits vu.named)

-- the same of the test `under`
module _ (n : ℕ) (up : ℕ → ℕ) (grows : Grows n up) where
  pub under_self : (v : ℕ) → Vertex n v → under n up v v ≡ true
  under_self v vv = under_of n up grows (here vv)

  pub under_le : (x v : ℕ) → under n up x v ≡ true → x ≤ v
  under_le x v e = climb_le grows (climb_of n up x v e)

  pub under_trans : (x v u : ℕ) → under n up x v ≡ true → under n up v u ≡ true → under n up x u ≡ true
  under_trans x v u e f = under_of n up grows (climb_trans (climb_of n up x v e) (climb_of n up v u f))

  -- what lies under two vertices shows that one of them lies under the other
  pub under_chain : (x v w : ℕ) → under n up x v ≡ true → under n up x w ≡ true →
      (under n up v w ≡ true) ⊎ (under n up w v ≡ true)
  under_chain x v w e f =
      elim (chain (climb_of n up x v e) (climb_of n up x w f)) [
        | inl c ↦ inl (under_of n up grows c)
        | inr c ↦ inr (under_of n up grows c)
      ]
