-- Forests by a parent function: induction from the parents down, levels, and subtrees made up of the children's.
use Rattle.std.proofs.Common.{◌≡◌, ℕ, zero, suc, ◌+◌, ◌<◌, ◌≤◌, true, false, cond, eqb, ◌⊎◌, [], ◌∷◌, length, sym, ap, ◌∙◌, inl, inr, arith}
use Rattle.std.proofs.lemmas.Bool.{cases_Bool, cases_lt, and_left, and_from, or_right, and_parts, eqb-true, ne_eqb, cond-true, both_ways, false_from_ne_true}
use Rattle.std.proofs.lemmas.Bool.Decides.{nat_tests}
use Rattle.pattern.specs.Lists.{upto, sum, occurs}
use Rattle.pattern.specs.Patterns.{within}
use Rattle.pattern.specs.Forest.{Grows, line_from, line, under, subtree, level, children}
use Rattle.pattern.specs.Walks.{size}
use Rattle.pattern.proofs.Tests.{Vertex, within_from, outside, eqb_swap}
use Rattle.pattern.proofs.Lists.{in_upto, keep_occurs}
use Rattle.pattern.proofs.Sums.{sum_plus, sum_exchange, count_is_sum}
use Rattle.pattern.proofs.Lines.{enough, climb_of, climb_end, climb_start, under_step, under_self, under_le}
use Rattle.pattern.proofs.Tallies.{bit, sum_same, sum_zero, sum_keep, sum_at, bits_fit}

-- the length of the line: the level and one more, and 0 at 0
unfoldable pub depth : ℕ → (ℕ → ℕ) → ℕ → ℕ
depth n up x = length (line n up x)

module _ (n : ℕ) (up : ℕ → ℕ) (grows : Grows n up) where
  -- what holds at 0, and at each vertex if it holds at the parent, holds at every vertex
  parents_first : (P : ℕ → Type 0) → P 0 → ((x : ℕ) → Vertex n x → P (up x) → P x) →
      (k x : ℕ) → x ≤ n → (1 ≤ x → n < k + x) → P x
  parents_first P none more k zero h e = none
  parents_first P none more zero (suc x) h e = absurd (let m = e (omega arith) in omega arith)
  parents_first P none more (suc k) (suc x) h e =
      let m = e (omega arith) in
      let r = grows.rises (suc x) (omega arith) h in
      more (suc x) (record { named = omega arith; fits = h })
      (parents_first P none more k (up (suc x)) (grows.stays (suc x) (omega arith) h)
      (λ l. let s = r l in omega arith))

  pub from_parents : (P : ℕ → Type 0) → P 0 → ((x : ℕ) → Vertex n x → P (up x) → P x) → (x : ℕ) → x ≤ n → P x
  from_parents P none more x h = parents_first P none more n x h (λ l. omega arith)

  pub line_none : line n up 0 ≡ []
  unfolding line line_from within
  line_none = enough n up grows n 1 0 (λ h. absurd (odd h)) (λ h. absurd (odd h))
    where
      odd : Vertex n 0 → ⊥
      odd h = let l = h.named in omega arith

  pub line_more : (x : ℕ) → Vertex n x → line n up x ≡ x ∷ line n up (up x)
  unfolding line line_from
  line_more x h =
      enough n up grows n (suc n) x (λ h. omega (arith, h.named)) (λ h. omega (arith, h.named))
      ∙ cond-true (within n x) _ _ (within_from n x h)

  -- nothing is above 0, and 0 is above nothing
  pub under_none : (v : ℕ) → under n up 0 v ≡ false
  unfolding within
  under_none v = under_step n up grows 0 v

  pub under_past : (x v : ℕ) → n < x → under n up x v ≡ false
  under_past x v past =
      under_step n up grows x v
      ∙ and_left _ _ (outside n x (λ h. let l = h.fits in omega arith))

  pub under_parts : (x v : ℕ) → under n up x v ≡ true → Vertex n x × Vertex n v
  under_parts x v e = let c = climb_of n up x v e in (climb_start c, climb_end c)

  -- x lies under v exactly once: as v itself, or by its parent
  pub under_once : (x v : ℕ) → Vertex n x → bit (under n up x v) ≡ bit (eqb x v) + bit (under n up (up x) v)
  under_once x v h =
      let s = under_step n up grows x v in
      let w = within_from n x h in
      let past : x ≡ v → under n up (up x) v ≡ false = λ e. false_from_ne_true _ (λ u.
      let r = grows.rises x h.named h.fits (under_parts (up x) v u).0.named in
      let l = under_le n up grows (up x) v u in
      omega arith) in
      grind (arith, nat_tests)

  pub parent_vertex : (x : ℕ) → Vertex n x → 1 ≤ up x → Vertex n (up x)
  parent_vertex x h l = record { named = l; fits = grows.stays x h.named h.fits }

  pub under_parent : (x : ℕ) → Vertex n x → 1 ≤ up x → under n up x (up x) ≡ true
  under_parent x h l =
      under_step n up grows x (up x)
      ∙ and_from _ _ (within_from n x h)
      (or_right (eqb x (up x)) _ (under_self n up grows (up x) (parent_vertex x h l)))

  pub depth_none : depth n up 0 ≡ 0
  unfolding depth
  depth_none = ap length line_none

  pub depth_more : (x : ℕ) → Vertex n x → depth n up x ≡ suc (depth n up (up x))
  unfolding depth
  depth_more x h = ap length (line_more x h)

  pub level_depth : (x : ℕ) → Vertex n x → suc (level n up x) ≡ depth n up x
  unfolding level depth
  level_depth x h = let d = depth_more x h in omega arith

  -- the line holds as many vertices as x lies under
  pub depth_counts : (x : ℕ) → x ≤ n → sum (λ v. bit (under n up x v)) (upto n) ≡ depth n up x
  depth_counts = from_parents _
      (sum_zero _ (upto n) (λ v o. ap bit (under_none v)) ∙ sym depth_none)
      (λ x h i.
      let a = sum_same _ _ (upto n) (λ v o. under_once x v h) in
      let b = sum_plus (λ v. bit (eqb x v)) (λ v. bit (under n up (up x) v)) (upto n) in
      let c = sum_at n x (λ _. 1) h.named h.fits in
      let d = depth_more x h in
      omega arith)

  -- a vertex lies under as many as its level and one, and its parent under as many as its level
  pub under_counts : (x : ℕ) → Vertex n x → sum (λ v. bit (under n up x v)) (upto n) ≡ suc (level n up x)
  under_counts x h = depth_counts x h.fits ∙ sym (level_depth x h)

  pub parent_counts : (x : ℕ) → Vertex n x → sum (λ v. bit (under n up (up x) v)) (upto n) ≡ level n up x
  parent_counts x h =
      omega (arith, depth_counts (up x) (grows.stays x h.named h.fits), depth_more x h, level_depth x h)

  pub level_none : level n up 0 ≡ 0
  unfolding level depth
  level_none = let d = depth_none in omega arith

  pub level_root : (x : ℕ) → Vertex n x → up x ≡ 0 → level n up x ≡ 0
  level_root x h e = omega (arith, level_depth x h, depth_more x h, ap (depth n up) e, depth_none)

  pub level_child : (x : ℕ) → Vertex n x → 1 ≤ up x → level n up x ≡ level n up (up x) + 1
  level_child x h l = omega (arith, level_depth x h, depth_more x h, level_depth (up x) (parent_vertex x h l))

  -- the vertices of a line rise to at most n, so the level is at most what is left to n
  pub level_bound : (x : ℕ) → x ≤ n → level n up x + x ≤ n
  level_bound = from_parents (λ x. level n up x + x ≤ n)
      (let e = level_none in omega arith)
      (λ x h i.
      elim (cases_lt 0 (up x)) [
        | inl more ↦ omega (arith, level_child x h more, grows.rises x h.named h.fits more)
        | inr none ↦ omega (arith, level_root x h (omega arith), h.fits)
      ])

  -- an ancestor has a smaller level
  pub under_level : (x : ℕ) → x ≤ n → (v : ℕ) → under n up x v ≡ true → (x ≡ v) ⊎ (level n up v < level n up x)
  under_level = from_parents (λ x. (v : ℕ) → under n up x v ≡ true → (x ≡ v) ⊎ (level n up v < level n up x))
      (λ v u. absurd (both_ways _ (under_none v) u))
      (λ x h i v u.
      elim (cases_Bool (under n up (up x) v)) [
        | inl t ↦
            let c = level_child x h (under_parts (up x) v t).0.named in
            let j = i v t in
            inr (grind arith)
        | inr t ↦ let o = under_once x v h in inl (grind (arith, nat_tests))
      ])

  pub under_level_le : (x : ℕ) → x ≤ n → (v : ℕ) → under n up x v ≡ true → level n up v ≤ level n up x
  under_level_le x h v u =
      elim (under_level x h v u) [ inl e ↦ omega (arith, ap (level n up) e) | inr less ↦ omega arith ]

  pub in_children : (c v : ℕ) → occurs c (children n up v) ≡ true → Vertex n c × (up c ≡ v)
  unfolding children
  in_children c v o =
      let (t, m) = and_parts _ _ (sym (keep_occurs (λ c. eqb (up c) v) c (upto n)) ∙ o) in
      (in_upto n c m, eqb-true (up c) v t)

  -- how many children of v have x under them, counted from the parent of x
  by_child : (v x : ℕ) → Vertex n x →
      sum (λ c. bit (under n up x c)) (children n up v)
      ≡ bit (eqb (up x) v) + sum (λ c. bit (under n up (up x) c)) (children n up v)
  unfolding children
  by_child v x h =
      let a = sum_same _ _ (children n up v) (λ c o. under_once x c h) in
      let b = sum_plus (λ c. bit (eqb x c)) (λ c. bit (under n up (up x) c)) (children n up v) in
      let c = sum_keep (λ c. bit (eqb x c)) (λ c. eqb (up c) v) (upto n) in
      let d = sum_same (λ c. cond (eqb (up c) v) (bit (eqb x c)) 0)
      (λ c. cond (eqb x c) (bit (eqb (up c) v)) 0) (upto n)
      (λ c o. grind (arith, nat_tests)) in
      let e = sum_at n x (λ c. bit (eqb (up c) v)) h.named h.fits in
      omega arith

  no_child : (v : ℕ) → sum (λ c. bit (under n up 0 c)) (children n up v) ≡ 0
  no_child v = sum_zero _ (children n up v) (λ c o. ap bit (under_none c))

  -- what lies under v is v itself or lies under exactly one child of v
  pub under_by_children : (v : ℕ) → Vertex n v → (x : ℕ) →
      sum (λ c. bit (under n up x c)) (children n up v) + bit (eqb x v) ≡ bit (under n up x v)
  under_by_children v l x =
      elim (cases_lt n x) [
        | inl past ↦
            let a = sum_zero (λ c. bit (under n up x c)) (children n up v) (λ c o. ap bit (under_past x c past)) in
            let b = under_past x v past in
            let c = ne_eqb x v (λ e. let h = l.fits in omega arith) in
            grind arith
        | inr h ↦ from_parents
            (λ x. sum (λ c. bit (under n up x c)) (children n up v) + bit (eqb x v) ≡ bit (under n up x v))
            (let a = no_child v in let b = under_none v in let c = l.named in grind (arith, nat_tests))
            (λ x h i. let a = by_child v x h in let b = under_once x v h in omega arith)
            x h
      ]

  -- every vertex lies under exactly one root
  pub under_by_roots : (x : ℕ) → x ≤ n → sum (λ c. bit (under n up x c)) (children n up 0) + bit (eqb x 0) ≡ 1
  under_by_roots = from_parents _
      (let a = no_child 0 in grind (arith, nat_tests))
      (λ x h i. let a = by_child 0 x h in let b = ne_eqb x 0 (λ e. let l = h.named in omega arith) in grind arith)

  pub size_counts : (v : ℕ) → size n up v ≡ sum (λ x. bit (under n up x v)) (upto n)
  unfolding size subtree
  size_counts v = count_is_sum (λ x. under n up x v) (upto n)

  pub size_bound : (v : ℕ) → size n up v ≤ n
  size_bound v = omega (arith, size_counts v, bits_fit (λ x. under n up x v) n)

  pub size_by_children : (v : ℕ) → Vertex n v → size n up v ≡ sum (size n up) (children n up v) + 1
  size_by_children v h =
      let a = size_counts v in
      let b = sum_same _ _ (upto n) (λ x o. sym (under_by_children v h x)) in
      let c = sum_plus (λ x. sum (λ c. bit (under n up x c)) (children n up v)) (λ x. bit (eqb x v)) (upto n) in
      let d = sum_exchange (λ x c. bit (under n up x c)) (upto n) (children n up v) in
      let e = sum_same _ _ (children n up v) (λ c o. sym (size_counts c)) in
      let f = sum_same (λ x. bit (eqb x v)) (λ x. bit (eqb v x)) (upto n) (λ x o. ap bit (eqb_swap x v)) in
      let g = sum_at n v (λ _. 1) h.named h.fits in
      omega arith
