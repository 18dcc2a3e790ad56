-- The weights of the pass by place: how far they can go, and that at the end they are the weights of the pattern.
use Rattle.std.proofs.Common.{◌≡◌, ℕ, ◌+◌, ◌≤◌, true, cond, eqb, List, [], ◌∷◌, length, ℤ, pos, negsuc, ◌-ℤ◌, neg_ℤ, ◌≤ℤ◌, sym, refl, ap, ◌∙◌, arith}
use lib.Signed.{mag}
use Rattle.std.proofs.lemmas.Bool.{or_right}
use Rattle.std.proofs.lemmas.Bool.Decides.{nat_tests}
use Rattle.std.proofs.lemmas.Int.{ints}
use Rattle.pattern.specs.Lists.{upto, occurs, sum}
use Rattle.pattern.specs.Patterns.{Pattern}
use Rattle.pattern.specs.Elimination.{col_count, parent}
use Rattle.pattern.specs.Forest.{subtree, children}
use Rattle.pattern.specs.Fill.{in_subtree, weight}
use Rattle.pattern.specs.Walks.{size}
use Rattle.pattern.specs.Counts.{lower_neighbours, sum_ℤ}
use Rattle.pattern.specs.Passes.{bend_at, one_if, weight_so_far, Passing, Passed}
use Rattle.pattern.proofs.Tests.{Vertex}
use Rattle.pattern.proofs.Lists.{in_upto, in_keep, occurs_here}
use Rattle.pattern.proofs.Sums.{sum_plus, count_is_sum}
use Rattle.pattern.proofs.Tallies.{bit, bit_bound, bits_fit, sum_same, sum_zero, sum_at, length_is_sum}
use Rattle.pattern.proofs.Tree.{parents_grow}
use Rattle.pattern.proofs.Forest.{size_counts}
use Rattle.pattern.proofs.Counting.{
  in_row_test,
  column_tests,
  row_from_all,
  pick,
  children_under,
  born,
  branch,
  weighs,
  column_counted,
}
use Rattle.pattern.proofs.Passes.{weight_none, weight_more, passing_older, new_lower, bend_lies}
use Rattle.pattern.proofs.PassCounts.{reaches, reaches_none, reaches_other, reaches_more, reached}

one_is : (v x : ℕ) → one_if v x ≡ pos (bit (eqb x v))
unfolding one_if
one_is v x = grind (arith, nat_tests)

sum_ℤ_same : (f g : ℕ → ℤ) (xs : List ℕ) → ((x : ℕ) → occurs x xs ≡ true → f x ≡ g x) → sum_ℤ f xs ≡ sum_ℤ g xs
unfolding sum_ℤ occurs
sum_ℤ_same f g [] same = refl
sum_ℤ_same f g (x ∷ xs) same =
    omega (arith, ints, same x (occurs_here x xs), sum_ℤ_same f g xs (λ y o. same y (or_right _ _ o)))

mag_bound : (z : ℤ) (k : ℕ) → neg_ℤ (pos k) ≤ℤ z → z ≤ℤ pos k → mag z ≤ k
mag_bound (pos n) k low high = omega (arith, ints)
mag_bound (negsuc n) k low high = omega (arith, ints)

-- how often v was a stop: of its own row, and at each event at v
unfoldable stops_at : ℕ → List (ℕ × ℕ) → ℕ
stops_at v [] = 1
stops_at v (e ∷ es) = bit (eqb e.0 v) + stops_at v es

module _ (p : Pattern) where
  -- how often it was a bend
  unfoldable bends_at : ℕ → List (ℕ × ℕ) → ℕ
  bends_at v [] = 0
  bends_at v (e ∷ es) = bit (eqb (bend_at p e.0 e.1 es) v) + bends_at v es

  weight_counts : (v : ℕ) (es : List (ℕ × ℕ)) →
      weight_so_far p v es ≡ pos (stops_at v es) -ℤ pos (bends_at v es) -ℤ pos (born p v)
  unfolding stops_at bends_at born
  weight_counts v [] = let a = weight_none p v in omega (arith, ints)
  weight_counts v ((x, u) ∷ es) =
      omega (arith, ints, weight_counts v es, weight_more p x u es v, one_is v x, one_is v (bend_at p x u es))

  stops_fit : (v : ℕ) (es : List (ℕ × ℕ)) → stops_at v es ≤ 1 + length es
  unfolding stops_at
  stops_fit v [] = omega arith
  stops_fit v ((x, u) ∷ es) = omega (arith, stops_fit v es, bit_bound (eqb x v))

  bends_fit : (v : ℕ) (es : List (ℕ × ℕ)) → bends_at v es ≤ length es
  unfolding bends_at
  bends_fit v [] = omega arith
  bends_fit v ((x, u) ∷ es) = omega (arith, bends_fit v es, bit_bound (eqb (bend_at p x u es) v))

  born_fit : (v : ℕ) → born p v ≤ p.order
  unfolding born children
  born_fit v =
      omega (arith, count_is_sum (λ c. eqb (parent p c) v) (upto p.order), bits_fit (λ c. eqb (parent p c) v) p.order)

  -- no weight goes further than the vertices and the events let it
  pub weight_low : (v : ℕ) (es : List (ℕ × ℕ)) → neg_ℤ (pos (p.order + length es)) ≤ℤ weight_so_far p v es
  weight_low v es =
      let a = weight_counts v es in
      let b = bends_fit v es in
      let c = born_fit v in
      omega (arith, ints)

  pub weight_high : (v : ℕ) (es : List (ℕ × ℕ)) → weight_so_far p v es ≤ℤ pos (1 + length es)
  weight_high v es =
      let a = weight_counts v es in
      let b = stops_fit v es in
      omega (arith, ints)

  pub weight_mag : (v : ℕ) (es : List (ℕ × ℕ)) → mag (weight_so_far p v es) ≤ 1 + p.order + length es
  weight_mag v es =
      let a = weight_low v es in
      let b = weight_high v es in
      mag_bound (weight_so_far p v es) (1 + p.order + length es) (omega (arith, ints)) (omega (arith, ints))

  -- the stops under v are the bends under v and the rows that reach v
  stops_and_bends : (v : ℕ) (es : List (ℕ × ℕ)) → Passing p es →
      sum (λ u. bit (reaches p u v es)) (upto p.order) + sum (λ x. bends_at x es) (branch p v)
      ≡ sum (λ x. stops_at x es) (branch p v)
  unfolding stops_at bends_at branch size
  stops_and_bends v [] q =
      let n = p.order in
      let a = sum_same (λ u. bit (reaches p u v [])) (λ u. bit (in_subtree p u v)) (upto n)
      (λ u o. ap bit (reaches_none p u v)) in
      let b = size_counts n (parent p) (parents_grow p) v in
      let c = length_is_sum (branch p v) in
      let d = sum_zero (λ _. 0) (branch p v) (λ x o. refl) in
      omega arith
  stops_and_bends v ((x, u) ∷ es) q =
      let n = p.order in
      let g = parents_grow p in
      let new = new_lower p x u es q in
      let bend = bend_at p x u es in
      let i = stops_and_bends v es (passing_older p x u es q) in
      let at : ℕ → ℕ → ℕ = λ k w. cond (eqb u w) k 0 in
      let over = bit (in_subtree p bend v) in
      let under = bit (in_subtree p x v) in
      let a = sum_same (λ w. bit (reaches p w v ((x, u) ∷ es)) + at over w)
      (λ w. bit (reaches p w v es) + at under w) (upto n) (λ w o. row w) in
      let b = sum_plus (λ w. bit (reaches p w v ((x, u) ∷ es))) (at over) (upto n) in
      let c = sum_plus (λ w. bit (reaches p w v es)) (at under) (upto n) in
      let d = sum_at n u (λ _. over) new.to.named new.to.fits in
      let e = sum_at n u (λ _. under) new.to.named new.to.fits in
      let f = sum_plus (λ y. bit (eqb bend y)) (λ y. bends_at y es) (branch p v) in
      let h = pick n (parent p) g v bend (bend_lies p x u es q).vertex.fits in
      let j = sum_plus (λ y. bit (eqb x y)) (λ y. stops_at y es) (branch p v) in
      let k = pick n (parent p) g v x new.from.fits in
      omega arith
    where
      row : (w : ℕ) → bit (reaches p w v ((x, u) ∷ es)) + cond (eqb u w) (bit (in_subtree p (bend_at p x u es) v)) 0
          ≡ bit (reaches p w v es) + cond (eqb u w) (bit (in_subtree p x v)) 0
      row w =
          grind (arith, nat_tests, reaches_more p x u es q v, reaches_other p x u es w v)

  module _ (es : List (ℕ × ℕ)) (q : Passed p es) where
    column_at : (v : ℕ) → Vertex p.order v →
        sum (λ x. stops_at x es) (branch p v)
        ≡ sum (λ x. bends_at x es) (branch p v) + col_count p v + sum (born p) (branch p v)
    unfolding born branch
    column_at v h =
        let n = p.order in
        let a = stops_and_bends v es q.passing in
        let b = sum_same _ _ (upto n) (λ u o. reached p es q u v (in_upto n u o) h) in
        let c = sum_plus (λ u. bit (in_row_test p v u)) (λ u. bit (in_subtree p (parent p u) v)) (upto n) in
        let d = column_tests p v in
        let e = children_under n (parent p) (parents_grow p) v in
        omega arith

    -- at the end the weights are those of the pattern
    pub weight_passed : (v : ℕ) → 1 ≤ v → v ≤ p.order → weight_so_far p v es ≡ weight p v
    weight_passed v low high =
        weight_counts v es
        ∙ sym (weighs p (λ x. stops_at x es) (λ x. bends_at x es) column_at v (record { named = low; fits = high }))

    -- and their sum over a subtree is the column count
    pub column_passed : (v : ℕ) → 1 ≤ v → v ≤ p.order →
        sum_ℤ (λ x. weight_so_far p x es) (subtree p.order (parent p) v) ≡ pos (col_count p v)
    unfolding subtree
    column_passed v low high =
        sum_ℤ_same (λ x. weight_so_far p x es) (weight p) (subtree p.order (parent p) v)
        (λ x o. let h = (in_keep p.order (λ x. in_subtree p x v) x o).1 in weight_passed x h.named h.fits)
        ∙ sym (column_counted p (lower_neighbours p) (λ u _ _. row_from_all p u) v
        (record { named = low; fits = high })).summed
