-- The counts by meeting vertices: one identity at each vertex and row. Summed over the vertices it counts the row,
-- summed over the rows the column.
use Rattle.std.proofs.Common.{◌≡◌, ℕ, ◌+◌, ◌*◌, ◌<◌, ◌≤◌, Bool, true, false, cond, ◌&&◌, ◌||◌, eqb, ltb, ◌⊎◌, List, [], ◌∷◌, length, ℤ, pos, ◌-ℤ◌, sym, refl, ap, ◌∙◌, subst, inl, inr, arith}
use Rattle.std.specs.List.{list_any}
use Rattle.std.proofs.lemmas.Bool.{cases_Bool, cases_lt, both_ways, or_cases, or_left, or_right, and_parts, and_from, lt-ltb, ltb-true}
use Rattle.std.proofs.lemmas.Bool.Decides.{nat_tests}
use Rattle.std.proofs.lemmas.List.{length-append}
use Rattle.std.proofs.lemmas.Int.{ints}
use Rattle.pattern.specs.Lists.{upto, occurs, sum}
use Rattle.pattern.specs.Patterns.{Pattern, shares}
use Rattle.pattern.specs.Elimination.{fill, row, col, row_count, col_count, parent, total}
use Rattle.pattern.specs.Forest.{Grows, under, children, subtree, walk, place}
use Rattle.pattern.specs.Analysis.{place_of, level_of}
use Rattle.pattern.specs.Fill.{in_subtree, weight}
use Rattle.pattern.specs.Walks.{times, size}
use Rattle.pattern.specs.Counts.{
  unfalling,
  meet_of,
  RowFrom,
  lower_neighbours,
  stops,
  bends,
  climb,
  RowCounted,
  sum_ℤ,
  ColumnCounted,
  RowCountsByPaths,
  ColumnCountsByWeights,
}
use Rattle.pattern.proofs.Tests.{Vertex, same_test, eqb_swap}
use Rattle.pattern.proofs.Lists.{occurs_append, in_upto, in_keep, keep_occurs, sum_append, occurs_here}
use Rattle.pattern.proofs.Sums.{sum_plus, sum_exchange, count_is_sum}
use Rattle.pattern.proofs.Lines.{under_self, under_le, under_trans, under_chain}
use Rattle.pattern.proofs.Joins.{shares_parts}
use Rattle.pattern.proofs.Paths.{edge}
use Rattle.pattern.proofs.Tree.{parents_grow, way_lies}
use Rattle.pattern.proofs.Rows.{fill_touches, touches_fill}
use Rattle.pattern.proofs.Tallies.{bit, sum_same, sum_zero, sum_keep, sum_at, sum_scale, length_is_sum}
use Rattle.pattern.proofs.Forest.{
  level_none,
  under_none,
  under_once,
  under_parts,
  under_by_children,
  in_children,
  under_level_le,
  under_counts,
  parent_counts,
}
use Rattle.pattern.proofs.Places.{block}
use Rattle.pattern.proofs.Meets.{meet_under, meet_of_both, meet_has_both}
use Rattle.pattern.proofs.Telescope.{
  any_has,
  any_tells,
  unfalling_push,
  in_between,
  length_between,
  falls_and_rests,
  telescope,
  kept_in_order,
}
use Rattle.pattern.proofs.Walk.{in_walk, on_walk, walk_once}

module _ (p : Pattern) where
  grows : Grows p.order (parent p)
  grows = parents_grow p

  -- v is in row u
  unfoldable pub in_row_test : ℕ → ℕ → Bool
  in_row_test v u = eqb v u || (ltb v u && fill p v u)

  pub row_tests : (u : ℕ) → row_count p u ≡ sum (λ v. bit (in_row_test v u)) (upto p.order)
  unfolding in_row_test row_count row
  row_tests u = count_is_sum (λ v. eqb v u || (ltb v u && fill p v u)) (upto p.order)

  pub column_tests : (v : ℕ) → col_count p v ≡ sum (λ u. bit (in_row_test v u)) (upto p.order)
  unfolding in_row_test col_count col
  column_tests v =
      count_is_sum (λ u. eqb u v || (ltb v u && fill p v u)) (upto p.order)
      ∙ sum_same _ _ (upto p.order) (λ u o. ap (λ t. bit (t || (ltb v u && fill p v u))) (eqb_swap u v))

  -- counted row by row, the factor's places are as many
  pub counted_by_rows : total p ≡ sum (row_count p) (upto p.order)
  unfolding total
  counted_by_rows =
      sum_same _ _ (upto p.order) (λ v o. column_tests v)
      ∙ sum_exchange (λ v u. bit (in_row_test v u)) (upto p.order) (upto p.order)
      ∙ sum_same _ _ (upto p.order) (λ u o. sym (row_tests u))

  module _ (u : ℕ) (h : Vertex p.order u) (l : List ℕ) (from : RowFrom p u l) where
    pub stop-cases : (x : ℕ) → occurs x (stops l u) ≡ true → (x ≡ u) ⊎ (occurs x l ≡ true)
    unfolding stops occurs
    stop-cases x o =
        elim (or_cases _ _ (sym (occurs_append x l (u ∷ [])) ∙ o)) [
          | inl m ↦ inr m
          | inr m ↦ inl (grind (arith, nat_tests))
        ]

    -- each stop is a vertex in the subtree of u
    stop_under : (x : ℕ) → occurs x (stops l u) ≡ true → in_subtree p x u ≡ true
    stop_under x o =
        elim (stop-cases x o) [
          | inl e ↦ subst (λ y. in_subtree p y u ≡ true) (sym e) (under_self p.order (parent p) grows u h)
          | inr m ↦ let (low, s) = from.lower x m in way_lies p u x low (edge x s)
        ]

    stop_vertex : (x : ℕ) → occurs x (stops l u) ≡ true → Vertex p.order x
    stop_vertex x o = (under_parts p.order (parent p) grows x u (stop_under x o)).0

    bend_vertex : (m : ℕ) → occurs m (bends p l u) ≡ true → Vertex p.order m
    unfolding bends
    bend_vertex = in_between (Vertex p.order) (meet_of p) (stops l u) (λ x y a b.
        (under_parts p.order (parent p) grows (meet_of p x y) u
        (meet_of_both p.order (parent p) grows x y u (stop_under x a) (stop_under y b))).0)

    pub in_list : (x : ℕ) → occurs x l ≡ true → occurs x (stops l u) ≡ true
    unfolding stops
    in_list x o = occurs_append x l (u ∷ []) ∙ or_left _ _ o

    pub at_end : occurs u (stops l u) ≡ true
    unfolding stops occurs
    at_end = occurs_append u l (u ∷ []) ∙ or_right (occurs u l) _ (occurs_here u [])

    stops_placed : unfalling (place_of p) (stops l u) ≡ true
    unfolding stops
    stops_placed = unfalling_push (place_of p) u l from.placed (λ x o.
        let b = block p.order (parent p) grows u h in
        let i = (b.inner x (stop_under x (in_list x o))).1 in
        let e = b.last in
        omega arith)

    -- some stop lies under v just if v is in row u or above u
    pub stops_reach : (v : ℕ) → Vertex p.order v →
        bit (list_any (λ x. in_subtree p x v) (stops l u)) ≡ bit (in_row_test v u) + bit (in_subtree p (parent p u) v)
    unfolding in_row_test
    stops_reach v g =
        let o = under_once n (parent p) grows u v h in
        let s = eqb_swap v u in
        elim (cases_Bool (in_subtree p u v)) [
          | inl above ↦
              let a = any_has (λ x. in_subtree p x v) (stops l u) u at_end above in
              let le = under_le n (parent p) grows u v above in
              grind (arith, nat_tests)
          | inr off ↦ let same = same_test _ _ (into off) outof in grind (arith, nat_tests)
        ]
      where
        n : ℕ
        n = p.order

        into : in_subtree p u v ≡ false → list_any (λ x. in_subtree p x v) (stops l u) ≡ true →
            (ltb v u && fill p v u) ≡ true
        into off a =
            let (x, o, t) = any_tells (λ x. in_subtree p x v) (stops l u) a in
            elim (under_chain n (parent p) grows x u v (stop_under x o) t) [
              | inl above ↦ absurd (both_ways _ off above)
              | inr below ↦
                  elim (stop-cases x o) [
                    | inl e ↦ absurd (both_ways _ off (subst (λ y. in_subtree p y v ≡ true) e t))
                    | inr m ↦
                        let le = under_le n (parent p) grows v u below in
                        let apart : v ≡ u → ⊥ = λ e.
                        both_ways _ off (ap (in_subtree p u) e ∙ under_self n (parent p) grows u h) in
                        let less : v < u = omega arith in
                        and_from _ _ (lt-ltb v u less) (touches_fill p v u x less t (from.lower x m).1)
                  ]
            ]

        outof : (ltb v u && fill p v u) ≡ true → list_any (λ x. in_subtree p x v) (stops l u) ≡ true
        outof both =
            let (less, joins) = and_parts _ _ both in
            let low = ltb-true v u less in
            let t = fill_touches p v u low joins in
            let le = under_le n (parent p) grows t.at v t.lies in
            let (x, o, lies) = from.covers t.at (omega arith) t.entry in
            any_has (λ x. in_subtree p x v) (stops l u) x (in_list x o)
            (under_trans n (parent p) grows x t.at v lies t.lies)

    -- the identity on which the counts rest: stops under v, bends under v, v in row u, v above u
    pub row_at : (v : ℕ) → Vertex p.order v →
        sum (λ x. bit (in_subtree p x v)) (stops l u)
        ≡ sum (λ m. bit (in_subtree p m v)) (bends p l u) + bit (in_row_test v u) + bit (in_subtree p (parent p u) v)
    unfolding bends
    row_at v g =
        let b = block p.order (parent p) grows v g in
        let t = telescope (λ x. in_subtree p x v) (place_of p) b.start (b.start + size p.order (parent p) v)
        (meet_of p) (stops l u)
        (record {
          inside = λ x o t. b.inner x t;
          outside = λ x o. b.outer x (stop_vertex x o);
          both = λ x y o. meet_under p.order (parent p) grows y v x (stop_vertex x o).fits;
        })
        stops_placed in
        let r = stops_reach v g in
        omega arith

    by_depth : (xs : List ℕ) → ((x : ℕ) → occurs x xs ≡ true → Vertex p.order x) →
        sum (λ v. sum (λ x. bit (in_subtree p x v)) xs) (upto p.order) ≡ sum (level_of p) xs + length xs
    by_depth xs all =
        let a = sum_exchange (λ v x. bit (in_subtree p x v)) (upto p.order) xs in
        let b = sum_same (λ x. sum (λ v. bit (in_subtree p x v)) (upto p.order)) (λ x. level_of p x + 1) xs
        (λ x o. omega (arith, under_counts p.order (parent p) grows x (all x o))) in
        let c = sum_plus (level_of p) (λ _. 1) xs in
        let d = length_is_sum xs in
        omega arith

    row_levels : row_count p u + sum (level_of p) (bends p l u) ≡ 1 + sum (level_of p) l
    unfolding stops bends sum
    row_levels =
        let n = p.order in
        let a = by_depth (stops l u) stop_vertex in
        let b = by_depth (bends p l u) bend_vertex in
        let c = sum_same _ _ (upto n) (λ v o. row_at v (in_upto n v o)) in
        let d = sum_plus (λ v. sum (λ m. bit (in_subtree p m v)) (bends p l u) + bit (in_row_test v u))
        (λ v. bit (in_subtree p (parent p u) v)) (upto n) in
        let e = sum_plus (λ v. sum (λ m. bit (in_subtree p m v)) (bends p l u)) (λ v. bit (in_row_test v u))
        (upto n) in
        let f = parent_counts n (parent p) grows u h in
        let j = row_tests u in
        let k = length_between (meet_of p) u l in
        let m = length-append l (u ∷ []) in
        let q = sum_append (level_of p) l (u ∷ []) in
        omega arith

    meet_level : (x y : ℕ) → occurs x l ≡ true → level_of p (meet_of p x y) ≤ level_of p x
    meet_level x y o =
        let fits = (stop_vertex x (in_list x o)).fits in
        elim (cases_lt 0 (meet_of p x y)) [
          | inl some ↦
              under_level_le p.order (parent p) grows x fits (meet_of p x y)
              (meet_has_both p.order (parent p) grows x y fits some).0
          | inr none ↦
              let e : meet_of p x y ≡ 0 = omega arith in
              omega (arith, ap (level_of p) e, level_none p.order (parent p) grows)
        ]

    pub row_counted : RowCounted p u l
    unfolding stops bends climb
    row_counted = record {
      by_levels = row_levels;
      by_paths =
          let a = row_levels in
          let b = falls_and_rests (level_of p) (meet_of p) u l meet_level in
          omega arith;
    }

  -- all lower neighbours in the order of their places serve
  pub row_from_all : (u : ℕ) → RowFrom p u (lower_neighbours p u)
  unfolding lower_neighbours place
  row_from_all u = record {
    lower = λ x o.
        let (t, _) = and_parts _ _ (sym (keep_occurs test x all) ∙ o) in
        let (less, s) = and_parts _ _ t in
        (ltb-true x u less, s);
    placed = kept_in_order all
        (λ x o. let a = walk_once n (parent p) grows x (in_walk n (parent p) grows x o) in omega arith)
        test [] all refl;
    covers = λ y less s.
        let g = (shares_parts p y u s).0.left in (
          y,
          keep_occurs test y all ∙ and_from _ _ (and_from _ _ (lt-ltb y u less) s) (on_walk n (parent p) grows y g),
          under_self n (parent p) grows y g,
        );
  }
    where
      n : ℕ
      n = p.order

      all : List ℕ
      all = walk n (parent p)

      test : ℕ → Bool
      test x = ltb x u && shares p x u

pub rows_counted : RowCountsByPaths
rows_counted p u low high =
    (row_counted p u (record { named = low; fits = high }), row_from_all p u)

-- sums over subtrees
module _ (n : ℕ) (up : ℕ → ℕ) (grows : Grows n up) where
  pub pick : (v y : ℕ) → y ≤ n → sum (λ x. bit (eqb y x)) (subtree n up v) ≡ bit (under n up y v)
  unfolding subtree
  pick v y h =
      sum_keep (λ x. bit (eqb y x)) (λ x. under n up x v) (upto n)
      ∙ sum_same _ (λ x. cond (eqb y x) (bit (under n up x v)) 0) (upto n) (λ x o. grind (arith, nat_tests))
      ∙ elim (cases_lt 0 y) [
        | inl low ↦ sum_at n y (λ x. bit (under n up x v)) low h
        | inr none ↦
            let e : y ≡ 0 = omega arith in
            let a = sum_zero (λ x. cond (eqb y x) (bit (under n up x v)) 0) (upto n) (λ x o.
            let g = (in_upto n x o).named in grind (arith, nat_tests)) in
            let b = ap bit (ap (λ y. under n up y v) e ∙ under_none n up grows v) in
            omega arith
      ]

  -- how often the vertices of a subtree stand in a list
  times_under : (v : ℕ) (xs : List ℕ) → ((y : ℕ) → occurs y xs ≡ true → y ≤ n) →
      sum (λ x. times x xs) (subtree n up v) ≡ sum (λ y. bit (under n up y v)) xs
  unfolding times
  times_under v xs fits =
      sum_same _ _ (subtree n up v) (λ x o. count_is_sum (λ y. eqb y x) xs)
      ∙ sum_exchange (λ x y. bit (eqb y x)) (subtree n up v) xs
      ∙ sum_same _ _ xs (λ y o. pick v y (fits y o))

  -- how many children the vertices of a subtree have
  pub children_under : (v : ℕ) →
      sum (λ x. length (children n up x)) (subtree n up v) ≡ sum (λ u. bit (under n up (up u) v)) (upto n)
  unfolding children
  children_under v =
      sum_same _ _ (subtree n up v) (λ x o. count_is_sum (λ c. eqb (up c) x) (upto n))
      ∙ sum_exchange (λ x u. bit (eqb (up u) x)) (subtree n up v) (upto n)
      ∙ sum_same _ _ (upto n) (λ u o. let g = in_upto n u o in pick v (up u) (grows.stays u g.named g.fits))

  -- a sum over the subtree of v: v itself, and the subtrees of its children
  pub subtree_sum : (f : ℕ → ℕ) (v : ℕ) → Vertex n v →
      sum f (subtree n up v) ≡ f v + sum (λ c. sum f (subtree n up c)) (children n up v)
  unfolding subtree
  subtree_sum f v h =
      let a = sum_keep f (λ x. under n up x v) (upto n) in
      let below : ℕ → ℕ = λ x. sum (λ c. cond (under n up x c) (f x) 0) (children n up v) in
      let own : ℕ → ℕ = λ x. cond (eqb v x) (f x) 0 in
      let b = sum_same (λ x. cond (under n up x v) (f x) 0) (λ x. below x + own x) (upto n) (λ x o. at x) in
      let c = sum_plus below own (upto n) in
      let d = sum_at n v f h.named h.fits in
      let e = sum_exchange (λ x c. cond (under n up x c) (f x) 0) (upto n) (children n up v) in
      let g = sum_same _ _ (children n up v) (λ c o. sym (sum_keep f (λ x. under n up x c) (upto n))) in
      omega arith
    where
      parted : (t e : Bool) (s k x : ℕ) → (s + bit e) * k ≡ bit t * k → x ≡ s * k → cond t k 0 ≡ x + cond e k 0
      parted t e s k x a b = grind arith

      at : (x : ℕ) → cond (under n up x v) (f x) 0
          ≡ sum (λ c. cond (under n up x c) (f x) 0) (children n up v) + cond (eqb v x) (f x) 0
      at x =
          parted (under n up x v) (eqb v x) (sum (λ c. bit (under n up x c)) (children n up v)) (f x) _
          (ap (λ e. (sum (λ c. bit (under n up x c)) (children n up v) + bit e) * f x) (eqb_swap v x)
          ∙ ap (λ k. k * f x) (under_by_children n up grows v h x))
          (sum_scale (under n up x) (f x) (children n up v))

-- a sum of whole numbers that are given as differences
sum_ℤ_is : (w : ℕ → ℤ) (f g h : ℕ → ℕ) (xs : List ℕ) →
    ((x : ℕ) → occurs x xs ≡ true → w x ≡ pos (f x) -ℤ pos (g x) -ℤ pos (h x)) →
    sum_ℤ w xs ≡ pos (sum f xs) -ℤ pos (sum g xs) -ℤ pos (sum h xs)
unfolding sum_ℤ sum occurs
sum_ℤ_is w f g h [] each = refl
sum_ℤ_is w f g h (x ∷ xs) each =
    omega (arith, ints, sum_ℤ_is w f g h xs (λ y o. each y (or_right _ _ o)), each x (occurs_here x xs))

-- weights by stops and bends
module _ (p : Pattern) where
  -- how many children v has
  unfoldable pub born : ℕ → ℕ
  born v = length (children p.order (parent p) v)

  -- v and all below it
  unfoldable pub branch : ℕ → List ℕ
  branch v = subtree p.order (parent p) v

  module _ (stopping bending : ℕ → ℕ)
      (at : (v : ℕ) → Vertex p.order v →
      sum stopping (branch v) ≡ sum bending (branch v) + col_count p v + sum born (branch v)) where
    -- at one vertex: what its own subtree has more than its children's
    weighed : (v : ℕ) → Vertex p.order v →
        stopping v + sum (col_count p) (children p.order (parent p) v) ≡ bending v + born v + col_count p v
    unfolding branch
    weighed v h =
        let cs = children p.order (parent p) v in
        let split = λ (f : ℕ → ℕ). subtree_sum p.order (parent p) (parents_grow p) f v h in
        let a = split stopping in
        let b = split bending in
        let c = split born in
        let d = at v h in
        let e = sum_same (λ c. sum stopping (branch c))
        (λ c. sum bending (branch c) + col_count p c + sum born (branch c)) cs
        (λ c o. at c (in_children p.order (parent p) (parents_grow p) c v o).0) in
        let f = sum_plus (λ c. sum bending (branch c) + col_count p c) (λ c. sum born (branch c)) cs in
        let g = sum_plus (λ c. sum bending (branch c)) (col_count p) cs in
        omega arith

    pub weighs : (v : ℕ) → Vertex p.order v →
        weight p v ≡ pos (stopping v) -ℤ pos (bending v) -ℤ pos (born v)
    unfolding weight
    weighs v h = let a = weighed v h in omega (arith, ints)

module _ (p : Pattern) (l : ℕ → List ℕ) (from : (u : ℕ) → 1 ≤ u → u ≤ p.order → RowFrom p u (l u)) where
  stopping : ℕ → ℕ
  stopping v = sum (λ u. times v (stops (l u) u)) (upto p.order)

  bending : ℕ → ℕ
  bending v = sum (λ u. times v (bends p (l u) u)) (upto p.order)

  row_of : (u : ℕ) → Vertex p.order u → RowFrom p u (l u)
  row_of u h = from u h.named h.fits

  -- the identity summed over all rows
  column_at : (v : ℕ) → Vertex p.order v →
      sum stopping (branch p v) ≡ sum bending (branch p v) + col_count p v + sum (born p) (branch p v)
  unfolding stopping bending born branch
  column_at v h =
      let all = upto p.order in
      let up = parent p in
      let g = parents_grow p in
      let stopped : ℕ → ℕ = λ u. sum (λ x. bit (in_subtree p x v)) (stops (l u) u) in
      let bent : ℕ → ℕ = λ u. sum (λ x. bit (in_subtree p x v)) (bends p (l u) u) in
      let in_column : ℕ → ℕ = λ u. bit (in_row_test p v u) in
      let above : ℕ → ℕ = λ u. bit (in_subtree p (parent p u) v) in
      let a = sum_exchange (λ x u. times x (stops (l u) u)) (branch p v) all in
      let b = sum_same (λ u. sum (λ x. times x (stops (l u) u)) (branch p v)) stopped all
      (λ u o. let k = in_upto p.order u o in
      times_under p.order up g v (stops (l u) u) (λ y m. (stop_vertex p u k (l u) (row_of u k) y m).fits)) in
      let c = sum_exchange (λ x u. times x (bends p (l u) u)) (branch p v) all in
      let d = sum_same (λ u. sum (λ x. times x (bends p (l u) u)) (branch p v)) bent all
      (λ u o. let k = in_upto p.order u o in
      times_under p.order up g v (bends p (l u) u) (λ y m. (bend_vertex p u k (l u) (row_of u k) y m).fits)) in
      let e = children_under p.order up g v in
      let f = sum_same stopped (λ u. bent u + in_column u + above u) all
      (λ u o. let k = in_upto p.order u o in row_at p u k (l u) (row_of u k) v h) in
      let i = sum_plus (λ u. bent u + in_column u) above all in
      let j = sum_plus bent in_column all in
      let k = column_tests p v in
      omega arith

  pub column_counted : (v : ℕ) → Vertex p.order v → ColumnCounted p l v
  unfolding stopping bending born branch
  column_counted v h = record {
    weighs = weighs p stopping bending column_at v h;
    summed =
        let a = column_at v h in
        let b = sum_ℤ_is (weight p) stopping bending (born p) (branch p v)
        (λ x o. weighs p stopping bending column_at x
        (in_keep p.order (λ x. in_subtree p x v) x (unfold subtree in o)).1) in
        let d : pos (col_count p v)
        ≡ pos (sum stopping (branch p v)) -ℤ pos (sum bending (branch p v)) -ℤ pos (sum (born p) (branch p v))
        = omega (arith, ints) in
        d ∙ sym b;
  }

pub columns_counted : ColumnCountsByWeights
columns_counted p l from v low high = column_counted p l from v (record { named = low; fits = high })
