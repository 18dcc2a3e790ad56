-- The tree of the parents: each parent is the smallest, what is below is paths, and ancestors follow the fill.
use Rattle.std.proofs.Common.{◌≡◌, ℕ, zero, suc, ◌+◌, ◌<◌, ◌≤◌, true, ◌&&◌, ltb, ◌⊎◌, sym, refl, subst, inl, inr, arith}
use Rattle.std.proofs.lemmas.Bool.{cases_eq, and_parts, and_from, both_ways, ltb-true, lt-ltb, not-true, not_from_false, eqb-false, ne_eqb}
use Rattle.pattern.specs.Patterns.{Pattern}
use Rattle.pattern.specs.Elimination.{fill, parent}
use Rattle.pattern.specs.Forest.{Grows}
use Rattle.pattern.specs.Fill.{in_subtree, below}
use Rattle.pattern.proofs.Tests.{Vertex}
use Rattle.pattern.proofs.Lists.{First, nothing, found, first_tells}
use Rattle.pattern.proofs.Lines.{Climb, here, step, climb_of, under_of, climb_start}
use Rattle.pattern.proofs.Joins.{fill_ends}
use Rattle.pattern.proofs.Paths.{Way, wider, join, back, way_start, split, first_above, fill_way, way_fill}

-- u is the parent of v: the smallest above v that the fill joins to v
pub record IsParent (p : Pattern) (v u : ℕ) : Type 0 where
  pub above : v < u
  pub joins : fill p v u ≡ true
  pub smallest : (w : ℕ) → v < w → fill p v w ≡ true → u ≤ w

-- u is what `parent` gives of v: 0 at a root, which is joined to none above it, or the parent
abbrev pub RootOr : Pattern → ℕ → ℕ → Type 0
RootOr p v u = ((u ≡ 0) × ((w : ℕ) → v < w → fill p v w ≡ true → ⊥)) ⊎ IsParent p v u

module _ (p : Pattern) where
  pub parent_tells : (v : ℕ) → RootOr p v (parent p v)
  unfolding parent
  parent_tells v = go _ (first_tells p.order (λ u. ltb v u && fill p v u))
    where
      go : (u : ℕ) → First p.order (λ w. ltb v w && fill p v w) u → RootOr p v u
      go u (nothing none) =
          inl (refl, λ w less e. both_ways _ (none w (fill_ends p v w e).right) (and_from _ _ (lt-ltb v w less) e))
      go u (found _ vu passes least) =
          let (high, joins) = and_parts _ _ passes in
          inr
          (record {
            above = ltb-true v u high;
            joins = joins;
            smallest = λ w less e. least w (fill_ends p v w e).right (and_from _ _ (lt-ltb v w less) e);
          })

  pub parent_is : (v : ℕ) → 1 ≤ parent p v → IsParent p v (parent p v)
  parent_is v some = elim (parent_tells v) [ inl (none, _) ↦ absurd (omega arith) | inr it ↦ it ]

  pub parent_unique : (v u : ℕ) → IsParent p v u → parent p v ≡ u
  parent_unique v u it =
      elim (parent_tells v) [
        | inl (_, none) ↦ absurd (none u it.above it.joins)
        | inr q ↦ omega (arith, q.smallest u it.above it.joins, it.smallest (parent p v) q.above q.joins)
      ]

  pub parents_grow : Grows p.order (parent p)
  parents_grow = record {
    rises = λ v _ _ some. (parent_is v some).above;
    stays = λ v _ _. elim (parent_tells v) [
      | inl (none, _) ↦ omega arith
      | inr it ↦ (fill_ends p v (parent p v) it.joins).right.fits
    ];
  }

  -- what the fill joins to v above it gives v a parent, which is that vertex or is under it and joined to it
  pub parent_of_joined : (v w : ℕ) → v < w → fill p v w ≡ true → IsParent p v (parent p v)
  parent_of_joined v w less e = elim (parent_tells v) [ inl (_, none) ↦ absurd (none w less e) | inr it ↦ it ]

  pub parent_joined : (v w : ℕ) → v < w → fill p v w ≡ true →
      (parent p v ≤ w) × ((parent p v ≡ w) ⊎ (fill p (parent p v) w ≡ true))
  parent_joined v w less e =
      let q = parent_of_joined v w less e in
      let above = q.above in
      let le = q.smallest w less e in
      let to_parent : Way p (parent p v) (parent p v) v =
      wider (omega arith) (fill_way v (parent p v) above q.joins) in
      let to_w : Way p (parent p v) w v = wider (omega arith) (fill_way v w less e) in (
        le,
        elim (cases_eq (parent p v) w) [
          | inl same ↦ inl same
          | inr other ↦ inr (way_fill (parent p v) w (omega arith) (join (back to_parent) above to_w))
        ],
      )

  -- going up to u is a way to u with inner vertices under u
  pub climb_way : (u : ℕ) {v : ℕ} → Climb p.order (parent p) u v → (v ≡ u) ⊎ ((v < u) × Way p u u v)
  climb_way u (here vu) = inl refl
  climb_way u (step v vv c) =
      let q = parent_is v (climb_start c).named in
      let above = q.above in
      let to_parent = fill_way v (parent p v) above q.joins in
      inr
      (elim (climb_way u c) [
        | inl same ↦ (omega arith, subst (λ x. Way p u x v) same (wider (omega arith) to_parent))
        | inr (less, w) ↦ (omega arith, join (wider (omega arith) to_parent) less w)
      ])

  -- and back; d bounds u - v
  way_up : (u d v : ℕ) → v < u → u ≤ d + v → Way p u u v → Climb p.order (parent p) u v
  way_up u zero v less bound w = absurd (omega (arith, less, bound))
  way_up u (suc d) v less bound w =
      let (x, over, at, a) = first_above v less w in
      let cut : Way p v x v = elim (split v a) [ inl a ↦ a | inr (_, a) ↦ a ] in
      let e = way_fill v x over cut in
      let q = parent_of_joined v x over e in
      let above = q.above in
      let le = q.smallest x over e in
      let reach : x ≤ u = elim at [ inl same ↦ omega arith | inr lower ↦ omega arith ] in
      let to_parent : Way p u (parent p v) v = wider (omega arith) (fill_way v (parent p v) above q.joins) in
      step v (way_start w)
      (elim (cases_eq (parent p v) u) [
        | inl same ↦
            subst (Climb p.order (parent p) u) (sym same)
            (here (subst (Vertex p.order) same (fill_ends p v (parent p v) q.joins).right))
        | inr other ↦ way_up u d (parent p v) (omega arith) (omega arith) (join (back to_parent) less w)
      ])

  pub way_climb : (u v : ℕ) → v < u → Way p u u v → Climb p.order (parent p) u v
  way_climb u v less w = way_up u u v less (omega arith) w

  -- so what a way leads to lies above
  pub way_lies : (u v : ℕ) → v < u → Way p u u v → in_subtree p v u ≡ true
  way_lies u v less w = under_of p.order (parent p) parents_grow (way_climb u v less w)

  -- the fill joins only what lies above
  pub fill_above : (v w : ℕ) → v < w → fill p v w ≡ true → in_subtree p v w ≡ true
  fill_above v w less e = way_lies w v less (wider (omega (arith, less)) (fill_way v w less e))

  pub below_way : (v u : ℕ) → below p v u ≡ true → (v < u) × Way p u u v
  unfolding below
  below_way v u e =
      let (apart, lies) = and_parts _ _ e in
      elim (climb_way u (climb_of p.order (parent p) v u lies)) [
        | inl same ↦ absurd (eqb-false v u (not-true _ apart) same)
        | inr w ↦ w
      ]

  pub way_below : (v u : ℕ) → v < u → Way p u u v → below p v u ≡ true
  unfolding below
  way_below v u less w =
      and_from _ _ (not_from_false _ (ne_eqb v u (λ e. omega arith))) (way_lies u v less w)
