-- Places: the subtree of a vertex takes an interval of them that ends at its own, and siblings follow one another.
use Rattle.std.proofs.Common.{◌≡◌, ℕ, zero, suc, ◌+◌, ◌-◌, ◌<◌, ◌≤◌, true, cond, eqb, ltb, List, [], ◌∷◌, ◌++◌, length, get_or, sym, refl, ap, ◌∙◌, inl, inr, arith}
use Rattle.std.proofs.lemmas.Bool.{cases_Bool, and_parts, or_left, or_right, le-ltb, cond-true, eq-eqb, true_from_ne_false}
use Rattle.std.proofs.lemmas.Bool.Decides.{nat_tests}
use Rattle.std.proofs.lemmas.List.{append_assoc, length-append}
use Rattle.pattern.specs.Lists.{upto, sum, occurs, each, position, greatest}
use Rattle.pattern.specs.Forest.{Grows, under, children, visit, walk, place, subtree, first_place, level, height}
use Rattle.pattern.specs.Walks.{size, at_place, EachOnce, Interval, SiblingsAscend, times}
use Rattle.pattern.proofs.Tests.{Vertex}
use Rattle.pattern.proofs.Lists.{occurs_append, keep_occurs, in_keep, keep_has, sum_grows, keep_none}
use Rattle.pattern.proofs.Sums.{sum_plus, count_is_sum}
use Rattle.pattern.proofs.Lines.{under_self, under_le}
use Rattle.pattern.proofs.Forest.{under_parts, in_children, size_by_children, parent_vertex}
use Rattle.pattern.proofs.Tallies.{
  bit,
  tally,
  tally_append,
  sum_same,
  sum_each,
  length_is_sum,
  occurs_uncounted,
  occurs_from_count,
  absent_from_count,
  occurs_get_or,
  position_bounds,
  position_left,
  position_right,
  position_here,
  position_get_or,
  least_le,
  least_ge,
  greatest_ge,
  sum_keep,
  sum_at,
}
use Rattle.pattern.proofs.Walk.{
  above,
  whole,
  visit_counts,
  length_visit,
  in_walk,
  on_walk,
  walk_once,
  length_walk,
  whole_once,
  Cut,
  cut_at,
  among_at,
  cut_child,
}

-- the place of a vertex, and n + 1 at 0
unfoldable pub spot : ℕ → (ℕ → ℕ) → ℕ → ℕ
spot n up x = position x (whole n up)

module _ (n : ℕ) (up : ℕ → ℕ) (grows : Grows n up) where
  pub spot_vertex : (x : ℕ) → Vertex n x → spot n up x ≡ place n up x
  unfolding spot whole place
  spot_vertex x h = position_left x (walk n up) (0 ∷ []) (on_walk n up grows x h)

  pub spot_none : spot n up 0 ≡ suc n
  unfolding spot whole
  spot_none =
      position_here 0 (walk n up) [] (let a = whole_once n up grows 0 (omega arith) in omega arith)
      ∙ ap suc (length_walk n up grows)

  pub place_bounds : (x : ℕ) → Vertex n x → (1 ≤ place n up x) × (place n up x ≤ n)
  unfolding place
  place_bounds x h =
      let b = position_bounds x (walk n up) (on_walk n up grows x h) in
      let l = length_walk n up grows in
      (b.0, omega arith)

  -- where v stands in a cut of the whole
  spot_cut : (v : ℕ) → v ≤ n → (before inner behind : List ℕ) → whole n up ≡ before ++ (inner ++ v ∷ behind) →
      spot n up v ≡ length before + length inner + 1
  unfolding spot
  spot_cut v h before inner behind e =
      let same = e ∙ sym (append_assoc before inner (v ∷ behind)) in
      let a = whole_once n up grows v h in
      let b = ap (tally v) same in
      let c = position_here v (before ++ inner) behind (omega arith) in
      let d = ap (position v) same in
      let f = length-append before inner in
      omega arith

  -- the subtree of v ends with v
  place_cut : (v : ℕ) → Vertex n v → (r : Cut n up grows v) → place n up v ≡ length r.before + size n up v
  unfolding visit
  place_cut v h r =
      let inner = each (visit n up r.fuel) (children n up v) in
      let a = spot_cut v h.fits r.before inner r.behind
      (r.cut ∙ ap (◌++◌ r.before) (append_assoc inner (v ∷ []) r.behind)) in
      let b = length_visit n up grows (suc r.fuel) v h (r.enough h.named) in
      let c = length-append inner (v ∷ []) in
      let d = spot_vertex v h in
      omega arith

  -- the places of the subtree of v: size many after start
  pub record Block (v : ℕ) : Type 0 where
    pub start : ℕ
    pub last : place n up v ≡ start + size n up v
    pub inner : (x : ℕ) → under n up x v ≡ true → (start < place n up x) × (place n up x ≤ start + size n up v)
    pub outer : (x : ℕ) → Vertex n x → start < place n up x → place n up x ≤ start + size n up v →
        under n up x v ≡ true

  module _ (v : ℕ) (h : Vertex n v) (r : Cut n up grows v) where
    own : List ℕ
    own = visit n up (suc r.fuel) v

    length_own : length own ≡ size n up v
    unfolding own
    length_own = length_visit n up grows (suc r.fuel) v h (r.enough h.named)

    own_counts : (x : ℕ) → tally x own ≡ bit (under n up x v)
    unfolding own
    own_counts x = visit_counts n up grows (suc r.fuel) v h (r.enough h.named) x

    parts_count : (x : ℕ) → Vertex n x → tally x r.before + bit (under n up x v) + tally x r.behind ≡ 1
    unfolding own
    parts_count x g =
        let a = whole_once n up grows x g.fits in
        let b = ap (tally x) r.cut in
        let c = tally_append x r.before (own ++ r.behind) in
        let d = tally_append x own r.behind in
        let e = own_counts x in
        omega arith

    block_inner : (x : ℕ) → under n up x v ≡ true →
        (length r.before < place n up x) × (place n up x ≤ length r.before + size n up v)
    unfolding own spot
    block_inner x u =
        let g = (under_parts n up grows x v u).0 in
        let a = parts_count x g in
        let b = ap bit u in
        let c = own_counts x in
        let inside = occurs_from_count x own (omega arith) in
        let before = absent_from_count x r.before (omega arith) in
        let d = position_right x r.before (own ++ r.behind) before
        (occurs_append x own r.behind ∙ or_left _ _ inside) in
        let e = position_left x own r.behind inside in
        let f = position_bounds x own inside in
        let l = length_own in
        let s = ap (position x) r.cut in
        let t = spot_vertex x g in
        (omega arith, omega arith)

    block_outer : (x : ℕ) → Vertex n x → length r.before < place n up x →
        place n up x ≤ length r.before + size n up v → under n up x v ≡ true
    unfolding own spot
    block_outer x g low high = true_from_ne_false _ (λ u.
        let s = ap (position x) r.cut in
        let t = spot_vertex x g in
        elim (cases_Bool (occurs x r.before)) [
          | inl o ↦
              omega (arith, position_left x r.before (own ++ r.behind) o, position_bounds x r.before o)
          | inr o ↦
              let a = parts_count x g in
              let b = ap bit u in
              let c = own_counts x in
              let d = occurs_uncounted x r.before o in
              let absent = absent_from_count x own (omega arith) in
              let behind = occurs_from_count x r.behind (omega arith) in
              let e = position_right x own r.behind absent behind in
              let f = position_right x r.before (own ++ r.behind) o
              (occurs_append x own r.behind ∙ or_right _ _ behind) in
              let i = position_bounds x r.behind behind in
              let l = length_own in
              omega arith
        ])

  pub block : (v : ℕ) → Vertex n v → Block v
  block v h =
      let r = cut_at n up grows v h.fits in
      record {
        start = length r.before;
        last = place_cut v h r;
        inner = block_inner v h r;
        outer = block_outer v h r;
      }

  in_above : (v c d : ℕ) → occurs d (above n up v c) ≡ true → Vertex n d × (up d ≡ v)
  unfolding above
  in_above v c d o =
      let (_, m) = and_parts _ _ (sym (keep_occurs (λ d. ltb c d) d (children n up v)) ∙ o) in
      in_children n up grows d v m

  -- between a vertex and its parent, or the end if it is a root, stand just the subtrees of its later siblings
  pub spot_parent : (c : ℕ) → Vertex n c →
      place n up c + sum (size n up) (above n up (up c) c) + 1 ≡ spot n up (up c)
  unfolding cut_child
  spot_parent c h =
      let r = among_at n up grows c h in
      let f = visit n up (suc r.fuel) in
      let behind = each f (above n up (up c) c) in
      let a = place_cut c h (cut_child n up grows c h r) in
      let b = spot_cut (up c) (grows.stays c h.named h.fits) r.before (f c ++ behind) r.behind
      (r.cut ∙ ap (◌++◌ r.before) (sym (append_assoc (f c) behind (up c ∷ r.behind)))) in
      let l = length-append (f c) behind in
      let e = length_visit n up grows (suc r.fuel) c h (r.deep c h refl) in
      let g : length behind ≡ sum (size n up) (above n up (up c) c) =
      length_is_sum behind ∙ sum_each (λ _. 1) f (above n up (up c) c)
      ∙ sum_same _ _ (above n up (up c) c) (λ d o.
      let (k, s) = in_above (up c) c d o in
      sym (length_is_sum (f d)) ∙ length_visit n up grows (suc r.fuel) d k (r.deep d k s)) in
      omega arith

  pub place_child : (c : ℕ) → Vertex n c → 1 ≤ up c →
      place n up c + sum (size n up) (above n up (up c) c) + 1 ≡ place n up (up c)
  place_child c h l =
      spot_parent c h ∙ spot_vertex (up c) (parent_vertex n up grows c h l)

  pub place_root : (c : ℕ) → Vertex n c → up c ≡ 0 → place n up c + sum (size n up) (above n up (up c) c) + 1 ≡ n + 1
  place_root c h e = let a = spot_parent c h in let b = ap (spot n up) e in let d = spot_none in omega arith

  -- the children of v above c are those above c + 1, and c + 1 if it is one
  pub above_step : (f : ℕ → ℕ) (v c : ℕ) → suc c ≤ n →
      sum f (above n up v c) ≡ sum f (above n up v (suc c)) + cond (eqb (up (suc c)) v) (f (suc c)) 0
  unfolding above children
  above_step f v c l =
      let g : ℕ → ℕ → ℕ = λ e x. cond (eqb (up x) v) (cond (ltb e x) (f x) 0) 0 in
      let flat : (e : ℕ) → sum f (above n up v e) ≡ sum (g e) (upto n) =
      λ e. sum_keep f (λ d. ltb e d) (children n up v)
      ∙ sum_keep (λ x. cond (ltb e x) (f x) 0) (λ x. eqb (up x) v) (upto n) in
      let own : ℕ → ℕ = λ x. cond (eqb (suc c) x) (cond (eqb (up x) v) (f x) 0) 0 in
      let a = flat c in
      let b = flat (suc c) in
      let d = sum_same (g c) (λ x. g (suc c) x + own x) (upto n) (λ x o. grind (arith, nat_tests)) in
      let e = sum_plus (g (suc c)) own (upto n) in
      let h = sum_at n (suc c) (λ x. cond (eqb (up x) v) (f x) 0) (omega arith) l in
      omega arith

  pub above_none : (v : ℕ) → above n up v n ≡ []
  unfolding above
  above_none v = keep_none (λ d. ltb n d) (children n up v) (λ d o.
      le-ltb n d (in_children n up grows d v o).0.fits)

  above_falls : (f : ℕ → ℕ) (v c e : ℕ) → c ≤ e → sum f (above n up v e) ≤ sum f (above n up v c)
  unfolding above
  above_falls f v c e l =
      let a = sum_keep f (λ d. ltb c d) (children n up v) in
      let b = sum_keep f (λ d. ltb e d) (children n up v) in
      let d = sum_grows (λ x. cond (ltb e x) (f x) 0) (λ x. cond (ltb c x) (f x) 0) (λ x. grind (arith, nat_tests))
      (children n up v) in
      omega arith

  -- between two siblings lies the whole subtree of the greater
  pub siblings : (c d : ℕ) → Vertex n c → Vertex n d → c < d → up c ≡ up d →
      place n up c + size n up d ≤ place n up d
  siblings c zero h g l e = absurd (omega arith)
  siblings c (suc d) h g l e =
      let a = spot_parent c h in
      let b = spot_parent (suc d) g in
      let i = above_step (size n up) (up (suc d)) d g.fits in
      let j = above_falls (size n up) (up (suc d)) c d (omega arith) in
      let k = ap (λ v. sum (size n up) (above n up v c)) e in
      let m = ap (spot n up) e in
      let o = cond-true _ (size n up (suc d)) 0 (eq-eqb (up (suc d)) (up (suc d)) refl) in
      omega arith

  pub size_positive : (v : ℕ) → Vertex n v → 1 ≤ size n up v
  size_positive v h = let a = size_by_children n up grows v h in omega arith

  -- a parent stands after its children
  pub place_rises : (c : ℕ) → Vertex n c → 1 ≤ up c → place n up c < place n up (up c)
  place_rises c h l = let a = place_child c h l in omega arith

  -- places and the walk
  pub at_place_vertex : (k : ℕ) → 1 ≤ k → k ≤ n → Vertex n (at_place n up k)
  unfolding at_place
  at_place_vertex k low high =
      in_walk n up grows _ (occurs_get_or (walk n up) (k - 1) 0 (let l = length_walk n up grows in omega arith))

  pub place_at : (k : ℕ) → 1 ≤ k → k ≤ n → place n up (at_place n up k) ≡ k
  unfolding at_place place
  place_at k low high =
      let l = length_walk n up grows in
      let h = at_place_vertex k low high in
      let o = walk_once n up grows (get_or (walk n up) (k - 1) 0) (unfold at_place in h) in
      let a = position_get_or (walk n up) (k - 1) 0 (omega arith) (omega arith) in
      omega arith

  pub place_apart : (v w : ℕ) → Vertex n v → Vertex n w → place n up v ≡ place n up w → v ≡ w
  place_apart v w h g e =
      let a = block v h in
      let b = block w g in
      let c = a.last in
      let d = b.last in
      let i = size_positive v h in
      let j = size_positive w g in
      let k = under_le n up grows w v (a.outer w g (omega arith) (omega arith)) in
      let m = under_le n up grows v w (b.outer v h (omega arith) (omega arith)) in
      omega arith

  pub at_place_of : (v : ℕ) → Vertex n v → at_place n up (place n up v) ≡ v
  at_place_of v h =
      let b = place_bounds v h in
      place_apart _ v (at_place_vertex _ b.0 b.1) h (place_at _ b.0 b.1)

  pub each_once : EachOnce n up
  unfolding times
  each_once = record {
    long = length_walk n up grows;
    once = λ v low high.
        count_is_sum (λ x. eqb x v) (walk n up) ∙ walk_once n up grows v (record { named = low; fits = high });
    placed = λ v low high. place_bounds v (record { named = low; fits = high });
    apart = λ v w a b c d. place_apart v w (record { named = a; fits = b }) (record { named = c; fits = d });
    stands = λ k low high. let h = at_place_vertex k low high in (h.named, h.fits);
    reached = place_at;
  }

  in_subtree : (x v : ℕ) → occurs x (subtree n up v) ≡ true → under n up x v ≡ true
  unfolding subtree
  in_subtree x v o = (in_keep n (λ x. under n up x v) x o).0

  on_subtree : (x v : ℕ) → under n up x v ≡ true → occurs x (subtree n up v) ≡ true
  unfolding subtree
  on_subtree x v u =
      keep_has n (λ x. under n up x v) x u (under_parts n up grows x v u).0

  -- the first place: the block's first
  first_block : (v : ℕ) → Vertex n v → (b : Block v) → first_place n up v ≡ suc b.start
  unfolding first_place
  first_block v h b =
      let p = place_bounds v h in
      let l = b.last in
      let s = size_positive v h in
      let y = at_place n up (suc b.start) in
      let g = at_place_vertex (suc b.start) (omega arith) (omega arith) in
      let e = place_at (suc b.start) (omega arith) (omega arith) in
      let u = b.outer y g (omega arith) (omega arith) in
      let low = least_ge n (place n up) (subtree n up v) (suc b.start) (omega arith)
      (λ x o. (b.inner x (in_subtree x v o)).0) in
      let high = least_le n (place n up) (subtree n up v) y (on_subtree y v u) in
      omega arith

  pub first_size : (v : ℕ) → Vertex n v → first_place n up v + size n up v ≡ place n up v + 1
  first_size v h = let b = block v h in let f = first_block v h b in let l = b.last in omega arith

  pub interval : (v : ℕ) → Vertex n v → Interval n up v
  interval v h =
      let b = block v h in
      let f = first_block v h b in
      let l = b.last in
      let s = size_positive v h in
      record {
        exactly = λ x low high. (
          λ u. let i = b.inner x u in (omega arith, omega arith),
          λ i. b.outer x (record { named = low; fits = high }) (omega arith) (omega arith),
        );
        begins = omega arith;
        as_long = omega arith;
      }

  -- the height: how far the deepest of the subtree lies below
  pub height_reaches : (v : ℕ) → Vertex n v →
      level n up v + height n up v ≡ greatest (level n up) (subtree n up v)
  unfolding height
  height_reaches v h =
      let a = greatest_ge (level n up) (subtree n up v) v (on_subtree v v (under_self n up grows v h)) in omega arith

pub ascend : SiblingsAscend
ascend n up grows c d low less high same =
    let h : Vertex n c = record { named = low; fits = omega arith } in
    let g : Vertex n d = record { named = omega arith; fits = high } in
    let a = siblings n up grows c d h g less same in
    let b = size_positive n up grows d g in
    let f = first_size n up grows d g in
    (omega arith, omega arith)
