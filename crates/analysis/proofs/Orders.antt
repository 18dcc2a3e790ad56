-- The steps of the walk down, from n to 1: a level, a place and a note of it, with what they come to.
use Rattle.std.proofs.Common.{◌≡◌, ℕ, zero, suc, ◌+◌, ◌-◌, ◌<◌, ◌≤◌, cond, eqb, ltb, ◌≢◌, List, length, set, sym, refl, ap, ◌∙◌, subst, inl, inr, arith}
use Rattle.std.proofs.lemmas.Bool.{cases_eq, cond-true, cond-false, eq-eqb, ne_eqb, le-ltb}
use Rattle.std.proofs.lemmas.List.{length-set}
use Rattle.pattern.specs.Lists.{sum}
use Rattle.pattern.specs.Patterns.{Pattern}
use Rattle.pattern.specs.Elimination.{parent}
use Rattle.pattern.specs.Forest.{Grows, children, level, place, first_place, height}
use Rattle.pattern.specs.Walks.{size, at_place}
use Rattle.pattern.proofs.Tests as math
use Rattle.pattern.proofs.Lists.{keep_none}
use Rattle.pattern.proofs.Walk.{above}
use Rattle.pattern.proofs.Forest.{in_children, level_root, level_child}
use Rattle.pattern.proofs.Places.{
  spot,
  spot_vertex,
  spot_none,
  spot_parent,
  above_step,
  above_none,
  place_bounds,
  place_apart,
  place_at,
  at_place_vertex,
  first_size,
  interval,
  height_reaches,
}
use Rattle.pattern.proofs.Agree.{
  level_agrees,
  place_agrees,
  at_place_agrees,
  first_place_agrees,
  height_agrees,
}
use Rattle.analysis.specs.declared.records.Vertex.{Vertex}
use Rattle.analysis.specs.Tables.{vertex, parent_of, with_last, with_at}
use Rattle.analysis.specs.Tables.{level_from, place_from, at_from, Only}
use Rattle.analysis.specs.Order.{level_below, on_level, levelled, size_in, next_place, at_its_place, placed_at}
use Rattle.analysis.specs.Order.{freed_to, taken, free_after, noted, Ordered, OrderedAs}
use Rattle.analysis.proofs.Changes.{vertex_same, vertex_other, level_takes, place_takes, at_takes, only_set, only_then}
use Rattle.analysis.proofs.Passes.{Past, past_still, past_more}

-- One place is taken: what the table then holds.
module _ (vs : List Vertex) (free x : ℕ) (from : 1 ≤ x) (to : x ≤ length vs) (apart : parent_of vs x ≢ x)
    (high : parent_of vs x ≤ length vs) where
  abbrev mine : ℕ
  mine = next_place vs free (parent_of vs x)

  abbrev own : Vertex
  own = at_its_place (vertex vs x) mine

  abbrev left : ℕ
  left = mine - size_in (vertex vs x)

  root : parent_of vs x ≡ 0 → taken vs free x ≡ placed_at vs x mine
  root z = cond-true _ _ _ (eq-eqb (parent_of vs x) 0 z)

  child : parent_of vs x ≢ 0 → taken vs free x ≡ freed_to (placed_at vs x mine) (parent_of vs x) left
  child ne = cond-false _ _ _ (ne_eqb (parent_of vs x) 0 ne)

  pub taken_only : Only place_from vs (taken vs free x)
  taken_only =
      let one = only_set place_takes vs (x - 1) own (placed_at vs x mine) refl refl in
      elim (cases_eq (parent_of vs x) 0) [
        | inl z ↦ subst (Only place_from vs) (sym (root z)) one
        | inr ne ↦
            let two = only_set place_takes (placed_at vs x mine) (parent_of vs x - 1)
            (with_last (vertex (placed_at vs x mine) (parent_of vs x)) left)
            (freed_to (placed_at vs x mine) (parent_of vs x) left) refl refl in
            subst (Only place_from vs) (sym (child ne)) (only_then place_takes _ _ _ one two)
      ]

  pub taken_own : vertex (taken vs free x) x ≡ own
  taken_own =
      elim (cases_eq (parent_of vs x) 0) [
        | inl z ↦ ap (λ t. vertex t x) (root z) ∙ vertex_same vs x own from to
        | inr ne ↦
            ap (λ t. vertex t x) (child ne)
            ∙ vertex_other (placed_at vs x mine) (parent_of vs x) x _ (omega arith) from (λ e. apart (sym e))
            ∙ vertex_same vs x own from to
      ]

  pub taken_other : (w : ℕ) → 1 ≤ w → w ≢ x → w ≢ parent_of vs x → vertex (taken vs free x) w ≡ vertex vs w
  taken_other w p ne off =
      elim (cases_eq (parent_of vs x) 0) [
        | inl z ↦ ap (λ t. vertex t w) (root z) ∙ vertex_other vs x w own from p ne
        | inr some ↦
            ap (λ t. vertex t w) (child some)
            ∙ vertex_other (placed_at vs x mine) (parent_of vs x) w _ (omega arith) p off
            ∙ vertex_other vs x w own from p ne
      ]

  pub taken_parent : 1 ≤ parent_of vs x →
      vertex (taken vs free x) (parent_of vs x) ≡ with_last (vertex vs (parent_of vs x)) left
  taken_parent some =
      let l = length-set vs (x - 1) own in
      ap (λ t. vertex t (parent_of vs x)) (child (λ z. omega arith))
      ∙ vertex_same (placed_at vs x mine) (parent_of vs x) _ some (omega arith)
      ∙ ap (λ y. with_last y left) (vertex_other vs x (parent_of vs x) own from some apart)

  -- in the other records all stays but the next place
  pub taken_field : {A : Type 0} (field : Vertex → A) → ((y : Vertex) (l : ℕ) → field (with_last y l) ≡ field y) →
      (w : ℕ) → 1 ≤ w → w ≢ x → field (vertex (taken vs free x) w) ≡ field (vertex vs w)
  taken_field field stays w p ne =
      elim (cases_eq w (parent_of vs x)) [
        | inl i ↦
            ap (λ y. field (vertex (taken vs free x) y)) i
            ∙ ap field (taken_parent (omega arith))
            ∙ stays _ _
            ∙ ap (λ y. field (vertex vs y)) (sym i)
        | inr off ↦ ap field (taken_other w p ne off)
      ]

  -- of the next places, just the parent's falls, by the size
  pub taken_next : (w : ℕ) → w ≢ x → next_place (taken vs free x) (free_after vs free x) w
      ≡ cond (eqb (parent_of vs x) w) (next_place vs free w - size_in (vertex vs x)) (next_place vs free w)
  taken_next w ne =
      elim (cases_eq w 0) [
        | inl z ↦ subst (λ w. next_place (taken vs free x) (free_after vs free x) w
            ≡ cond (eqb (parent_of vs x) w) (next_place vs free w - size_in (vertex vs x)) (next_place vs free w))
            (sym z) refl
        | inr some ↦
            cond-false _ _ _ (ne_eqb w 0 some)
            ∙ elim (cases_eq w (parent_of vs x)) [
              | inl i ↦
                  ap (λ y. (vertex (taken vs free x) y).last) i
                  ∙ ap (λ y. y.last) (taken_parent (omega arith))
                  ∙ ap (λ y. next_place vs free y - size_in (vertex vs x)) (sym i)
                  ∙ sym (cond-true _ _ _ (eq-eqb (parent_of vs x) w (sym i)))
              | inr off ↦
                  ap (λ y. y.last) (taken_other w (omega arith) ne off)
                  ∙ sym (cond-false _ _ _ (ne_eqb w 0 some))
                  ∙ sym (cond-false _ _ _ (ne_eqb (parent_of vs x) w (λ e. off (sym e))))
            ]
      ]

-- The vertices past c have their levels, with which the greatest in their subtrees begin.
pub record LevelsPast (n : ℕ) (up : ℕ → ℕ) (c : ℕ) (vs : List Vertex) : Type 0 where
  pub levels : Past n c (λ x. x.level) (level n up) vs
  pub depths : Past n c (λ x. x.deepest.0) (level n up) vs

-- The vertices past c have their places, with which the least in their subtrees begin. Each of them, and the roots, has
-- the next place for a child up to c: the places after it are those of the children past c.
pub record PlacesPast (n : ℕ) (up : ℕ → ℕ) (c free : ℕ) (vs : List Vertex) : Type 0 where
  pub places : Past n c (λ x. x.place) (place n up) vs
  pub firsts : Past n c (λ x. x.first.0) (place n up) vs
  pub next : (w : ℕ) → (1 ≤ w → c < w) → w ≤ n →
      next_place vs free w + sum (size n up) (above n up w c) + 1 ≡ spot n up w

-- the vertices past c are noted at their places
abbrev pub NotedPast : ℕ → (ℕ → ℕ) → ℕ → List Vertex → Type 0
NotedPast n up c vs = (w : ℕ) → c < w → w ≤ n → (vertex vs (place n up w)).at ≡ w

-- a change of other fields leaves them
pub levels_still : (mix : Vertex → Vertex → Vertex) → ((x y : Vertex) → level_from x (mix x y) ≡ x) →
    {n : ℕ} {up : ℕ → ℕ} {c : ℕ} {vs ws : List Vertex} →
    Only mix vs ws → LevelsPast n up c vs → LevelsPast n up c ws
levels_still mix stays {n} {up} {c} {vs} {ws} only past = record {
  levels = past_still n c vs ws (λ x. x.level) _ past.levels mix (λ x y. ap (λ z. z.level) (stays x y)) only;
  depths = past_still n c vs ws (λ x. x.deepest.0) _ past.depths mix (λ x y. ap (λ z. z.deepest.0) (stays x y)) only;
}

pub places_still : (mix : Vertex → Vertex → Vertex) → ((x y : Vertex) → place_from x (mix x y) ≡ x) →
    {n : ℕ} {up : ℕ → ℕ} {c free : ℕ} {vs ws : List Vertex} →
    Only mix vs ws → PlacesPast n up c free vs → PlacesPast n up c free ws
places_still mix stays {n} {up} {c} {free} {vs} {ws} only past = record {
  places = past_still n c vs ws (λ x. x.place) _ past.places mix (λ x y. ap (λ z. z.place) (stays x y)) only;
  firsts = past_still n c vs ws (λ x. x.first.0) _ past.firsts mix (λ x y. ap (λ z. z.first.0) (stays x y)) only;
  next = λ w p q.
      let last : (vertex ws w).last ≡ (vertex vs w).last = ap (λ x. x.last) (only w) ∙ ap (λ z. z.last) (stays _ _) in
      ap (λ l. cond (eqb w 0) free l + sum (size n up) (above n up w c) + 1) last ∙ past.next w p q;
}

pub noted_still : (mix : Vertex → Vertex → Vertex) → ((x y : Vertex) → (mix x y).at ≡ x.at) →
    (n : ℕ) (up : ℕ → ℕ) (c : ℕ) (vs ws : List Vertex) → Only mix vs ws → NotedPast n up c vs → NotedPast n up c ws
noted_still mix stays n up c vs ws only past w p q =
    ap (λ x. x.at) (only (place n up w)) ∙ stays _ _ ∙ past w p q

module _ (n : ℕ) (up : ℕ → ℕ) (grows : Grows n up) where
  pub levels_begin : (vs : List Vertex) → LevelsPast n up n vs
  levels_begin vs = record { levels = λ w p q. absurd (omega arith); depths = λ w p q. absurd (omega arith) }

  pub places_begin : (vs : List Vertex) → PlacesPast n up n n vs
  unfolding sum
  places_begin vs =
      record {
        places = λ w p q. absurd (omega arith);
        firsts = λ w p q. absurd (omega arith);
        next = λ w p q.
            let none : n + sum (size n up) (above n up 0 n) + 1 ≡ spot n up 0 =
            let a = ap (sum (size n up)) (above_none n up grows 0) in let b = spot_none n up grows in omega arith in
            elim (cases_eq w 0) [
              | inl z ↦
                  subst (λ w. next_place vs n w + sum (size n up) (above n up w n) + 1 ≡ spot n up w) (sym z) none
              | inr some ↦ absurd (let l = p (omega arith) in omega arith)
            ];
      }

  -- the children above x - 1
  above_from : (f : ℕ → ℕ) (v x : ℕ) → 1 ≤ x → x ≤ n →
      sum f (above n up v (x - 1)) ≡ sum f (above n up v x) + cond (eqb (up x) v) (f x) 0
  above_from f v zero p q = absurd (omega arith)
  above_from f v (suc c) p q =
      let e : suc c - 1 ≡ c = omega arith in
      ap (λ k. sum f (above n up v k)) e ∙ above_step n up grows f v c q

  -- no child stands past its parent
  above_own : (f : ℕ → ℕ) (x c : ℕ) → 1 ≤ x → x ≤ c + 1 → sum f (above n up x c) ≡ 0
  unfolding above sum
  above_own f x c some h =
      ap (sum f) (keep_none (λ d. ltb c d) (children n up x) (λ d o.
      let (k, e) = in_children n up grows d x o in
      let r = grows.rises d k.named k.fits (omega arith) in
      le-ltb c d (omega arith)))

  module _ (x free : ℕ) (vs : List Vertex) (from : 1 ≤ x) (to : x ≤ n) (past : PlacesPast n up x free vs) where
    here : math.Vertex n x
    here = record { named = from; fits = to }

    -- the next place under the parent is the right one
    pub next_is : next_place vs free (up x) ≡ place n up x
    unfolding here
    next_is =
        let a = past.next (up x) (grows.rises x from to) (grows.stays x from to) in
        let b = spot_parent n up grows x here in
        omega arith

    pub room : (1 ≤ place n up x) × (size n up x ≤ place n up x)
    unfolding here
    room =
        let a = (place_bounds n up grows x here).0 in
        let b = first_size n up grows x here in
        let c = (interval n up grows x here).begins in
        (a, omega arith)

    module _ (long : n ≤ length vs) (parents : parent_of vs ≡ up) (sized : size_in (vertex vs x) ≡ size n up x)
        (ws : List Vertex) (after : ℕ) (is : ws ≡ taken vs free x) (left : after ≡ free_after vs free x) where
      parent_is : parent_of vs x ≡ up x
      parent_is = ap (λ f. f x) parents

      high : parent_of vs x ≤ length vs
      high = let e = parent_is in let s = grows.stays x from to in omega arith

      apart : parent_of vs x ≢ x
      apart i = let e = parent_is in let r = grows.rises x from to (omega arith) in omega arith

      mine_is : next_place vs free (parent_of vs x) ≡ place n up x
      mine_is = ap (next_place vs free) parent_is ∙ next_is

      place_only : Only place_from vs ws
      place_only = subst (Only place_from vs) (sym is) (taken_only vs free x from (omega arith) apart high)

      own_is : vertex ws x ≡ at_its_place (vertex vs x) (place n up x)
      own_is =
          ap (λ t. vertex t x) is ∙ taken_own vs free x from (omega arith) apart high
          ∙ ap (at_its_place (vertex vs x)) mine_is

      next_other : (w : ℕ) → w ≢ x → next_place ws after w
          ≡ cond (eqb (up x) w) (next_place vs free w - size n up x) (next_place vs free w)
      next_other w ne =
          ap (λ t. next_place t after w) is ∙ ap (λ f. next_place (taken vs free x) f w) left
          ∙ taken_next vs free x from (omega arith) apart high w ne
          ∙ ap (λ u. cond (eqb u w) (next_place vs free w - size_in (vertex vs x)) (next_place vs free w)) parent_is
          ∙ ap (λ s. cond (eqb (up x) w) (next_place vs free w - s) (next_place vs free w)) sized

      next_own : next_place ws after x + sum (size n up) (above n up x (x - 1)) + 1 ≡ spot n up x
      unfolding here
      next_own =
          let a : next_place ws after x ≡ place n up x - 1 =
          cond-false _ _ _ (ne_eqb x 0 (λ z. omega arith)) ∙ ap (λ y. y.last) own_is in
          let b = above_own (size n up) x (x - 1) from (omega arith) in
          let r = room.0 in
          let s = spot_vertex n up grows x here in
          omega arith

      next_more : (w : ℕ) → w ≢ x → (1 ≤ w → x < w) → w ≤ n →
          next_place ws after w + sum (size n up) (above n up w (x - 1)) + 1 ≡ spot n up w
      next_more w ne p q =
          let a = next_other w ne in
          let b = above_from (size n up) w x from to in
          let old = past.next w p q in
          elim (cases_eq (up x) w) [
            | inl i ↦
                let t = eq-eqb (up x) w i in
                let c = cond-true _ (next_place vs free w - size n up x) (next_place vs free w) t in
                let d = cond-true _ (size n up x) 0 t in
                let r = room.1 in
                let m = next_is in
                let e = ap (next_place vs free) i in
                omega arith
            | inr off ↦
                let t = ne_eqb (up x) w off in
                let c = cond-false _ (next_place vs free w - size n up x) (next_place vs free w) t in
                let d = cond-false _ (size n up x) 0 t in
                omega arith
          ]

      others : {A : Type 0} (field : Vertex → A) → ((y : Vertex) (l : ℕ) → field (with_last y l) ≡ field y) →
          (w : ℕ) → 1 ≤ w → w ≢ x → field (vertex ws w) ≡ field (vertex vs w)
      others field stays w p ne =
          ap (λ t. field (vertex t w)) is ∙ taken_field vs free x from (omega arith) apart high field stays w p ne

      places_more : PlacesPast n up (x - 1) after ws
      places_more =
          record {
            places = past_more n x vs ws (λ y. y.place) _ past.places (others (λ y. y.place) (λ _ _. refl))
                (ap (λ y. y.place) own_is);
            firsts = past_more n x vs ws (λ y. y.first.0) _ past.firsts (others (λ y. y.first.0) (λ _ _. refl))
                (ap (λ y. y.first.0) own_is);
            next = λ w p q. elim (cases_eq w x) [
              | inl i ↦ subst (λ y. next_place ws after y + sum (size n up) (above n up y (x - 1)) + 1 ≡ spot n up y)
                  (sym i) next_own
              | inr ne ↦ next_more w ne (λ some. let l = p some in omega arith) q
            ];
          }

      pub place_step : PlacesPast n up (x - 1) after ws × Only place_from vs ws
      place_step = (places_more, place_only)

  -- a level more: the parent stands past v, so it has its own
  module _ (v : ℕ) (vs ws : List Vertex) (from : 1 ≤ v) (to : v ≤ n) (long : n ≤ length vs)
      (parents : parent_of vs ≡ up) (is : ws ≡ levelled vs v) where
    abbrev own_level : Vertex
    own_level = on_level (vertex vs v) (level_below vs v)

    below_is : Past n v (λ x. x.level) (level n up) vs → level_below vs v ≡ level n up v
    below_is past =
        let h : math.Vertex n v = record { named = from; fits = to } in
        ap (λ f. cond (eqb (f v) 0) 0 ((vertex vs (f v)).level + 1)) parents
        ∙ elim (cases_eq (up v) 0) [
          | inl z ↦ cond-true _ _ _ (eq-eqb (up v) 0 z) ∙ sym (level_root n up grows v h z)
          | inr ne ↦
              let r = grows.rises v from to (omega arith) in
              cond-false _ _ _ (ne_eqb (up v) 0 ne)
              ∙ ap (λ l. l + 1) (past (up v) (omega arith) (grows.stays v from to))
              ∙ sym (level_child n up grows v h (omega arith))
        ]

    level_others : (w : ℕ) → 1 ≤ w → w ≢ v → vertex ws w ≡ vertex vs w
    level_others w p ne = ap (λ t. vertex t w) is ∙ vertex_other vs v w own_level from p ne

    level_own : vertex ws v ≡ own_level
    level_own = ap (λ t. vertex t v) is ∙ vertex_same vs v own_level from (omega arith)

    pub level_step : LevelsPast n up v vs → LevelsPast n up (v - 1) ws × Only level_from vs ws
    level_step past = (
      record {
        levels = past_more n v vs ws (λ x. x.level) _ past.levels
            (λ w p ne. ap (λ x. x.level) (level_others w p ne))
            (ap (λ x. x.level) level_own ∙ below_is past.levels);
        depths = past_more n v vs ws (λ x. x.deepest.0) _ past.depths
            (λ w p ne. ap (λ x. x.deepest.0) (level_others w p ne))
            (ap (λ x. x.deepest.0) level_own ∙ below_is past.levels);
      },
      only_set level_takes vs (v - 1) own_level ws refl is,
    )

  -- a note more: each vertex past v, and then v, is noted at its place
  module _ (v : ℕ) (vs ws : List Vertex) (from : 1 ≤ v) (to : v ≤ n) (long : n ≤ length vs)
      (placed : (vertex vs v).place ≡ place n up v) (is : ws ≡ noted vs v) where
    abbrev marked : Vertex
    marked = with_at (vertex vs (place n up v)) v

    spotted : ws ≡ set vs (place n up v - 1) marked
    spotted = is ∙ ap (λ k. set vs (k - 1) (with_at (vertex vs k) v)) placed

    this : math.Vertex n v
    this = record { named = from; fits = to }

    noted_more : NotedPast n up v vs → NotedPast n up (v - 1) ws
    unfolding this
    noted_more past w p q =
        let (low, high) = place_bounds n up grows v this in
        elim (cases_eq w v) [
          | inl i ↦
              ap (λ y. (vertex ws (place n up y)).at) i
              ∙ ap (λ t. (vertex t (place n up v)).at) spotted
              ∙ ap (λ y. y.at) (vertex_same vs (place n up v) _ low (omega arith)) ∙ sym i
          | inr ne ↦
              let h : math.Vertex n w = record { named = omega arith; fits = q } in
              ap (λ t. (vertex t (place n up w)).at) spotted
              ∙ ap (λ y. y.at) (vertex_other vs (place n up v) (place n up w) _ low (place_bounds n up grows w h).0
              (λ e. ne (place_apart n up grows w v h this e)))
              ∙ past w (omega arith) q
        ]

    pub note_step : NotedPast n up v vs → NotedPast n up (v - 1) ws × Only at_from vs ws
    note_step past = (noted_more past, only_set at_takes vs (place n up v - 1) marked ws refl spotted)

  pub walk_whole : (vs : List Vertex) → NotedPast n up 0 vs →
      (k : ℕ) → 1 ≤ k → k ≤ n → (vertex vs k).at ≡ at_place n up k
  walk_whole vs each k p q =
      let h = at_place_vertex n up grows k p q in
      ap (λ j. (vertex vs j).at) (sym (place_at n up grows k p q)) ∙ each (at_place n up k) h.named h.fits

  -- the parents of a pattern make its elimination tree
  pub in_order_as : (vs : List Vertex) → Ordered n up vs → (p : Pattern) → n ≡ p.order →
      ((v : ℕ) → 1 ≤ v → v ≤ n → up v ≡ parent p v) → OrderedAs p vs
  in_order_as vs o p order same =
      record {
        levels = λ v a b.
            o.levels v a (omega arith) ∙ level_agrees n up (parent p) same v ∙ ap (λ m. level m (parent p) v) order;
        places = λ v a b.
            o.places v a (omega arith) ∙ place_agrees n up (parent p) same v ∙ ap (λ m. place m (parent p) v) order;
        walk = λ k a b.
            o.walk k a (omega arith) ∙ at_place_agrees n up (parent p) same k
            ∙ ap (λ m. at_place m (parent p) k) order;
        firsts = λ v a b.
            o.firsts v a (omega arith) ∙ first_place_agrees n up (parent p) same v
            ∙ ap (λ m. first_place m (parent p) v) order;
        heights = λ v a b.
            let h : math.Vertex n v = record { named = a; fits = omega arith } in
            let l = o.levels v a (omega arith) in
            let d = o.depths v a (omega arith) in
            let r = height_reaches n up grows v h in
            let e = height_agrees n up (parent p) same v ∙ ap (λ m. height m (parent p) v) order in
            omega arith;
      }
