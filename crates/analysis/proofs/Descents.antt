-- The walk down from a table `bs`: how far its levels, its places and its notes are, and the three steps of a turn.
use Rattle.std.proofs.Common.{◌≡◌, ℕ, ◌-◌, ◌<◌, ◌≤◌, List, length, pos, nat_abs, sym, refl, ap, ◌∙◌, arith}
use Rattle.pattern.specs.Forest.{level, place}
use Rattle.pattern.specs.Walks.{size, at_place}
use Rattle.pattern.proofs.Forest.{level_bound, size_bound}
use Rattle.pattern.proofs.Places.{place_bounds}
use Rattle.analysis.specs.declared.records.Vertex.{Vertex}
use Rattle.analysis.specs.Tables.{vertex, parent_of, Only, level_from, place_from, at_from, walk_from}
use Rattle.analysis.specs.Order.{Forest, levelled, size_in, next_place, taken, free_after, noted}
use Rattle.analysis.specs.Order.{Levelled, Sized, Placed, Walked, ReachBegun}
use Rattle.analysis.proofs.Changes.{walk_takes, only_none, only_then, only_more, same_parents}
use Rattle.analysis.proofs.Passes.{holds_after}
use Rattle.analysis.proofs.Orders.{LevelsPast, PlacesPast, NotedPast, levels_still, places_still, noted_still}
use Rattle.analysis.proofs.Orders.{levels_begin, places_begin, room, next_is, level_step, place_step, note_step}
use Rattle.analysis.proofs.Orders.{walk_whole}

-- the vertices past a have their levels, those past b their places, and those past c are noted
pub record Down (bs : List Vertex) (a b c free : ℕ) (vs : List Vertex) : Type 0 where
  pub levels : LevelsPast (length bs) (parent_of bs) a vs
  pub places : PlacesPast (length bs) (parent_of bs) b free vs
  pub notes : NotedPast (length bs) (parent_of bs) c vs
  pub only : Only walk_from bs vs

module _ (bs : List Vertex) (forest : Forest bs) where
  abbrev n : ℕ
  n = length bs

  abbrev up : ℕ → ℕ
  up = parent_of bs

  pub down_begins : Down bs n n n n bs
  down_begins = record {
    levels = levels_begin n up forest.grows bs;
    places = places_begin n up forest.grows bs;
    notes = λ w p q. absurd (omega arith);
    only = only_none walk_takes bs;
  }

  module _ {a b c free : ℕ} {vs : List Vertex} (down : Down bs a b c free vs) where
    pub parents : parent_of vs ≡ up
    parents = same_parents walk_from (λ _ _. refl) bs vs down.only

    pub parent_within : (v : ℕ) → 1 ≤ v → v ≤ n → parent_of vs v ≤ n
    parent_within v p q = let e = ap (λ f. f v) parents in let s = forest.grows.stays v p q in omega arith

    also : (mix : Vertex → Vertex → Vertex) → ((x y : Vertex) → mix x y ≡ walk_from x (mix x y)) →
        (ws : List Vertex) → Only mix vs ws → Only walk_from bs ws
    also mix e ws more = only_then walk_takes bs vs ws down.only (only_more mix walk_from e vs ws more)

  module _ (v free : ℕ) (vs : List Vertex) (from : 1 ≤ v) (to : v ≤ n) (long : length vs ≡ n) where
    -- its parent has a level, and a small one
    pub parent_small : Down bs v v v free vs → 1 ≤ parent_of vs v → (vertex vs (parent_of vs v)).level < 16384
    parent_small down some =
        let few = forest.few in
        let e = ap (λ f. f v) (parents down) in
        let r = forest.grows.rises v from to (omega arith) in
        let s = forest.grows.stays v from to in
        let l = down.levels.levels (parent_of vs v) (omega arith) (omega arith) in
        let b = level_bound n up forest.grows (parent_of vs v) (omega arith) in
        omega arith

    pub level_taken : (ws : List Vertex) → Down bs v v v free vs → ws ≡ levelled vs v → Down bs (v - 1) v v free ws
    level_taken ws down is =
        let step = level_step n up forest.grows v vs ws from to (omega arith) (parents down) is down.levels in
        record {
          levels = step.0;
          places = places_still level_from (λ _ _. refl) step.1 down.places;
          notes = noted_still level_from (λ _ _. refl) n up v vs ws step.1 down.notes;
          only = also down level_from (λ _ _. refl) ws step.1;
        }

    module _ (sizes : Sized n bs) (down : Down bs (v - 1) v v free vs) where
      weighs : (vertex vs v).weight.0 ≡ pos (size n up v)
      weighs = ap (λ x. x.weight.0) (down.only v) ∙ sizes v from to

      sized : size_in (vertex vs v) ≡ size n up v
      sized = ap nat_abs weighs

      -- there is room for its subtree
      pub has_room : ((vertex vs v).weight.0 ≡ pos (size_in (vertex vs v))) × (size_in (vertex vs v) ≤ 16384) ×
          (1 ≤ next_place vs free (parent_of vs v)) ×
          (size_in (vertex vs v) ≤ next_place vs free (parent_of vs v))
      has_room =
          let s = sized in
          let few = forest.few in
          let b = size_bound n up forest.grows v in
          let m = ap (λ f. next_place vs free (f v)) (parents down)
          ∙ next_is n up forest.grows v free vs from to down.places in
          let r = room n up forest.grows v free vs from to down.places in
          (weighs ∙ ap pos (sym s), omega arith, omega (arith, r), omega (arith, r))

      pub place_taken : (ws : List Vertex) (after : ℕ) → ws ≡ taken vs free v → after ≡ free_after vs free v →
          Down bs (v - 1) (v - 1) v after ws
      place_taken ws after is left =
          let step = place_step n up forest.grows v free vs from to down.places (omega arith) (parents down) sized ws
          after is left in
          record {
            levels = levels_still place_from (λ _ _. refl) step.1 down.levels;
            places = step.0;
            notes = noted_still place_from (λ _ _. refl) n up v vs ws step.1 down.notes;
            only = also down place_from (λ _ _. refl) ws step.1;
          }

    module _ (down : Down bs (v - 1) (v - 1) v free vs) where
      place_is : (vertex vs v).place ≡ place n up v
      place_is = down.places.places v (omega arith) to

      pub place_within : (1 ≤ (vertex vs v).place) × ((vertex vs v).place ≤ n)
      place_within =
          let e = place_is in
          let b = place_bounds n up forest.grows v (record { named = from; fits = to }) in
          (omega (arith, b), omega (arith, b))

      pub note_taken : (ws : List Vertex) → ws ≡ noted vs v → Down bs (v - 1) (v - 1) (v - 1) free ws
      note_taken ws is =
          let step = note_step n up forest.grows v vs ws from to (omega arith) place_is is down.notes in
          record {
            levels = levels_still at_from (λ _ _. refl) step.1 down.levels;
            places = places_still at_from (λ _ _. refl) step.1 down.places;
            notes = step.0;
            only = also down at_from (λ _ _. refl) ws step.1;
          }

  -- at the end of the walk
  pub all_down : (free : ℕ) (ws : List Vertex) → length ws ≡ n → Down bs 0 0 0 free ws →
      record {
        levels : Levelled (length ws) ws;
        places : Placed (length ws) ws;
        walk : Walked (length ws) ws;
        begun : ReachBegun (length ws) ws;
        only : Only walk_from bs ws;
      }
  all_down free ws long down =
      let holds = holds_after walk_from (λ _ _. refl) bs ws down.only long in
      record {
        levels = holds (λ x. x.level) level (λ v p q. down.levels.levels v p q);
        places = holds (λ x. x.place) place (λ v p q. down.places.places v p q);
        walk = holds (λ x. x.at) at_place (walk_whole n up forest.grows ws down.notes);
        begun = record {
          places = holds (λ x. x.first.0) place (λ v p q. down.places.firsts v p q);
          levels = holds (λ x. x.deepest.0) level (λ v p q. down.levels.depths v p q);
        };
        only = down.only;
      }
