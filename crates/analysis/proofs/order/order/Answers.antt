use Rattle.std.proofs.Common.{◌≡◌, ℕ, length, refl, subst, arith}
use Rattle.pattern.specs.Forest.{level, place}
use Rattle.pattern.specs.Walks.{at_place}
use Rattle.analysis.specs.declared.records.Vertex.{Vertex}
use Rattle.analysis.specs.Tables.{parent_of, weight_from, walk_from, reach_from, order_from}
use Rattle.analysis.specs.Order.{Holds, Ordered}
use Rattle.analysis.proofs.Changes.{at_equal, order_takes, only_then, only_more, same_parents}
use Rattle.analysis.proofs.Passes.{forest_after, holds_still}
use Rattle.analysis.proofs.Orders.{in_order_as}
use Rattle.analysis.proofs.order.order.Goals as goal

pub walk_down-requires : goal.walk_down-requires
walk_down-requires c = record {
  forest = forest_after weight_from (λ _ _. refl) _ _ c.sizes.ensures.only (omega arith) c.requires.forest;
  sizes = c.sizes.ensures.sizes;
}

pub reach-requires : goal.reach-requires
reach-requires c =
    let forest = forest_after weight_from (λ _ _. refl) _ _ c.sizes.ensures.only (omega arith) c.requires.forest in
    record {
      forest = forest_after walk_from (λ _ _. refl) _ _ c.walk_down.ensures.only (omega arith) forest;
      begun = c.walk_down.ensures.begun;
    }

pub returns : goal.returns
returns c =
    let n = length c.args.vertices.now in
    let walked = c.walk_down.ensures in
    let reached = c.reach.ensures in
    let vs = c.reach.new.vertices in
    let still : (field : Vertex → ℕ) (f : ℕ → (ℕ → ℕ) → ℕ → ℕ) → ((x y : Vertex) → field (reach_from x y) ≡ field x) →
    Holds (length c.walk_down.new.vertices) field f c.walk_down.new.vertices → Holds (length vs) field f vs =
    holds_still reach_from (λ _ _. refl) _ _ reached.only (omega arith) in
    let own : Ordered (length vs) (parent_of vs) vs = record {
      levels = still (λ x. x.level) level (λ _ _. refl) walked.levels;
      places = still (λ x. x.place) place (λ _ _. refl) walked.places;
      walk = still (λ x. x.at) at_place (λ _ _. refl) walked.walk;
      firsts = reached.firsts;
      depths = reached.depths;
    } in
    let whole = only_then order_takes _ _ _
    (only_then order_takes _ _ _
    (only_more weight_from order_from (λ _ _. refl) _ _ c.sizes.ensures.only)
    (only_more walk_from order_from (λ _ _. refl) _ _ walked.only))
    (only_more reach_from order_from (λ _ _. refl) _ _ reached.only) in
    let ordered : Ordered n (parent_of c.args.vertices.now) vs =
    at_equal (λ m up. Ordered m up vs)
    (subst (λ up. Ordered (length vs) up vs) (same_parents order_from (λ _ _. refl) _ _ whole) own)
    (omega arith) in
    record {
      ordered = ordered;
      answers = λ p h. in_order_as n _ c.requires.forest.grows _ ordered p h.order h.parents;
      only = whole;
    }
