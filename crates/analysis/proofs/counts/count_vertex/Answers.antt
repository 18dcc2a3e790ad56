use Rattle.std.proofs.Common.{◌≡◌, ◌-◌, ◌∙◌, arith}
use Rattle.pattern.specs.Elimination.{parent}
use Rattle.analysis.specs.Tables.{parent_of}
use Rattle.analysis.specs.Growth.{pattern_in}
use Rattle.analysis.specs.Counts.{TopsAt, place_in}
use Rattle.analysis.proofs.CountedEvents.{ready_only, tops_same, tops_root, parent_apart, tops_merged}
use Rattle.analysis.proofs.counts.count_vertex.Given as given
use Rattle.analysis.proofs.counts.count_vertex.Goals as goal
use Rattle.analysis.proofs.counts.count_vertex.Goals.{After-count_neighbours}

-- once the neighbours are counted, the tops and the parent are as before
tops : (g : given.Over) (c : After-count_neighbours g) →
    TopsAt (pattern_in c.args.vertices.now c.args.entries.now)
    (place_in c.args.vertices.now c.args.entries.now c.args.x - 1)
    (g.S.AncestorSets.meaning c.count_neighbours.new.sets)
tops g c = tops_same _ _ _ _ c.count_neighbours.ensures.tops c.requires.before.tops

up : (g : given.Over) (c : After-count_neighbours g) →
    parent_of c.count_neighbours.new.vertices c.args.x
    ≡ parent (pattern_in c.args.vertices.now c.args.entries.now) c.args.x
up g c =
    let p = pattern_in c.args.vertices.now c.args.entries.now in
    let ready = ready_only p _ _ c.count_neighbours.ensures.only c.requires.prepared.tree in
    ready.parents _ c.requires.has.0 c.requires.has.1

pub unwrap-requires : goal.unwrap-requires
unwrap-requires g c =
    let a = (goal.at.unwrap-requires g c).After-count_neighbours in
    c.merge.ensures.accepted
    ∙ parent_apart _ _ c.requires.has.0 c.requires.has.1 _ (tops g a) _ (up g a) (omega arith)

pub returns-then-parent-ne0 : goal.returns-then-parent-ne0
returns-then-parent-ne0 g c =
    let a = (goal.at.returns-then-parent-ne0 g c).After-count_neighbours in
    let after = c.count_neighbours.ensures in
    record {
      passed = record {
        counting = after.counted;
        tops = tops_merged _ _ c.requires.has.0 c.requires.has.1 _ (tops g a) _ _ _ (up g a) (omega arith)
            c.merge.ensures;
      };
      only = after.only;
      size = c.merge.ensures.size ∙ after.tops.size;
    }

pub returns-else-parent-ne0 : goal.returns-else-parent-ne0
returns-else-parent-ne0 g c =
    let a = (goal.at.returns-else-parent-ne0 g c).After-count_neighbours in
    let after = c.count_neighbours.ensures in
    let root = up g a in
    record {
      passed = record {
        counting = after.counted;
        tops = tops_root _ _ c.requires.has.0 c.requires.has.1 _ (tops g a) (omega arith);
      };
      only = after.only;
      size = after.tops.size;
    }
