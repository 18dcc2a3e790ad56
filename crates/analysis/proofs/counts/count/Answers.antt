use Rattle.std.proofs.Common.{arith}
use Rattle.analysis.specs.Growth.{Fresh}
use Rattle.analysis.proofs.Changes.{at_equal, counts_takes, only_then}
use Rattle.analysis.proofs.CountedTables.{gathered_only}
use Rattle.analysis.proofs.CountedEvents.{prepared_only, prepared_forest, tops_first}
use Rattle.analysis.proofs.CountedEnds.{Begun, begun_prepared, taken_begun, counted_last}
use Rattle.analysis.proofs.counts.count.Given as given
use Rattle.analysis.proofs.counts.count.Goals as goal
use Rattle.analysis.proofs.counts.count.Goals.{After-take_children}

-- once the children are taken
begun : (g : given.Over) (c : After-take_children g) →
    Begun c.args.entries.now c.args.vertices.now c.take_children.new.vertices
begun g c =
    taken_begun _ _ _ c.requires.prepared c.begin_counts.ensures (omega arith) _ c.take_children.ensures (omega arith)

pub take_children-requires : goal.take_children-requires
take_children-requires g c =
    prepared_forest _ _ (begun_prepared _ _ _ c.requires.prepared c.begin_counts.ensures (omega arith))

pub count_walk-requires : goal.count_walk-requires
count_walk-requires g c =
    let first = begun g (goal.at.count_walk-requires g c).After-take_children in
    record {
      prepared = first.prepared;
      before = record {
        counting = first.counting;
        tops = tops_first _ _ (at_equal (λ n. Fresh n) c.requires.fresh (omega arith));
      };
    }

pub gather-requires : goal.gather-requires
gather-requires g c =
    let first = begun g (goal.at.gather-requires g c).After-take_children in
    let walked = prepared_only _ c.count_walk.new.vertices _ (omega arith) c.count_walk.ensures.only first.prepared in
    record { grows = (prepared_forest _ _ walked).grows }

pub returns : goal.returns
returns g c =
    let first = begun g (goal.at.returns g c).After-take_children in
    let walked = prepared_only _ c.count_walk.new.vertices _ (omega arith) c.count_walk.ensures.only first.prepared in
    let last = counted_last _ _ _ _ _ _ (omega arith) (omega arith) walked c.count_walk.ensures.passed c.gather.ensures in
    record {
      counted = last.0;
      only = only_then counts_takes _ _ _ first.only
          (only_then counts_takes _ _ _ c.count_walk.ensures.only (gathered_only _ _ _ c.gather.ensures));
      tops = last.1;
      size = c.count_walk.ensures.size;
    }
