use Rattle.std.proofs.Common.{sym, refl, ◌∙◌, arith}
use Rattle.analysis.specs.Growth.{pattern_in}
use Rattle.analysis.proofs.Changes.{counts_takes, only_then}
use Rattle.analysis.proofs.CountedEvents.{prepared_only, passed_at, at_walk}
use Rattle.analysis.proofs.counts.count_walk.Goals as goal

pub count_vertex-requires : goal.count_vertex-requires
count_vertex-requires g c =
    let prepared = prepared_only _ c.loop-i.vertices _ (omega arith) c.loop-i.invariant.1 c.requires.prepared in
    let at = at_walk (pattern_in c.loop-i.vertices c.args.entries.now) _ c.loop-i.i prepared.tree (omega arith) in
    record {
      has = (at.from, at.to);
      prepared = prepared;
      before = passed_at _ _ _ _ _ _ _ (omega arith) (sym at.before) c.loop-i.invariant.0;
    }

pub loop-i-preserved : goal.loop-i-preserved
loop-i-preserved g c =
    let prepared = prepared_only _ c.loop-i.vertices _ (omega arith) c.loop-i.invariant.1 c.requires.prepared in
    let at = at_walk (pattern_in c.loop-i.vertices c.args.entries.now) _ c.loop-i.i prepared.tree (omega arith) in (
      passed_at _ _ _ _ _ _ _ (omega arith) at.place c.count_vertex.ensures.passed,
      only_then counts_takes _ _ _ c.loop-i.invariant.1 c.count_vertex.ensures.only,
      c.count_vertex.ensures.size ∙ c.loop-i.invariant.2,
    )

pub returns : goal.returns
returns g c =
    record {
      passed = passed_at _ _ _ _ _ _ _ refl (omega arith) c.loop-i.invariant.0;
      only = c.loop-i.invariant.1;
      size = c.loop-i.invariant.2;
    }
