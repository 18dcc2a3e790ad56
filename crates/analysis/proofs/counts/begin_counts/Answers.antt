use Rattle.std.proofs.Common.{arith}
use Rattle.analysis.specs.Counts.{uncounted}
use Rattle.analysis.proofs.Changes.{map_more}
use Rattle.analysis.proofs.counts.begin_counts.Goals as goal

pub loop-vertex-preserved : goal.loop-vertex-preserved
loop-vertex-preserved c = map_more uncounted _ _ _ (omega arith) (omega arith) c.loop-vertex.invariant
