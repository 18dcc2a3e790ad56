use Rattle.std.proofs.Common.{arith}
use Rattle.analysis.specs.Growth.{alone}
use Rattle.analysis.proofs.Changes.{map_more}
use Rattle.analysis.proofs.tree.begin_tree.Goals as goal

pub loop-vertex-preserved : goal.loop-vertex-preserved
loop-vertex-preserved c = map_more alone _ _ _ (omega arith) (omega arith) c.loop-vertex.invariant
