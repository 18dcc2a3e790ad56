use Rattle.analysis.proofs.Descents.{Down}
use Rattle.analysis.proofs.order.walk_down.Given as goal

abbrev pub invariant-loop-v : goal.invariant-loop-v
invariant-loop-v l = Down l.initial.vertices l.v l.v l.v l.free l.vertices
