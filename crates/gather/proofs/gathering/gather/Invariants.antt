use Rattle.std.proofs.Common.{◌-◌, length}
use Rattle.gather.proofs.Turns.{Turn}
use Rattle.gather.proofs.gathering.gather.Given as goal

abbrev pub invariant-loop-v : goal.invariant-loop-v
invariant-loop-v g l =
    Turn g.met.J.Joining.laws g.met.N.Node.laws g.N.Child.blank (length l.initial.nodes) l.initial.nodes
    (l.v - 1) l.nodes
