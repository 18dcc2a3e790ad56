use Rattle.std.proofs.Common.{◌≡◌, ℕ, ◌<◌}
use Rattle.std.specs.Fn.{FnReturnsAt}
use Rattle.gather.specs.Gatherings.{record_of, Begun}
use Rattle.gather.proofs.gathering.begin.Given as goal

abbrev pub invariant-loop-node : goal.invariant-loop-node
invariant-loop-node g l =
    Begun (FnReturnsAt g.F.Fn l.start) g.N.Child.blank g.N.Node.held g.N.Node.holding l.node-index
    l.initial.nodes l.nodes ×
    ((v : ℕ) → l.node-index < v → record_of g.N.Child.blank l.nodes v ≡ record_of g.N.Child.blank l.initial.nodes v)
