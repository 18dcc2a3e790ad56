use Rattle.std.proofs.Common.{refl, subst, arith}
use Rattle.std.specs.Fn.{FnReturnsAt}
use Rattle.gather.specs.Gatherings.{Begun}
use Rattle.gather.proofs.Begins.{begun_more}
use Rattle.gather.proofs.gathering.begin.Goals as goal

pub loop-node-init : goal.loop-node-init
loop-node-init g c =
    (record { only = λ v p q. absurd (omega arith); given = λ v p q. absurd (omega arith) }, λ _ _. refl)

pub loop-node-preserved : goal.loop-node-preserved
loop-node-preserved g c =
    let i = c.loop-node.node-index in
    rw c.set_value.ensures
    (begun_more g.met.N.Node.laws i c.loop-node.nodes c.node-item.result c.start-value.result (omega arith)
    c.loop-node.invariant.0 c.loop-node.invariant.1
    (record { shown = _; shows = refl; says = record { met = c.start-value.ensures } }))

pub returns : goal.returns
returns g c =
    subst
    (λ k. Begun (FnReturnsAt g.F.Fn c.args.start) g.N.Child.blank g.N.Node.held g.N.Node.holding k
    c.args.nodes.now c.loop-node.nodes)
    (omega arith) c.loop-node.invariant.0
