use Rattle.std.proofs.Common.{length, subst, arith}
use Rattle.gather.proofs.Turns.{Turn, begin, parent_stays, next, finish}
use Rattle.gather.proofs.gathering.gather.Given as given
use Rattle.gather.proofs.gathering.gather.Goals as goal
use Rattle.gather.proofs.gathering.gather.Goals.{After-join_up}

pub loop-v-init : goal.loop-v-init
loop-v-init g c = begin g.met.J.Joining.laws g.met.N.Node.laws c.requires.grows

pub join_up-requires : goal.join_up-requires
join_up-requires g c =
    let kept =
    parent_stays g.met.J.Joining.laws g.met.N.Node.laws c.requires.grows _ _ c.loop-v.invariant c.loop-v.v
    (omega arith) in
    let inside = c.requires.grows.stays c.loop-v.v (omega arith) (omega arith) in
    record { from = omega arith; to = omega arith; parent = omega arith }

-- after the joining of one more vertex, the last one or not
turned : (g : given.Over) (c : After-join_up g) →
    Turn g.met.J.Joining.laws g.met.N.Node.laws g.N.Child.blank (length c.args.nodes.now) c.args.nodes.now
    c.loop-v.v c.join_up.new.nodes
turned g c =
    next g.met.J.Joining.laws g.met.N.Node.laws c.requires.grows c.loop-v.v c.loop-v.nodes _
    (omega arith)
    (omega arith) (omega arith) c.loop-v.invariant c.join_up.ensures.joins c.join_up.ensures.fitting

pub loop-v-preserved : goal.loop-v-preserved
loop-v-preserved g c =
    let so_far = Turn g.met.J.Joining.laws g.met.N.Node.laws g.N.Child.blank (length c.args.nodes.now) in
    subst (λ b. so_far c.args.nodes.now b c.join_up.new.nodes) (omega arith)
    (turned g (goal.at.loop-v-preserved g c).After-join_up)

pub returns : goal.returns
returns g c =
    finish g.met.J.Joining.laws g.met.N.Node.laws c.requires.grows _ _ (omega arith) c.loop-v.invariant

pub returns-2 : goal.returns-2
returns-2 g c =
    finish g.met.J.Joining.laws g.met.N.Node.laws c.requires.grows _ _ (omega arith)
    (turned g (goal.at.returns-2 g c).After-join_up)
