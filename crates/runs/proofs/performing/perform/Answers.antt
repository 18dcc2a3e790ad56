-- One call after another, to the last one.
use Rattle.std.proofs.Common.{arith}
use Rattle.std.proofs.lemmas.List.{drop_all, drop_more}
use Rattle.runs.proofs.Lawful.{answers}
use Rattle.runs.proofs.Stretches.{goes_on, performed}
use Rattle.runs.proofs.performing.perform.Goals as goal

pub loop-call-preserved : goal.loop-call-preserved
loop-call-preserved g c =
    goes_on g.A.Replies.took _ _ _ _ _ _ _ _ _ _ _ _ _ _ (drop_more _ _ _ c.loop-call-test.true)
    c.carry_out-reply.ensures c.take.ensures c.loop-call.invariant

pub returns-clause-performed : goal.returns-clause-performed
returns-clause-performed g c =
    performed (drop_all c.loop-call.call-index c.args.calls.now (omega (arith, c.loop-call-test.false)))
    c.loop-call.invariant

pub returns-clause-law : goal.returns-clause-law
returns-clause-law g c = answers _
