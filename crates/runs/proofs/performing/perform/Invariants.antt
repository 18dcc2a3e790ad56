-- What the calls that are left make of all is what all make of it as it was.
use Rattle.std.proofs.Common.{drop}
use Rattle.runs.specs.Runs.{lending}
use Rattle.runs.proofs.Stretches.{Goes}
use Rattle.runs.proofs.performing.perform.Given as goal

abbrev pub invariant-loop-call : goal.invariant-loop-call
invariant-loop-call g l =
    Goes g.A.Replies.took l.calls l.initial.model
    (lending (g.S.LentSets.meanings l.initial.sets) l.initial.starts l.initial.rows) l.initial.replies
    (drop l.call-index l.calls) l.model (lending (g.S.LentSets.meanings l.sets) l.starts l.rows) l.replies
