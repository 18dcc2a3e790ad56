-- What the lines that are left make of the run is what all make of it as it began.
use Rattle.frame_file.proofs.Lines.{Goes}
use Rattle.frame_file.proofs.runs.run_file.Given as goal

abbrev pub invariant-loop-line : goal.invariant-loop-line
invariant-loop-line g l =
    Goes g.A.Answers.took l.initial.model (g.S.AncestorSets.meaning l.initial.sets) l.file l.initial.answers
    l.line-iterator l.model (g.S.AncestorSets.meaning l.sets) l.answers
