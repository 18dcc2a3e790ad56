-- One line after another.
use Rattle.frame_file.proofs.Lines.{goes_on}
use Rattle.frame_file.proofs.runs.run_file.Goals as goal

pub loop-line-preserved : goal.loop-line-preserved
loop-line-preserved g c =
    let done = c.answer_line-block.ensures in
    goes_on g.A.Answers.took c.args.model.now (g.S.AncestorSets.meaning c.args.sets.now) c.args.file.now
    c.args.answers.now c.in-Some.line c.loop-line.line-iterator c.next.new.self c.loop-line.model c.answer_line-block.new.model _ _ _ c.loop-line.answers
    c.take-in-loop-line.new.self c.in-Some.ensures.steps done.answered done.sets c.take-in-loop-line.ensures
    c.loop-line.invariant
