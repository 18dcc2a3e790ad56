-- One number.
use Rattle.std.proofs.Common.{◌∙◌}
use Rattle.std.proofs.lemmas.Result.{err_from_is_err_and}
use Rattle.frame_text.specs.Parts.{at_hand}
use Rattle.frame_text.proofs.Stages.{miscount, passed, failed, ask_kind}
use Rattle.frame_text.proofs.records.Operands.ask.Goals as goal

pub returns-in_err-vertex : goal.returns-in_err-vertex
returns-in_err-vertex c =
    let p = err_from_is_err_and c.from_residual.result c.from_residual.ensures.1 in
    rw (p.1, p.2) (miscount _ _ _ _ _ c.in_err-vertex.ensures)

pub returns-in_err-check_number : goal.returns-in_err-check_number
returns-in_err-check_number c =
    let p = err_from_is_err_and c.from_residual-in_err-check_number.result
    c.from_residual-in_err-check_number.ensures.1 in
    rw (p.1, p.2)
    (failed _ _ _ _ _ c.in_err-check_number.ensures.number ∙
    ask_kind c.args.question c.args.self.now.line (at_hand c.args.self.now) _ c.in_ok-vertex.ensures)

pub returns : goal.returns
returns c =
    passed _ _ _ _ _ c.in_ok-check_number.ensures.number ∙
    ask_kind c.args.question c.args.self.now.line (at_hand c.args.self.now) _ c.in_ok-vertex.ensures
