-- The first number passed its check; the second did not, or did.
use Rattle.std.proofs.Common.{◌∙◌}
use Rattle.std.proofs.lemmas.Result.{err_from_is_err_and}
use Rattle.frame_text.proofs.Stages.{passed, failed, numbered_two}
use Rattle.frame_text.proofs.records.Operands.two_numbers.Goals as goal

pub returns-in_err-check_number-2 : goal.returns-in_err-check_number-2
returns-in_err-check_number-2 c =
    let p = err_from_is_err_and c.from_residual-in_err-check_number-2.result
    c.from_residual-in_err-check_number-2.ensures.1 in
    rw (p.1, p.2)
    (failed _ _ _ _ _ c.in_err-check_number-2.ensures.number ∙
    passed _ _ _ _ _ c.in_ok-check_number.ensures.number ∙
    numbered_two c.args.self.now.line _ _ _ c.in_ok-i.ensures)

pub returns : goal.returns
returns c =
    passed _ _ _ _ _ c.in_ok-check_number-2.ensures.number ∙
    passed _ _ _ _ _ c.in_ok-check_number.ensures.number ∙
    numbered_two c.args.self.now.line _ _ _ c.in_ok-i.ensures
