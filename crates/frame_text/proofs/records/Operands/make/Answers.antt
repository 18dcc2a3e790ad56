-- Two fields, a name and then a number.
use Rattle.std.proofs.Common.{refl, ◌∙◌}
use Rattle.std.proofs.lemmas.Result.{err_from_is_err_and}
use Rattle.frame_text.specs.declared.records.Kind.TheVariants.{Make}
use Rattle.frame_text.specs.Parts.{at_hand}
use Rattle.frame_text.proofs.Stages.{miscount, passed, failed, two_kind}
use Rattle.frame_text.proofs.records.Operands.make.Goals as goal

pub returns-in_err-name : goal.returns-in_err-name
returns-in_err-name c =
    let p = err_from_is_err_and c.from_residual.result c.from_residual.ensures.1 in
    rw (p.1, p.2) (miscount _ _ _ _ _ c.in_err-name.ensures)

pub returns-in_err-check_name : goal.returns-in_err-check_name
returns-in_err-check_name c =
    let p = err_from_is_err_and c.from_residual-in_err-check_name.result
    c.from_residual-in_err-check_name.ensures.1 in
    rw (p.1, p.2)
    (failed _ _ _ _ _ c.in_err-check_name.ensures ∙
    two_kind Make c.args.self.now.line (at_hand c.args.self.now) _ _ refl c.in_ok-name.ensures)

pub returns-in_err-check_number : goal.returns-in_err-check_number
returns-in_err-check_number c =
    let p = err_from_is_err_and c.from_residual-in_err-check_number.result
    c.from_residual-in_err-check_number.ensures.1 in
    rw (p.1, p.2)
    (failed _ _ _ _ _ c.in_err-check_number.ensures.number ∙ passed _ _ _ _ _ c.in_ok-check_name.ensures ∙
    two_kind Make c.args.self.now.line (at_hand c.args.self.now) _ _ refl c.in_ok-name.ensures)

pub returns : goal.returns
returns c =
    passed _ _ _ _ _ c.in_ok-check_number.ensures.number ∙ passed _ _ _ _ _ c.in_ok-check_name.ensures ∙
    two_kind Make c.args.self.now.line (at_hand c.args.self.now) _ _ refl c.in_ok-name.ensures
