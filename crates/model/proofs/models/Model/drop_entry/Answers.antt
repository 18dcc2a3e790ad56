use Rattle.std.proofs.Common.{true, is_some, refl, sym, ap, ◌∙◌}
use Rattle.std.specs.Result.{result_ok}
use Rattle.model.proofs.Judging.{judged, drop_first, drop_turned, counted, stands}
use Rattle.model.proofs.Rests.{drop_rest}
use Rattle.model.proofs.Rules.{missed}
use Rattle.model.proofs.models.Model.drop_entry.Goals as goal

pub returns-in_err-at : goal.returns-in_err-at
returns-in_err-at c =
    let fine = judged _ _ _ _ (sym c.judge_entry.ensures ∙ c.in_ok-pair.was) in
    missed _ _ _ _ _ _ _ (drop_first c.args.self.now _ _ _ _ _ fine c.find.ensures refl)
    (sym c.ok_or.ensures.value ∙ c.in_err-at.was) c.from_residual-in_err-at.ensures.1

pub remove-requires : goal.remove-requires
remove-requires c =
    let fine = judged _ _ _ _ (sym c.judge_entry.ensures ∙ c.in_ok-pair.was) in
    record {
      stands =
          stands c.args.self.now.store _ _ _ _ _ fine c.find.ensures
          (c.ok_or.ensures.ok_part ∙ ap result_ok c.in_ok-at.was);
    }

pub returns : goal.returns
returns c =
    let fine = judged _ _ _ _ (sym c.judge_entry.ensures ∙ c.in_ok-pair.was) in
    let at = c.ok_or.ensures.ok_part ∙ ap result_ok c.in_ok-at.was in
    counted _ _ _ (drop_first c.args.self.now _ _ _ _ true fine c.find.ensures (ap is_some at))
    (drop_turned c.args.self.now.store _ _ _ _ _ _ fine c.find.ensures at c.remove.ensures)
    (drop_rest c.args.self.now.store _ c.args.i c.args.j c.remove.ensures)
