use Rattle.std.proofs.Common.{sym, ◌∙◌}
use Rattle.model.proofs.Analyses.{analyse_refused, is_settled, sets_settled}
use Rattle.model.proofs.Rules.{answered}
use Rattle.model.proofs.models.Model.analyse.Goals as goal

pub returns-in_err-analyse-clause-outcome : goal.returns-in_err-analyse-clause-outcome
returns-in_err-analyse-clause-outcome g c =
    let (made, end) = answered _ _ _ (sym c.judge_made.ensures ∙ c.in_ok-judge_made.was) in
    analyse_refused c.args.self.now _ _ _ _ _ made c.in_err-analyse.ensures c.from_residual-in_err-analyse.ensures.1

pub returns-in-Some-clause-sets : goal.returns-in-Some-clause-sets
returns-in-Some-clause-sets g c =
    let (made, end) = answered _ _ _ (sym c.judge_made.ensures ∙ c.in_ok-judge_made.was) in
    let found = c.in_ok-settle.ensures in
    let sound = g.S.AncestorSets.sound c.settle.new.sets in
    sets_settled c.args.self.now _ _ made found.room (is_settled _ (g.S.AncestorSets.meaning c.args.sets.now) _ sound found.size found.tops)

pub returns-clause-sets : goal.returns-clause-sets
returns-clause-sets g c =
    let (made, end) = answered _ _ _ (sym c.judge_made.ensures ∙ c.in_ok-judge_made.was) in
    let found = c.in_ok-analyse.ensures in
    let sound = g.S.AncestorSets.sound c.analyse.new.sets in
    sets_settled c.args.self.now _ _ made found.found.room (is_settled _ (g.S.AncestorSets.meaning c.args.sets.now) _ sound found.found.size found.found.tops)
