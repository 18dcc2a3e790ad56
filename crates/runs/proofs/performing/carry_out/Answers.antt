-- Each call by that of the model.
use Rattle.std.proofs.Common.{rules, refl, ap, ap₂, ◌∙◌}
use Rattle.runs.specs.declared.calls.Reply.TheVariants as replies
use Rattle.runs.specs.Runs.{lending}
use Rattle.runs.proofs.Stretches.{kept}
use Rattle.runs.proofs.Turning.{lent_stay, reading, turned}
use Rattle.runs.proofs.performing.carry_out.Goals as goal

pub returns-in-Put : goal.returns-in-Put
returns-in-Put g c = turned replies.Held c.in-Put.is c.put.ensures (search rules) refl (lent_stay _ _)

pub returns-in-Drop : goal.returns-in-Drop
returns-in-Drop g c = turned replies.Held c.in-Drop.is c.drop_entry.ensures (search rules) refl (lent_stay _ _)

pub returns-in-Analyse : goal.returns-in-Analyse
returns-in-Analyse g c =
    turned replies.Total c.in-Analyse.is c.analyse.ensures.outcome (search rules) refl
    (ap (λ s. lending s c.args.starts.now c.args.rows.now) c.analyse.ensures.sets ∙ lent_stay _ _)

pub returns-in-Ask : goal.returns-in-Ask
returns-in-Ask g c =
    turned replies.Number c.in-Ask.is (reading (kept _ _) c.read_number.ensures) (search rules) refl (lent_stay _ _)

pub returns-in-Total : goal.returns-in-Total
returns-in-Total g c =
    turned replies.Total c.in-Total.is (reading (kept _ _) c.total.ensures) (search rules) refl (lent_stay _ _)

pub returns-in-Structure : goal.returns-in-Structure
returns-in-Structure g c =
    turned (λ _. replies.Written) c.in-Structure.is (reading (kept _ _) c.write_structure.ensures.answer)
    (search rules) refl
    (ap₂ (lending (g.S.LentSets.meanings c.args.sets.now)) c.write_structure.ensures.starts
    c.write_structure.ensures.rows)
