-- What the call of each arm does, and its refusal as a fault of the line.
use Rattle.std.proofs.Common.{rules, refl, ap, ◌≡◌, Ok, Err}
use Rattle.std.specs.Result.{MatchResult}
use Rattle.model.specs.States as given
use Rattle.frame_text.specs.Records.{statement_of, drops, part_of, puts}
use Rattle.frame_text.specs.declared.answers.Answer.TheVariants as says
use Rattle.frame_file.specs.declared.faults.RunFault.TheVariants.{Refused}
use Rattle.frame_file.specs.Runs.{number}
use Rattle.frame_file.proofs.Carrying.{after_model, analysis_told, before_model, held_told, in_its_place}
use Rattle.frame_file.proofs.Settling.{settle, stay}
use Rattle.frame_file.proofs.runs.carry_out.Goals.{in-BeforeModel-Make, in_default-Put, in_default-Drop}
use Rattle.frame_file.proofs.runs.carry_out.Goals.{in_default-Analyse, in_default-Ask}
use Rattle.frame_file.proofs.runs.carry_out.Goals as goal

pub returns-clause-carried : goal.returns-clause-carried
returns-clause-carried g c =
    let lined : MatchResult c.match-run_state.map_err (λ a. c.map_err.result ≡ Ok a)
    (λ e. c.map_err.result ≡ Err (Refused c.args.line e)) = search rules in
    elim c.match-run_state.branch [
      | in-BeforeModel-Make w ↦
          in_its_place _ c.args.record (ap statement_of w.in-BeforeModel-Make.is-1) w.model-is w.map_err-is lined
          (before_model _ _ c.run_state.ensures w.in-BeforeModel-Make.is-0) (w.make_model.ensures _)
      | in_default-Put w ↦
          in_its_place _ c.args.record (ap statement_of w.in_default-Put.is-1) w.model-is w.map_err-is lined
          (after_model _ _ c.run_state.ensures w.in_default-Put.not-BeforeModel-0)
          (held_told (puts (part_of w.in_default-Put.i) (part_of w.in_default-Put.j)) given.Put
          (number (part_of w.in_default-Put.i)) (number (part_of w.in_default-Put.j)) says.Put
          w.value.ensures.number w.value-in_default-Put.ensures.number refl refl refl (λ s. refl)
          w.put.ensures (search rules))
      | in_default-Drop w ↦
          in_its_place _ c.args.record (ap statement_of w.in_default-Drop.is-1) w.model-is w.map_err-is lined
          (after_model _ _ c.run_state.ensures w.in_default-Drop.not-BeforeModel-0)
          (held_told (drops (part_of w.in_default-Drop.i) (part_of w.in_default-Drop.j)) given.Drop
          (number (part_of w.in_default-Drop.i)) (number (part_of w.in_default-Drop.j)) says.Dropped
          w.value-in_default-Drop.ensures.number w.value-in_default-Drop-2.ensures.number refl refl refl (λ s. refl)
          w.drop_entry.ensures (search rules))
      | in_default-Analyse w ↦
          in_its_place _ c.args.record (ap statement_of w.in_default-Analyse.is-1) w.model-is w.map_err-is lined
          (after_model _ _ c.run_state.ensures w.in_default-Analyse.not-BeforeModel-0)
          (analysis_told w.analyse.ensures.outcome (search rules))
      | in_default-Ask w ↦
          in_its_place _ c.args.record (ap statement_of w.in_default-Ask.is-1) w.model-is w.map_err-is lined
          (after_model _ _ c.run_state.ensures w.in_default-Ask.not-BeforeModel-0) (w.ask.ensures _)
    ]

pub returns-clause-sets : goal.returns-clause-sets
returns-clause-sets g c =
    let meaning = g.S.AncestorSets.meaning in
    let lent = meaning c.args.sets.now in
    elim c.match-run_state.branch [
      | in-BeforeModel-Make w ↦
          stay _ _ _ c.args.record lent (ap statement_of w.in-BeforeModel-Make.is-1) (ap meaning w.sets-is) refl
      | in_default-Put w ↦
          stay _ _ _ c.args.record lent (ap statement_of w.in_default-Put.is-1) (ap meaning w.sets-is) refl
      | in_default-Drop w ↦
          stay _ _ _ c.args.record lent (ap statement_of w.in_default-Drop.is-1) (ap meaning w.sets-is) refl
      | in_default-Analyse w ↦
          settle _ _ _ c.args.record lent (ap statement_of w.in_default-Analyse.is-1) (ap meaning w.sets-is)
          (after_model _ _ c.run_state.ensures w.in_default-Analyse.not-BeforeModel-0) w.analyse.ensures.sets
      | in_default-Ask w ↦
          stay _ _ _ c.args.record lent (ap statement_of w.in_default-Ask.is-1) (ap meaning w.sets-is) refl
    ]
