use Rattle.std.proofs.Common.{true, false, sym, refl, ◌∙◌}
use Rattle.std.proofs.lemmas.Bool.{eq-eqb, ne_eqb}
use Rattle.model.proofs.Judging.{judged, put_first, put_turned, fresh, counted}
use Rattle.model.proofs.Rests.{put_rest}
use Rattle.model.proofs.Rules.{refused}
use Rattle.model.proofs.models.Model.put.Goals as goal

pub returns-then-is_some : goal.returns-then-is_some
returns-then-is_some c =
    let fine = judged _ _ _ _ (sym c.judge_entry.ensures ∙ c.in_ok-pair.was) in
    refused _ _ _ _ (put_first c.args.self.now _ _ _ _ true _ fine c.find.ensures (sym c.if-is_some.ensures) refl)

pub returns-then-self-capacity : goal.returns-then-self-capacity
returns-then-self-capacity c =
    let fine = judged _ _ _ _ (sym c.judge_entry.ensures ∙ c.in_ok-pair.was) in
    refused _ _ _ _
    (put_first c.args.self.now _ _ _ _ false true fine c.find.ensures (sym c.if-is_some.ensures)
    (eq-eqb _ _ (c.if-self-capacity.true ∙ c.capacity.ensures)))

pub push-requires : goal.push-requires
push-requires c =
    fresh c.args.self.now _ _ _ _ (judged _ _ _ _ (sym c.judge_entry.ensures ∙ c.in_ok-pair.was)) c.find.ensures
    (sym c.if-is_some.ensures) (λ full. c.if-self-capacity.false (full ∙ sym c.capacity.ensures))

pub returns : goal.returns
returns c =
    let fine = judged _ _ _ _ (sym c.judge_entry.ensures ∙ c.in_ok-pair.was) in
    let space = ne_eqb _ _ (λ full. c.if-self-capacity.false (full ∙ sym c.capacity.ensures)) in
    counted _ _ _ (put_first c.args.self.now _ _ _ _ false false fine c.find.ensures (sym c.if-is_some.ensures) space)
    (put_turned c.args.self.now.store _ _ _ _ fine c.push.ensures)
    (put_rest c.args.self.now.store _ c.args.i c.args.j c.push.ensures)
