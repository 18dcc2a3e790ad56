-- The first three fields, or as many as there are.
use Rattle.std.proofs.Common.{eqb, refl, rules, tests}
use Rattle.std.proofs.lemmas.Iterator.Splits.{YieldsList-from_slice_split}
use Rattle.frame_text.proofs.Taken.{taken, one_more}
use Rattle.frame_text.proofs.records.Operands.of.Goals as goal

pub returns-clause-first_three : goal.returns-clause-first_three
returns-clause-first_three c =
    let cut = c.split-fields.ensures in
    let second = taken _ _ _ _ _ (YieldsList-from_slice_split _ (λ b. eqb b 44) c.args.rest.now cut.rest cut.done cut.closure
    (λ x b q k. search (rules, tests))) c.next.ensures.steps in
    let third = taken _ _ _ _ _ second.1 c.next-2.ensures.steps in
    let fourth = taken _ _ _ _ _ third.1 c.next-3.ensures.steps in
    one_more 2 _ _ _ second.0 (one_more 1 _ _ _ third.0 (one_more 0 _ _ _ fourth.0 refl))
