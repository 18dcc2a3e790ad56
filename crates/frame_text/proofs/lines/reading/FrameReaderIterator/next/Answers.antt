-- The file's last line with no LF, or a line that has one.
use Rattle.std.proofs.Common.{◌-◌, length, take, drop, sym, refl, ap, ◌∙◌, arith, rules, tests}
use Rattle.std.proofs.lemmas.List.{take_rest}
use Rattle.std.proofs.lemmas.Iterator.{YieldsList-from_slice}
use Rattle.std.proofs.lemmas.Iterator.Search.{position_from_yields_List}
use Rattle.frame_text.proofs.Splits.{lf, none_by, some_by, reads_last, reads_line}
use Rattle.frame_text.proofs.lines.reading.FrameReaderIterator.next.Goals as goal

pub returns-then-end-rest-clause-steps : goal.returns-then-end-rest-clause-steps
returns-then-end-rest-clause-steps c =
    let file = c.args.self.now.file.now in let at = c.args.self.now.at in
    let rest = take_rest file at in
    let place = position_from_yields_List lf _ _ c.position.result c.position.ensures.ran
    (YieldsList-from_slice (take (length file - at) (drop at file)) (cc)) (λ x b q k. search (rules, tests)) in
    let none = none_by _ _ (sym place) (sym c.unwrap_or-end.ensures ∙ c.if-end-rest.true) in (
      reads_last file _ at rest (λ none. search (rules, c.if-is_empty.false)) (sym place ∙ none),
      refl,
      refl,
    )

pub returns-clause-steps : goal.returns-clause-steps
returns-clause-steps c =
    let file = c.args.self.now.file.now in let at = c.args.self.now.at in
    let rest = take_rest file at in
    let place = position_from_yields_List lf _ _ c.position.result c.position.ensures.ran
    (YieldsList-from_slice (take (length file - at) (drop at file)) (cc)) (λ x b q k. search (rules, tests)) in
    let some =
    some_by (take (length file - at) (drop at file)) _ _ (sym c.unwrap_or-end.ensures) c.if-end-rest.false in (
      reads_line file _ at c.unwrap_or-end.result rest (sym place ∙ some),
      refl,
      refl,
    )

pub returns-clause-goes : goal.returns-clause-goes
returns-clause-goes c =
    let shorter = ap length (returns-clause-steps c).0 in
    record { on = λ _. (tt, tt, omega (arith, shorter)); keeps = tt; rests = λ _. tt }
