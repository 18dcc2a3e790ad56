-- The length is in range, and each byte is a digit.
use Rattle.std.proofs.Common.{◌≡◌, true, not, ap, sym, refl, ◌∙◌, length, rules, tests}
use Rattle.std.proofs.lemmas.Bool.{false≢true}
use Rattle.std.proofs.lemmas.Iterator.{YieldsList-from_slice}
use Rattle.std.proofs.lemmas.Iterator.Search.{all_from_yields_List}
use Rattle.std.specs.Char.{is_ascii_digit}
use Rattle.std.specs.Int.{is_in_range}
use Rattle.frame_text.specs.Fields.{every}
use Rattle.frame_text.proofs.fields.is_numeral.Goals as goal
use Rattle.frame_text.proofs.fields.is_numeral.Goals.{then-contains, else-contains}

pub returns-then-all : goal.returns-then-all
returns-then-all c = elim c.if-contains.branch [
  | then-contains w ↦
      let within : is_in_range 1 5 (length c.args.bytes.now) ≡ true = search rules in
      let each : every is_ascii_digit c.args.bytes.now ≡ true =
      sym (all_from_yields_List is_ascii_digit _ _ _ w.all.ensures.ran (YieldsList-from_slice c.args.bytes.now cc)
      (λ x b q k. search (rules, tests))) ∙ sym w.value-is ∙ c.if-all.true in
      ap not c.is_padded.ensures ∙ rw (within, each) refl
  | else-contains w ↦ absurd (false≢true (sym w.if-contains.false ∙ sym w.value-is ∙ c.if-all.true))
]
