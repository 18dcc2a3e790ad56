-- A letter and a comma, in a line of at most 64 bytes that has its LF.
use Rattle.std.proofs.Common.{◌∙◌, get_or, ap, rules}
use Rattle.std.proofs.lemmas.List.{take_rest}
use Rattle.frame_text.specs.Parts.{at_hand}
use Rattle.frame_text.specs.Records.{kind_of, by_kind}
use Rattle.frame_text.proofs.Stages.{letter_comma, whole_line}
use Rattle.frame_text.proofs.Taken.{three_do}
use Rattle.frame_text.proofs.lines.Line.read.Goals as goal

pub returns-in-44 : goal.returns-in-44
returns-in-44 c =
    let line = c.args.self.now.number in let bytes = c.args.self.now.bytes.now in
    let kind = kind_of (get_or bytes 0 0) in
    c.read-in-44.ensures ∙ ap (λ n. by_kind n kind (at_hand c.of.result)) c.of.ensures.line ∙
    ap (by_kind line kind) c.of.ensures.first_three ∙ three_do line kind _ ∙
    letter_comma line bytes _ (take_rest bytes 2) (search rules) (search rules) ∙
    whole_line line bytes c.args.self.now.ended c.if-self-gt-LINE_MOST.false c.if-not-self.false
