-- Two numbers make the record of their kind.
use Rattle.std.proofs.Common.{sym, ap, ◌∙◌, rules, tests}
use Rattle.frame_text.specs.Parts.{at_hand}
use Rattle.frame_text.specs.Records.{by_count, puts, drops}
use Rattle.frame_text.proofs.Stages.{with_two, made_of, puts_two, drops_two}
use Rattle.frame_text.proofs.records.Operands.record.Goals as goal

pub returns-in-Put : goal.returns-in-Put
returns-in-Put c =
    made_of puts c.two_numbers.result c.map.result (search (rules, tests)) ∙
    ap (with_two puts) c.two_numbers.ensures ∙ puts_two c.args.self.now.line (at_hand c.args.self.now) ∙
    ap (λ k. by_count c.args.self.now.line k (at_hand c.args.self.now)) (sym c.in-Put.is)

pub returns-in-Drop : goal.returns-in-Drop
returns-in-Drop c =
    made_of drops c.two_numbers-in-Drop.result c.map-in-Drop.result (search (rules, tests)) ∙
    ap (with_two drops) c.two_numbers-in-Drop.ensures ∙ drops_two c.args.self.now.line (at_hand c.args.self.now) ∙
    ap (λ k. by_count c.args.self.now.line k (at_hand c.args.self.now)) (sym c.in-Drop.is)
