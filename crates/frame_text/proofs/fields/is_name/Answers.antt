-- The length is in range, and each byte passes.
use Rattle.std.proofs.Common.{◌≡◌, true, ap, sym, ◌∙◌, ◌&&◌, length, rules, tests}
use Rattle.std.proofs.lemmas.Iterator.{YieldsList-from_slice}
use Rattle.std.proofs.lemmas.Iterator.Search.{all_from_yields_List}
use Rattle.std.specs.Int.{is_in_range}
use Rattle.frame_text.specs.Fields.{every, name_byte}
use Rattle.frame_text.proofs.fields.is_name.Goals as goal

pub returns-then-contains : goal.returns-then-contains
returns-then-contains c =
    let within : is_in_range 1 16 (length c.args.bytes.now) ≡ true = search rules in
    all_from_yields_List name_byte _ _ _ c.all.ensures.ran (YieldsList-from_slice c.args.bytes.now cc)
    (λ x b q k. search (rules, tests)) ∙
    ap (λ b. b && every name_byte c.args.bytes.now) (sym within)
