-- The digits so far write a number under 10,000, so there is room for one more.
use Rattle.std.proofs.Common.{◌≡◌, ◌*◌, ◌+◌, ◌-◌, ◌<◌, ◌≤◌, [], ◌∷◌, length, map, sym, ap, refl, ◌∙◌, arith, rules, tests}
use Rattle.std.proofs.lemmas.Fn.{serves_by}
use Rattle.std.proofs.lemmas.List.{map-append}
use Rattle.std.proofs.lemmas.List.Sums.{fold-append}
use Rattle.std.proofs.lemmas.Iterator.{YieldsList-from_slice}
use Rattle.std.proofs.lemmas.Iterator.Consumers.{YieldsList-so_far, YieldsList-turn}
use Rattle.std.proofs.lemmas.Str.Parse.{digits_value_short}
use Rattle.frame_text.specs.Fields.{read_on}
use Rattle.frame_text.proofs.Bytes.{room}
use Rattle.frame_text.proofs.Numerals.{own}
use Rattle.frame_text.proofs.fields.digits_value.Goals as goal

pub fold-requires-clause-callable : goal.fold-requires-clause-callable
fold-requires-clause-callable c =
    let bytes = c.args.digits.now in
    let all = YieldsList-from_slice {s = c.iter.result} bytes (cc) in
    serves_by _ (λ xs q. q.1 ≡ read_on 0 (map (λ x. x.now) xs))
    (λ xs q x v so_far turn.
    let is : v.1 ≡ q.1 * 10 + (x.now - 48) = search (rules, tests) in
    is ∙ ap (λ n. n * 10 + (x.now - 48)) so_far ∙
    sym (ap (read_on 0) (map-append (λ x. x.now) xs (x ∷ [])) ∙ fold-append _ 0 (map (λ x. x.now) xs) (x.now ∷ [])))
    _ _ _ _ refl
    (λ xs t q x u ys step so_far.
    let here = YieldsList-turn all xs t ys _ u x refl step in
    let free = room bytes (length xs) q.1 x.now c.requires.few c.requires.digits here.0
    (so_far ∙ ap (read_on 0) (YieldsList-so_far all xs t ys)) here.1 in
    let below : q.1 < 10000 = free.0 in let from : 48 ≤ x.now = free.1 in let to : x.now ≤ 57 = free.2 in
    search (rules, arith))

pub returns-clause-bound : goal.returns-clause-bound
returns-clause-bound c =
    let number : c.fold.result ≡ read_on 0 c.args.digits.now = search rules in
    let under = digits_value_short own c.args.digits.now 5 c.requires.digits c.requires.few in
    omega (arith, number, under)
