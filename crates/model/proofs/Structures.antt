-- The arrays that the structure is written into: where they are not refused, they have places for it.
use Rattle.std.proofs.Common.{◌≡◌, ℕ, ◌+◌, ◌-◌, ◌≤◌, ltb, [], ◌∷◌, Ok, Result, sym, ◌∙◌, arith}
use Rattle.std.proofs.lemmas.Bool.{or_parts, ltb-false}
use Rattle.pattern.specs.Elimination.{total}
use Rattle.pattern.proofs.Arrays.{taken_total}
use Rattle.analysis.specs.Structure.{Room}
use Rattle.model.specs.declared.models.Model.{Model}
use Rattle.model.specs.declared.refusals.Refusal.{Refusal}
use Rattle.model.specs.Asked.{pattern_held, told}
use Rattle.model.specs.Meaning.{meaning}
use Rattle.model.specs.States.{Structure, answer, first_of, rules, unanalysed}
use Rattle.model.proofs.Rules.{answered, unmet}

-- the total counts the diagonal too
pub order_counted : (m : Model) (sum : ℕ) (r : Result ℕ Refusal) →
    r ≡ answer (first_of (unanalysed (meaning m) ∷ [])) (total (pattern_held m)) → r ≡ Ok sum → m.store.order ≤ sum
order_counted m sum r judged ok =
    let (none, same) = answered _ _ _ (sym judged ∙ ok) in omega (arith, taken_total (pattern_held m))

pub room : (m : Model) (long wide : ℕ) (r : Result (Unit {0}) Refusal) → r ≡ told m (Structure long wide) tt →
    r ≡ Ok tt → Room (pattern_held m) long wide
room m long wide r judged ok =
    let (none, same) = answered _ _ _ (sym judged ∙ ok) in
    let (order, (analysed, (short, end))) = unmet (rules (meaning m) (Structure long wide)) none in
    let n = m.store.order in
    let fits = or_parts (ltb long (n + 1)) (ltb wide (total (pattern_held m) - n)) short in
    record {
      starts = omega (arith, ltb-false _ _ fits.0);
      rows = omega (arith, ltb-false _ _ fits.1, taken_total (pattern_held m));
    }
