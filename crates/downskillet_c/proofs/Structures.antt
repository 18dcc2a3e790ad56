-- What the structure of analysed tables is written from.
use Rattle.std.proofs.Common.{◌≡◌, ℕ, ◌+◌, ◌-◌, ◌≤◌, false, ltb, ◌||◌, List, [], ◌∷◌, take, Ok, Result, subst, sym, ◌∙◌, arith}
use Rattle.std.proofs.lemmas.Bool.{or_parts, ltb-false}
use Rattle.pattern.specs.Elimination.{total}
use Rattle.pattern.specs.Patterns.{Pattern}
use Rattle.pattern.proofs.Arrays.{taken_total}
use Rattle.analysis.specs.Growth.{pattern_in}
use Rattle.analysis.specs.Structure.{Found, Room}
use Rattle.analysis.specs.declared.records.Entry.{Entry}
use Rattle.analysis.specs.declared.records.Vertex.{Vertex}
use Rattle.model.specs.declared.refusals.Refusal.{Refusal}
use Rattle.model.specs.declared.refusals.Refusal.TheVariants.{ArraysTooShort}
use Rattle.model.specs.States.{answer, first_of}
use Rattle.model.proofs.Rules.{answered, unmet}
use Rattle.downskillet_c.specs.Analysing.{Ready}
use Rattle.downskillet_c.specs.Pairs.{pattern_given}
use Rattle.downskillet_c.specs.Refusals.{outcome}

-- the sum that an accepted analysis answers is the total, which counts the diagonal too
pub sum_told : (n : ℕ) (ps : List (ℕ × ℕ)) (vertices entries links sum : ℕ) →
    Ok sum ≡ outcome n ps vertices entries links → (total (pattern_given n ps) ≡ sum) × (n ≤ sum)
sum_told n ps vertices entries links sum ok =
    let (_, same) = answered _ _ _ (sym ok) in (same, omega (arith, taken_total (pattern_given n ps)))

-- arrays that are not refused have a place for each start and each row
pub room_judged : (p : Pattern) (sum long wide : ℕ) (r : Result (Unit {0}) Refusal) → total p ≡ sum →
    r ≡ answer (first_of ((ltb long (p.order + 1) || ltb wide (sum - p.order), ArraysTooShort) ∷ [])) tt → r ≡ Ok tt →
    Room p long wide
room_judged p sum long wide r same judged ok =
    let lack = ltb long (p.order + 1) || ltb wide (sum - p.order) in
    let (none, _) = answered (first_of ((lack, ArraysTooShort) ∷ [])) tt tt (sym judged ∙ ok) in
    let short : lack ≡ false = (unmet ((lack, ArraysTooShort) ∷ []) none).0 in
    let fits : (ltb long (p.order + 1) ≡ false) × (ltb wide (sum - p.order) ≡ false) = or_parts _ _ short in
    record {
      starts = omega (arith, ltb-false _ _ fits.0);
      rows = omega (arith, ltb-false _ _ fits.1, taken_total p);
    }

-- analysed tables, and arrays with room, seen as those of the pattern that the tables make up
pub found : (n : ℕ) (ps : List (ℕ × ℕ)) (vs : List Vertex) (es : List Entry) (long wide : ℕ) → Ready n ps vs es →
    Room (pattern_given n ps) long wide →
    Found (pattern_in (take n vs) es) (take n vs) × Room (pattern_in (take n vs) es) long wide
found n ps vs es long wide ready room =
    let table = ready.table in
    let same : pattern_given n ps ≡ pattern_in (take n vs) es =
    λ k. record { order = table.order k; entries = sym ready.pairs k } in
    subst (λ p. Found p (take n vs) × Room p long wide) same (
      record {
        order = table.order;
        few = table.few;
        tree = record { parents = table.answered.parents };
        columns = table.answered.columns;
      },
      room,
    )
