-- Pairs that meet no rule make up entries that an analysis may take.
use Rattle.std.proofs.Common.{◌≡◌, ℕ, ◌<◌, ◌≤◌, Bool, false, not, eqb, ltb, ◌||◌, List, [], ◌∷◌, ◌++◌, map, length, get_or, None, Some, Option, refl, sym, subst, arith}
use Rattle.std.specs.List.{list_any}
use Rattle.std.specs.Option.{option_or}
use Rattle.std.proofs.lemmas.Bool.{eqb-false, ltb-false, or_parts, not-false, false_from_ne_true}
use Rattle.std.proofs.lemmas.List.{get_or-map, length-map}
use Rattle.std.proofs.lemmas.List.Folds.{list_any_at}
use Rattle.pattern.specs.Patterns.{within}
use Rattle.pattern.proofs.Tests.{within_parts}
use Rattle.analysis.specs.Tables.{Sound, SoundPair}
use Rattle.model.specs.declared.refusals.Refusal.TheVariants.{OrderOutOfRange, TableTooShort, SetsTooSmall}
use Rattle.model.specs.States as model
use Rattle.model.specs.States.{first_of}
use Rattle.model.proofs.Rules.{unmet}
use Rattle.downskillet_c.specs.Pairs.{turned, Narrow}
use Rattle.downskillet_c.specs.Refusals.{first_fault, pair_rules, room_rule, working_fault}

-- where none of a list passes a test, one of it does not
none_at : {X : Type 0} (test : X → Bool) (xs : List X) (k : ℕ) (d : X) → list_any test xs ≡ false →
    k < length xs → test (get_or xs k d) ≡ false
none_at test xs k d none fits =
    false_from_ne_true _ (λ one. let some = list_any_at test xs k d fits one in absurd (cc))

both_none : {X : Type 0} (o p : Option X) → option_or o p ≡ None → p ≡ None
both_none None p none = none
both_none (Some x) p none = absurd (cc)

-- the pairs, turned, are of the order, if none of the rules is met
pub sound_turned : (n : ℕ) (ps : List (ℕ × ℕ)) (vertices entries links : ℕ) →
    first_fault n ps vertices entries links ≡ None → Sound n (map turned ps)
sound_turned n ps vertices entries links none k under =
    let rules = pair_rules n ps ++ room_rule (length ps) entries ∷ [] in
    let (first, (second, (equal, rest))) =
    unmet rules (both_none (working_fault n vertices links) (first_of rules) none) in
    let fits : k < length ps = omega (arith, length-map ps turned) in
    let low = within_parts n _ (not-false _ (none_at (λ e. not (within n e.0)) ps k (0, 0) first fits)) in
    let high = within_parts n _ (not-false _ (none_at (λ e. not (within n e.1)) ps k (0, 0) second fits)) in
    let apart = eqb-false _ _ (none_at (λ e. eqb e.0 e.1) ps k (0, 0) equal fits) in
    subst (SoundPair n) (sym (get_or-map turned ps k (0, 0) (0, 0) fits))
    (record {
      from = omega (arith, low.named, high.named);
      rises = omega (arith, apart);
      within = omega (arith, low.fits, high.fits);
    })

first_none : {X : Type 0} (o p : Option X) → option_or o p ≡ None → o ≡ None
first_none None p none = refl
first_none (Some x) p none = absurd (cc)

-- and so is the order one of a model
pub order_few : (n : ℕ) (ps : List (ℕ × ℕ)) (vertices entries links : ℕ) →
    first_fault n ps vertices entries links ≡ None → n ≤ 16384
order_few n ps vertices entries links none =
    let judged : model.first_fault n vertices ≡ None =
    first_none (model.first_fault n vertices) (first_of ((ltb links n, SetsTooSmall) ∷ []))
    (first_none (working_fault n vertices links) (first_of (pair_rules n ps ++ room_rule (length ps) entries ∷ [])) none) in
    let rules = (eqb n 0 || ltb 16384 n, OrderOutOfRange) ∷ (ltb vertices n, TableTooShort) ∷ [] in
    ltb-false 16384 n (or_parts (eqb n 0) _ (unmet rules judged).0).1

-- so that each higher vertex fits 16 bits
pub narrow_turned : (n : ℕ) (ps : List (ℕ × ℕ)) (vertices entries links : ℕ) →
    first_fault n ps vertices entries links ≡ None → Narrow (map turned ps)
narrow_turned n ps vertices entries links none k under =
    let pair = sound_turned n ps vertices entries links none k under in
    omega (arith, pair.within, order_few n ps vertices entries links none)
