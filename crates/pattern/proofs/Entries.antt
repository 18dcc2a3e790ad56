-- Entries by position: in a pattern whose pairs name the lower vertex first, the lower neighbours of a vertex are just
-- the first vertices of the pairs that end in it.
use Rattle.std.proofs.Common.{◌≡◌, ℕ, ◌<◌, ◌≤◌, true, eqb, List, length, get_or, refl, arith, ap, ◌∙◌}
use Rattle.std.proofs.lemmas.Bool.{or_left, and_from, eq-eqb}
use Rattle.std.proofs.lemmas.Bool.Decides.{nat_tests}
use Rattle.std.proofs.lemmas.List.{get_or_default}
use Rattle.std.proofs.lemmas.List.Folds.{list_any_at, Any-from_list_any}
use Rattle.pattern.specs.Patterns.{Pattern, same_entry, listed, shares}
use Rattle.pattern.proofs.Joins.{shares_parts, shares_from}

same_itself : (e : ℕ × ℕ) → same_entry e.0 e.1 e ≡ true
unfolding same_entry
same_itself (a, b) = or_left _ _ (and_from (eqb a a) (eqb b b) (eq-eqb a a refl) (eq-eqb b b refl))

listed_at : (es : List (ℕ × ℕ)) (k : ℕ) → k < length es →
    listed es (get_or es k (0, 0)).0 (get_or es k (0, 0)).1 ≡ true
unfolding listed
listed_at es k less = list_any_at (same_entry _ _) es k (0, 0) less (same_itself (get_or es k (0, 0)))

at_listed : (es : List (ℕ × ℕ)) (a b : ℕ) → listed es a b ≡ true →
    (k : ℕ) × (k < length es) × (same_entry a b (get_or es k (0, 0)) ≡ true)
unfolding listed
at_listed es a b e =
    let (k, x, less, here, same) = Any-from_list_any (same_entry a b) es e in (
      k,
      less,
      ap (same_entry a b) (get_or_default es k (0, 0) x less ∙ here) ∙ same,
    )

module _ (p : Pattern) where
  -- the pair at a position is an entry
  pub entry_shares : (k : ℕ) → k < length p.entries → 1 ≤ (get_or p.entries k (0, 0)).0 →
      (get_or p.entries k (0, 0)).0 < (get_or p.entries k (0, 0)).1 → (get_or p.entries k (0, 0)).1 ≤ p.order →
      shares p (get_or p.entries k (0, 0)).0 (get_or p.entries k (0, 0)).1 ≡ true
  entry_shares k less some rises fits =
      shares_from p _ _
      (record {
        left = record { named = some; fits = omega (arith, rises, fits) };
        right = record { named = omega (arith, some, rises); fits = fits };
        apart = λ e. omega (arith, e, rises);
      })
      (listed_at p.entries k less)

  -- and each entry stands at a position
  pub shares_entry : ((k : ℕ) → k < length p.entries →
      (get_or p.entries k (0, 0)).0 < (get_or p.entries k (0, 0)).1) → (a b : ℕ) → a < b → shares p a b ≡ true →
      (k : ℕ) × (k < length p.entries) × ((get_or p.entries k (0, 0)).0 ≡ a) × ((get_or p.entries k (0, 0)).1 ≡ b)
  unfolding same_entry
  shares_entry rises a b less s =
      let (k, fits, same) = at_listed p.entries a b (shares_parts p a b s).1 in
      let up = rises k fits in
      (k, fits, grind (arith, nat_tests), grind (arith, nat_tests))
