-- What one elimination joins, and the laws of the fill that need nothing else.
use Rattle.std.proofs.Common.{◌≡◌, ℕ, zero, suc, ◌<◌, ◌≤◌, true, ◌&&◌, eqb, ◌⊎◌, List, sym, refl, ◌∙◌, subst, inl, inr, arith, ap}
use mathlib.Core.Path.{fun_ext}
use Rattle.std.specs.List.{list_any}
use Rattle.std.proofs.Math.Bool.{or_comm}
use Rattle.std.proofs.lemmas.Bool.{cases_eq, or_cases, or_left, or_right, eqb-false, ne_eqb, and_parts, and_from, not-true, not_from_false, ltb-true, lt-ltb}
use Rattle.pattern.specs.Patterns.{Pattern, same_entry, listed, shares}
use Rattle.pattern.specs.Elimination.{joined, fill}
use Rattle.pattern.proofs.Tests.{Vertex, within_parts, within_from}

-- a and b are different vertices
pub record Ends (n a b : ℕ) : Type 0 where
  pub left : Vertex n a
  pub right : Vertex n b
  pub apart : a ≡ b → ⊥

same_entry_sym : (a b : ℕ) (e : ℕ × ℕ) → same_entry a b e ≡ same_entry b a e
unfolding same_entry
same_entry_sym a b e = or_comm (eqb e.0 a && eqb e.1 b) (eqb e.0 b && eqb e.1 a)

pub listed_sym : (es : List (ℕ × ℕ)) (a b : ℕ) → listed es a b ≡ listed es b a
unfolding listed
listed_sym es a b = ap (λ test. list_any test es) (fun_ext (same_entry_sym a b))

module _ (p : Pattern) where
  pub shares_parts : (a b : ℕ) → shares p a b ≡ true → Ends p.order a b × (listed p.entries a b ≡ true)
  unfolding shares
  shares_parts a b e =
      let (ends, more) = and_parts _ _ e in
      let (at_a, at_b) = and_parts _ _ ends in
      let (apart, held) = and_parts _ _ more in (
        record {
          left = within_parts _ a at_a;
          right = within_parts _ b at_b;
          apart = eqb-false a b (not-true _ apart);
        },
        held,
      )

  pub shares_from : (a b : ℕ) → Ends p.order a b → listed p.entries a b ≡ true → shares p a b ≡ true
  unfolding shares
  shares_from a b ends held =
      and_from _ _ (and_from _ _ (within_from _ a ends.left) (within_from _ b ends.right))
      (and_from _ _ (not_from_false _ (ne_eqb a b ends.apart)) held)

  pub shares_sym : (a b : ℕ) → shares p a b ≡ true → shares p b a ≡ true
  shares_sym a b e =
      let (ends, held) = shares_parts a b e in
      shares_from b a (record { left = ends.right; right = ends.left; apart = λ s. ends.apart (sym s) })
      (listed_sym _ b a ∙ held)

  -- eliminating suc k joins a and b
  pub record Joins (k a b : ℕ) : Type 0 where
    pub a-above : suc k < a
    pub b-above : suc k < b
    pub apart : a ≡ b → ⊥
    pub at_a : joined p k (suc k) a ≡ true
    pub at_b : joined p k (suc k) b ≡ true

  pub joined_parts : (k a b : ℕ) → joined p (suc k) a b ≡ true → (joined p k a b ≡ true) ⊎ Joins k a b
  unfolding joined
  joined_parts k a b e =
      elim (or_cases _ _ e) [
        | inl before ↦ inl before
        | inr now ↦
            let (high, more) = and_parts _ _ now in
            let (a-high, b-high) = and_parts _ _ high in
            let (apart, both) = and_parts _ _ more in
            let (to-a, to-b) = and_parts _ _ both in
            inr
            (record {
              a-above = ltb-true _ _ a-high;
              b-above = ltb-true _ _ b-high;
              apart = eqb-false a b (not-true _ apart);
              at_a = to-a;
              at_b = to-b;
            })
      ]

  pub joined_before : (k a b : ℕ) → joined p k a b ≡ true → joined p (suc k) a b ≡ true
  unfolding joined
  joined_before k a b e = or_left _ _ e

  pub joined_now : (k a b : ℕ) → Joins k a b → joined p (suc k) a b ≡ true
  unfolding joined
  joined_now k a b j =
      or_right _ _
      (and_from _ _ (and_from _ _ (lt-ltb _ _ j.a-above) (lt-ltb _ _ j.b-above))
      (and_from _ _ (not_from_false _ (ne_eqb a b j.apart)) (and_from _ _ j.at_a j.at_b)))

  pub joined_start : (a b : ℕ) → shares p a b ≡ joined p 0 a b
  unfolding joined
  joined_start a b = refl

  pub joined_stays : (k m a b : ℕ) → k ≤ m → joined p k a b ≡ true → joined p m a b ≡ true
  joined_stays k zero a b le e = subst (λ j. joined p j a b ≡ true) (omega arith) e
  joined_stays k (suc m) a b le e =
      elim (cases_eq k (suc m)) [
        | inl same ↦ subst (λ j. joined p j a b ≡ true) same e
        | inr other ↦ joined_before m a b (joined_stays k m a b (omega arith) e)
      ]

  pub joined_ends : (k a b : ℕ) → joined p k a b ≡ true → Ends p.order a b
  joined_ends zero a b e = (shares_parts a b (joined_start a b ∙ e)).0
  joined_ends (suc k) a b e =
      elim (joined_parts k a b e) [
        | inl before ↦ joined_ends k a b before
        | inr j ↦ record {
          left = (joined_ends k (suc k) a j.at_a).right;
          right = (joined_ends k (suc k) b j.at_b).right;
          apart = j.apart;
        }
      ]

  pub joined_sym : (k a b : ℕ) → joined p k a b ≡ true → joined p k b a ≡ true
  joined_sym zero a b e = sym (joined_start b a) ∙ shares_sym a b (joined_start a b ∙ e)
  joined_sym (suc k) a b e =
      elim (joined_parts k a b e) [
        | inl before ↦ joined_before k b a (joined_sym k a b before)
        | inr j ↦
            joined_now k b a
            (record {
              a-above = j.b-above;
              b-above = j.a-above;
              apart = λ s. j.apart (sym s);
              at_a = j.at_b;
              at_b = j.at_a;
            })
      ]

  pub fill_ends : (a b : ℕ) → fill p a b ≡ true → Ends p.order a b
  unfolding fill
  fill_ends a b e = joined_ends p.order a b e

  pub fill_sym : (a b : ℕ) → fill p a b ≡ true → fill p b a ≡ true
  unfolding fill
  fill_sym a b e = joined_sym p.order a b e
