-- What a question that is not refused reads in the vertex table.
use Rattle.std.proofs.Common.{◌≡◌, ℕ, ◌-◌, ◌≤◌, true, T, ℤ, pos, nat_abs, is_some, None, Some, Ok, Option, refl, Result, sym, ap, ◌∙◌, subst, arith, w32, w64, Fits, to_z, of_z}
use lib.Signed.{non_neg}
use Rattle.std.proofs.lemmas.Int.{ints}
use Rattle.std.proofs.lemmas.Bool.{not-false}
use Rattle.analysis.specs.Tables.{vertex}
use Rattle.pattern.specs.Elimination.{col_count}
use Rattle.pattern.specs.Analysis.{height_of}
use Rattle.model.specs.declared.models.Model.{Model}
use Rattle.model.specs.declared.numbers.Numbers.{Numbers}
use Rattle.model.specs.declared.refusals.Refusal.{Refusal}
use Rattle.model.specs.Asked.{asked, numbers_of, pattern_held, told}
use Rattle.model.specs.Meaning.{meaning}
use Rattle.model.specs.States.{Question, answer, rules}
use Rattle.model.proofs.Keeping.{within_from}
use Rattle.model.proofs.Rules.{answered, unmet}
use Rattle.pattern.proofs.Columns.{column_fits}

-- an option that holds a value
holds : (o : Option ℕ) → is_some o ≡ true → (x : ℕ) × (o ≡ Some x)
holds None is = absurd (cc)
holds (Some x) is = (x, refl)

-- an integer that 32 bits hold without a sign
abbrev Casts : ℤ → Type 0
Casts z = T (non_neg z) × Fits w32 (nat_abs z)

-- what is known where a question of v meets no refusal
pub record Asks (m : Model) (v : ℕ) : Type 0 where
  pub one : 1 ≤ v
  pub most : v ≤ m.store.order
  pub rises : (vertex m.store.vertices.now v).level ≤ (vertex m.store.vertices.now v).deepest.0
  pub casts : Casts (to_z w64 (of_z w64 (vertex m.store.vertices.now v).weight.0))
  pub reads :
      let x = vertex m.store.vertices.now v in
      ◌≡◌ {A = Result Numbers Refusal}
      (Ok
      (record {
        parent = x.parent;
        place = x.place;
        first = x.first.0;
        height = x.deepest.0 - x.level;
        rows = x.rows;
        columns = nat_abs (to_z w64 (of_z w64 x.weight.0));
      }))
      (asked numbers_of m v)

pub asks : (m : Model) (v : ℕ) (r : Result (Unit {0}) Refusal) → r ≡ told m (Question v) tt → r ≡ Ok tt → Asks m v
asks m v r told ok =
    let (none, same) = answered _ _ _ (sym told ∙ ok) in
    let (order, (outside, (unanalysed, end))) = unmet (rules (meaning m) (Question v)) none in
    let (sum, analysed) = holds m.store.total (not-false _ unanalysed) in
    let (one, most) = within_from m.store.order v (not-false _ outside) in
    let x = vertex m.store.vertices.now v in
    let p = pattern_held m in
    let found = m.answered sum analysed in
    let level = found.heights v one most in
    let height : x.deepest.0 - x.level ≡ height_of p v = omega arith in
    let fits = column_fits p v in
    let small = m.store.small in
    let back : to_z w64 (col_count p v) ≡ pos (col_count p v) = omega (arith, ints) in
    let weight = ap (λ z. to_z w64 (of_z w64 z)) (found.columns v one most) ∙ back in
    record {
      one = one;
      most = most;
      rises = omega arith;
      casts = subst Casts (sym weight) (tt, record { fits = omega arith });
      reads =
          (λ k.
          Ok
          (record {
            parent = found.parents v one most k;
            place = found.places v one most k;
            first = found.firsts v one most k;
            height = height k;
            rows = found.rows v one most k;
            columns = nat_abs (weight k);
          }))
          ∙ ap (λ o. answer o (numbers_of p v)) (sym none);
    }
