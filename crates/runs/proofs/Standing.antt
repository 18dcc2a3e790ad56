-- Arrays that begin with the starts and the rows of the pattern held have the structure standing in them.
use Rattle.std.proofs.Common.{◌≡◌, ℕ, ◌+◌, ◌-◌, ◌≤◌, true, List, length, drop, get_or, Option, sym, ◌∙◌, subst, arith}
use Rattle.std.proofs.Math.Seq.{drop-append_seam}
use Rattle.std.proofs.lemmas.List.{length-append, get_or_append_left}
use Rattle.pattern.specs.Elimination.{col_count}
use Rattle.pattern.specs.Structure.{higher, over, starts, rows, taken}
use Rattle.pattern.proofs.Tests.{within_parts}
use Rattle.pattern.proofs.Columns.{columns, higher_count, start_at, taken_next}
use Rattle.pattern.proofs.Arrays.{taken_none, taken_total}
use Rattle.model.specs.Asked.{pattern_held}
use Rattle.model.specs.Meaning.{meaning}
use Rattle.model.specs.States.{if_accepted}
use Rattle.model.specs.declared.models.Model.{Model}
use Rattle.model.specs.declared.refusals.Refusal.{Refusal}
use Rattle.model.proofs.ReadBack.{read_back}
use Rattle.model.proofs.Rules.{answered}
use Rattle.runs.specs.Laws.{Rest, Stands, Writes}
use Rattle.runs.proofs.Counted.{higher_lists}
use Rattle.runs.proofs.Questions.{asked_of}

module _ (m : Model) (analysed : (meaning m).analysed ≡ true) where
  starts_long : length (starts (pattern_held m)) ≡ (meaning m).order + 1
  starts_long = (columns (pattern_held m)).starts_are

  -- where column v ends
  ends_at : (xs : List ℕ) (v : ℕ) → v ≤ (meaning m).order →
      get_or (over (starts (pattern_held m)) xs) v 0 ≡ taken (pattern_held m) v
  ends_at xs v le =
      get_or_append_left (starts (pattern_held m)) (drop (length (starts (pattern_held m))) xs) 0 v
      (omega (arith, starts_long))
      ∙ start_at (pattern_held m) v le

  pub stands : (xs ys : List ℕ) →
      Stands (meaning m) m (over (starts (pattern_held m)) xs) (over (rows (pattern_held m)) ys)
  stands xs ys =
      let p = pattern_held m in
      record {
        long =
            omega (arith, length-append (starts p) (drop (length (starts p)) xs), starts_long);
        begins = ends_at xs 0 (omega arith) ∙ taken_none p;
        grows = λ v here.
            let vertex = within_parts (meaning m).order v here in (
              col_count p v,
              asked_of m col_count v analysed here,
              let here = ends_at xs v vertex.fits in
                  let before = ends_at xs (v - 1) (omega (arith, vertex.fits)) in
                  omega (arith, here, before, higher_count p v vertex, taken_next p v vertex),
            );
        columns = λ v here. (higher p v, read_back p xs ys v here, higher_lists (meaning m) v);
      }

  rest : (xs ys : List ℕ) →
      Rest (meaning m) xs ys (over (starts (pattern_held m)) xs) (over (rows (pattern_held m)) ys)
  rest xs ys =
      let p = pattern_held m in
      let last : length (rows p) ≡ get_or (over (starts p) xs) (meaning m).order 0
      = omega (arith, ends_at xs (meaning m).order (omega arith), taken_total p, (columns p).rows_are) in
      record {
        starts_stay =
            subst (λ k. drop k (over (starts p) xs) ≡ drop k xs) starts_long
            (drop-append_seam (starts p) (drop (length (starts p)) xs));
        rows_stay =
            subst (λ k. drop k (over (rows p) ys) ≡ drop k ys) last
            (drop-append_seam (rows p) (drop (length (rows p)) ys));
      }

  pub writes : (xs ys : List ℕ) → Writes (meaning m) m xs ys
  writes xs ys accepted =
      let (none, _) = answered {X = Unit {0}} _ _ _ accepted in
      let p = pattern_held m in
      let After : Option Refusal → Type 0
      = λ o.
      let starts' = if_accepted o (over (starts p) xs) xs in
      let rows' = if_accepted o (over (rows p) ys) ys in
      Stands (meaning m) m starts' rows' × Rest (meaning m) xs ys starts' rows' in
      subst After (sym none) (stands xs ys, rest xs ys)
