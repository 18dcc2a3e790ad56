-- The arrays once all rows are written: they begin with the starts and the rows; and how long these are.
use Rattle.std.proofs.Common.{◌≡◌, ℕ, zero, suc, ◌+◌, ◌*◌, ◌-◌, ◌<◌, ◌≤◌, List, length, drop, get_or, sym, refl, ap, ◌∙◌, inl, inr, arith}
use Rattle.std.proofs.lemmas.Bool.{cases_lt}
use Rattle.std.proofs.lemmas.List.{ext_get_or, length-append, length-drop, get_or_append_left, get_or-append_right, get_or-drop}
use Rattle.pattern.specs.Patterns.{Pattern}
use Rattle.pattern.specs.Elimination.{total}
use Rattle.pattern.specs.Structure.{taken, starts, rows, over}
use Rattle.pattern.specs.Filling.{Filled}
use Rattle.pattern.proofs.Tests.{Vertex}
use Rattle.pattern.proofs.Columns.{column_fits, taken_is, start_at, columns}
use Rattle.pattern.proofs.Cursors.{cursor_all}

-- what stands in the first places, and all else is as it was
pub over_is : (xs before after : List ℕ) → length after ≡ length before → length xs ≤ length before →
    ((j : ℕ) → j < length xs → get_or after j 0 ≡ get_or xs j 0) →
    ((j : ℕ) → length xs ≤ j → get_or after j 0 ≡ get_or before j 0) → after ≡ over xs before
over_is xs before after long fits front back =
    ext_get_or 0 after (over xs before)
    (omega (arith, length-append xs (drop (length xs) before), length-drop (length xs) before))
    (λ j h. elim (cases_lt j (length xs)) [
      | inl less ↦ front j less ∙ sym (get_or_append_left xs (drop (length xs) before) 0 j less)
      | inr le ↦
          let at : length xs + (j - length xs) ≡ j = omega arith in
          back j le ∙ sym (ap (λ k. get_or before k 0) at) ∙ sym (get_or-drop (length xs) before (j - length xs) 0)
          ∙ sym (get_or-append_right xs (drop (length xs) before) (length xs) j 0 refl le)
    ])

module _ (p : Pattern) where
  pub taken_fits : p.order ≤ 16384 → (v : ℕ) → taken p v ≤ v * 16384
  unfolding taken
  taken_fits few zero = omega arith
  taken_fits few (suc v) = omega (arith, taken_fits few v, column_fits p (suc v))

  pub rows_long : length (rows p) ≡ taken p p.order
  unfolding rows
  rows_long = taken_is p p.order (omega arith)

  -- the places of the rows are those of the factor without its diagonal
  pub taken_total : taken p p.order + p.order ≡ total p
  taken_total = omega (arith, rows_long, (columns p).rows_are)

  pub taken_none : taken p 0 ≡ 0
  unfolding taken
  taken_none = refl

  module _ (C R : ℕ → ℕ) (filled : Filled p p.order p.order C R) where
    at_end : (v : ℕ) → Vertex p.order v → C v ≡ taken p v
    at_end v vv = filled.cursors v vv.named vv.fits ∙ cursor_all p v vv

    written_to : (k j : ℕ) → k ≤ p.order → j < taken p k → R j ≡ get_or (rows p) j 0
    written_to zero j le less = absurd (omega (arith, taken_none, less))
    written_to (suc k) j le less =
        elim (cases_lt j (taken p k)) [
          | inl before ↦ written_to k j (omega arith) before
          | inr from ↦
              let back : suc k - 1 ≡ k = omega arith in
              filled.written (suc k) j (omega arith) le (omega (arith, ap (taken p) back))
              (omega (arith, at_end (suc k) (record { named = omega arith; fits = le })))
        ]

    pub starts_done : (before after : List ℕ) → length after ≡ length before → p.order < length before →
        ((j : ℕ) → get_or after j 0 ≡ C j) → C 0 ≡ 0 → ((j : ℕ) → p.order < j → C j ≡ get_or before j 0) →
        after ≡ over (starts p) before
    starts_done before after long fits is first rest =
        let few = (columns p).starts_are in
        over_is (starts p) before after long (omega arith)
        (λ j h. is j ∙ value j (omega arith) ∙ sym (start_at p j (omega arith)))
        (λ j h. is j ∙ rest j (omega arith))
      where
        value : (j : ℕ) → j ≤ p.order → C j ≡ taken p j
        value zero le = first ∙ sym taken_none
        value (suc j) le = at_end (suc j) (record { named = omega arith; fits = le })

    pub rows_done : (before after : List ℕ) → length after ≡ length before → taken p p.order ≤ length before →
        ((j : ℕ) → get_or after j 0 ≡ R j) → ((j : ℕ) → taken p p.order ≤ j → R j ≡ get_or before j 0) →
        after ≡ over (rows p) before
    rows_done before after long fits is rest =
        let few = rows_long in
        over_is (rows p) before after long (omega arith)
        (λ j h. is j ∙ written_to p.order j (omega arith) (omega arith))
        (λ j h. is j ∙ rest j (omega arith))
