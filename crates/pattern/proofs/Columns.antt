-- The structure in columns: a column is its vertex and the rows above it, and the rows stand column after column.
use Rattle.std.proofs.Common.{◌≡◌, ℕ, zero, suc, ◌+◌, ◌-◌, ◌<◌, ◌≤◌, true, ◌&&◌, ◌||◌, eqb, ltb, ◌∷◌, ◌++◌, length, get_or, take, drop, refl, ap, ◌∙◌, subst, ap₂, inl, inr, arith}
use Rattle.std.proofs.lemmas.Bool.{and_left, le-ltb, cases_eq}
use Rattle.std.proofs.lemmas.List.{length-append, length-map, get_or-map, take_at, drop_at, get_or-append-add, get_or_append_left}
use Rattle.pattern.specs.Lists.{upto, each, sum}
use Rattle.pattern.specs.Patterns.{Pattern}
use Rattle.pattern.specs.Elimination.{fill, col, col_count, total}
use Rattle.pattern.specs.Structure.{higher, taken, starts, rows, InColumns}
use Rattle.pattern.proofs.Tests.{Vertex, within_parts}
use Rattle.pattern.proofs.Lists.{keep_own, keep_grows, keep_all, each_next, each_cut, get_or_upto, length_upto, sum_next}

module _ (p : Pattern) where
  pub col_is : (v : ℕ) → Vertex p.order v → col p v ≡ v ∷ higher p v
  unfolding col higher
  col_is v vv =
      keep_own (λ u. ltb v u && fill p v u) v vv.named (λ x le. and_left _ _ (le-ltb v x le)) p.order vv.fits

  pub higher_count : (v : ℕ) → Vertex p.order v → col_count p v ≡ suc (length (higher p v))
  unfolding col_count
  higher_count v vv = ap length (col_is v vv)

  -- a column is no longer than the pattern's order
  pub column_fits : (v : ℕ) → col_count p v ≤ p.order
  unfolding col_count col
  column_fits v =
      let a = keep_grows (λ u. eqb u v || (ltb v u && fill p v u)) (λ _. true) (λ _ _. refl) (upto p.order) in
      let b = keep_all (upto p.order) in
      let c = length_upto p.order in
      omega arith

  pub taken_is : (v : ℕ) → v ≤ p.order → length (each (higher p) (upto v)) ≡ taken p v
  unfolding taken each upto
  taken_is zero le = refl
  taken_is (suc v) le =
      let count = higher_count (suc v) (record { named = omega arith; fits = le }) in
      ap length (each_next (higher p) v)
      ∙ length-append (each (higher p) (upto v)) (higher p (suc v))
      ∙ omega (arith, taken_is v (omega arith), count)

  pub taken_total : (v : ℕ) → v ≤ p.order → taken p v + v ≡ sum (col_count p) (upto v)
  unfolding taken sum upto
  taken_total zero le = refl
  taken_total (suc v) le =
      let count = higher_count (suc v) (record { named = omega arith; fits = le }) in
      omega (arith, taken_total v (omega arith), count, sum_next (col_count p) v)

  pub start_at : (v : ℕ) → v ≤ p.order → get_or (starts p) v 0 ≡ taken p v
  unfolding starts taken
  start_at zero le = refl
  start_at (suc v) le =
      get_or-map (taken p) (upto p.order) v 0 0 (omega (arith, length_upto p.order))
      ∙ ap (taken p) (get_or_upto p.order v 0 le)

  -- one column takes the places after those of the earlier ones
  pub taken_next : (v : ℕ) → Vertex p.order v → taken p v ≡ taken p (v - 1) + length (higher p v)
  unfolding taken
  taken_next zero vv = absurd (omega (arith, vv.named))
  taken_next (suc v) vv =
      let back : suc v - 1 ≡ v = omega arith in omega (arith, higher_count (suc v) vv, ap (taken p) back)

  pub taken_grows : (v w : ℕ) → v ≤ w → taken p v ≤ taken p w
  unfolding taken
  taken_grows v zero le = let e : v ≡ 0 = omega arith in omega (arith, ap (taken p) e)
  taken_grows v (suc w) le =
      elim (cases_eq v (suc w)) [
        | inl same ↦ omega (arith, ap (taken p) same)
        | inr other ↦ omega (arith, taken_grows v w (omega arith))
      ]

  pub row_at : (v i : ℕ) → Vertex p.order v → i < length (higher p v) →
      get_or (rows p) (taken p (v - 1) + i) 0 ≡ get_or (higher p v) i 0
  unfolding rows
  row_at zero i vv less = absurd (omega (arith, vv.named))
  row_at (suc v) i vv less =
      let (rest, cut) = each_cut (higher p) v p.order vv.fits in
      let before = each (higher p) (upto v) in
      let back : suc v - 1 ≡ v = omega arith in
      let at : taken p (suc v - 1) + i ≡ length before + i =
      omega (arith, ap (taken p) back, taken_is v (omega (arith, vv.fits))) in
      ap₂ (λ l k. get_or l k 0) cut at
      ∙ get_or-append-add before (higher p (suc v) ++ rest) i 0
      ∙ get_or_append_left (higher p (suc v)) rest 0 i less

  pub column_of : (v : ℕ) → v < p.order →
      take (taken p (suc v) - taken p v) (drop (taken p v) (rows p)) ≡ higher p (suc v)
  unfolding rows taken
  column_of v less =
      let (rest, cut) = each_cut (higher p) v p.order less in
      let count = higher_count (suc v) (record { named = omega arith; fits = less }) in
      ap (λ l. take (taken p (suc v) - taken p v) (drop (taken p v) l)) cut
      ∙ ap (take (taken p (suc v) - taken p v))
      (drop_at (each (higher p) (upto v)) (higher p (suc v) ++ rest) (taken p v) (taken_is v (omega arith)))
      ∙ take_at (higher p (suc v)) rest (taken p (suc v) - taken p v) (omega (arith, count))

  column_at : (v : ℕ) → v < p.order →
      take (get_or (starts p) (v + 1) 0 - get_or (starts p) v 0) (drop (get_or (starts p) v 0) (rows p)) ≡ higher p (v + 1)
  column_at v less =
      ap₂ (λ from to. take (to - from) (drop from (rows p)))
      (start_at v (omega arith)) (start_at (v + 1) (omega arith))
      ∙ subst (λ k. take (taken p k - taken p v) (drop (taken p v) (rows p)) ≡ higher p k) (omega arith)
      (column_of v less)

  pub columns : InColumns p
  unfolding starts rows total
  columns = record {
    starts_are = omega (arith, length-map (upto p.order) (taken p), length_upto p.order);
    rows_are =
        ap (λ k. k + p.order) (taken_is p.order (omega arith)) ∙ taken_total p.order (omega arith);
    own_first = λ v here. col_is v (within_parts p.order v here);
    column = column_at;
  }
