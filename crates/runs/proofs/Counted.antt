-- Rows, columns and the fill as lists of the joints that are joined by paths.
use Rattle.std.proofs.Common.{◌≡◌, ℕ, ◌+◌, Bool, true, ◌&&◌, ltb, ◌⊎◌, sym, subst, inl, inr, arith}
use Rattle.std.specs.List.Sorted.{IsStrictlyIncreasing}
use Rattle.std.proofs.lemmas.Bool.{and_parts, and_from, or_cases, or_left, or_right, eqb-true, eq-eqb, ltb-true, lt-ltb}
use Rattle.std.proofs.lemmas.List.Kept.{IsStrictlyIncreasing-filter}
use Rattle.pattern.specs.Lists.{upto, keep}
use Rattle.pattern.specs.Patterns.{within}
use Rattle.pattern.specs.Elimination.{fill, row, col, row_count, col_count}
use Rattle.pattern.specs.Structure.{higher}
use Rattle.pattern.proofs.Tests.{Vertex, within_parts}
use Rattle.pattern.proofs.Lists.{in_keep, keep_has, get_or_upto, length_upto}
use Rattle.pattern.proofs.Joins.{fill_ends}
use Rattle.pattern.proofs.Theorems.{fill_by_paths}
use Rattle.model.specs.Asked.{asked, pattern_held}
use Rattle.model.specs.Meaning.{meaning}
use Rattle.model.specs.States.{State, pattern_in}
use Rattle.model.specs.declared.models.Model.{Model}
use Rattle.runs.specs.Laws.{Counts, Joined, Lists}
use Rattle.runs.proofs.Questions.{asked_of}

rises : (n : ℕ) → IsStrictlyIncreasing (upto n)
rises n k within =
    let l = length_upto n in
    omega (arith, get_or_upto n k 0 (omega arith), get_or_upto n (k + 1) 0 (omega arith))

-- the vertices that pass a test are the list of those of which P holds, if the test says so
listed_by : (n : ℕ) (test : ℕ → Bool) (P : ℕ → Type 0) → ((x : ℕ) → test x ≡ true → Vertex n x → P x) →
    ((x : ℕ) → P x → (test x ≡ true) × Vertex n x) → Lists (keep test (upto n)) P
unfolding keep
listed_by n test P to from =
    record {
      ascending = IsStrictlyIncreasing-filter test (upto n) (rises n);
      exactly = λ x. (
        λ o. let (passes, vertex) = in_keep n test x o in to x passes vertex,
        λ holds. let (passes, vertex) = from x holds in keep_has n test x passes vertex,
      );
    }

module _ (s : State) where
  joined_to : (v u : ℕ) → (ltb v u && fill (pattern_in s) v u) ≡ true → Joined s v u
  joined_to v u e =
      let (less, joins) = and_parts _ _ e in
      let less = ltb-true v u less in
      let path = (fill_by_paths (pattern_in s) v u less).0 joins in (less, path)

  joined_from : (v u : ℕ) → Joined s v u → (ltb v u && fill (pattern_in s) v u) ≡ true
  joined_from v u (less, path) = and_from _ _ (lt-ltb v u less) ((fill_by_paths (pattern_in s) v u less).1 path)

  joined_ends : (v u : ℕ) → Joined s v u → Vertex s.order v × Vertex s.order u
  joined_ends v u (less, path) =
      let joins = (fill_by_paths (pattern_in s) v u less).1 path in
      let ends = fill_ends (pattern_in s) v u joins in (ends.left, ends.right)

  pub row_lists : (u : ℕ) → Vertex s.order u → Lists (row (pattern_in s) u) (λ v. (v ≡ u) ⊎ Joined s v u)
  unfolding row
  row_lists u vertex =
      listed_by s.order _ _
      (λ v e _. elim (or_cases _ _ e) [ inl same ↦ inl (eqb-true v u same) | inr joins ↦ inr (joined_to v u joins) ])
      (λ v holds.
      elim holds [
        | inl same ↦ (or_left _ _ (eq-eqb v u same), subst (Vertex s.order) (sym same) vertex)
        | inr joined ↦ (or_right _ _ (joined_from v u joined), (joined_ends v u joined).0)
      ])

  pub column_lists : (v : ℕ) → Vertex s.order v → Lists (col (pattern_in s) v) (λ u. (u ≡ v) ⊎ Joined s v u)
  unfolding col
  column_lists v vertex =
      listed_by s.order _ _
      (λ u e _. elim (or_cases _ _ e) [ inl same ↦ inl (eqb-true u v same) | inr joins ↦ inr (joined_to v u joins) ])
      (λ u holds.
      elim holds [
        | inl same ↦ (or_left _ _ (eq-eqb u v same), subst (Vertex s.order) (sym same) vertex)
        | inr joined ↦ (or_right _ _ (joined_from v u joined), (joined_ends v u joined).1)
      ])

  pub higher_lists : (v : ℕ) → Lists (higher (pattern_in s) v) (Joined s v)
  unfolding higher
  higher_lists v =
      listed_by s.order _ _ (λ u e _. joined_to v u e)
      (λ u joined. (joined_from v u joined, (joined_ends v u joined).1))

module _ (m : Model) (analysed : (meaning m).analysed ≡ true) where
  pub rows_counted : (u : ℕ) → within (meaning m).order u ≡ true →
      Counts (λ v. (v ≡ u) ⊎ Joined (meaning m) v u) (asked row_count m u)
  unfolding row_count
  rows_counted u here =
      let lists = row_lists (meaning m) u (within_parts _ u here) in
      (row (pattern_held m) u, lists, asked_of m row_count u analysed here)

  pub columns_counted : (v : ℕ) → within (meaning m).order v ≡ true →
      Counts (λ u. (u ≡ v) ⊎ Joined (meaning m) v u) (asked col_count m v)
  unfolding col_count
  columns_counted v here =
      let lists = column_lists (meaning m) v (within_parts _ v here) in
      (col (pattern_held m) v, lists, asked_of m col_count v analysed here)
