-- The law of a run, and the law between two.
use Rattle.std.proofs.Common.{◌≡◌, ℕ, ◌≤◌, true, List, sym, ap, ◌∙◌, subst}
use Rattle.std.proofs.lemmas.Bool.{and_parts, and_from}
use Rattle.sets.specs.Meaning.{Sets}
use Rattle.pattern.specs.Patterns.{Pattern, within}
use Rattle.pattern.specs.Elimination.{row_count, col_count}
use Rattle.pattern.specs.Fill.{below, Keeps}
use Rattle.pattern.specs.Structure.{over, starts}
use Rattle.pattern.proofs.Theorems.{entries_keep, fill_by_paths}
use Rattle.model.specs.Asked.{asked, pattern_held}
use Rattle.model.specs.Meaning.{meaning}
use Rattle.model.specs.States.{State}
use Rattle.model.specs.declared.models.Model.{Model}
use Rattle.runs.specs.declared.running.Done.{Done}
use Rattle.runs.specs.declared.running.Run.{Run}
use Rattle.runs.specs.Laws.{Answers, Grown, MoreMembers, NoSmaller, Stands}
use Rattle.runs.specs.Runs.{Lent, Took}
use Rattle.runs.specs.WholeRuns.{Between, Lawful, Ran, account_of, analyses, beginning, ends_with, givens, lent_to}
use Rattle.runs.proofs.Below.{below_is_led, below_lies, lies_below}
use Rattle.runs.proofs.Counted.{columns_counted, rows_counted}
use Rattle.runs.proofs.Endings.{Written, ends_analysed, ends_written}
use Rattle.runs.proofs.Questions.{asked_of}
use Rattle.runs.proofs.Standing.{stands, writes}

-- an analysed model answers by the paths of what it holds
pub answers : (m : Model) → (meaning m).analysed ≡ true → Answers (meaning m) m
answers m analysed =
    record {
      below = below_is_led m analysed;
      fill = λ v u less. fill_by_paths (pattern_held m) v u less;
      rows = rows_counted m analysed;
      columns = columns_counted m analysed;
      structure = writes m analysed;
    }

-- and what is written in its state stands
standing : (m : Model) (xs ys : List ℕ) → Written (meaning m) xs ys → Stands (meaning m) m xs ys
standing m xs ys w =
    let (before, is) = w.starts_are in
    let (before', is') = w.rows_are in
    let p = pattern_held m in
    subst (λ l. Stands (meaning m) m l ys) (sym is)
    (subst (λ l. Stands (meaning m) m (over (starts p) before) l) (sym is') (stands m w.analysed before before'))

-- of two analysed models of one order, where what the first holds the second does
module _ (m k : Model) (analysed : (meaning m).analysed ≡ true) (analysed' : (meaning k).analysed ≡ true)
    (same : (meaning m).order ≡ (meaning k).order) (more : MoreMembers (meaning m) (meaning k)) where
  kept : Keeps (pattern_held m) (pattern_held k)
  kept = (entries_keep (pattern_held m) (pattern_held k) same).1 more

  no_smaller : (f : Pattern → ℕ → ℕ) (v : ℕ) → within (meaning m).order v ≡ true →
      f (pattern_held m) v ≤ f (pattern_held k) v → NoSmaller (asked f m v) (asked f k v)
  no_smaller f v here le = (
    f (pattern_held m) v,
    f (pattern_held k) v,
    asked_of m f v analysed here,
    asked_of k f v analysed' (subst (λ n. within n v ≡ true) same here),
    le,
  )

  still_below : (v u : ℕ) → below (pattern_held m) v u ≡ true → below (pattern_held k) v u ≡ true
  unfolding below
  still_below v u e = let (apart, under) = and_parts _ _ e in and_from _ _ apart (kept.above v u under)

  pub grown : Grown (meaning m).order m k
  grown =
      record {
        rows = λ v here. no_smaller row_count v here (kept.rows v);
        columns = λ v here. no_smaller col_count v here (kept.columns v);
        above = λ v u l. below_lies k analysed' v u (still_below v u (lies_below m v u l));
      }

module _ {S A : Type 0} (meanings : S → List Sets) (run : Run S A) (took : Took A) (done : Done S A)
    (ran : Ran meanings run took done) where
  pub analysed_after : ends_with analyses (beginning meanings run) (givens meanings run) ≡ true →
      (meaning done.model).analysed ≡ true
  analysed_after ends =
      ap (λ s. s.analysed) ran.state ∙ ends_analysed (beginning meanings run) (givens meanings run) ends

  pub lawful : Lawful meanings run done
  lawful =
      let m = done.model in
      let Answering : State → Type 0 = λ s. Answers s m in
      let Standing : State → Type 0 = λ s. Stands s m done.starts.now done.rows.now in
      record {
        answers = λ ends. subst Answering ran.state (answers m (analysed_after ends));
        arrays = λ ends.
            let l = lent_to meanings run in
            let w = ends_written l (beginning meanings run) run.calls.now l ends in
            let Within : State → Type 0 = λ s. Written s done.starts.now done.rows.now in
            let Held : Lent → Type 0 = λ k. Written (account_of meanings run) k.starts k.rows in
            subst Standing ran.state
            (standing m done.starts.now done.rows.now (subst Within (sym ran.state) (subst Held (sym ran.lent) w)));
      }

pub between : {S A T B : Type 0} (f : S → List Sets) (g : T → List Sets) (took : Took A) (took' : Took B)
    (first : Run S A) (second : Run T B) (one : Done S A) (two : Done T B) →
    Ran f first took one → Ran g second took' two → Between f g first second one two
between f g took took' first second one two ran ran' ends ends' same more =
    let analysed = analysed_after f first took one ran ends in
    let analysed' = analysed_after g second took' two ran' ends' in
    let s = account_of f first in
    let More : State → State → Type 0
    = λ s t. s.order ≡ t.order → MoreMembers s t → Grown s.order one.model two.model in
    let First : State → Type 0 = λ s. More s (meaning two.model) in
    let Second : State → Type 0 = λ t. More s t in
    subst Second ran'.state (subst First ran.state (grown one.model two.model analysed analysed')) same more
