-- A structure written into the first places of two arrays is written into the arrays.
use Rattle.std.proofs.Common.{◌≡◌, ℕ, ◌+◌, ◌-◌, ◌≤◌, true, List, ◌++◌, length, take, drop, Some, None, Option}
use Rattle.std.proofs.Common.{sym, ap, ap₂, ◌∙◌, refl, arith, min}
use Rattle.std.proofs.Common.{append_assoc}
use Rattle.std.proofs.lemmas.Bool.{or_parts, ltb-false, not-false}
use Rattle.std.proofs.lemmas.List.{take-append-drop, drop-append-le, length-take-le}
use Rattle.pattern.specs.Elimination.{total}
use Rattle.pattern.specs.Structure.{over, starts, rows}
use Rattle.pattern.proofs.Columns.{columns}
use Rattle.model.specs.States.{State, Structure, first_refusal, if_accepted, pattern_in, rules}
use Rattle.model.specs.Written.{starts_after, rows_after}
use Rattle.model.specs.declared.refusals.Refusal.{Refusal}
use Rattle.model.proofs.Rules.{unmet}

-- what an accepted structure call is given
pub record Accepted (s : State) (a b : ℕ) : Type 0 where
  pub analysed : s.analysed ≡ true
  pub long : length (starts (pattern_in s)) ≤ a
  pub wide : length (rows (pattern_in s)) ≤ b

pub accepted_structure : (s : State) (long wide : ℕ) → first_refusal s (Structure long wide) ≡ None →
    Accepted s long wide
accepted_structure s long wide none =
    let (empty, (unanalysed, (short, end))) = unmet (rules s (Structure long wide)) none in
    let columns = columns (pattern_in s) in
    let (a, b) = or_parts _ _ short in
    let a' : s.order + 1 ≤ long = ltb-false _ _ a in
    let b' : total (pattern_in s) - s.order ≤ wide = ltb-false _ _ b in
    record {
      analysed = not-false _ unanalysed;
      long = omega (arith, columns.starts_are);
      wide = omega (arith, columns.rows_are);
    }

over_part : (a : ℕ) (ys xs : List ℕ) → length ys ≤ a → a ≤ length xs → over ys (take a xs) ++ drop a xs ≡ over ys xs
over_part a ys xs fits within =
    let long = length-take-le a xs within in
    append_assoc ys (drop (length ys) (take a xs)) (drop a xs)
    ∙ ap (λ l. ys ++ l)
    (sym (drop-append-le (length ys) (take a xs) (drop a xs) (omega arith))
    ∙ ap (drop (length ys)) (take-append-drop a xs))

into : (o : Option Refusal) (a : ℕ) (ys xs : List ℕ) → (o ≡ None → length ys ≤ a) → a ≤ length xs →
    if_accepted o (over ys (take a xs)) (take a xs) ++ drop a xs ≡ if_accepted o (over ys xs) xs
into None a ys xs fits within = over_part a ys xs (fits refl) within
into (Some refusal) a ys xs fits within = take-append-drop a xs

-- a and b are the lengths of the parts of xs and zs that are lent for the structure
module _ (s : State) (a b : ℕ) (xs zs : List ℕ) (long wide : ℕ)
    (ea : a ≡ min long (length xs)) (eb : b ≡ min wide (length zs)) where
  lengths : Structure (length (take a xs)) (length (take b zs)) ≡ Structure a b
  lengths = ap₂ Structure (length-take-le a xs (omega arith)) (length-take-le b zs (omega arith))

  asked_for : Structure a b ≡ Structure (min long (length xs)) (min wide (length zs))
  asked_for = ap₂ Structure ea eb

  pub starts_into : (w : List ℕ) →
      w ≡ starts_after s (Structure (length (take a xs)) (length (take b zs))) (take a xs) →
      w ++ drop a xs ≡ starts_after s (Structure (min long (length xs)) (min wide (length zs))) xs
  starts_into w e =
      ap (λ l. l ++ drop a xs) (e ∙ ap (λ g. starts_after s g (take a xs)) lengths)
      ∙ into (first_refusal s (Structure a b)) a (starts (pattern_in s)) xs
      (λ none. (accepted_structure s a b none).long) (omega arith)
      ∙ ap (λ g. starts_after s g xs) asked_for

  pub rows_into : (w : List ℕ) →
      w ≡ rows_after s (Structure (length (take a xs)) (length (take b zs))) (take b zs) →
      w ++ drop b zs ≡ rows_after s (Structure (min long (length xs)) (min wide (length zs))) zs
  rows_into w e =
      ap (λ l. l ++ drop b zs) (e ∙ ap (λ g. rows_after s g (take b zs)) lengths)
      ∙ into (first_refusal s (Structure a b)) b (rows (pattern_in s)) zs
      (λ none. (accepted_structure s a b none).wide) (omega arith)
      ∙ ap (λ g. rows_after s g zs) asked_for
