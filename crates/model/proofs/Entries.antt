-- Entries held: how a put and a drop keep them sound and apart, and what the search finds.
use Rattle.std.proofs.Common.{◌≡◌, ℕ, zero, suc, ◌+◌, ◌-◌, ◌<◌, ◌≤◌, min, max, true, false, cond, not, ◌&&◌, ◌||◌}
use Rattle.std.proofs.Common.{eqb, List, [], ◌∷◌, ◌++◌, length, take, drop, is_some, Some, sym, refl, ap, ◌∙◌}
use Rattle.std.proofs.Common.{⊎_elim, arith}
use lib.Seq.{paste}
use Rattle.std.specs.List.{copy_within, position_from, remove}
use Rattle.std.proofs.lemmas.List.{drop-append-le, length-drop, length-take-le, take-append-drop, take-append-le}
use Rattle.std.proofs.lemmas.List.Edits.{drop-paste, length-paste, take-paste}
use Rattle.std.proofs.Math.Seq.{take-length}
use Rattle.std.proofs.lemmas.Bool.{and_parts, and_from, cases_Bool, cond-true, cond-false, or_parts, or_from, not-true}
use Rattle.std.proofs.lemmas.Bool.Decides.{nat_tests}
use Rattle.analysis.specs.declared.records.Entry.{Entry}
use Rattle.analysis.specs.Tables.{Sound, SoundPair, pair_of, pairs_of}
use Rattle.pattern.specs.Patterns.{same_entry, listed}
use Rattle.model.specs.States.{without}
use Rattle.model.specs.Tables.{distinct, joins, sorted}

-- the entry (a, b) of sorted vertices is (i, j) or (j, i) exactly if a is the lower of the two and b the higher
same_is : (a b i j : ℕ) → a < b → same_entry i j (a, b) ≡ (eqb a (min i j) && eqb b (max i j))
unfolding same_entry
same_is a b i j less = grind (arith, nat_tests)

same_flip : (a b : ℕ) (e : ℕ × ℕ) → same_entry a b e ≡ same_entry e.0 e.1 (a, b)
unfolding same_entry
same_flip a b e = grind (arith, nat_tests)

pub sound_push : (n : ℕ) (es : List (ℕ × ℕ)) (e : ℕ × ℕ) → Sound n es → SoundPair n e → Sound n (es ++ e ∷ [])
sound_push n [] e all new zero less = new
sound_push n [] e all new (suc k) less = absurd (omega arith)
sound_push n (d ∷ es) e all new zero less = all 0 (omega arith)
sound_push n (d ∷ es) e all new (suc k) less =
    sound_push n es e (λ j under. all (suc j) (omega arith)) new k (omega arith)

pub sound_remove : (n : ℕ) (es : List Entry) (at : ℕ) → Sound n (pairs_of es) → Sound n (pairs_of (remove es at))
sound_remove n [] zero all k less = absurd (omega arith)
sound_remove n [] (suc at) all k less = absurd (omega arith)
sound_remove n (e ∷ es) zero all k less = all (suc k) (omega arith)
sound_remove n (e ∷ es) (suc at) all zero less = all 0 (omega arith)
sound_remove n (e ∷ es) (suc at) all (suc k) less =
    sound_remove n es at (λ j under. all (suc j) (omega arith)) k (omega arith)

-- no entry is of the order 0
pub none_sound : (es : List (ℕ × ℕ)) → Sound 0 es → es ≡ []
none_sound [] all = refl
none_sound (e ∷ es) all = let first = all 0 (omega arith) in absurd (omega arith)

listed_push : (es : List (ℕ × ℕ)) (e : ℕ × ℕ) (a b : ℕ) → listed es a b ≡ false → same_entry a b e ≡ false →
    listed (es ++ e ∷ []) a b ≡ false
unfolding listed
listed_push [] e a b none other = or_from _ _ other refl
listed_push (d ∷ es) e a b none other =
    let (here, there) = or_parts (same_entry a b d) (listed es a b) none in
    or_from _ _ here (listed_push es e a b there other)

listed_remove : (es : List Entry) (at a b : ℕ) → listed (pairs_of es) a b ≡ false →
    listed (pairs_of (remove es at)) a b ≡ false
unfolding listed
listed_remove [] zero a b none = none
listed_remove [] (suc at) a b none = none
listed_remove (e ∷ es) zero a b none = (or_parts (same_entry a b (pair_of e)) (listed (pairs_of es) a b) none).1
listed_remove (e ∷ es) (suc at) a b none =
    let (here, there) = or_parts (same_entry a b (pair_of e)) (listed (pairs_of es) a b) none in
    or_from _ _ here (listed_remove es at a b there)

listed_without : (i j : ℕ) (es : List (ℕ × ℕ)) (a b : ℕ) → listed es a b ≡ false → listed (without i j es) a b ≡ false
unfolding listed without
listed_without i j [] a b none = none
listed_without i j (e ∷ es) a b none =
    let (here, there) = or_parts (same_entry a b e) (listed es a b) none in
    elim (same_entry i j e) as (λ s. listed (cond s es (e ∷ without i j es)) a b ≡ false)
    [ true ↦ there | false ↦ or_from _ _ here (listed_without i j es a b there) ]

pub distinct_push : (es : List (ℕ × ℕ)) (a b : ℕ) → distinct es ≡ true → listed es a b ≡ false →
    distinct (es ++ (a, b) ∷ []) ≡ true
unfolding listed
distinct_push [] a b apart none = refl
distinct_push (e ∷ es) a b apart none =
    let (here, there) = and_parts (not (listed es e.0 e.1)) (distinct es) apart in
    let (other, rest) = or_parts (same_entry a b e) (listed es a b) none in
    let alone = listed_push es (a, b) e.0 e.1 (not-true _ here) (sym (same_flip a b e) ∙ other) in
    and_from _ _ (ap not alone) (distinct_push es a b there rest)

pub distinct_remove : (es : List Entry) (at : ℕ) → distinct (pairs_of es) ≡ true →
    distinct (pairs_of (remove es at)) ≡ true
distinct_remove [] zero apart = apart
distinct_remove [] (suc at) apart = apart
distinct_remove (e ∷ es) zero apart =
    (and_parts (not (listed (pairs_of es) e.low e.high)) (distinct (pairs_of es)) apart).1
distinct_remove (e ∷ es) (suc at) apart =
    let (here, there) = and_parts (not (listed (pairs_of es) e.low e.high)) (distinct (pairs_of es)) apart in
    let alone = listed_remove es at e.low e.high (not-true _ here) in
    and_from _ _ (ap not alone) (distinct_remove es at there)

pub distinct_without : (a b : ℕ) (es : List (ℕ × ℕ)) → distinct es ≡ true → distinct (without a b es) ≡ true
unfolding without
distinct_without a b [] apart = refl
distinct_without a b (e ∷ es) apart =
    let (here, there) = and_parts (not (listed es e.0 e.1)) (distinct es) apart in
    let alone = listed_without a b es e.0 e.1 (not-true _ here) in
    elim (same_entry a b e) as (λ s. distinct (cond s es (e ∷ without a b es)) ≡ true)
    [ true ↦ there | false ↦ and_from _ _ (ap not alone) (distinct_without a b es there) ]

sorted_head : (n : ℕ) (e : Entry) (es : List Entry) → Sound n (pairs_of (e ∷ es)) →
    (e.low < e.high) × Sound n (pairs_of es)
sorted_head n e es all = let first = all 0 (omega arith) in (first.rises, λ k less. all (suc k) (omega arith))

-- an entry is listed exactly if the search for it, lower vertex first, finds it
pub listed_index : (n k i j : ℕ) (es : List Entry) → Sound n (pairs_of es) →
    listed (pairs_of es) i j ≡ is_some (position_from (joins (sorted i j)) k es)
unfolding listed
listed_index n k i j [] all = refl
listed_index n k i j (e ∷ es) all =
    let (less, there) = sorted_head n e es all in
    let later = listed_index n (k + 1) i j es there in
    rw (same_is e.low e.high i j less)
    (elim (eqb e.low (min i j) && eqb e.high (max i j))
    as (λ s. (s || listed (pairs_of es) i j) ≡ is_some (cond s (Some k) (position_from (joins (sorted i j)) (k + 1) es)))
    [ true ↦ refl | false ↦ later ])

-- where the search finds the entry (i, j), and that a drop takes it out there
pub record Found (k i j p : ℕ) (es : List Entry) : Type 0 where
  pub at : ℕ
  pub is : p ≡ k + at
  pub under : at < length es
  pub rest : without i j (pairs_of es) ≡ pairs_of (remove es at)

pub index_found : (n k i j p : ℕ) (es : List Entry) → Sound n (pairs_of es) →
    position_from (joins (sorted i j)) k es ≡ Some p → Found k i j p es
unfolding without
index_found n k i j p [] all is = absurd (cc)
index_found n k i j p (e ∷ es) all is =
    let (less, there) = sorted_head n e es all in
    let same = same_is e.low e.high i j less in
    let hit = eqb e.low (min i j) && eqb e.high (max i j) in
    ⊎_elim
    (λ here.
    let first : k ≡ p = cc (cond-true hit (Some k) (position_from (joins (sorted i j)) (k + 1) es) here) in
    record { at = 0; is = omega arith; under = omega arith; rest = cond-true _ _ _ (same ∙ here) })
    (λ other.
    let later = sym (cond-false hit (Some k) (position_from (joins (sorted i j)) (k + 1) es) other) ∙ is in
    let found = index_found n (k + 1) i j p es there later in
    record {
      at = suc found.at;
      is = omega (arith, found.is);
      under = omega (arith, found.under);
      rest = cond-false _ _ _ (same ∙ other) ∙ ap (λ rest. pair_of e ∷ rest) found.rest;
    })
    (cases_Bool hit)

-- the entries held with those after the one at `at` copied down by one
module _ (at held : ℕ) (es fs : List Entry)
    (is : fs ≡ copy_within (take held es) (at + 1) (length (take held es)) at)
    (stands : at < held) (fits : held ≤ length es) where
  abbrev moved : ℕ
  moved = held - (at + 1)

  abbrev later : List Entry
  later = drop (at + 1) (take held es)

  count : length (take held es) ≡ held
  count = length-take-le held es fits

  below : at ≤ length (take held es)
  below = omega (arith, count)

  sum : held - 1 ≡ at + moved
  sum = omega arith

  later_count : length later ≡ moved
  later_count = length-drop (at + 1) (take held es) ∙ ap (λ m. m - (at + 1)) count

  enough : moved ≤ length later
  enough = omega (arith, later_count)

  pasted : fs ≡ paste (take held es) at later moved
  pasted = is ∙ ap (λ m. copy_within (take held es) (at + 1) m at) count

  whole : length fs ≡ length (take held es)
  whole = ap length pasted ∙ length-paste (take held es) at later moved (omega (arith, count)) enough

  short : held - 1 ≤ length fs
  short = omega (arith, whole, count)

  -- all but the last are then the others
  pub close_gap : take (held - 1) (fs ++ drop held es) ≡ remove (take held es) at
  close_gap =
      let all : take moved later ≡ later = ap (λ m. take m later) (sym later_count) ∙ take-length later in
      let suc_is : at + 1 ≡ suc at = omega arith in
      take-append-le (held - 1) fs (drop held es) short
      ∙ (λ k. take (sum k) (pasted k))
      ∙ take-paste (take held es) at later moved below enough
      ∙ (λ k. take at (take held es) ++ all k)
      ∙ (λ k. take at (take held es) ++ drop (suc_is k) (take held es))

  -- and the last and what comes after it stays
  pub gap_past : drop (held - 1) (fs ++ drop held es) ≡ drop (held - 1) es
  gap_past =
      drop-append-le (held - 1) fs (drop held es) short
      ∙ (λ k. drop (sum k) (pasted k) ++ drop held es)
      ∙ ap (λ l. l ++ drop held es) (drop-paste (take held es) at later moved below enough)
      ∙ ap (λ m. drop m (take held es) ++ drop held es) (sym sum)
      ∙ sym (drop-append-le (held - 1) (take held es) (drop held es) (omega (arith, count)))
      ∙ ap (drop (held - 1)) (take-append-drop held es)
