-- How a list of calls ends: what follows its last accepted call of a kind leaves members, analysis and arrays.
use Rattle.std.proofs.Common.{◌≡◌, ℕ, Bool, true, false, ◌&&◌, ◌||◌, cond, List, [], ◌∷◌, map}
use Rattle.std.proofs.Common.{is_none, is_some, Some, None, Option, ◌⊎◌, inl, inr, refl, sym, ap, ◌∙◌, subst}
use Rattle.std.proofs.lemmas.Bool.{and_parts, or_left, or_right}
use Rattle.pattern.specs.Structure.{over, starts, rows}
use Rattle.model.specs.States.{State, Given, Put, Drop, Analyse, Structure}
use Rattle.model.specs.States.{accepted, first_refusal, if_accepted, pattern_in, step}
use Rattle.model.specs.Written.{starts_accepted, starts_after, rows_accepted, rows_after}
use Rattle.model.specs.declared.refusals.Refusal.{Refusal}
use Rattle.runs.specs.declared.calls.Call.{Call}
use Rattle.runs.specs.Runs.{Lent, account, given, last_accepted, after_call, after_calls}
use Rattle.runs.specs.WholeRuns.{analyses, changes, ends_with, passes, structures}
use Rattle.runs.proofs.Windows.{accepted_structure}

-- the call is refused, or not of the kind
abbrev Spared : (Given → Bool) → State → Given → Type 0
Spared kind s g = (is_none (first_refusal s g) && kind g) ≡ false

-- the members stay, and so does an analysis
record Calm (s t : State) : Type 0 where
  pattern : pattern_in t ≡ pattern_in s
  analysed : s.analysed ≡ true → t.analysed ≡ true

-- a call that is no accepted put or drop
calm_step : (s : State) (g : Given) → Spared changes s g → Calm s (step s g)
calm_step s g = by g (first_refusal s g)
  where
    by : (g : Given) (o : Option Refusal) → (is_none o && changes g) ≡ false → Calm s (if_accepted o (accepted s g) s)
    by g (Some refusal) spared = record { pattern = refl; analysed = λ e. e }
    by (Put i j) None spared = absurd (cc)
    by (Drop i j) None spared = absurd (cc)
    by (Analyse size) None spared = record { pattern = refl; analysed = λ e. refl }
    by _ None spared = record { pattern = refl; analysed = λ e. e }

-- a call that is no accepted structure call leaves the arrays
stays : (s : State) (g : Given) (xs ys : List ℕ) → Spared structures s g →
    (starts_after s g xs ≡ xs) × (rows_after s g ys ≡ ys)
stays s g xs ys = by g (first_refusal s g)
  where
    by : (g : Given) (o : Option Refusal) → (is_none o && structures g) ≡ false →
        (if_accepted o (starts_accepted s g xs) xs ≡ xs) × (if_accepted o (rows_accepted s g ys) ys ≡ ys)
    by g (Some refusal) spared = (refl, refl)
    by (Structure long wide) None spared = absurd (cc)
    by _ None spared = (refl, refl)

-- a call spared by a wider kind
narrower : (a wide narrow : Bool) → (narrow ≡ true → wide ≡ true) → (a && wide) ≡ false → (a && narrow) ≡ false
narrower false wide narrow within spared = refl
narrower true wide true within spared = absurd (cc (within refl))
narrower true wide false within spared = refl

-- what the last accepted call of a kind is, by the first call and the later ones
none_left : (later : Option Given) (b : Bool) (g : Given) → cond (is_some later) later (cond b (Some g) None) ≡ None →
    (later ≡ None) × (b ≡ false)
none_left None true g e = absurd (cc)
none_left None false g e = (refl, refl)
none_left (Some h) b g e = absurd (cc)

picked : (kind : Given → Bool) (later : Option Given) (b : Bool) (g : Given) →
    passes kind (cond (is_some later) later (cond b (Some g) None)) ≡ true →
    (passes kind later ≡ true) ⊎ ((later ≡ None) × (b ≡ true) × (kind g ≡ true))
picked kind (Some h) b g e = inl e
picked kind None true g e = inr (refl, refl, e)
picked kind None false g e = absurd (cc)

-- with a kind of calls beside the puts and drops
module _ (kind : Given → Bool) where
  abbrev Kind : Given → Bool
  Kind g = kind g || changes g

  calm : (s : State) (gs : List Given) → last_accepted Kind s gs ≡ None → Calm s (account s gs)
  calm s [] none = record { pattern = refl; analysed = λ e. e }
  calm s (g ∷ gs) none =
      let (later, spared) =
      none_left (last_accepted Kind (step s g) gs) (is_none (first_refusal s g) && Kind g) g none in
      let now = calm_step s g (narrower _ _ _ (λ e. or_right (kind g) _ e) spared) in
      let then = calm (step s g) gs later in
      record { pattern = then.pattern ∙ now.pattern; analysed = λ e. then.analysed (now.analysed e) }

  accepted_now : (s : State) (g : Given) → (is_none (first_refusal s g) && Kind g) ≡ true → first_refusal s g ≡ None
  accepted_now s g e = by (first_refusal s g) (and_parts _ _ e).0
    where
      by : (o : Option Refusal) → is_none o ≡ true → o ≡ None
      by None e = refl
      by (Some refusal) e = absurd (cc)

analysed_now : (s : State) (g : Given) → first_refusal s g ≡ None → analyses g ≡ true → (step s g).analysed ≡ true
analysed_now s (Analyse size) none e = ap (λ o. (if_accepted o (accepted s (Analyse size)) s).analysed) none
analysed_now s _ none e = absurd (cc)

-- after a list that ends with an analysis the account is analysed
pub ends_analysed : (s : State) (gs : List Given) → ends_with analyses s gs ≡ true → (account s gs).analysed ≡ true
ends_analysed s [] e = absurd (cc)
ends_analysed s (g ∷ gs) e =
    elim (picked analyses (last_accepted (Kind analyses) (step s g) gs) _ g e) [
      | inl later ↦ ends_analysed (step s g) gs later
      | inr (later, b, is) ↦
          (calm analyses (step s g) gs later).analysed (analysed_now s g (accepted_now analyses s g b) is)
    ]

-- two arrays begin with the starts and the rows of the members, which are analysed
pub record Written (s : State) (xs ys : List ℕ) : Type 0 where
  pub analysed : s.analysed ≡ true
  pub starts_are : (before : List ℕ) × (xs ≡ over (starts (pattern_in s)) before)
  pub rows_are : (before : List ℕ) × (ys ≡ over (rows (pattern_in s)) before)

written_now : (s : State) (g : Given) (xs ys : List ℕ) → first_refusal s g ≡ None → structures g ≡ true →
    Written (step s g) (starts_after s g xs) (rows_after s g ys)
written_now s (Structure a b) xs ys none e =
    let After : Option Refusal → Type 0
    = λ o.
    Written (if_accepted o s s) (if_accepted o (over (starts (pattern_in s)) xs) xs)
    (if_accepted o (over (rows (pattern_in s)) ys) ys) in
    let room = accepted_structure s a b none in
    subst After (sym none) (record { analysed = room.analysed; starts_are = (xs, refl); rows_are = (ys, refl) })
written_now s _ xs ys none e = absurd (cc)

-- calls that are neither accepted puts or drops nor structure calls leave what is written
module _ (l : Lent) where
  arrays_stay : (s : State) (cs : List Call) (k : Lent) → last_accepted (Kind structures) s (map (given l) cs) ≡ None →
      ((after_calls l s cs k).starts ≡ k.starts) × ((after_calls l s cs k).rows ≡ k.rows)
  arrays_stay s [] k none = (refl, refl)
  arrays_stay s (c ∷ cs) k none =
      let g = given l c in
      let (later, spared) = none_left (last_accepted (Kind structures) (step s g) (map (given l) cs))
      (is_none (first_refusal s g) && Kind structures g) g none in
      let now = stays s g k.starts k.rows (narrower _ _ _ (λ e. or_left _ (changes g) e) spared) in
      let then = arrays_stay (step s g) cs (after_call s g c k) later in
      (then.0 ∙ now.0, then.1 ∙ now.1)

  pub ends_written : (s : State) (cs : List Call) (k : Lent) → ends_with structures s (map (given l) cs) ≡ true →
      Written (account s (map (given l) cs)) (after_calls l s cs k).starts (after_calls l s cs k).rows
  ends_written s [] k e = absurd (cc)
  ends_written s (c ∷ cs) k e =
      let g = given l c in
      elim (picked structures (last_accepted (Kind structures) (step s g) (map (given l) cs)) _ g e) [
        | inl later ↦ ends_written (step s g) cs (after_call s g c k) later
        | inr (later, b, is) ↦
            let now = written_now s g k.starts k.rows (accepted_now structures s g b) is in
            let calm = calm structures (step s g) (map (given l) cs) later in
            let stay = arrays_stay (step s g) cs (after_call s g c k) later in
            record {
              analysed = calm.analysed now.analysed;
              starts_are = (
                now.starts_are.0,
                stay.0 ∙ now.starts_are.1 ∙ ap (λ p. over (starts p) now.starts_are.0) (sym calm.pattern),
              );
              rows_are = (
                now.rows_are.0,
                stay.1 ∙ now.rows_are.1 ∙ ap (λ p. over (rows p) now.rows_are.0) (sym calm.pattern),
              );
            }
      ]
