-- The lines of a file, one after another: what the lines left make of a run is what all make of it as it began. What is
-- lent for them matters only until the model is made.
use Rattle.std.proofs.Common.{◌≡◌, ℕ, ◌+◌, Bool, true, false, cond, List, Some, None, Ok, Err, Option, Result}
use Rattle.std.proofs.Common.{sym, refl, ap, ◌∙◌, subst}
use Rattle.std.proofs.lemmas.Bool.{cond-false}
use Rattle.sets.specs.Meaning.{Sets}
use Rattle.model.specs.Meaning.{meaning}
use Rattle.model.specs.SetsAfter.{SameSets}
use Rattle.model.specs.States.{State}
use Rattle.model.specs.Untouched.{Places, Untouched, either}
use Rattle.model.specs.declared.models.Model.{Model}
use Rattle.model.specs.declared.refusals.Refusal.{Refusal}
use Rattle.model.specs.declared.stores.Store.{Store}
use Rattle.model.proofs.Rests.{untouched_by_both}
use Rattle.frame_text.specs.Answers.{whole_block}
use Rattle.frame_text.specs.Lines.{lines}
use Rattle.frame_text.specs.Readers.{Hands, handed, left}
use Rattle.frame_text.specs.Records.{Statement, makes, puts, drops, analyses, asks}
use Rattle.frame_text.specs.declared.faults.LineFault.{LineFault}
use Rattle.frame_text.specs.declared.lines.FrameReader.{FrameReader}
use Rattle.frame_text.specs.declared.lines.Line.{Line}
use Rattle.frame_file.specs.declared.faults.RunFault.TheVariants.{OutOfPlace}
use Rattle.frame_file.specs.Carried.{LineAnswered, lent_with, places}
use Rattle.frame_file.specs.Runs.{empty, in_place, left_by, refusal_of, state_by, unless, verdict}
use Rattle.frame_file.specs.Runs.{Answered, Sizes, line_sets, line_state, line_text, line_verdict, line_written}
use Rattle.frame_file.specs.Runs.{sets_from, states_from, written_from}
use Rattle.frame_file.proofs.Settling.{same_sets, sets_size}

abbrev lent_of : ℕ → ℕ → Sizes
lent_of a k = record { vertices = a; sets = k }

module _ (v v' k : ℕ) (s : State) (line : ℕ) where
  unmade : (t : Statement) (a : ℕ) (b : Bool) → empty s ≡ b → b ≡ false
      → state_by (lent_of a k) s (cond (empty s) (unless line (refusal_of (lent_of a k) s t) t) (Err (OutOfPlace line)))
      ≡ s
  unmade t a b e f =
      ap (λ c. state_by (lent_of a k) s (cond c (unless line (refusal_of (lent_of a k) s t) t) (Err (OutOfPlace line))))
      (e ∙ f)

  made_by : (t : Statement) (b : Bool) → empty s ≡ b → (empty s ≡ true → v ≡ v')
      → state_by (lent_of v k) s (cond (empty s) (unless line (refusal_of (lent_of v k) s t) t) (Err (OutOfPlace line)))
      ≡ state_by (lent_of v' k) s
      (cond (empty s) (unless line (refusal_of (lent_of v' k) s t) t) (Err (OutOfPlace line)))
  made_by t true e same =
      ap (λ a. state_by (lent_of a k) s
      (cond (empty s) (unless line (refusal_of (lent_of a k) s t) t) (Err (OutOfPlace line)))) (same e)
  made_by t false e same = unmade t v false e refl ∙ sym (unmade t v' false e refl)

  -- where neither the refusals nor what an accepted statement makes depends on the vertex table
  apart_from : (t : Statement) (b : Bool) (f : Option Refusal) → left_by (lent_of v k) s t ≡ left_by (lent_of v' k) s t
      → state_by (lent_of v k) s (cond b (unless line f t) (Err (OutOfPlace line)))
      ≡ state_by (lent_of v' k) s (cond b (unless line f t) (Err (OutOfPlace line)))
  apart_from t true None e = e
  apart_from t true (Some refusal) e = refl
  apart_from t false f e = refl

  pub alike : (r : Result Statement LineFault) → (empty s ≡ true → v ≡ v')
      → state_by (lent_of v k) s (verdict (lent_of v k) s line r)
      ≡ state_by (lent_of v' k) s (verdict (lent_of v' k) s line r)
  alike (Ok (makes name order)) same = made_by (makes name order) (empty s) refl same
  alike (Ok (puts i j)) same =
      apart_from (puts i j) (in_place s (puts i j)) (refusal_of (lent_of v k) s (puts i j)) refl
  alike (Ok (drops i j)) same =
      apart_from (drops i j) (in_place s (drops i j)) (refusal_of (lent_of v k) s (drops i j)) refl
  alike (Ok analyses) same = apart_from analyses (in_place s analyses) (refusal_of (lent_of v k) s analyses) refl
  alike (Ok (asks question vertex)) same =
      apart_from (asks question vertex) (in_place s (asks question vertex))
      (refusal_of (lent_of v k) s (asks question vertex)) refl
  alike (Err fault) same = refl

module _ (v v' k : ℕ) (s : State) (line : ℕ) where
  verdict_made : (t : Statement) (b : Bool) → empty s ≡ b → (empty s ≡ true → v ≡ v')
      → cond (empty s) (unless line (refusal_of (lent_of v k) s t) t) (Err (OutOfPlace line))
      ≡ cond (empty s) (unless line (refusal_of (lent_of v' k) s t) t) (Err (OutOfPlace line))
  verdict_made t true e same =
      ap (λ a. cond (empty s) (unless line (refusal_of (lent_of a k) s t) t) (Err (OutOfPlace line))) (same e)
  verdict_made t false e same =
      cond-false (empty s) _ _ e ∙ sym (cond-false (empty s) (unless line (refusal_of (lent_of v' k) s t) t) _ e)

  -- whether a line is accepted depends as little on what is lent
  pub verdict_alike : (r : Result Statement LineFault) → (empty s ≡ true → v ≡ v')
      → verdict (lent_of v k) s line r ≡ verdict (lent_of v' k) s line r
  verdict_alike (Ok (makes name order)) same = verdict_made (makes name order) (empty s) refl same
  verdict_alike (Ok (puts i j)) same = refl
  verdict_alike (Ok (drops i j)) same = refl
  verdict_alike (Ok analyses) same = refl
  verdict_alike (Ok (asks question vertex)) same = refl
  verdict_alike (Err fault) same = refl

module _ (z : Sizes) (s : State) (line : ℕ) where
  same_order : (t : Statement) (b : Bool) (f : Option Refusal) → empty (left_by z s t) ≡ empty s
      → empty (state_by z s (cond b (unless line f t) (Err (OutOfPlace line)))) ≡ empty s
  same_order t true None e = e
  same_order t true (Some refusal) e = refl
  same_order t false f e = refl

  unmade_by : (t : Statement) (b : Bool) → empty s ≡ b
      → empty (state_by z s (cond (empty s) (unless line (refusal_of z s t) t) (Err (OutOfPlace line)))) ≡ true
      → empty s ≡ true
  unmade_by t true e h = e
  unmade_by t false e h =
      sym (ap (λ c. empty (state_by z s (cond c (unless line (refusal_of z s t) t) (Err (OutOfPlace line))))) e) ∙ h

  -- a line that leaves the model empty has found it so
  pub still_empty : (r : Result Statement LineFault) → empty (state_by z s (verdict z s line r)) ≡ true → empty s ≡ true
  still_empty (Ok (makes name order)) h = unmade_by (makes name order) (empty s) refl h
  still_empty (Ok (puts i j)) h =
      sym (same_order (puts i j) (in_place s (puts i j)) (refusal_of z s (puts i j)) refl) ∙ h
  still_empty (Ok (drops i j)) h =
      sym (same_order (drops i j) (in_place s (drops i j)) (refusal_of z s (drops i j)) refl) ∙ h
  still_empty (Ok analyses) h = sym (same_order analyses (in_place s analyses) (refusal_of z s analyses) refl) ∙ h
  still_empty (Ok (asks question vertex)) h =
      sym (same_order (asks question vertex) (in_place s (asks question vertex))
      (refusal_of z s (asks question vertex)) refl) ∙ h
  still_empty (Err fault) h = h

-- a run from `start`, with the sets `lent`, and from the sink `first`
module _ {A : Type 0} (took : A → List ℕ → A → Type 0) (start : Model) (lent : Sets) (file : List ℕ) (first : A) where
  abbrev pub all : Sizes
  all = lent_with start lent.size

  pub record Goes (reader : FrameReader) (model : Model) (sets : Sets) (sink : A) : Type 0 where
    pub state :
        states_from all (handed reader) (meaning model) (left reader) ≡ states_from all 0 (meaning start) (lines file)
    pub size : sets.size ≡ lent.size
    pub tall : places model ≡ places start
    pub tops :
        sets_from all (handed reader) (meaning model) (left reader) sets
        ≡ sets_from all 0 (meaning start) (lines file) lent
    pub tables : (end : Store)
        → Untouched (written_from all (handed reader) (meaning model) (left reader)) model.store end
        → Untouched (written_from all 0 (meaning start) (lines file)) start.store end
    pub answers : (end : A)
        → Answered took all (handed reader) (meaning model) (left reader) sink end
        → Answered took all 0 (meaning start) (lines file) first end

  -- a turn: a line is handed out and carried out, and the sink takes its block
  pub goes_on : (l : Line) (reader reader' : FrameReader) (before after : Model) (sets sets' : Sets) (block : List ℕ)
      (sink sink' : A)
      → Hands reader (Some l) reader'
      → LineAnswered sets.size l before after block
      → SameSets (line_sets (lent_with before sets.size) (meaning before) l.number (l.bytes.now, l.ended) sets) sets'
      → took sink block sink'
      → Goes reader before sets sink
      → Goes reader' after sets' sink'
  goes_on l reader reader' before after sets sets' block sink sink' hands turn settles took_it so_far =
      let s : State = meaning before in
      let n : ℕ = handed reader in
      let this : List ℕ × Bool = (l.bytes.now, l.ended) in
      let z : Sizes = lent_with before sets.size in
      let same : z ≡ all = λ k. record { vertices = so_far.tall k; sets = so_far.size k } in
      let leaves : meaning after ≡ line_state all s (n + 1) this =
      turn.state ∙ (λ k. line_state (same k) s (hands.1 k) this) in
      let says : block ≡ whole_block (line_text all s (n + 1) this) =
      turn.block ∙ (λ k. whole_block (line_text (same k) s (hands.1 k) this)) in
      let settled : sets' ≡ line_sets all s (n + 1) this sets =
      same_sets _ sets' settles ∙ (λ k. line_sets (same k) s (hands.1 k) this sets) in
      let wrote : Untouched (line_written all s (n + 1) this) before.store after.store =
      subst (λ (w : Places). Untouched w before.store after.store)
      (λ k. line_written (same k) s (hands.1 k) this) turn.rest in
      record {
        state =
            (λ k. states_from all (hands.2 k) (leaves k) (left reader'))
            ∙ sym (ap (states_from all n s) hands.0) ∙ so_far.state;
        size = settles.size ∙ sets_size z s (line_verdict z s l.number this) sets ∙ so_far.size;
        tall = turn.rest.tall ∙ so_far.tall;
        tops =
            (λ k. sets_from all (hands.2 k) (leaves k) (left reader') (settled k))
            ∙ sym (ap (λ ls. sets_from all n s ls sets) hands.0) ∙ so_far.tops;
        tables = λ end more.
            let later : Places = written_from all (handed reader') (meaning after) (left reader') in
            let both : written_from all n s (left reader) ≡ either (line_written all s (n + 1) this) later =
            ap (written_from all n s) hands.0
            ∙ sym (λ k. either (line_written all s (n + 1) this)
            (written_from all (hands.2 k) (leaves k) (left reader'))) in
            so_far.tables end
            (subst (λ (w : Places). Untouched w before.store end) (sym both)
            (untouched_by_both (line_written all s (n + 1) this) later before.store after.store end wrote more));
        answers = λ end more.
            let L : List (List ℕ × Bool) → Type 0 = λ ls. Answered took all n s ls sink end in
            let B : List ℕ → Type 0 = λ b. took sink b sink' in
            let M : State → Type 0 = λ t. Answered took all (n + 1) t (left reader') sink' end in
            let N : ℕ → Type 0 = λ a. Answered took all a (meaning after) (left reader') sink' end in
            so_far.answers end
            (subst L (sym hands.0) (sink', subst B says took_it, subst M leaves (subst N hands.2 more)));
      }
