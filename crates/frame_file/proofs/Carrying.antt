-- What a call of the model makes of a line that asks for it.
use Rattle.std.proofs.Common.{◌≡◌, ℕ, Bool, true, false, cond, not, length, is_err, Some, None, Ok, Err, Option}
use Rattle.std.proofs.Common.{Result, sym, refl, ap, ◌∙◌, subst, arith}
use Rattle.std.specs.Result.{MatchResult, result_map_both}
use Rattle.model.specs.Meaning.{meaning, Outcome}
use Rattle.model.specs.States.{State, Given, Analyse, first_refusal, answer, accepted, if_accepted, pattern_in, step}
use Rattle.pattern.specs.Elimination.{total}
use Rattle.model.specs.Untouched.{Places, Untouched, nowhere, writes}
use Rattle.model.specs.declared.models.Model.{Model}
use Rattle.model.proofs.Rests.{untouched}
use Rattle.model.specs.declared.refusals.Refusal.{Refusal}
use Rattle.frame_text.specs.Records.{Statement, analyses, statement_of}
use Rattle.frame_text.specs.declared.records.Record.{Record}
use Rattle.frame_text.specs.declared.answers.Answer.{Answer}
use Rattle.frame_text.specs.declared.answers.Answer.TheVariants as says
use Rattle.frame_file.specs.declared.faults.RunFault.{RunFault}
use Rattle.frame_file.specs.declared.faults.RunFault.TheVariants.{OutOfPlace, Refused}
use Rattle.frame_file.specs.declared.states.RunState.{RunState}
use Rattle.frame_file.specs.declared.states.RunState.TheVariants.{BeforeModel, Unanalysed, Analysed}
use Rattle.frame_file.specs.Carried.{Carried, Does, lent_with}
use Rattle.frame_file.specs.Runs.{Sizes, allowed, bare, in_place, judged, left_by, refusal_of, said, unless, written}

-- a rule that is met is not passed over
pub passed : (b : Bool) (x : Refusal) (rest : Option Refusal) → cond b (Some x) rest ≡ None → b ≡ false
passed true x rest e = absurd (cc)
passed false x rest e = refl

-- what is told of a call that a refusal f may come before
pub by_refusal : {X : Type 0} (z : Sizes) (t : Statement) (before after : Model) (x : X) (tell : X → Answer)
    (f : Option Refusal) (r : Result Answer Refusal)
    → meaning after ≡ if_accepted f (left_by z (meaning before) t) (meaning before)
    → bare (tell x) ≡ said (meaning after) t
    → (is_err (answer f x) ≡ true → after ≡ before)
    → Untouched (written z (meaning before) t) before.store after.store
    → MatchResult (answer f x) (λ y. r ≡ Ok (tell y)) (λ e. r ≡ Err e)
    → Carried z (answer f t) before after r
by_refusal z t before after x tell None r turns says keeps rest told =
    record {
      state = turns;
      answer = ap (result_map_both bare (λ e. e)) told ∙ ap Ok says;
      keeps = λ err. absurd (cc);
      rest = rest;
    }
by_refusal z t before after x tell (Some refusal) r turns says keeps rest told =
    record {
      state = turns;
      answer = ap (result_map_both bare (λ e. e)) told;
      keeps = λ _. keeps refl;
      rest =
          subst (λ (m : Model). Untouched nowhere before.store m.store) (sym (keeps refl))
          (untouched nowhere before.store);
    }

-- what is told of a call that is given two vertices and answers how many entries are held
pub held_told : {size : ℕ} (t : Statement) (given : ℕ → ℕ → Given) (i j : ℕ) {i' j' : ℕ} {before after : Model}
    (tell : ℕ → Answer) {r : Result ℕ Refusal} {r' : Result Answer Refusal}
    → i' ≡ i
    → j' ≡ j
    → refusal_of (lent_with before size) (meaning before) t ≡ first_refusal (meaning before) (given i j)
    → left_by (lent_with before size) (meaning before) t ≡ accepted (meaning before) (given i j)
    → written (lent_with before size) (meaning before) t ≡ writes (meaning before) (given i j)
    → ((s : State) → bare (tell (length s.entries)) ≡ said s t)
    → Outcome (given i' j') before after (length (step (meaning before) (given i' j')).entries) r
    → MatchResult r (λ y. r' ≡ Ok (tell y)) (λ e. r' ≡ Err e)
    → Does size (judged t) before after r'
held_told {size} t given i j {i'} {j'} {before} {after} tell {r} {r'} ei ej first left wrote tells o told =
    let s : State = meaning before in
    let g : Given = given i j in
    let f : Option Refusal = first_refusal s g in
    let x : ℕ → ℕ → ℕ = λ a b. length (step s (given a b)).entries in
    let O : ℕ → ℕ → Type 0 = λ a b. Outcome (given a b) before after (x a b) r in
    let o' : O i j = subst (O i) ej (subst (λ a. O a j') ei o) in
    let P : Option Refusal → Type 0 = λ f'. Carried (lent_with before size) (answer f' t) before after r' in
    let M : Result ℕ Refusal → Type 0 = λ q. MatchResult q (λ y. r' ≡ Ok (tell y)) (λ e. r' ≡ Err e) in
    subst P (sym first)
    (by_refusal (lent_with before size) t before after (x i j) tell f r'
    (o'.turns ∙ ap (λ a. if_accepted f a s) (sym left))
    (ap (λ u. bare (tell (length u.entries))) (sym o'.turns) ∙ tells (meaning after))
    (λ e. o'.keeps (ap is_err o'.answers ∙ e))
    (subst (λ (w : Places). Untouched w before.store after.store) (sym wrote) o'.rest) (subst M o'.answers told))

-- an analysis leaves the pattern
same_pattern : (s : State) (size : ℕ) (f : Option Refusal) →
    pattern_in (if_accepted f (accepted s (Analyse size)) s) ≡ pattern_in s
same_pattern s size None = refl
same_pattern s size (Some refusal) = refl

-- what is told of an analysis
pub analysis_told : {size : ℕ} {before after : Model} {r : Result ℕ Refusal} {r' : Result Answer Refusal}
    → Outcome (Analyse size) before after (total (pattern_in (meaning before))) r
    → MatchResult r (λ y. r' ≡ Ok (says.Analysed y)) (λ e. r' ≡ Err e)
    → Does size (judged analyses) before after r'
analysis_told {size} {before} {after} {r} {r'} o told =
    let s : State = meaning before in
    let f : Option Refusal = first_refusal s (Analyse size) in
    let M : Result ℕ Refusal → Type 0 = λ q. MatchResult q (λ y. r' ≡ Ok (says.Analysed y)) (λ e. r' ≡ Err e) in
    by_refusal (lent_with before size) analyses before after (total (pattern_in s)) says.Analysed f r' o.turns
    (sym (ap (λ u. says.Analysed (total (pattern_in u))) o.turns
    ∙ ap (λ p. says.Analysed (total p)) (same_pattern s size f)))
    (λ e. o.keeps (ap is_err o.answers ∙ e)) o.rest (subst M o.answers told)

-- a refused statement as a fault of its line
lined : (z : Sizes) (line : ℕ) (t : Statement) (f : Option Refusal) (before after : Model) (r : Result Answer Refusal)
    (r' : Result Answer RunFault)
    → MatchResult r (λ a. r' ≡ Ok a) (λ e. r' ≡ Err (Refused line e))
    → Carried z (answer f t) before after r
    → Carried z (unless line f t) before after r'
lined z line t None before after (Ok a) r' e c =
    record { state = c.state; answer = grind arith; keeps = c.keeps; rest = c.rest }
lined z line t None before after (Err refusal) r' e c = let h = c.answer in grind arith
lined z line t (Some refusal) before after (Ok a) r' e c = let h = c.answer in grind arith
lined z line t (Some refusal) before after (Err refusal') r' e c =
    record { state = c.state; answer = grind arith; keeps = c.keeps; rest = c.rest }

-- a statement that is in place is judged by the model alone
pub in_its_place : {size : ℕ} (line : ℕ) (record' : Record) {t : Statement} {before after after' : Model}
    {r r₀ : Result Answer Refusal} {r' : Result Answer RunFault}
    → statement_of record' ≡ t
    → after' ≡ after
    → r ≡ r₀
    → MatchResult r (λ a. r' ≡ Ok a) (λ e. r' ≡ Err (Refused line e))
    → in_place (meaning before) t ≡ true
    → Does size (judged t) before after r₀
    → Does size (λ z s. allowed z s line (statement_of record')) before after' r'
in_its_place {size} line record' {t} {before} {after} {after'} {r} {r₀} {r'} es ea er e placed does =
    let z : Sizes = lent_with before size in
    let s : State = meaning before in
    let Q : Bool → Type 0 =
    λ b. Carried z (cond b (unless line (refusal_of z s t) t) (Err (OutOfPlace line))) before after r' in
    let T : Statement → Type 0 = λ u. Does size (λ z s. allowed z s line u) before after' r' in
    let A : Model → Type 0 = λ m. Does size (λ z s. allowed z s line t) before m r' in
    let R : Result Answer Refusal → Type 0 = λ u. Does size (judged t) before after u in
    subst T (sym es) (subst A (sym ea) (subst Q (sym placed)
    (lined z line t (refusal_of z s t) before after r r' e (subst R (sym er) does))))

pub before_model : (b a : Bool) {x : RunState}
    → x ≡ cond b BeforeModel (cond a Analysed Unanalysed) → x ≡ BeforeModel → b ≡ true
before_model b a e is = grind arith

pub after_model : (b a : Bool) {x : RunState}
    → x ≡ cond b BeforeModel (cond a Analysed Unanalysed) → (x ≡ BeforeModel → ⊥) → not b ≡ true
after_model b a e not_is = grind arith
