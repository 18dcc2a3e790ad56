-- One call of a run, by what the model's call for it does.
use Rattle.std.proofs.Common.{◌≡◌, true, Some, None, Ok, Err, Option, Result, is_err}
use Rattle.std.proofs.Common.{sym, refl, ap, ◌∙◌, subst}
use Rattle.std.specs.Result.{MatchResult}
use Rattle.model.specs.Asked.{told}
use Rattle.model.specs.Meaning.{Outcome, meaning}
use Rattle.model.specs.States.{Given, answer, first_refusal, if_accepted, step}
use Rattle.model.specs.Untouched.{Untouched, nowhere, writes}
use Rattle.model.specs.declared.models.Model.{Model}
use Rattle.model.specs.declared.refusals.Refusal.{Refusal}
use Rattle.model.proofs.Rests.{untouched}
use Rattle.runs.specs.declared.calls.Call.{Call}
use Rattle.runs.specs.declared.calls.Reply.{Reply}
use Rattle.runs.specs.Runs.{Lent, Turned, after_call, given, lending, said, written_by}

-- what is lent stays, where neither sets nor arrays are written
pub lent_stay : (o : Option Refusal) (l : Lent) →
    l ≡ lending l.sets (if_accepted o l.starts l.starts) (if_accepted o l.rows l.rows)
lent_stay None l = refl
lent_stay (Some refusal) l = refl

-- a call that only reads
pub reading : {X : Type 0} {g : Given} {m : Model} {x : X} {r : Result X Refusal} →
    step (meaning m) g ≡ meaning m → r ≡ told m g x → Outcome g m m x r
reading {X} {g} {m} stays is =
    record { answers = is; turns = sym stays; keeps = λ _. refl; rest = untouched (writes (meaning m) g) m.store }

-- the outcome x of a call, told as its reply
replied : {X : Type 0} (tell : X → Reply) (x : X) (r : Result Reply Refusal) (o : Option Refusal) →
    MatchResult (answer o x) (λ y. r ≡ Ok (tell y)) (λ e. r ≡ Err e) →
    (r ≡ answer o (tell x)) × (is_err r ≡ true → is_err (answer o x) ≡ true)
replied tell x r None is = (is, λ e. ap is_err (sym is) ∙ e)
replied tell x r (Some refusal) is = (is, λ e. refl)

-- a refused call writes nowhere
wrote : {X : Type 0} {g : Given} {m n : Model} {x : X} {r : Result X Refusal} → Outcome g m n x r →
    Untouched (written_by (meaning m) g) m.store n.store
wrote {X} {g} {m} {n} {x} {r} outcome = by (first_refusal (meaning m) g) outcome.answers
  where
    by : (o : Option Refusal) → r ≡ answer o x →
        Untouched (if_accepted o (writes (meaning m) g) nowhere) m.store n.store
    by None is = outcome.rest
    by (Some refusal) is =
        subst (λ k. Untouched nowhere m.store k.store) (sym (outcome.keeps (ap is_err is))) (untouched nowhere m.store)

-- a call of a run, by the outcome of the model's call and what is told of it
pub turned : {X : Type 0} {call c : Call} {m n : Model} {l k : Lent} {x : X} {r : Result X Refusal}
    {r' : Result Reply Refusal} (tell : X → Reply) →
    call ≡ c →
    Outcome (given l c) m n x r →
    MatchResult r (λ y. r' ≡ Ok (tell y)) (λ e. r' ≡ Err e) →
    tell x ≡ said (meaning m) c →
    k ≡ after_call (meaning m) (given l c) c l →
    Turned call m n l k r'
turned {X} {call} {c} {m} {n} {l} {k} {x} {r} {r'} tell is outcome tells says leaves =
    let f = first_refusal (meaning m) (given l c) in
    let Told : Result X Refusal → Type 0 = λ q. MatchResult q (λ y. r' ≡ Ok (tell y)) (λ e. r' ≡ Err e) in
    let (reply, err) = replied tell x r' f (subst Told outcome.answers tells) in
    subst (λ d. Turned d m n l k r') (sym is)
    (record {
      state = outcome.turns;
      reply = reply ∙ ap (answer f) says;
      lent = leaves;
      keeps = λ e. outcome.keeps (ap is_err outcome.answers ∙ err e);
      rest = wrote outcome;
    })
