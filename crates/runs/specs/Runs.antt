-- A run: what its calls are given, the account that is kept of it, and what they are answered and leave behind.
use Rattle.std.specs.Prelude.{◌≡◌, ℕ, min, Bool, true, cond, ◌&&◌, List, [], ◌∷◌, map, length}
use Rattle.std.specs.Prelude.{Some, None, Option, Result, is_err, is_none, is_some}
use Rattle.pattern.specs.Elimination.{parent, row_count, col_count, total}
use Rattle.pattern.specs.Analysis.{place_of, first_place_of, height_of}
use Rattle.pattern.specs.Patterns.{Pattern}
use Rattle.sets.specs.Meaning.{Sets}
use Rattle.model.specs.Meaning.{meaning}
use Rattle.model.specs.States.{State, Given, Put, Drop, Analyse, Question, Total, Structure}
use Rattle.model.specs.States.{answer, first_refusal, if_accepted, pattern_in, step}
use Rattle.model.specs.Untouched.{Places, Untouched, either, nowhere, writes}
use Rattle.model.specs.Written.{rows_after, starts_after}
use Rattle.model.specs.declared.models.Model.{Model}
use Rattle.model.specs.declared.refusals.Refusal.{Refusal}
use Rattle.runs.specs.declared.calls.Call.{Call}
use Rattle.runs.specs.declared.calls.Call.TheVariants as calls
use Rattle.runs.specs.declared.calls.Question.{Question as Asking}
use Rattle.runs.specs.declared.calls.Question.TheVariants.{Parent, Place, FirstPlace, Height, RowCount, ColumnCount}
use Rattle.runs.specs.declared.calls.Reply.{Reply}
use Rattle.runs.specs.declared.calls.Reply.TheVariants as replies
use Rattle.runs.specs.Lending.{size_at, analysed_at}

-- what a run is lent for its calls: ancestor sets, by what they mean, and what two arrays hold
pub record Lent : Type 0 where
  pub sets : List Sets
  pub starts : List ℕ
  pub rows : List ℕ

abbrev pub lending : List Sets → List ℕ → List ℕ → Lent
lending sets starts rows = record { sets = sets; starts = starts; rows = rows }

-- what a call is given, by what is lent: sizes and lengths alone, which stay as they are throughout the run
abbrev pub given : Lent → Call → Given
given l (calls.Put i j) = Put i j
given l (calls.Drop i j) = Drop i j
given l (calls.Analyse sets) = Analyse (size_at l.sets sets)
given l (calls.Ask question vertex) = Question vertex
given l calls.Total = Total
given l (calls.Structure starts rows) = Structure (min starts (length l.starts)) (min rows (length l.rows))

-- The account: a fold over what the calls are given, from what a model is as it is made. No answer is fed to it.
abbrev pub account : State → List Given → State
account s [] = s
account s (g ∷ gs) = account (step s g) gs

-- where a call may write in the two tables of the model, a refused one nowhere, and where calls may, one after another
abbrev pub written_by : State → Given → Places
written_by s g = if_accepted (first_refusal s g) (writes s g) nowhere

abbrev pub written_by_calls : State → List Given → Places
written_by_calls s [] = nowhere
written_by_calls s (g ∷ gs) = either (written_by s g) (written_by_calls (step s g) gs)

-- the last of the accepted calls that are of a kind, if there is one
abbrev pub last_accepted : (Given → Bool) → State → List Given → Option Given
last_accepted kind s [] = None
last_accepted kind s (g ∷ gs) =
    let later = last_accepted kind (step s g) gs in
    let this = cond (is_none (first_refusal s g) && kind g) (Some g) None in
    cond (is_some later) later this

-- what a question asks for of a pattern's vertex
abbrev pub number_of : Asking → Pattern → ℕ → ℕ
number_of Parent p v = parent p v
number_of Place p v = place_of p v
number_of FirstPlace p v = first_place_of p v
number_of Height p v = height_of p v
number_of RowCount p v = row_count p v
number_of ColumnCount p v = col_count p v

-- what a call is replied where it is accepted
abbrev pub said : State → Call → Reply
said s (calls.Put i j) = replies.Held (length (step s (Put i j)).entries)
said s (calls.Drop i j) = replies.Held (length (step s (Drop i j)).entries)
said s (calls.Analyse sets) = replies.Total (total (pattern_in s))
said s (calls.Ask question vertex) = replies.Number (number_of question (pattern_in s) vertex)
said s calls.Total = replies.Total (total (pattern_in s))
said s (calls.Structure starts rows) = replies.Written

-- what it is replied: the refusal that comes first, or else that
abbrev pub reply : Lent → State → Call → Result Reply Refusal
reply l s c = answer (first_refusal s (given l c)) (said s c)

-- what a sink makes of the reply to a call
abbrev pub Took : Type 0 → Type 1
Took A = A → Call → Result Reply Refusal → A → Type 0

-- from the sink p to the sink q, the replies to calls are taken, one after the other
abbrev pub Replied : {A : Type 0} → Took A → Lent → State → List Call → A → A → Type 0
Replied took l s [] p q = p ≡ q
Replied {A} took l s (c ∷ cs) p q = (j : A) × took p c (reply l s c) j × Replied took l (step s (given l c)) cs j q

-- what the sets mean after a call
abbrev pub sets_after_call : State → Call → List Sets → List Sets
sets_after_call s (calls.Analyse sets) lent = analysed_at s lent sets
sets_after_call s _ lent = lent

-- what is lent, after a call that is given g
abbrev pub after_call : State → Given → Call → Lent → Lent
after_call s g c l = lending (sets_after_call s c l.sets) (starts_after s g l.starts) (rows_after s g l.rows)

-- and after calls: k is what they find, and l what the run was lent at first
abbrev pub after_calls : Lent → State → List Call → Lent → Lent
after_calls l s [] k = k
after_calls l s (c ∷ cs) k = after_calls l (step s (given l c)) cs (after_call s (given l c) c k)

-- One call took the model from m to n, what is lent from l to k, and is replied r. A refused call leaves the whole
-- model, and any call the places of its tables that it does not write.
pub record Turned (c : Call) (m n : Model) (l k : Lent) (r : Result Reply Refusal) : Type 0 where
  pub state : meaning n ≡ step (meaning m) (given l c)
  pub reply : r ≡ reply l (meaning m) c
  pub lent : k ≡ after_call (meaning m) (given l c) c l
  pub keeps : is_err r ≡ true → n ≡ m
  pub rest : Untouched (written_by (meaning m) (given l c)) m.store n.store

-- A stretch of calls took the model from m to n, what is lent from l to k, and the sink from p to q. The places of the
-- tables that no accepted call writes are as they were.
pub record Performed {A : Type 0} (took : Took A) (cs : List Call) (m n : Model) (l k : Lent) (p q : A)
    : Type 0 where
  pub state : meaning n ≡ account (meaning m) (map (given l) cs)
  pub replies : Replied took l (meaning m) cs p q
  pub lent : k ≡ after_calls l (meaning m) cs l
  pub rest : Untouched (written_by_calls (meaning m) (map (given l) cs)) m.store n.store
