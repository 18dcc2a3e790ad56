-- What a run makes of a line: whether it is accepted, the state of the model and the ancestor sets that it leaves, and
-- its answer.
use Rattle.std.specs.Prelude.{◌≡◌, ℕ, ◌+◌, Bool, true, false, cond, not, List, [], ◌∷◌, length, Ok, Err, Option}
use Rattle.std.specs.Prelude.{Result, ◌==◌, nat_lt}
use Rattle.std.specs.Borrow.{Bor}
use Rattle.std.specs.Result.{result_map_both}
use Rattle.pattern.specs.Elimination.{total}
use Rattle.pattern.specs.Patterns.{Pattern}
use Rattle.sets.specs.Meaning.{Sets}
use Rattle.model.specs.Asked.{numbers_of}
use Rattle.model.specs.SetsAfter.{sets_accepted}
use Rattle.model.specs.States.{State, Put, Drop, Analyse, Question, answer, first_refusal, first_fault, made}
use Rattle.model.specs.States.{accepted, pattern_in}
use Rattle.model.specs.Untouched.{Places, either, nowhere, writes}
use Rattle.model.specs.declared.refusals.Refusal.{Refusal}
use Rattle.frame_text.specs.Answers.{text_of, whole_block}
use Rattle.frame_text.specs.Fields.{value_of}
use Rattle.frame_text.specs.Lines.{lines}
use Rattle.frame_text.specs.Records.{Part, Statement, makes, puts, drops, analyses, asks, reading}
use Rattle.frame_text.specs.declared.answers.Answer.{Answer}
use Rattle.frame_text.specs.declared.answers.Answer.TheVariants as says
use Rattle.frame_text.specs.declared.faults.LineFault.{LineFault}
use Rattle.frame_text.specs.declared.records.Question.{Question as Asking}
use Rattle.frame_text.specs.declared.records.Question.TheVariants.{Parent, Place, FirstPlace, Height, RowCount}
use Rattle.frame_text.specs.declared.records.Question.TheVariants.{ColumnCount}
use Rattle.frame_file.specs.declared.faults.RunFault.{RunFault}
use Rattle.frame_file.specs.declared.faults.RunFault.TheVariants.{FileTooLong, Line, OutOfPlace, Refused}
use Rattle.frame_file.specs.declared.states.RunState.{RunState}
use Rattle.frame_file.specs.declared.states.RunState.TheVariants.{BeforeModel, Unanalysed, Analysed}
use Rattle.frame_file.specs.Faults.{run_report}

-- what a run is lent: the length of the vertex table, and how many vertices the ancestor sets have room for
pub record Sizes : Type 0 where
  pub vertices : ℕ
  pub sets : ℕ

-- what each question asks for of a pattern's vertex
abbrev pub number_of : Asking → Pattern → ℕ → ℕ
number_of Parent p v = (numbers_of p v).parent
number_of Place p v = (numbers_of p v).place
number_of FirstPlace p v = (numbers_of p v).first
number_of Height p v = (numbers_of p v).height
number_of RowCount p v = (numbers_of p v).rows
number_of ColumnCount p v = (numbers_of p v).columns

-- before its M line a run has the empty model
abbrev pub empty : State → Bool
empty s = s.order == 0

abbrev pub run_state : State → RunState
run_state s = cond (empty s) BeforeModel (cond s.analysed Analysed Unanalysed)

abbrev pub number : Part → ℕ
number p = value_of p.bytes

-- a model is made first, and once
abbrev pub in_place : State → Statement → Bool
in_place s (makes name order) = empty s
in_place s (puts i j) = not (empty s)
in_place s (drops i j) = not (empty s)
in_place s analyses = not (empty s)
in_place s (asks question vertex) = not (empty s)

-- which refusal a statement meets first, if any
abbrev pub refusal_of : Sizes → State → Statement → Option Refusal
refusal_of z s (makes name order) = first_fault (number order) z.vertices
refusal_of z s (puts i j) = first_refusal s (Put (number i) (number j))
refusal_of z s (drops i j) = first_refusal s (Drop (number i) (number j))
refusal_of z s analyses = first_refusal s (Analyse z.sets)
refusal_of z s (asks question vertex) = first_refusal s (Question (number vertex))

-- what an accepted statement makes of a state
abbrev pub left_by : Sizes → State → Statement → State
left_by z s (makes name order) = made (number order) z.vertices s.capacity
left_by z s (puts i j) = accepted s (Put (number i) (number j))
left_by z s (drops i j) = accepted s (Drop (number i) (number j))
left_by z s analyses = accepted s (Analyse z.sets)
left_by z s (asks question vertex) = accepted s (Question (number vertex))

-- what an accepted statement makes of the ancestor sets, and where it may write in the tables of the model: the making
-- of a model leaves both
abbrev pub sets_left : Sizes → State → Statement → Sets → Sets
sets_left z s (makes name order) sets = sets
sets_left z s (puts i j) sets = sets_accepted s (Put (number i) (number j)) sets
sets_left z s (drops i j) sets = sets_accepted s (Drop (number i) (number j)) sets
sets_left z s analyses sets = sets_accepted s (Analyse z.sets) sets
sets_left z s (asks question vertex) sets = sets_accepted s (Question (number vertex)) sets

abbrev pub written : Sizes → State → Statement → Places
written z s (makes name order) = nowhere
written z s (puts i j) = writes s (Put (number i) (number j))
written z s (drops i j) = writes s (Drop (number i) (number j))
written z s analyses = writes s (Analyse z.sets)
written z s (asks question vertex) = writes s (Question (number vertex))

-- a list of bytes as if it were lent
abbrev pub lent : List ℕ → Bor (List ℕ)
lent bs = record { ref_ptr = (0, 0); now = bs }

-- what is answered to an accepted statement, by the state that it leaves
abbrev pub said : State → Statement → Answer
said s (makes name order) = says.Made (lent name.bytes) (number order)
said s (puts i j) = says.Put (length s.entries)
said s (drops i j) = says.Dropped (length s.entries)
said s analyses = says.Analysed (total (pattern_in s))
said s (asks question vertex) =
    says.Asked question (number vertex) (number_of question (pattern_in s) (number vertex))

-- an answer by its bytes alone, wherever they lie
abbrev pub bare : Answer → Answer
bare (says.Made name order) = says.Made (lent name.now) order
bare (says.Put held) = says.Put held
bare (says.Dropped held) = says.Dropped held
bare (says.Analysed total) = says.Analysed total
bare (says.Asked question vertex n) = says.Asked question vertex n
bare (says.Refused report) = says.Refused report

-- a statement that is in place, if the model takes it, or the refusal that comes first
abbrev pub judged : Statement → Sizes → State → Result Statement Refusal
judged t z s = answer (refusal_of z s t) t

-- the same as a fault of its line
abbrev pub unless : ℕ → Option Refusal → Statement → Result Statement RunFault
unless line f t = result_map_both (λ t. t) (Refused line) (answer f t)

-- a statement of a line, if it is accepted, or the fault that comes first
abbrev pub allowed : Sizes → State → ℕ → Statement → Result Statement RunFault
allowed z s line t = cond (in_place s t) (unless line (refusal_of z s t) t) (Err (OutOfPlace line))

abbrev pub verdict : Sizes → State → ℕ → Result Statement LineFault → Result Statement RunFault
verdict z s line (Ok t) = allowed z s line t
verdict z s line (Err fault) = Err (Line fault)

abbrev pub state_by : {E : Type 0} → Sizes → State → Result Statement E → State
state_by z s (Ok t) = left_by z s t
state_by z s (Err fault) = s

abbrev pub sets_by : {E : Type 0} → Sizes → State → Result Statement E → Sets → Sets
sets_by z s (Ok t) sets = sets_left z s t sets
sets_by z s (Err fault) sets = sets

abbrev pub written_by : {E : Type 0} → Sizes → State → Result Statement E → Places
written_by z s (Ok t) = written z s t
written_by z s (Err fault) = nowhere

abbrev pub answer_by : State → Result Statement RunFault → Answer
answer_by s (Ok t) = said s t
answer_by s (Err fault) = says.Refused (run_report fault)

-- a line, as its bytes and whether it has its LF, by its number
abbrev pub line_verdict : Sizes → State → ℕ → List ℕ × Bool → Result Statement RunFault
line_verdict z s n l = verdict z s n (reading n l.0 l.1)

-- the state that a line leaves, the ancestor sets that it leaves, where it may write in the tables of the model, and
-- the text that answers it
abbrev pub line_state : Sizes → State → ℕ → List ℕ × Bool → State
line_state z s n l = state_by z s (line_verdict z s n l)

abbrev pub line_sets : Sizes → State → ℕ → List ℕ × Bool → Sets → Sets
line_sets z s n l sets = sets_by z s (line_verdict z s n l) sets

abbrev pub line_written : Sizes → State → ℕ → List ℕ × Bool → Places
line_written z s n l = written_by z s (line_verdict z s n l)

abbrev pub line_text : Sizes → State → ℕ → List ℕ × Bool → List ℕ
line_text z s n l = text_of (answer_by (line_state z s n l) (line_verdict z s n l))

-- the state after lines, of which the first is the one after line n, the ancestor sets after them, and where they may
-- write in the tables of the model
abbrev pub states_from : Sizes → ℕ → State → List (List ℕ × Bool) → State
states_from z n s [] = s
states_from z n s (l ∷ ls) = states_from z (n + 1) (line_state z s (n + 1) l) ls

abbrev pub sets_from : Sizes → ℕ → State → List (List ℕ × Bool) → Sets → Sets
sets_from z n s [] sets = sets
sets_from z n s (l ∷ ls) sets =
    sets_from z (n + 1) (line_state z s (n + 1) l) ls (line_sets z s (n + 1) l sets)

abbrev pub written_from : Sizes → ℕ → State → List (List ℕ × Bool) → Places
written_from z n s [] = nowhere
written_from z n s (l ∷ ls) =
    either (line_written z s (n + 1) l) (written_from z (n + 1) (line_state z s (n + 1) l) ls)

-- from the sink p to the sink q, the blocks that answer lines after line n are taken, one for each line
abbrev pub Answered : {A : Type 0} → (A → List ℕ → A → Type 0) → Sizes → ℕ → State → List (List ℕ × Bool) → A → A
    → Type 0
Answered took z n s [] p q = p ≡ q
Answered {A} took z n s (l ∷ ls) p q =
    (j : A) × took p (whole_block (line_text z s (n + 1) l)) j
    × Answered took z (n + 1) (line_state z s (n + 1) l) ls j q

-- the longest file that a run takes
abbrev pub longest_file : ℕ
longest_file = 32768

-- whether a file is longer than a run takes
abbrev pub too_long : List ℕ → Bool
too_long file = nat_lt longest_file (length file)

-- the same after a file: of one that is too long nothing is carried out
abbrev pub file_state : Sizes → State → List ℕ → State
file_state z s file = cond (too_long file) s (states_from z 0 s (lines file))

abbrev pub file_sets : Sizes → State → List ℕ → Sets → Sets
file_sets z s file sets = cond (too_long file) sets (sets_from z 0 s (lines file) sets)

abbrev pub file_written : Sizes → State → List ℕ → Places
file_written z s file = cond (too_long file) nowhere (written_from z 0 s (lines file))

-- what the sink takes of a file: one block if it is too long, else the answers to its lines
abbrev pub Taken : {A : Type 0} → (A → List ℕ → A → Type 0) → Bool → Sizes → State → List ℕ → A → A → Type 0
Taken took true z s file p q = took p (whole_block (text_of (says.Refused (run_report FileTooLong)))) q
Taken took false z s file p q = Answered took z 0 s (lines file) p q

abbrev pub FileAnswered : {A : Type 0} → (A → List ℕ → A → Type 0) → Sizes → State → List ℕ → A → A → Type 0
FileAnswered took z s file p q = Taken took (too_long file) z s file p q
