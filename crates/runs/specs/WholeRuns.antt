-- Whole runs: the making of a model and a list of calls to it, and two such runs beside each other.
use Rattle.std.specs.Prelude.{◌≡◌, Bool, true, false, ◌||◌, ℕ, List, map, length, Option, Some, None}
use Rattle.analysis.specs.Tables.{entry, vertex}
use Rattle.sets.specs.Meaning.{Sets}
use Rattle.model.specs.Meaning.{meaning}
use Rattle.model.specs.States.{State, Given, Put, Drop, Analyse, Structure, made}
use Rattle.model.specs.Untouched.{Places}
use Rattle.model.specs.declared.stores.Store.{Store}
use Rattle.runs.specs.declared.running.Done.{Done}
use Rattle.runs.specs.declared.running.Run.{Run}
use Rattle.runs.specs.Laws.{Answers, Grown, MoreMembers, Stands}
use Rattle.runs.specs.Runs.{Lent, lending, given, account, last_accepted, after_calls, Replied, Took, written_by_calls}

-- a put or a drop, an analysis, a structure call
abbrev pub changes : Given → Bool
changes (Put i j) = true
changes (Drop i j) = true
changes _ = false

abbrev pub analyses : Given → Bool
analyses (Analyse size) = true
analyses _ = false

abbrev pub structures : Given → Bool
structures (Structure long wide) = true
structures _ = false

abbrev pub passes : (Given → Bool) → Option Given → Bool
passes kind (Some g) = kind g
passes kind None = false

-- of the accepted calls that are of the kind or change members, the last one is of the kind
abbrev pub ends_with : (Given → Bool) → State → List Given → Bool
ends_with kind s gs = passes kind (last_accepted (λ g. kind g || changes g) s gs)

-- what a run is given: its model as it is made, by the order and the lengths of the tables, and what its calls are
-- given
module _ {S A : Type 0} (meanings : S → List Sets) (run : Run S A) where
  abbrev pub lent_to : Lent
  lent_to = lending (meanings run.sets) run.starts.now run.rows.now

  abbrev pub beginning : State
  beginning = made run.order (length run.vertices.now) (length run.entries.now)

  abbrev pub givens : List Given
  givens = map (given lent_to) run.calls.now

  abbrev pub account_of : State
  account_of = account beginning givens

  -- where its calls may write in the two tables
  abbrev pub places : Places
  places = written_by_calls beginning givens

  -- The tables of the model are those that were lent, as long as they were, and the places that no accepted call writes
  -- are as they were.
  pub record Tables (store : Store) : Type 0 where
    pub vertices_lent : store.vertices.ghost_name ≡ run.vertices.ghost_name
    pub entries_lent : store.entries.ghost_name ≡ run.entries.ghost_name
    pub tall : length store.vertices.now ≡ length run.vertices.now
    pub long : length store.entries.now ≡ length run.entries.now
    pub vertices : (v : ℕ) → places.vertices v ≡ false → vertex store.vertices.now v ≡ vertex run.vertices.now v
    pub entries : (k : ℕ) → places.entries k ≡ false → entry store.entries.now k ≡ entry run.entries.now k

  -- What a run makes of all this: the model stands as the account says, the sink has taken the replies, and the sets
  -- and the arrays hold what the accepted calls leave in them. The arrays handed back are those that were lent.
  pub record Ran (took : Took A) (done : Done S A) : Type 0 where
    pub state : meaning done.model ≡ account_of
    pub replies : Replied took lent_to beginning run.calls.now run.replies done.replies
    pub lent : lending (meanings done.sets) done.starts.now done.rows.now
        ≡ after_calls lent_to beginning run.calls.now lent_to
    pub tables : Tables done.model.store
    pub starts : done.starts.ghost_name ≡ run.starts.ghost_name
    pub rows : done.rows.ghost_name ≡ run.rows.ghost_name

  -- The law of a run. If its last accepted put, drop or analysis is an analysis, the model answers by the paths of the
  -- members. If its last accepted put, drop or structure call is a structure call, the structure stands in its arrays.
  pub record Lawful (done : Done S A) : Type 0 where
    pub answers : ends_with analyses beginning givens ≡ true → Answers account_of done.model
    pub arrays : ends_with structures beginning givens ≡ true →
        Stands account_of done.model done.starts.now done.rows.now

-- The law between two runs of one order, both ending with an analysis, where every member after the first is one after
-- the second.
abbrev pub Between : {S A T B : Type 0} → (S → List Sets) → (T → List Sets) → Run S A → Run T B → Done S A →
    Done T B → Type 0
Between f g first second one two =
    let s = account_of f first in
    let t = account_of g second in
    ends_with analyses (beginning f first) (givens f first) ≡ true →
    ends_with analyses (beginning g second) (givens g second) ≡ true →
    s.order ≡ t.order →
    MoreMembers s t →
    Grown s.order one.model two.model
