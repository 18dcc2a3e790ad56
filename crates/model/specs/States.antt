-- What a model is to its user, which calls it refuses and what an accepted call makes of it: all of the rules.
use Rattle.std.specs.Prelude.{ℕ, ◌+◌, ◌-◌, min, max, Bool, true, false, cond, not, ◌||◌, List, [], ◌∷◌, ◌++◌}
use Rattle.std.specs.Prelude.{length, Some, None, Ok, Err, Option, Result, ◌==◌, nat_le, nat_lt, slice_get}
use Rattle.pattern.specs.Patterns.{Pattern, within, same_entry, listed}
use Rattle.pattern.specs.Elimination.{total}
use Rattle.model.specs.declared.refusals.Side.{Side}
use Rattle.model.specs.declared.refusals.Side.TheVariants.{First, Second}
use Rattle.model.specs.declared.refusals.Refusal.{Refusal}
use Rattle.model.specs.declared.refusals.Refusal.TheVariants.{OrderOutOfRange, EmptyModel, TableTooShort, SetsTooSmall}
use Rattle.model.specs.declared.refusals.Refusal.TheVariants.{VertexOutOfRange, EqualVertices, EntryHeld, ModelFull}
use Rattle.model.specs.declared.refusals.Refusal.TheVariants.{EntryNotHeld, NotAnalysed, ArraysTooShort}

-- The entries are those held, the lower vertex first, in the order in which they were put. The empty model has order
-- 0.
pub record State : Type 0 where
  pub order : ℕ
  pub capacity : ℕ
  pub entries : List (ℕ × ℕ)
  pub analysed : Bool

-- the pattern of the entries held
abbrev pub pattern_in : State → Pattern
pattern_in s = record { order = s.order; entries = s.entries }

-- the k-th of the entries, counted from 1
abbrev pub entry_at : State → ℕ → Option (ℕ × ℕ)
entry_at s k = cond (nat_le 1 k) (slice_get s.entries (k - 1)) None

-- What a call is given: the two vertices of an entry, the size of the ancestor sets, the vertex that is asked of, the
-- lengths of the two arrays for the structure.
pub data Given : Type 0 where
  Put : ℕ → ℕ → Given
  Drop : ℕ → ℕ → Given
  Analyse : ℕ → Given
  Question : ℕ → Given
  Total : Given
  Structure : ℕ → ℕ → Given

-- A rule: a condition, and the refusal of a call that meets it.
abbrev pub Rule : Type 0
Rule = Bool × Refusal

abbrev pub first_of : List Rule → Option Refusal
first_of [] = None
first_of ((met, refusal) ∷ rules) = cond met (Some refusal) (first_of rules)

abbrev pub empty : State → Rule
empty s = ((s.order == 0), EmptyModel)

abbrev pub outside : State → Side → ℕ → Rule
outside s side v = (not (within s.order v), VertexOutOfRange side)

abbrev pub unanalysed : State → Rule
unanalysed s = (not s.analysed, NotAnalysed)

-- the arrays for the structure have too few places: starts one for each vertex and one more, rows one for each entry of
-- the factor below its diagonal
abbrev pub too_short : State → ℕ → ℕ → Rule
too_short s starts rows =
    (nat_lt starts (s.order + 1) || nat_lt rows (total (pattern_in s) - s.order), ArraysTooShort)

-- the rules for the two vertices of an entry
abbrev pub entry_rules : State → ℕ → ℕ → List Rule
entry_rules s i j = empty s ∷ outside s First i ∷ outside s Second j ∷ ((i == j), EqualVertices) ∷ []

abbrev pub rules : State → Given → List Rule
rules s (Put i j) =
    entry_rules s i j
    ++ (listed s.entries i j, EntryHeld) ∷ ((length s.entries == s.capacity), ModelFull) ∷ []
rules s (Drop i j) = entry_rules s i j ++ (not (listed s.entries i j), EntryNotHeld) ∷ []
rules s (Analyse size) = empty s ∷ (nat_lt size s.order, SetsTooSmall) ∷ []
rules s (Question v) = empty s ∷ outside s First v ∷ unanalysed s ∷ []
rules s Total = empty s ∷ unanalysed s ∷ []
rules s (Structure starts rows) = empty s ∷ unanalysed s ∷ too_short s starts rows ∷ []

-- which refusal a call meets first, if any
abbrev pub first_refusal : State → Given → Option Refusal
first_refusal s g = first_of (rules s g)

-- the entries but the one that is (a, b) or (b, a), the others in their order
unfoldable pub without : ℕ → ℕ → List (ℕ × ℕ) → List (ℕ × ℕ)
without a b [] = []
without a b (e ∷ es) = cond (same_entry a b e) es (e ∷ without a b es)

abbrev pub changed : State → List (ℕ × ℕ) → State
changed s es = record { order = s.order; capacity = s.capacity; entries = es; analysed = false }

-- what an accepted call makes of a state
abbrev pub accepted : State → Given → State
accepted s (Put i j) = changed s (s.entries ++ (min i j, max i j) ∷ [])
accepted s (Drop i j) = changed s (without i j s.entries)
accepted s (Analyse size) = record { order = s.order; capacity = s.capacity; entries = s.entries; analysed = true }
accepted s (Question v) = s
accepted s Total = s
accepted s (Structure starts rows) = s

abbrev pub if_accepted : {X : Type 0} → Option Refusal → X → X → X
if_accepted None x y = x
if_accepted (Some refusal) x y = y

-- what a call makes of a state: a refused one leaves it
abbrev pub step : State → Given → State
step s g = if_accepted (first_refusal s g) (accepted s g) s

-- what a call answers: the refusal that comes first, or else x
abbrev pub answer : {X : Type 0} → Option Refusal → X → Result X Refusal
answer None x = Ok x
answer (Some refusal) x = Err refusal

-- The largest order, and the most entries that any model holds.
abbrev pub largest_order : ℕ
largest_order = 16384

abbrev pub most_entries : ℕ
most_entries = 262144

-- which refusal the making of a model meets first: by its order and the length of its vertex table
abbrev pub first_fault : ℕ → ℕ → Option Refusal
first_fault n vertices =
    first_of ((n == 0 || nat_lt largest_order n, OrderOutOfRange) ∷ (nat_lt vertices n, TableTooShort) ∷ [])

-- a model as it is made; from what is refused, the empty one
abbrev pub made : ℕ → ℕ → ℕ → State
made n vertices table =
    record {
      order = if_accepted (first_fault n vertices) n 0;
      capacity = min table most_entries;
      entries = [];
      analysed = false;
    }
