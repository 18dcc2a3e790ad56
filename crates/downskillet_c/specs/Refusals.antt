-- Which refusal an analysis meets first, by the pairs and by how long each storage lent is, and its number.
use Rattle.std.specs.Prelude.{ℕ, min, Bool, not, List, [], ◌∷◌, ◌++◌, length, Ok, Err, Option, Result, ◌==◌, nat_lt}
use Rattle.std.specs.List.{list_any}
use Rattle.std.specs.Option.{option_or}
use Rattle.pattern.specs.Elimination.{total}
use Rattle.pattern.specs.Patterns.{within}
use Rattle.model.specs.declared.refusals.Refusal.{Refusal}
use Rattle.model.specs.declared.refusals.Refusal.TheVariants.{SetsTooSmall, VertexOutOfRange, EqualVertices, ModelFull}
use Rattle.model.specs.declared.refusals.Side.TheVariants.{First, Second}
use Rattle.model.specs.Refusals.{number_of}
use Rattle.model.specs.States as model
use Rattle.model.specs.States.{Rule, answer, first_of, most_entries}
use Rattle.downskillet_c.specs.Pairs.{pattern_given}

-- what no model could be made of, and links for fewer vertices than the order
abbrev pub working_fault : ℕ → ℕ → ℕ → Option Refusal
working_fault n vertices links =
    option_or (model.first_fault n vertices) (first_of ((nat_lt links n, SetsTooSmall) ∷ []))

-- some pair has a first vertex that is none of 1 to n, a second one, or two equal ones
abbrev pub some_first_outside : ℕ → List (ℕ × ℕ) → Bool
some_first_outside n ps = list_any (λ e. not (within n e.0)) ps

abbrev pub some_second_outside : ℕ → List (ℕ × ℕ) → Bool
some_second_outside n ps = list_any (λ e. not (within n e.1)) ps

abbrev pub some_equal : List (ℕ × ℕ) → Bool
some_equal ps = list_any (λ e. e.0 == e.1) ps

-- the rules for the two vertices of an entry, each met if one of the pairs meets it
abbrev pub pair_rules : ℕ → List (ℕ × ℕ) → List Rule
pair_rules n ps =
    (some_first_outside n ps, VertexOutOfRange First)
    ∷ (some_second_outside n ps, VertexOutOfRange Second)
    ∷ (some_equal ps, EqualVertices)
    ∷ []

-- more pairs than there are entries for, or than any model holds
abbrev pub room_rule : ℕ → ℕ → Rule
room_rule pairs entries = (nat_lt (min entries most_entries) pairs, ModelFull)

abbrev pub first_fault : ℕ → List (ℕ × ℕ) → ℕ → ℕ → ℕ → Option Refusal
first_fault n ps vertices entries links =
    option_or (working_fault n vertices links) (first_of (pair_rules n ps ++ room_rule (length ps) entries ∷ []))

-- what an analysis comes to: the refusal that comes first, or else the total
abbrev pub outcome : ℕ → List (ℕ × ℕ) → ℕ → ℕ → ℕ → Result ℕ Refusal
outcome n ps vertices entries links = answer (first_fault n ps vertices entries links) (total (pattern_given n ps))

-- the number that a call answers, 0 where it is accepted, and the total after it
abbrev pub number_told : {X : Type 0} → Result X Refusal → ℕ
number_told (Ok x) = 0
number_told (Err refusal) = number_of refusal

abbrev pub total_told : Result ℕ Refusal → ℕ → ℕ
total_told (Ok sum) before = sum
total_told (Err refusal) before = before
