-- What a structure call comes to, and what its two arrays hold after it.
use Rattle.std.specs.Prelude.{ℕ, min, true, List, [], ◌∷◌, map, Ok, Err, Result}
use Rattle.std.specs.Option.{option_or}
use Rattle.pattern.specs.Structure.{over}
use Rattle.model.specs.declared.refusals.Refusal.{Refusal}
use Rattle.model.specs.States.{State, answer, first_of, most_entries, too_short}
use Rattle.downskillet_c.specs.Pairs.{turned}
use Rattle.downskillet_c.specs.Refusals.{first_fault}

-- the state of a model that holds the pairs and is analysed
abbrev pub state_given : ℕ → List (ℕ × ℕ) → ℕ → State
state_given n ps entries =
    record { order = n; capacity = min entries most_entries; entries = map turned ps; analysed = true }

-- refused as the analysis of the pairs is, or by arrays that have too few places for the structure
abbrev pub structure_outcome : ℕ → List (ℕ × ℕ) → ℕ → ℕ → ℕ → ℕ → ℕ → Result (Unit {0}) Refusal
structure_outcome n ps vertices entries links starts rows =
    answer
    (option_or (first_fault n ps vertices entries links)
    (first_of (too_short (state_given n ps entries) starts rows ∷ [])))
    tt

-- what an array holds after a call that writes xs into it where it is accepted
abbrev pub array_after : {X : Type 0} → Result X Refusal → List ℕ → List ℕ → List ℕ
array_after (Ok x) xs before = over xs before
array_after (Err refusal) xs before = before
