-- What the questions of a model answer: the numbers that eliminating the vertices of the pattern held defines.
use Rattle.std.specs.Prelude.{ℕ, Result}
use Rattle.pattern.specs.Patterns.{Pattern}
use Rattle.pattern.specs.Elimination.{parent, row_count, col_count}
use Rattle.pattern.specs.Analysis.{place_of, first_place_of, height_of}
use Rattle.model.specs.declared.models.Model.{Model}
use Rattle.model.specs.declared.numbers.Numbers.{Numbers}
use Rattle.model.specs.declared.refusals.Refusal.{Refusal}
use Rattle.model.specs.Meaning.{meaning}
use Rattle.model.specs.States.{Given, Question, answer, first_refusal, pattern_in}

-- the numbers of the vertex v of a pattern
abbrev pub numbers_of : Pattern → ℕ → Numbers
numbers_of p v =
    record {
      parent = parent p v;
      place = place_of p v;
      first = first_place_of p v;
      height = height_of p v;
      rows = row_count p v;
      columns = col_count p v;
    }

-- the pattern that a model holds
abbrev pub pattern_held : Model → Pattern
pattern_held m = pattern_in (meaning m)

-- what a model tells when it is given g: the refusal that comes first, or else x
abbrev pub told : {X : Type 0} → Model → Given → X → Result X Refusal
told m g x = answer (first_refusal (meaning m) g) x

-- what it tells when it is asked of v for what f defines
abbrev pub asked : {X : Type 0} → (Pattern → ℕ → X) → Model → ℕ → Result X Refusal
asked f m v = told m (Question v) (f (pattern_held m) v)
