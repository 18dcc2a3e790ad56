-- What the two arrays lent for the structure hold after a call.
use Rattle.std.specs.Prelude.{ℕ, List}
use Rattle.pattern.specs.Structure.{starts, rows, over}
use Rattle.model.specs.States.{State, Given, Put, Drop, Analyse, Question, Total, Structure, if_accepted}
use Rattle.model.specs.States.{first_refusal, pattern_in}

abbrev pub starts_accepted : State → Given → List ℕ → List ℕ
starts_accepted s (Structure long wide) before = over (starts (pattern_in s)) before
starts_accepted s (Put i j) before = before
starts_accepted s (Drop i j) before = before
starts_accepted s (Analyse size) before = before
starts_accepted s (Question v) before = before
starts_accepted s Total before = before

abbrev pub rows_accepted : State → Given → List ℕ → List ℕ
rows_accepted s (Structure long wide) before = over (rows (pattern_in s)) before
rows_accepted s (Put i j) before = before
rows_accepted s (Drop i j) before = before
rows_accepted s (Analyse size) before = before
rows_accepted s (Question v) before = before
rows_accepted s Total before = before

-- the starts after a call, and the rows: a refused one leaves them
abbrev pub starts_after : State → Given → List ℕ → List ℕ
starts_after s g before = if_accepted (first_refusal s g) (starts_accepted s g before) before

abbrev pub rows_after : State → Given → List ℕ → List ℕ
rows_after s g before = if_accepted (first_refusal s g) (rows_accepted s g before) before
