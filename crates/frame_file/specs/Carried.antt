-- What carrying out a statement, as a verdict has it, makes of a model, and what it answers.
use Rattle.std.specs.Prelude.{◌≡◌, ℕ, true, List, length, is_err, Result}
use Rattle.std.specs.Result.{result_map_both}
use Rattle.sets.specs.Meaning.{Sets}
use Rattle.model.specs.Meaning.{meaning}
use Rattle.model.specs.SetsAfter.{SameSets}
use Rattle.model.specs.States.{State}
use Rattle.model.specs.Untouched.{Untouched}
use Rattle.model.specs.declared.models.Model.{Model}
use Rattle.frame_text.specs.Answers.{whole_block}
use Rattle.frame_text.specs.Records.{Statement}
use Rattle.frame_text.specs.declared.answers.Answer.{Answer}
use Rattle.frame_text.specs.declared.lines.Line.{Line}
use Rattle.frame_file.specs.Runs.{Sizes, bare, line_state, line_text, line_verdict, line_written, said, sets_by}
use Rattle.frame_file.specs.Runs.{state_by, written_by}

-- the length of a model's vertex table
abbrev pub places : Model → ℕ
places m = length m.store.vertices.now

-- what a run of this model is lent, with ancestor sets that have room for `size` vertices
abbrev pub lent_with : Model → ℕ → Sizes
lent_with m size = record { vertices = places m; sets = size }

pub record Carried {E : Type 0} (z : Sizes) (v : Result Statement E) (before after : Model) (r : Result Answer E)
    : Type 0 where
  pub state : meaning after ≡ state_by z (meaning before) v
  pub answer : result_map_both bare (λ fault. fault) r ≡ result_map_both (said (meaning after)) (λ fault. fault) v
  -- what is refused leaves the whole model
  pub keeps : is_err v ≡ true → after ≡ before
  pub rest : Untouched (written_by z (meaning before) v) before.store after.store

-- the same by a rule, which gives its verdict by what is lent and by the state
abbrev pub Does : {E : Type 0} → ℕ → (Sizes → State → Result Statement E) → Model → Model → Result Answer E
    → Type 0
Does size rule before after r =
    Carried (lent_with before size) (rule (lent_with before size) (meaning before)) before after r

-- what the same makes of the ancestor sets
abbrev pub Settles : {E : Type 0} → (Sizes → State → Result Statement E) → Model → Sets → Sets → Type 0
Settles rule m before after =
    let z = lent_with m before.size in SameSets (sets_by z (meaning m) (rule z (meaning m)) before) after

-- what carrying out a line makes of a model, and the block that answers it
pub record LineAnswered (size : ℕ) (l : Line) (before after : Model) (answer : List ℕ) : Type 0 where
  pub state : meaning after ≡ line_state (lent_with before size) (meaning before) l.number (l.bytes.now, l.ended)
  pub block : answer
      ≡ whole_block (line_text (lent_with before size) (meaning before) l.number (l.bytes.now, l.ended))
  pub keeps : is_err (line_verdict (lent_with before size) (meaning before) l.number (l.bytes.now, l.ended)) ≡ true →
      after ≡ before
  pub rest : Untouched (line_written (lent_with before size) (meaning before) l.number (l.bytes.now, l.ended))
      before.store after.store
