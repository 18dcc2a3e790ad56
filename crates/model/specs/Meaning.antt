-- What a model means: the only thing that the contracts of its calls speak of.
use Rattle.std.specs.Prelude.{◌≡◌, true, is_err, Result}
use Rattle.model.specs.declared.models.Model.{Model}
use Rattle.model.specs.declared.refusals.Refusal.{Refusal}
use Rattle.model.specs.States.{State, Given, first_refusal, step, answer}
use Rattle.model.specs.Stored.{means}
use Rattle.model.specs.Untouched.{Untouched, writes}

abbrev pub meaning : Model → State
meaning m = means m.store

-- What a call that is given g makes of a model, and its answer r: x where it is accepted. A refused call leaves the
-- whole model, and any call the places of its tables that it does not write.
pub record Outcome {X : Type 0} (g : Given) (before after : Model) (x : X) (r : Result X Refusal) : Type 0 where
  pub answers : r ≡ answer (first_refusal (meaning before) g) x
  pub turns : meaning after ≡ step (meaning before) g
  pub keeps : is_err r ≡ true → after ≡ before
  pub rest : Untouched (writes (meaning before) g) before.store after.store
