use Rattle.model.proofs.Turns.{none_held}
use Rattle.model.proofs.models.Model.held.Goals as goal

pub returns-clause-empty : goal.returns-clause-empty
returns-clause-empty c = none_held c.args.self.now.store
