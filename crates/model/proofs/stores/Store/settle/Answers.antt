use Rattle.model.proofs.Analyses.{front_forest, settled}
use Rattle.model.proofs.stores.Store.settle.Goals as goal

pub settle-requires : goal.settle-requires
settle-requires g c = front_forest c.args.self.now c.requires

pub returns : goal.returns
returns g c = settled c.args.self.now c.requires _ _ _ c.settle.ensures
