use Rattle.model.proofs.Structures.{room}
use Rattle.model.proofs.models.Model.structure.Goals as goal

pub structure-requires-clause-room : goal.structure-requires-clause-room
structure-requires-clause-room c = room c.args.self.now _ _ _ c.judge_structure.ensures c.in_ok-judge_structure.was
