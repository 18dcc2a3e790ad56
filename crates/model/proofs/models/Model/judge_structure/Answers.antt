use Rattle.model.proofs.Structures.{order_counted}
use Rattle.model.proofs.models.Model.judge_structure.Goals as goal

pub overflow_sub-total : goal.overflow_sub-total
overflow_sub-total c = order_counted c.args.self.now _ _ c.judge_analysed.ensures c.in_ok-total.was
