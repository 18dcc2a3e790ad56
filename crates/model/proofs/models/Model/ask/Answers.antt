use Rattle.std.proofs.Common.{arith}
use Rattle.model.proofs.Asking.{asks}
use Rattle.model.proofs.models.Model.ask.Goals as goal

pub overflow_sub-found : goal.overflow_sub-found
overflow_sub-found c = (asks c.args.self.now c.args.v _ c.judge_question.ensures c.in_ok-judge_question.was).one

pub bounds-self-v : goal.bounds-self-v
bounds-self-v c =
    let known = asks c.args.self.now c.args.v _ c.judge_question.ensures c.in_ok-judge_question.was in
    omega (arith, c.args.self.now.store.placed)

pub overflow_sub-result : goal.overflow_sub-result
overflow_sub-result c = (asks c.args.self.now c.args.v _ c.judge_question.ensures c.in_ok-judge_question.was).rises

pub overflow_cast-result-6 : goal.overflow_cast-result-6
overflow_cast-result-6 c = (asks c.args.self.now c.args.v _ c.judge_question.ensures c.in_ok-judge_question.was).casts

pub returns : goal.returns
returns c = (asks c.args.self.now c.args.v _ c.judge_question.ensures c.in_ok-judge_question.was).reads
