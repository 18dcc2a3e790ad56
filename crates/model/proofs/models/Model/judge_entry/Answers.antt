use Rattle.std.proofs.Common.{sym, ◌∙◌}
use Rattle.model.proofs.Judging.{vertex_small}
use Rattle.model.proofs.models.Model.judge_entry.Goals as goal

pub of-requires-clause-first : goal.of-requires-clause-first
of-requires-clause-first c =
    vertex_small c.args.self.now _ c.args.i _ (sym c.judge_vertex.ensures ∙ c.in_ok-judge_vertex.was)

pub of-requires-clause-second : goal.of-requires-clause-second
of-requires-clause-second c =
    vertex_small c.args.self.now _ c.args.j _ (sym c.judge_vertex-2.ensures ∙ c.in_ok-judge_vertex-2.was)
