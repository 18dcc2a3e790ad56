use Rattle.sets.proofs.TopSets.{rewritten_rests, rewritten_merged}
use Rattle.sets.proofs.written.WrittenTopsAncestorSets.merge.Goals as goal

pub invariant_of-self : goal.invariant_of-self
invariant_of-self c =
    let s = c.args.self.now in
    let w = c.rewrite.ensures in
    record { rests = rewritten_rests w.kept w.rewritten c.in_ok-judge_merge.ensures s.tops.stays s.rests }

pub returns : goal.returns
returns c =
    let w = c.rewrite.ensures in
    rewritten_merged w.kept w.rewritten c.in_ok-judge_merge.ensures
