use Rattle.std.proofs.Common.{◌||◌, ap, ◌∙◌, arith}
use Rattle.pattern.specs.Patterns.{within}
use Rattle.std.proofs.Common.{not, eqb}
use Rattle.downskillet_c.proofs.Passes.{tested_more}
use Rattle.downskillet_c.proofs.judging.find_faults.Goals as goal

pub loop-pair-preserved : goal.loop-pair-preserved
loop-pair-preserved g c =
    let so_far = c.loop-pair.invariant in
    let ends = g.E.Ends.ends in
    let xs = c.args.pairs.now in
    let i = c.loop-pair.pair-index in
    record {
      first =
          ap (λ b. c.loop-pair.faults.first || b) (cc)
          ∙ tested_more (λ e. not (within c.args.order e.0)) ends xs i c.pair-item.result _ (omega arith) c.pair-item.is so_far.first;
      second =
          ap (λ b. c.loop-pair.faults.second || b) (cc)
          ∙ tested_more (λ e. not (within c.args.order e.1)) ends xs i c.pair-item.result _ (omega arith) c.pair-item.is so_far.second;
      equal =
          ap (λ b. c.loop-pair.faults.equal || b) (cc)
          ∙ tested_more (λ e. eqb e.0 e.1) ends xs i c.pair-item.result _ (omega arith) c.pair-item.is so_far.equal;
    }
