use Rattle.sets.proofs.Tables.{begun_of, begun_kept}
use Rattle.sets.proofs.table.Table.start.Goals as goal

pub invariant_of-self : goal.invariant_of-self
invariant_of-self c =
    let t = c.args.self.now in
    begun_kept _ _ t.used _
    (begun_of t.numbers.now _ _ _ _ c.in_ok-judge_start.ensures c.loop-i.auto.number-items c.loop-i-test.false c.loop-i.invariant)

pub returns : goal.returns
returns c =
    begun_of _ _ _ _ _ c.in_ok-judge_start.ensures c.loop-i.auto.number-items c.loop-i-test.false c.loop-i.invariant
