use Rattle.std.proofs.Common.{◌+◌, ◌-◌, length, ap, arith}
use Rattle.analysis.proofs.CountedTables.{taken_none, taken_more}
use Rattle.analysis.proofs.counts.take_children.Goals as goal

pub loop-v-init : goal.loop-v-init
loop-v-init c = taken_none _

pub take_child-requires : goal.take_child-requires
take_child-requires c =
    let s = c.requires.grows.stays c.loop-v.v (omega arith) (omega arith) in
    let e = ap (λ x. x.parent) (c.loop-v.invariant.only c.loop-v.v) in
    record { has = (omega arith, omega arith); parent = omega arith }

pub loop-v-preserved : goal.loop-v-preserved
loop-v-preserved c =
    taken_more c.loop-v.v (c.loop-v.v + 1 - 1) _ _ _ (omega arith) (omega arith) (omega arith)
    (omega arith) c.requires.grows c.loop-v.invariant c.take_child.ensures

-- no vertex
pub returns : goal.returns
returns c = record { weights = λ v p q. absurd (omega arith); only = c.loop-v.invariant.only }

-- the last one
pub returns-2 : goal.returns-2
returns-2 c =
    taken_more c.loop-v.v (length c.args.vertices.now) _ _ _ (omega arith) (omega arith) (omega arith)
    (omega arith) c.requires.grows c.loop-v.invariant c.take_child.ensures
