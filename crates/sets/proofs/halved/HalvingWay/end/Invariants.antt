use Rattle.std.proofs.Common.{◌≡◌}
use Rattle.sets.specs.Tables.{number}
use Rattle.sets.proofs.LinkSets.{distance, Going}
use Rattle.sets.proofs.halved.HalvingWay.end.Given as goal

abbrev pub invariant-loop-at : goal.invariant-loop-at
invariant-loop-at l =
    (l.table.used ≡ l.initial.table.used)
    × Going l.initial.table.used l.initial.table.numbers.now l.v l.table.numbers.now l.at

abbrev pub decreases-loop-at : goal.decreases-loop-at
decreases-loop-at l = distance l.initial.table.used (number l.initial.table.numbers.now) l.at
