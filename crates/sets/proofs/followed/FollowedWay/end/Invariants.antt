use Rattle.sets.specs.Tables.{number}
use Rattle.sets.proofs.LinkSets.{distance, Going}
use Rattle.sets.proofs.followed.FollowedWay.end.Given as goal

abbrev pub invariant-loop-at : goal.invariant-loop-at
invariant-loop-at l = Going l.table.used l.table.numbers.now l.v l.table.numbers.now l.at

abbrev pub decreases-loop-at : goal.decreases-loop-at
decreases-loop-at l = distance l.table.used (number l.table.numbers.now) l.at
