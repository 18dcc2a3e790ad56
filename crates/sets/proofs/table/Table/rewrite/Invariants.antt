use Rattle.std.proofs.Common.{◌≡◌, ◌++◌, map, take, drop}
use Rattle.sets.proofs.Tables.{becomes}
use Rattle.sets.proofs.table.Table.rewrite.Given as goal

-- the first numbers are rewritten, and the others are as they were
abbrev pub invariant-loop-number : goal.invariant-loop-number
invariant-loop-number l =
    let xs = l.initial.number-items in
    l.number-items ≡ map (becomes l.v l.p) (take l.number-index xs) ++ drop l.number-index xs
