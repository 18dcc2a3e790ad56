use Rattle.std.proofs.Common.{◌≡◌, map, take}
use Rattle.analysis.specs.Tables.{pairs_of}
use Rattle.downskillet_c.specs.Pairs.{given, turned}
use Rattle.downskillet_c.proofs.pairs.load.Given as goal

abbrev pub invariant-loop-k : goal.invariant-loop-k
invariant-loop-k l = take l.k (pairs_of l.entries) ≡ take l.k (map turned (given l.pairs))
