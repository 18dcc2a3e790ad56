use Rattle.std.proofs.Common.{◌≡◌, map, take}
use Rattle.downskillet_c.specs.Refusals.{some_first_outside, some_second_outside, some_equal}
use Rattle.downskillet_c.proofs.judging.find_faults.Given as goal

abbrev pub invariant-loop-pair : goal.invariant-loop-pair
invariant-loop-pair g l =
    let passed = take l.pair-index (map g.E.Ends.ends l.pairs) in
    record {
      first : l.faults.first ≡ some_first_outside l.order passed;
      second : l.faults.second ≡ some_second_outside l.order passed;
      equal : l.faults.equal ≡ some_equal passed;
    }
