-- No more has come than the buffer holds.
use Rattle.std.proofs.Common.{◌≤◌}
use Rattle.framecount.proofs.read_input.Given as goal

abbrev pub invariant-loop : goal.invariant-loop
invariant-loop l = l.len ≤ 32769
