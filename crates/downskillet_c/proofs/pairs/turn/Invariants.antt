use Rattle.std.proofs.Common.{◌≡◌, ℕ, ◌≤◌, map, take, get_or}
use Rattle.analysis.specs.Tables.{no_entry, pairs_of}
use Rattle.downskillet_c.specs.Pairs.{turned}
use Rattle.downskillet_c.proofs.pairs.turn.Given as goal

abbrev pub invariant-loop-entry : goal.invariant-loop-entry
invariant-loop-entry l =
    record {
      turned : take l.entry-index (pairs_of l.entries) ≡ take l.entry-index (map turned (pairs_of l.initial.entries));
      rest : (k : ℕ) → l.entry-index ≤ k → get_or l.entries k no_entry ≡ get_or l.initial.entries k no_entry;
    }
