use Rattle.std.proofs.Common.{◌≡◌, ℕ, ◌<◌, length, drop, get_or}
use Rattle.std.specs.Fn.{FnReturnsAt}
use Rattle.analysis.specs.Tables.{no_vertex}
use Rattle.downskillet_c.proofs.answers.read_off.Given as goal

abbrev pub invariant-loop-k : goal.invariant-loop-k
invariant-loop-k g l =
    record {
      given : (k : ℕ) → k < l.k → FnReturnsAt g.F.Fn l.answer (get_or l.vertices k no_vertex) (get_or l.answers k 0);
      others : drop (length l.vertices) l.answers ≡ drop (length l.vertices) l.initial.answers;
    }
