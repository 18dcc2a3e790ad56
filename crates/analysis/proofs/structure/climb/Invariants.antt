use Rattle.std.proofs.Common.{◌-◌, length, slice_index}
use Rattle.pattern.proofs.Filling.{ClimbAt}
use Rattle.analysis.proofs.Structures.{Bounds}
use Rattle.analysis.proofs.structure.climb.Given as goal

abbrev pub invariant-loop-rows : goal.invariant-loop-rows
invariant-loop-rows g l = record {
  at : ClimbAt g.p l.u l.x l.v (slice_index l.initial.starts) (slice_index l.initial.rows) (slice_index l.starts)
      (slice_index l.rows);
  bounds : Bounds l.v l.vertices l.starts l.rows;
}

abbrev pub decreases-loop-rows : goal.decreases-loop-rows
decreases-loop-rows g l = length l.vertices - l.v
