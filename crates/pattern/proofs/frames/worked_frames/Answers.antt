-- Every fact of the table, by computing the definitions.
use Rattle.std.proofs.Common.{refl}
use Rattle.pattern.specs.Lists.{upto, keep, first, occurs, position, each, sum}
use Rattle.pattern.specs.Patterns.{within, same_entry, listed, shares}
use Rattle.pattern.specs.Elimination.{joined, fill, row, col, row_count, col_count, total, parent}
use Rattle.pattern.specs.Forest.{children, visit, walk, place}
use Rattle.pattern.specs.Fill.{weight}
use Rattle.pattern.specs.Structure.{higher, taken, starts, rows}
use Rattle.pattern.proofs.frames.worked_frames.Goals as goal

pub returns : goal.returns
unfolding
    upto keep first occurs position each sum within same_entry listed shares joined fill row col row_count col_count
    total parent children visit walk place weight higher taken starts rows
returns c = refl
