-- The arrays hold what their first places hold, and behind them what they held.
use Rattle.model.specs.Meaning.{meaning}
use Rattle.runs.proofs.Windows.{rows_into, starts_into}
use Rattle.runs.proofs.performing.write_structure.Goals as goal

pub returns-clause-starts : goal.returns-clause-starts
returns-clause-starts c =
    starts_into (meaning c.args.model.now) _ _ c.args.starts.now c.args.rows.now _ _
    c.min-long.ensures c.min-wide.ensures _ c.structure.ensures.starts

pub returns-clause-rows : goal.returns-clause-rows
returns-clause-rows c =
    rows_into (meaning c.args.model.now) _ _ c.args.starts.now c.args.rows.now _ _
    c.min-long.ensures c.min-wide.ensures _ c.structure.ensures.rows
