use Rattle.std.proofs.Common.{arith}
use Rattle.analysis.proofs.Gathers.{reach_gathered}
use Rattle.analysis.proofs.order.reach.Goals as goal

pub gather-requires : goal.gather-requires
gather-requires c = record { grows = c.requires.forest.grows }

pub returns : goal.returns
returns c =
    let (firsts, depths, only) = reach_gathered c.requires.forest (omega arith) c.requires.begun c.gather.ensures in
    record { firsts = firsts; depths = depths; only = only }
