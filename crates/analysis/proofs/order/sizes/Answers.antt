use Rattle.std.proofs.Common.{arith}
use Rattle.analysis.proofs.Gathers.{sizes_gathered}
use Rattle.analysis.proofs.order.sizes.Goals as goal

pub gather-requires : goal.gather-requires
gather-requires c = record { grows = c.requires.forest.grows }

pub returns : goal.returns
returns c =
    let (sizes, only) = sizes_gathered c.requires.forest (omega arith) c.requires.ones c.gather.ensures in
    record { sizes = sizes; only = only }
