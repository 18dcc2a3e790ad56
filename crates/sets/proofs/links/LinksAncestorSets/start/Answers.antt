use Rattle.sets.proofs.LinkSets.{begun_ends, begun_started}
use Rattle.sets.proofs.links.LinksAncestorSets.start.Goals as goal

pub invariant_of-self : goal.invariant_of-self
invariant_of-self g c = record { ends = begun_ends c.start.ensures c.args.self.now.ends }

pub returns : goal.returns
returns g c = begun_started c.start.ensures
