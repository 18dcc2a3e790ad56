use Rattle.sets.proofs.TopSets.{begun_rests, begun_started}
use Rattle.sets.proofs.written.WrittenTopsAncestorSets.start.Goals as goal

pub invariant_of-self : goal.invariant_of-self
invariant_of-self c = record { rests = begun_rests c.start.ensures c.args.self.now.rests }

pub returns : goal.returns
returns c = begun_started c.start.ensures
