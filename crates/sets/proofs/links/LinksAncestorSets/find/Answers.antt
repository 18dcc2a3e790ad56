use Rattle.sets.proofs.LinkSets.{ended_found}
use Rattle.sets.proofs.links.LinksAncestorSets.find.Goals as goal

pub returns : goal.returns
returns g c = let e = c.end.ensures in ended_found e.kept e.ended c.if-not-has.ensures
