use Rattle.std.proofs.Common.{is_ok, arith}
use Rattle.sets.proofs.LinkSets.{hung_ends, hung_merged}
use Rattle.sets.proofs.links.LinksAncestorSets.merge.Goals as goal

pub invariant_of-self : goal.invariant_of-self
invariant_of-self g c =
    let s = c.args.self.now in
    let h = c.hang.ensures in
    record {
      ends = hung_ends (is_ok c.hang.result) h.kept h.hung (omega (arith, s.table.fits))
          (record { stays = s.table.stays; ends = s.ends });
    }

pub returns : goal.returns
returns g c =
    let s = c.args.self.now in
    let h = c.hang.ensures in
    hung_merged (is_ok c.hang.result) h.kept h.hung (omega (arith, s.table.fits))
    (record { stays = s.table.stays; ends = s.ends })
