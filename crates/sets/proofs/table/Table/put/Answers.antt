use Rattle.sets.proofs.Tables.{stored_kept}
use Rattle.sets.proofs.table.Table.put.Goals as goal

pub invariant_of-self : goal.invariant_of-self
invariant_of-self c =
    let t = c.args.self.now in
    stored_kept _ _ _ _ c.requires.has c.requires.has_number (record { fits = t.fits; stays = t.stays })
