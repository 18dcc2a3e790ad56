use Rattle.std.proofs.Common.{sym, subst, ap, ◌∙◌, arith, length-set}
use Rattle.std.proofs.lemmas.List.{map_push, take_more_set}
use Rattle.analysis.specs.declared.records.Entry.{Entry}
use Rattle.analysis.specs.Tables.{Sound, pair_of, pairs_of}
use Rattle.model.specs.Stored.{held_by}
use Rattle.model.specs.Tables.{distinct}
use Rattle.model.proofs.Entries.{distinct_push, sound_push}
use Rattle.model.proofs.stores.Store.push.Goals as goal

pub invariant_of-self : goal.invariant_of-self
invariant_of-self c =
    let s = c.args.self.now in
    let held = ap pairs_of (take_more_set s.entries.now s.held _ (omega arith)) ∙ map_push pair_of (held_by s) _ in
    record {
      small = s.small;
      placed = s.placed;
      room = omega (arith, c.requires.room, length-set {A = Entry});
      sound = subst (Sound s.order) (sym held) (sound_push s.order _ _ s.sound c.requires.sound);
      apart = ap distinct held ∙ distinct_push _ _ _ s.apart c.requires.absent;
    }
