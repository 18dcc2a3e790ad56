use Rattle.std.proofs.Common.{◌≤◌, length, sym, subst, refl, ap, ◌∙◌, arith, length-append, length-drop}
use Rattle.std.proofs.lemmas.List.{length-take-le}
use Rattle.analysis.specs.Tables.{Sound, pairs_of}
use Rattle.model.specs.Tables.{distinct}
use Rattle.model.proofs.Entries.{close_gap, distinct_remove, gap_past, sound_remove}
use Rattle.model.proofs.Rests.{rest_past}
use Rattle.model.proofs.stores.Store.remove.Goals as goal

pub invariant_of-self : goal.invariant_of-self
invariant_of-self c =
    let s = c.args.self.now in
    let room = s.room in
    let fits : s.held ≤ length s.entries.now = omega arith in
    let held = ap pairs_of (close_gap _ _ _ _ c.copy_within.ensures.after c.requires.stands fits) in
    record {
      small = s.small;
      placed = s.placed;
      room = simp (length-append, length-drop) (omega (arith, length-take-le s.held s.entries.now fits));
      sound = subst (Sound s.order) (sym held) (sound_remove s.order _ _ s.sound);
      apart = ap distinct held ∙ distinct_remove _ _ s.apart;
    }

pub returns : goal.returns
returns c =
    let s = c.args.self.now in
    let room = s.room in
    let fits : s.held ≤ length s.entries.now = omega arith in
    record {
      others =
          record {
            order = refl;
            vertices = refl;
            lent = refl;
            long = simp (length-append, length-drop) (omega (arith, length-take-le s.held s.entries.now fits));
            rest = λ k. rest_past s.held k _ _ (gap_past _ _ _ _ c.copy_within.ensures.after c.requires.stands fits);
            unanalysed = refl;
          };
      count = omega arith;
      entries = close_gap _ _ _ _ c.copy_within.ensures.after c.requires.stands fits;
    }
