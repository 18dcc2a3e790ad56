use Rattle.std.proofs.Common.{length-append, drop, refl, sym, subst, ap, ◌∙◌, arith}
use Rattle.std.proofs.lemmas.List.{length-take-le, length-drop, take_at}
use Rattle.analysis.specs.Tables.{Sound, pairs_of}
use Rattle.model.specs.Tables.{distinct}
use Rattle.model.proofs.Analyses.{analysed_store, refusal}
use Rattle.model.proofs.stores.Store.analyse.Goals as goal

pub returns-in_err-total : goal.returns-in_err-total
returns-in_err-total g c =
    refusal c.args.self.now _ _ _ _ _ _ refl refl refl refl refl c.from_residual.ensures.0 c.in_err-total.ensures

pub returns : goal.returns
returns g c =
    let s = c.args.self.now in
    let room = s.room in
    let held = length-take-le s.held s.entries.now (omega arith) in
    analysed_store s _ _ _ _ _ _ refl refl refl refl refl (omega arith) (omega arith) (omega arith)
    c.in_ok-total.ensures

pub invariant_of-self-2 : goal.invariant_of-self-2
invariant_of-self-2 g c =
    let s = c.args.self.now in
    let room = s.room in
    let held = length-take-le s.held s.entries.now (omega arith) in
    let same = ap pairs_of (take_at c.analyse.new.entries (drop s.held s.entries.now) s.held (omega arith))
    ∙ c.in_ok-total.ensures.pairs in
    record {
      small = s.small;
      placed = omega (arith, s.placed);
      room = omega (
        arith,
        length-append c.analyse.new.entries (drop s.held s.entries.now),
        length-drop s.held s.entries.now,
      );
      sound = subst (Sound s.order) (sym same) s.sound;
      apart = ap distinct same ∙ s.apart;
    }
