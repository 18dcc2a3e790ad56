use Rattle.std.proofs.Common.{refl}
use Rattle.sets.proofs.Owed.{missed_of, found_of}
use Rattle.sets.proofs.written.WrittenTopsAncestorSets.find.Goals as goal

pub returns-then-not-has : goal.returns-then-not-has
returns-then-not-has c = missed_of _ _ c.if-not-has.ensures

pub returns : goal.returns
returns c = found_of _ _ _ _ refl (λ x i. refl) c.if-not-has.ensures c.get.ensures
