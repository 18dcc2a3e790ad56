use Rattle.std.proofs.Common.{ℕ, subst, sym}
use Rattle.pattern.specs.Elimination.{total}
use Rattle.model.specs.Asked.{pattern_held}
use Rattle.model.specs.Meaning.{Outcome}
use Rattle.model.specs.States.{Analyse}
use Rattle.runs.proofs.Lent.{size_next}
use Rattle.runs.proofs.lending.WithLentSets.analyse.Goals as goal

pub returns-clause-outcome : goal.returns-clause-outcome
returns-clause-outcome g c =
    let m = c.args.model.now in
    let after = c.analyse-2.new.model in
    let P : ℕ → Type 0 = λ size. Outcome (Analyse size) m after (total (pattern_held m)) c.analyse-2.result in
    let first = g.S.AncestorSets.meaning c.args.self.now.sets in
    let later = g.R.LentSets.meanings c.args.self.now.more in
    subst P (sym (size_next first later c.args.index c.if-index-eq0.false)) c.analyse-2.ensures.outcome
