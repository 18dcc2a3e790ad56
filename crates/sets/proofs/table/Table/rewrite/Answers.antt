use Rattle.std.proofs.Common.{Bool, cond, get_or, set, sym, ap, ◌∙◌, arith}
use Rattle.std.proofs.lemmas.Bool.{eq-eqb, ne_eqb}
use Rattle.std.proofs.lemmas.List.{get_or_default}
use Rattle.std.proofs.lemmas.List.Edits.{map_over_more}
use Rattle.sets.proofs.Tables.{becomes, rewritten_of, rewritten_kept}
use Rattle.sets.proofs.table.Table.rewrite.Goals as goal
use Rattle.sets.proofs.table.Table.rewrite.Goals.{then-number-v, else-number-v}

pub loop-number-preserved : goal.loop-number-preserved
loop-number-preserved c =
    let l = c.loop-number in
    let n = get_or l.number-items l.number-index 0 in
    let store = λ (b : Bool). set l.number-items l.number-index (cond b c.args.p n) in
    let more =
    map_over_more (becomes c.args.v c.args.p) _ _ _ n c.loop-number-test.true l.invariant
    (get_or_default l.number-items l.number-index 0 n (omega arith))
    in
    elim c.if-number-v.branch [
      | then-number-v w ↦ w.number-items-is ∙ sym (ap store (eq-eqb n c.args.v w.if-number-v.true)) ∙ more
      | else-number-v w ↦ w.number-items-is ∙ sym (ap store (ne_eqb n c.args.v w.if-number-v.false)) ∙ more
    ]

pub invariant_of-self : goal.invariant_of-self
invariant_of-self c =
    let t = c.args.self.now in
    rewritten_kept _ _ _ _ _ c.requires
    (rewritten_of _ _ _ _ _ _ (omega (arith, t.fits)) c.loop-number-test.false c.loop-number.invariant)
    (record { fits = t.fits; stays = t.stays })

pub returns-clause-rewritten : goal.returns-clause-rewritten
returns-clause-rewritten c =
    rewritten_of _ _ _ _ _ _ (omega (arith, c.args.self.now.fits)) c.loop-number-test.false c.loop-number.invariant
