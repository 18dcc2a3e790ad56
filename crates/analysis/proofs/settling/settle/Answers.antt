use Rattle.std.proofs.Common.{refl, sym, ◌∙◌, ap, subst, arith}
use Rattle.std.proofs.lemmas.Bool.{leb-true}
use Rattle.analysis.proofs.SettledTops.{SettledTo, settled_none, settled_root, settled_merged, settled_all}
use Rattle.analysis.proofs.SettledTops.{parent_after, two_apart}
use Rattle.analysis.proofs.settling.settle.Goals as goal
use Rattle.analysis.proofs.settling.settle.Goals.{then-vertex-ne0, else-vertex-ne0}

pub loop-i-init : goal.loop-i-init
loop-i-init g c = (settled_none _ _ _ _ _ refl c.in_ok-start.ensures, c.in_ok-start.ensures.size)

pub unwrap-requires : goal.unwrap-requires
unwrap-requires g c =
    c.merge.ensures.accepted
    ∙ two_apart _ _ c.requires.grows _ _ c.loop-i.invariant.0 (omega arith) _ (parent_after c.args.vertices.now _)
    c.if-vertex-ne0.true

pub loop-i-preserved : goal.loop-i-preserved
loop-i-preserved g c =
    let to = c.loop-i.invariant.0 in
    let is = parent_after c.args.vertices.now c.loop-i.i in
    elim c.if-vertex-ne0.branch [
      | then-vertex-ne0 w ↦
          let e = ap g.S.AncestorSets.meaning w.sets-is in (
            subst (SettledTo _ _ _) (sym e)
                (settled_merged _ _ c.requires.grows _ _ to (omega arith) _ is w.if-vertex-ne0.true _ _ w.merge.ensures),
            ap (λ s. s.size) e ∙ w.merge.ensures.size ∙ c.loop-i.invariant.1,
          )
      | else-vertex-ne0 w ↦
          let e = ap g.S.AncestorSets.meaning w.sets-is in (
            subst (SettledTo _ _ _) (sym e)
                (settled_root _ _ c.requires.grows _ _ to (omega arith) _ is w.if-vertex-ne0.false),
            ap (λ s. s.size) e ∙ c.loop-i.invariant.1,
          )
    ]

pub returns : goal.returns
returns g c =
    settled_all _ _ _ c.requires.grows (g.S.AncestorSets.sound c.loop-i.sets)
    (leb-true _ _ (sym c.in_ok-start.ensures.accepted)) c.loop-i.invariant.1 _ (omega arith) c.loop-i.invariant.0
