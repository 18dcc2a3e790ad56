use Rattle.std.proofs.Common.{◌≡◌, ◌∙◌, ap, is_some, arith}
use Rattle.analysis.proofs.Tops.{found_some, found_top, top_within, two_tops, merged_tops, adopted_other}
use Rattle.analysis.proofs.tree.adopt.Given as given
use Rattle.analysis.proofs.tree.adopt.Goals as goal
use Rattle.analysis.proofs.tree.adopt.Goals.{After-unwrap-top}

pub unwrap-top-requires : goal.unwrap-top-requires
unwrap-top-requires g c = ap is_some (found_some _ _ _ _ c.find.ensures c.requires.from c.requires.to)

-- the top of x is found
found : (g : given.Over) (c : After-unwrap-top g) →
    c.unwrap-top.result ≡ (g.S.AncestorSets.meaning c.args.sets.now).top c.args.x
found g c = found_top _ _ _ _ _ c.unwrap-top.ensures c.find.ensures c.requires.from c.requires.to

pub bounds-vertices-top : goal.bounds-vertices-top
bounds-vertices-top g c =
    let r = found g (goal.at.bounds-vertices-top g c).After-unwrap-top in
    let b = top_within _ c.args.x (g.S.AncestorSets.sound c.args.sets.now) c.requires.from c.requires.to in
    omega arith

pub unwrap-requires : goal.unwrap-requires
unwrap-requires g c =
    let r = found g (goal.at.unwrap-requires g c).After-unwrap-top in
    c.merge.ensures.accepted
    ∙ two_tops _ _ _ _ _ _ (g.S.AncestorSets.sound c.args.sets.now) c.find.ensures r c.if-top-u.true c.requires.from
    c.requires.to c.requires.above c.requires.within c.requires.own

pub returns-then-top-u : goal.returns-then-top-u
returns-then-top-u g c =
    let r = found g (goal.at.returns-then-top-u g c).After-unwrap-top in
    record {
      tops = merged_tops _ _ _ _ _ _ (g.S.AncestorSets.sound c.args.sets.now) c.find.ensures r c.if-top-u.true
          c.requires.from c.requires.to c.requires.above c.requires.within c.requires.own _ _ c.merge.ensures;
      parents = adopted_other _ _ _ _ r c.if-top-u.true;
    }
