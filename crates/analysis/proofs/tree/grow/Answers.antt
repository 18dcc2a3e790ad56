use Rattle.std.proofs.Common.{refl, arith, rules}
use Rattle.analysis.specs.Tables.{parent_from, tree_from}
use Rattle.analysis.specs.Growth.{alone, pattern_in}
use Rattle.analysis.proofs.Changes.{tree_takes, only_then, only_more, only_map}
use Rattle.analysis.proofs.Tops.{all_alone, weights_stay, rows_none, rows_all, rows_tree, rows_rooted, tree_grows}
use Rattle.analysis.proofs.tree.grow.Goals as goal

pub loop-u-init : goal.loop-u-init
loop-u-init g c = (
  rows_none _ _ _ _ c.begin_tree.ensures c.requires.fresh,
  refl,
  c.requires.fresh.used,
  all_alone _ _ c.begin_tree.ensures,
  only_map tree_takes alone _ _ (λ _. refl) c.begin_tree.ensures,
)

pub loop-u-preserved : goal.loop-u-preserved
loop-u-preserved g c =
    let (grown, size, used, ones, only) = c.loop-u.invariant in (
      search rules,
      search rules,
      search rules,
      weights_stay _ _ (omega arith) c.adopt_row.ensures.only ones,
      only_then tree_takes _ _ _ only (only_more parent_from tree_from (λ _ _. refl) _ _ c.adopt_row.ensures.only),
    )

pub returns-2-clause-tree : goal.returns-2-clause-tree
returns-2-clause-tree g c =
    let p = pattern_in c.args.vertices.now c.args.entries.now in
    rows_tree p _ _ (rows_all _ _ _ _ _ _ (omega arith) (omega arith) c.adopt_row.ensures.done)

pub returns-2-clause-roots : goal.returns-2-clause-roots
returns-2-clause-roots g c =
    let p = pattern_in c.args.vertices.now c.args.entries.now in
    rows_rooted p _ _ (rows_all _ _ _ _ _ _ (omega arith) (omega arith) c.adopt_row.ensures.done)

pub returns-2-clause-forest : goal.returns-2-clause-forest
returns-2-clause-forest g c =
    let vs = c.adopt_row.new.vertices in
    let p = pattern_in vs c.args.entries.now in
    record {
      few = omega arith;
      grows = tree_grows p vs
          (rows_tree p vs _ (rows_all _ _ _ _ _ _ (omega arith) (omega arith) c.adopt_row.ensures.done));
    }
