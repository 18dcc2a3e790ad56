use Rattle.std.proofs.Common.{ap, ◌∙◌, subst, arith, rules, length, drop}
use Rattle.std.proofs.lemmas.List.{length-take-le}
use Rattle.std.proofs.lemmas.Slice.{drop-append-drop}
use Rattle.pattern.specs.Elimination as elimination
use Rattle.analysis.specs.declared.records.End.{End}
use Rattle.analysis.specs.declared.records.End.TheVariants.{Low, High}
use Rattle.analysis.specs.Pools.{Listed}
use Rattle.analysis.specs.Growth.{pattern_of, pattern_in}
use Rattle.analysis.specs.Counts.{TopsAreRoots}
use Rattle.analysis.specs.Analysed.{Answered}
use Rattle.analysis.proofs.Phases.{same_pattern, Settled, settled, ready, answered, answered_front}
use Rattle.analysis.proofs.Phases.{listed_ordered, listed_front}
use Rattle.analysis.proofs.SlotPairs.{lower_kept}
use Rattle.analysis.proofs.analyse.Given as given
use Rattle.analysis.proofs.analyse.Goals as goal
use Rattle.analysis.proofs.analyse.Goals.{After-pool_upper, After-order}

-- once the neighbours are listed by either end
lower : (g : given.Over) (c : After-pool_upper g) → Listed High c.pool_upper.new.vertices c.pool_upper.new.entries
lower g c =
    lower_kept _ _ _ _ (omega arith) (omega arith) c.pool_upper.ensures.only c.pool_upper.ensures.slots
    c.pool_lower.ensures.lists

pub grow-requires-clause-lists : goal.grow-requires-clause-lists
grow-requires-clause-lists g c = lower g (goal.at.grow-requires-clause-lists g c).After-pool_upper

-- once the tree is grown and in order
ordered : (g : given.Over) (c : After-order g) →
    Settled (pattern_in c.order.new.vertices c.pool_upper.new.entries) c.order.new.vertices
ordered g c =
    settled _ _ _ _ (omega arith) (omega arith) c.grow.ensures.tree c.order.ensures.answers c.order.ensures.only

listed : (g : given.Over) (c : After-order g) (which : End) →
    Listed which c.pool_upper.new.vertices c.pool_upper.new.entries →
    Listed which c.order.new.vertices c.pool_upper.new.entries
listed g c which =
    listed_ordered which _ _ _ _ (omega arith) (omega arith) c.grow.ensures.only c.order.ensures.only

pub count-requires-clause-prepared : goal.count-requires-clause-prepared
count-requires-clause-prepared g c =
    let front = length-take-le c.args.n c.args.vertices.now c.requires.within in
    let at = (goal.at.count-requires-clause-prepared g c).After-order in
    record {
      few = omega arith;
      lists = listed g at Low c.pool_upper.ensures.lists;
      tree = ready _ _ (ordered g at);
    }

pub returns : goal.returns
returns g c =
    let n = c.args.n in
    let es = c.args.entries.now in
    let vs = c.order.new.vertices in
    let gs = c.pool_upper.new.entries in
    let counted = c.count.new.vertices in
    let at = (goal.at.returns g c).After-order in
    let front = length-take-le n c.args.vertices.now c.requires.within in
    let pairs = c.pool_upper.ensures.pairs ∙ c.pool_lower.ensures.pairs in
    let same = same_pattern n (length vs) es gs (omega arith) pairs in
    let all = answered _ _ _ (ordered g at) c.count.ensures.only c.count.ensures.counted in
    record {
      room = search rules;
      past = drop-append-drop n c.args.vertices.now counted n (omega arith) (omega arith);
      pairs = pairs;
      size = search rules;
      tops = subst (λ p. TopsAreRoots p (g.S.AncestorSets.meaning c.count.new.sets)) same c.count.ensures.tops;
      answers = answered_front (pattern_of n es) counted (drop n c.args.vertices.now) (omega arith)
          (subst (λ p. Answered p counted) same all);
      sums = c.total.ensures (pattern_in vs gs) (omega arith) c.count.ensures.counted ∙ ap elimination.total same;
      lower = listed_front High _ _ _ _ _ (omega arith) (omega arith) c.count.ensures.only
          (listed g at High (lower g (goal.at.returns g c).After-pool_upper));
      upper = listed_front Low _ _ _ _ _ (omega arith) (omega arith) c.count.ensures.only
          (listed g at Low c.pool_upper.ensures.lists);
    }
