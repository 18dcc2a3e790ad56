use Rattle.std.proofs.Common.{◌≡◌, sym, arith}
use Rattle.analysis.specs.Tables.{Has}
use Rattle.analysis.specs.Counts.{Climbs, EntryCounted, meets_at}
use Rattle.analysis.proofs.Changes.{at_equal}
use Rattle.analysis.proofs.CountedTables.{entry_only, entry_counted}
use Rattle.analysis.proofs.CountedEvents.{found_meets, meets_within}
use Rattle.analysis.proofs.counts.count_leaf.Given as given
use Rattle.analysis.proofs.counts.count_leaf.Goals as goal
use Rattle.analysis.proofs.counts.count_leaf.Goals.{After-unwrap_or-q}

-- what is found, or else u, is where x meets the row: a vertex in use
met : (g : given.Over) (c : After-unwrap_or-q g) →
    c.unwrap_or-q.result ≡ meets_at (g.S.AncestorSets.meaning c.args.sets.now) c.args.vertices.now c.args.u
met g c = found_meets _ _ c.args.vertices.now c.args.u _ _ c.unwrap_or-q.ensures c.find.ensures

top : (g : given.Over) (c : After-unwrap_or-q g) →
    Has c.args.vertices.now c.unwrap_or-q.result
top g c =
    let i = met g c in
    let r = c.requires.row in
    let b = meets_within _ c.args.vertices.now c.args.u (g.S.AncestorSets.sound c.args.sets.now) r.0 r.1 in
    (omega arith, omega arith)

pub lengthen_row-requires : goal.lengthen_row-requires
lengthen_row-requires g c =
    let at = (goal.at.lengthen_row-requires g c).After-unwrap_or-q in
    record {
      row = (c.requires.row.0, omega arith);
      met = (c.requires.met.0, omega arith);
      top = top g at;
      climbs = at_equal (λ q vs. Climbs vs c.args.u c.args.x q) c.requires.climbs (sym (met g at));
      few = c.requires.few;
    }

pub weigh-requires-2 : goal.weigh-requires-2
weigh-requires-2 g c =
    let t = top g (goal.at.weigh-requires-2 g c).After-unwrap_or-q in record { has = (omega arith, omega arith) }

pub returns : goal.returns
returns g c =
    let at = (goal.at.returns g c).After-unwrap_or-q in
    let vs = c.args.vertices.now in
    let x = c.args.x in
    let u = c.args.u in
    let row : Has vs u = (c.requires.row.0, omega arith) in
    let below : Has vs x = (c.requires.met.0, omega arith) in
    record {
      counted = at_equal (λ q. EntryCounted x u q vs)
          (entry_counted vs _ _ _ x u _ row below (top g at) c.lengthen_row.ensures c.weigh.ensures c.weigh-2.ensures)
          (met g at);
      only = entry_only vs _ _ _ x u _ row below (top g at) c.lengthen_row.ensures c.weigh.ensures c.weigh-2.ensures;
      tops = record { size = c.find.ensures.size; used = c.find.ensures.used; tops = c.find.ensures.tops };
    }
