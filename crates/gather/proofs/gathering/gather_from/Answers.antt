use Rattle.std.proofs.Common.{length, subst, arith}
use Rattle.std.specs.Fn.{FnReturnsAt}
use Rattle.pattern.specs.Forest.{Grows}
use Rattle.gather.specs.Gatherings.{field_of, Gathered, Begun}
use Rattle.gather.proofs.Begins.{begun_grows, gathered_from}
use Rattle.gather.proofs.gathering.gather_from.Given as given
use Rattle.gather.proofs.gathering.gather_from.Goals as goal
use Rattle.gather.proofs.gathering.gather_from.Goals.{After-begin}

-- what `begin` was lent answers as `start` does
begun : (g : given.Over) (c : After-begin g) →
    Begun (FnReturnsAt g.F.Fn c.args.start) g.N.Child.blank g.N.Node.held g.N.Node.holding (length c.args.nodes.now)
    c.args.nodes.now c.begin.new.nodes
begun g c = record {
  only = c.begin.ensures.only;
  given = λ v p q.
      let t = c.begin.ensures.given v p q in
      record { shown = t.shown; shows = t.shows; says = record { met = t.says.met } };
}

pub gather-requires : goal.gather-requires
gather-requires g c =
    let grows = begun_grows g.met.N.Node.laws (begun g (goal.at.gather-requires g c).After-begin) c.requires.grows in
    record {
      grows = subst (λ k. Grows k (field_of g.N.Child.blank g.N.Child.above c.begin.new.nodes)) (omega arith) grows;
    }

pub returns : goal.returns
returns g c =
    gathered_from g.met.N.Node.laws (begun g (goal.at.returns g c).After-begin) c.requires.grows
    (subst
    (λ k. Gathered g.J.Joining.nothing g.J.Joining.joined g.N.Child.blank g.N.Child.above g.N.Node.held
    g.N.Node.holding k c.begin.new.nodes c.gather.new.nodes)
    (omega arith) c.gather.ensures)
