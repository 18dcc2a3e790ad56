-- A store is no more than its fields and a model no more than its store; what always holds of a model.
use Rattle.std.proofs.Common.{◌≡◌, ℕ, ◌≤◌, min, true, length, take}
use mathlib.Core.HLevel.{is_prop→PathP}
use Rattle.std.proofs.Props.{props}
use Rattle.std.proofs.lemmas.Bool.{and_parts, leb-true}
use Rattle.std.specs.Option.{ForSome}
use Rattle.analysis.specs.declared.records.End.TheVariants.{High}
use Rattle.analysis.specs.Analysed.{Answered}
use Rattle.analysis.specs.Links.{Listed}
use Rattle.analysis.specs.Tables.{Sound, pairs_of}
use Rattle.pattern.specs.Elimination.{total}
use Rattle.pattern.specs.Patterns.{within}
use Rattle.model.specs.declared.models.Model.{Model}
use Rattle.model.specs.declared.stores.Store.{Store}
use Rattle.model.specs.States.{largest_order, most_entries, pattern_in}
use Rattle.model.specs.Stored.{held_by, means}
use Rattle.model.specs.Tables.{distinct}

-- stores of equal fields are the same
pub same_store : (s t : Store) → s.order ≡ t.order → s.held ≡ t.held → s.total ≡ t.total →
    s.vertices ≡ t.vertices → s.entries ≡ t.entries → s ≡ t
same_store s t order held total vertices entries =
    λ k.
    record {
      order = order k;
      held = held k;
      total = total k;
      vertices = vertices k;
      entries = entries k;
      small = is_prop→PathP (λ k. order k ≤ largest_order) (λ k. hlevel props) s.small t.small k;
      placed = is_prop→PathP (λ k. order k ≤ length (vertices k).now) (λ k. hlevel props) s.placed t.placed k;
      room =
          is_prop→PathP (λ k. held k ≤ min (length (entries k).now) most_entries) (λ k. hlevel props) s.room t.room k;
      sound =
          is_prop→PathP (λ k. Sound (order k) (pairs_of (take (held k) (entries k).now))) (λ k. hlevel props)
          s.sound t.sound k;
      apart =
          is_prop→PathP (λ k. distinct (pairs_of (take (held k) (entries k).now)) ≡ true) (λ k. hlevel props)
          s.apart t.apart k;
    }

-- models that hold the same store are the same
pub same_model : (m n : Model) → m.store ≡ n.store → m ≡ n
same_model m n e =
    λ k.
    record {
      store = e k;
      answered =
          is_prop→PathP (λ k. ForSome (e k).total (λ sum. Answered (pattern_in (means (e k))) (e k).vertices.now))
          (λ k. hlevel props) m.answered n.answered k;
      listed =
          is_prop→PathP
          (λ k. ForSome (e k).total (λ _. Listed High (take (e k).order (e k).vertices.now) (held_by (e k))))
          (λ k. hlevel props) m.listed n.listed k;
      sums =
          is_prop→PathP (λ k. ForSome (e k).total (λ sum. sum ≡ total (pattern_in (means (e k)))))
          (λ k. hlevel props) m.sums n.sums k;
    }

pub within_from : (n v : ℕ) → within n v ≡ true → (1 ≤ v) × (v ≤ n)
unfolding within
within_from n v in-range =
    let (one, most) = and_parts _ _ in-range in (leb-true 1 v one, leb-true v n most)
