-- The front of a table that was analysed.
use Rattle.std.proofs.Common.{◌≡◌, ◌≤◌, List, ◌++◌, length, take, subst, sym, ap, ◌∙◌}
use Rattle.std.proofs.Math.Seq.{take-append_seam}
use Rattle.pattern.specs.Patterns.{Pattern}
use Rattle.analysis.specs.Analysed.{Answered}
use Rattle.analysis.specs.declared.records.Vertex.{Vertex}
use Rattle.downskillet_c.specs.Analysing.{TableOf}

pub table_in_front : (p : Pattern) (vs rest : List Vertex) → length vs ≡ p.order → p.order ≤ 16384 → Answered p vs →
    TableOf p (take p.order (vs ++ rest))
table_in_front p vs rest long few answered =
    let front : vs ≡ take p.order (vs ++ rest) =
    sym (ap (λ n. take n (vs ++ rest)) (sym long) ∙ take-append_seam vs rest) in
    subst (TableOf p) front (record { order = sym long; few = few; answered = answered })
