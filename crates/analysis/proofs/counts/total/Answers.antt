use Rattle.std.proofs.Common.{◌≡◌, ◌^◌, ◌<◌, sum_by, ◌∙◌, rules}
use Rattle.analysis.specs.Counts.{column_of}
use Rattle.analysis.proofs.CountedEnds.{columns_is, columns_fit}
use Rattle.analysis.proofs.counts.total.Goals as goal

pub sum-requires-clause-fits : goal.sum-requires-clause-fits
sum-requires-clause-fits c =
    let (p, order, counted) = c.requires.counted in
    let h : sum_by (λ x. column_of x.weight.0) c.args.vertices.now < 2 ^ 64 =
    columns_fit p c.args.vertices.now order counted c.requires.few in
    search rules

pub returns : goal.returns
returns c p order counted =
    let s : c.sum.result ≡ sum_by (λ x. column_of x.weight.0) c.args.vertices.now = search rules in
    s ∙ columns_is p c.args.vertices.now order counted
