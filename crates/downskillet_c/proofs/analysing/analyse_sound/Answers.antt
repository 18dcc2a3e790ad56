use Rattle.std.proofs.Common.{arith}
use Rattle.std.proofs.lemmas.List.{length-take-le}
use Rattle.std.proofs.lemmas.Result.{MatchResult-at_ok}
use Rattle.analysis.specs.Growth.{pattern_of}
use Rattle.downskillet_c.proofs.Tables.{table_in_front}
use Rattle.downskillet_c.proofs.analysing.analyse_sound.Goals as goal

pub returns-clause-table : goal.returns-clause-table
returns-clause-table c =
    let analysed = MatchResult-at_ok _ _ _ c.unwrap.ensures c.analyse.ensures in
    let long = length-take-le c.args.order c.args.vertices.now c.requires.within in
    table_in_front (pattern_of c.args.order c.args.entries.now) _ _ (omega (arith, long, c.analyse.auto.vertices))
    c.requires.few analysed.answers
