use Rattle.std.proofs.Common.{map, ◌∙◌, ap, sym, arith}
use Rattle.std.proofs.lemmas.List.{length-map}
use Rattle.analysis.specs.Tables.{pair_of}
use Rattle.downskillet_c.specs.Pairs.{ends_of, given, no_pair, turned}
use Rattle.downskillet_c.proofs.Passes.{mapped_twice, written_more}
use Rattle.downskillet_c.proofs.pairs.load.Goals as goal

pub loop-k-preserved : goal.loop-k-preserved
loop-k-preserved c =
    let ps = c.args.pairs.now in
    written_more pair_of c.loop-k.entries (map turned (given ps)) c.loop-k.k c.set_ends.new.entry (0, 0)
    (omega arith) (omega (arith, length-map (given ps) turned, length-map ps ends_of))
    c.loop-k.invariant
    (c.set_ends.ensures ∙ sym (mapped_twice ends_of turned ps c.loop-k.k no_pair (0, 0) (omega arith)))

pub set_ends-requires : goal.set_ends-requires
set_ends-requires c =
    let ps = c.args.pairs.now in
    let same = mapped_twice ends_of turned ps c.loop-k.k no_pair (0, 0) (omega arith) in
    let all = length-map (given ps) turned in
    let each = length-map ps ends_of in
    let narrow = c.requires.narrow c.loop-k.k (omega arith) in
    omega (arith, ap (λ e. e.1) same, narrow)
