use Rattle.std.proofs.Common.{map, ap, ◌∙◌, sym, arith}
use Rattle.std.proofs.lemmas.List.{length-map}
use Rattle.std.proofs.lemmas.Grind.{common_steps}
use Rattle.analysis.specs.Tables.{no_entry, pair_of, pairs_of}
use Rattle.downskillet_c.specs.Pairs.{turned}
use Rattle.downskillet_c.proofs.Passes.{mapped_twice, written_more}
use Rattle.downskillet_c.proofs.pairs.turn.Goals as goal

pub loop-entry-preserved : goal.loop-entry-preserved
loop-entry-preserved c =
    let es = c.args.entries.now in
    let i = c.loop-entry.entry-index in
    record {
      turned =
          written_more pair_of c.loop-entry.entries (map turned (pairs_of es)) i
          c.set_ends.new.entry (0, 0)
          (omega arith) (omega (arith, length-map (pairs_of es) turned, length-map es pair_of))
          c.loop-entry.invariant.turned
          (c.set_ends.ensures ∙ ap (λ e. turned (pair_of e)) (c.loop-entry.invariant.rest i (omega arith))
          ∙ sym (mapped_twice pair_of turned es i no_entry (0, 0) (omega arith)));
      rest = λ k h. grind (arith, common_steps, c.loop-entry.invariant.rest k);
    }
