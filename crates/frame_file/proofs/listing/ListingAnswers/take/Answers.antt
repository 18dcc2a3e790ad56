-- A block that has no room is left out.
use Rattle.std.proofs.Common.{sym, refl}
use lib.Seq.{set_out}
use Rattle.std.proofs.lemmas.Bool.{cond_above}
use Rattle.frame_file.proofs.listing.ListingAnswers.take.Goals as goal

pub returns-else-self : goal.returns-else-self
returns-else-self c =
    record {
      blocks = sym (set_out _ _ _ c.if-self.false);
      count = cond_above _ _ _ _ _ c.if-self.false refl;
      loan = refl;
    }
