-- Each answer is its parts, one after the other.
use Rattle.std.proofs.Common.{◌∷◌, ◌++◌, sym, ap, ◌∙◌, subst, arith}
use Rattle.frame_text.specs.Answers.{then, text_of}
use Rattle.frame_text.proofs.Filling.{adds_then, adds_same}
use Rattle.frame_text.proofs.Lengths.{Fitting, short_text}
use Rattle.frame_text.proofs.answers.Answer.write.Goals as goal

pub returns-in-Made : goal.returns-in-Made
returns-in-Made c = record {
  adds = adds_same _ _ _ _ (sym (ap text_of c.in-Made.is))
      (adds_then _ _ _ _ _ (adds_then _ _ _ _ _ c.push.ensures
      c.push-in-Made.ensures)
      c.push_then.ensures);
  short = short_text c.args.self.now (subst Fitting (sym c.in-Made.is) (omega arith));
}

pub returns-in-Put : goal.returns-in-Put
returns-in-Put c = record {
  adds = adds_same _ _ _ _ (sym (ap text_of c.in-Put.is))
      (adds_then _ _ _ _ _ c.push-in-Put.ensures
      c.push_then-in-Put.ensures);
  short = short_text c.args.self.now (subst Fitting (sym c.in-Put.is) (omega arith));
}

pub returns-in-Dropped : goal.returns-in-Dropped
returns-in-Dropped c = record {
  adds = adds_same _ _ _ _ (sym (ap text_of c.in-Dropped.is))
      (adds_then _ _ _ _ _ c.push-in-Dropped.ensures
      c.push_then-in-Dropped.ensures);
  short = short_text c.args.self.now (subst Fitting (sym c.in-Dropped.is) (omega arith));
}

pub returns-in-Analysed : goal.returns-in-Analysed
returns-in-Analysed c = record {
  adds = adds_same _ _ _ _ (sym (ap text_of c.in-Analysed.is))
      (adds_then _ _ _ _ _ c.push-in-Analysed.ensures
      c.push_then-in-Analysed.ensures);
  short = short_text c.args.self.now (subst Fitting (sym c.in-Analysed.is) (omega arith));
}

pub returns-in-Asked : goal.returns-in-Asked
returns-in-Asked c = record {
  adds = adds_same _ _ _ _
      (ap (λ b. b ∷ then c.in-Asked.vertex ++ then c.in-Asked.number) c.from.ensures ∙
      sym (ap text_of c.in-Asked.is))
      (adds_then _ _ _ _ _ (adds_then _ _ _ _ _ c.push-in-Asked.ensures
      c.push_then-in-Asked.ensures)
      c.push_then-in-Asked-2.ensures);
  short = short_text c.args.self.now (subst Fitting (sym c.in-Asked.is) (omega arith, omega arith));
}

pub returns-in-Refused : goal.returns-in-Refused
returns-in-Refused c = record {
  adds = adds_same _ _ _ _ (sym (ap text_of c.in-Refused.is))
      (adds_then _ _ _ _ _ (adds_then _ _ _ _ _ (adds_then _ _ _ _ _ c.push-in-Refused.ensures
      c.push_then-in-Refused.ensures)
      c.push_then-in-Refused-2.ensures)
      c.push_then-in-Refused-3.ensures);
  short = short_text c.args.self.now
      (subst Fitting (sym c.in-Refused.is) (omega arith, omega arith, omega arith));
}
