-- Each run keeps the law, and so do the two beside each other.
use Rattle.runs.proofs.Lawful.{between, lawful}
use Rattle.runs.proofs.running.run_both.Goals as goal

pub returns-clause-first_law : goal.returns-clause-first_law
returns-clause-first_law g c = lawful _ _ _ _ c.make_and_perform.ensures

pub returns-clause-second_law : goal.returns-clause-second_law
returns-clause-second_law g c = lawful _ _ _ _ c.make_and_perform-2.ensures

pub returns-clause-between : goal.returns-clause-between
returns-clause-between g c =
    between _ _ _ _ _ _ _ _ c.make_and_perform.ensures c.make_and_perform-2.ensures
