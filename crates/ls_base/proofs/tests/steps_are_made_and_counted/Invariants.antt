use Rattle.ls_base.proofs.tests.steps_are_made_and_counted.Given as goal

abbrev pub ghosts-count_two : goal.ghosts-count_two
ghosts-count_two a = record { name = a.ledger.name; parts = a.ledger.parts }
