use Rattle.lsc_cli.proofs.run.run_machine.Given as goal

abbrev pub ghosts-answer_lines : goal.ghosts-answer_lines
ghosts-answer_lines g a = record { name = a.ledger.name; parts = a.ledger.parts }
