use Rattle.engine_tests.proofs.eval_tests.run_claimed.Given as goal

abbrev pub ghosts-run_claimed_counted : goal.ghosts-run_claimed_counted
ghosts-run_claimed_counted g a = record { name = a.blank.name; parts = a.blank.parts }
