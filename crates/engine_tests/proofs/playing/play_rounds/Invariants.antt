use Rattle.engine_tests.proofs.playing.play_rounds.Given as goal

abbrev pub ghosts-play_rounds_counted : goal.ghosts-play_rounds_counted
ghosts-play_rounds_counted g a = record { name = a.blank.name; parts = a.blank.parts }
