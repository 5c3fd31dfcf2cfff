use Rattle.xf_cases.proofs.base.steps.counts_steps.Given as goal

abbrev pub ghosts-count_three : goal.ghosts-count_three
ghosts-count_three a = record { name = a.blank.name; parts = a.blank.parts }
