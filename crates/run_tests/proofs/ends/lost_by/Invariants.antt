use Rattle.run_tests.proofs.ends.lost_by.Given as goal

abbrev pub ghosts-hear_and_close-L-Ledger : goal.ghosts-hear_and_close-L-Ledger
ghosts-hear_and_close-L-Ledger g a = record { name = a.blank.blank.name; parts = a.blank.blank.parts }

abbrev pub ghosts-hear_and_close-L-SiteName : goal.ghosts-hear_and_close-L-SiteName
ghosts-hear_and_close-L-SiteName g a = record { seats = a.blank.blank.parts; beginning = a.blank.paged.journal.beginning }
