use Rattle.run_tests.proofs.ends.lost_at_both.Given as goal

abbrev pub ghosts-open_and_close-L-Ledger : goal.ghosts-open_and_close-L-Ledger
ghosts-open_and_close-L-Ledger g a = record { name = a.blank.blank.name; parts = a.blank.blank.parts }

abbrev pub ghosts-open_and_close-L-SiteName : goal.ghosts-open_and_close-L-SiteName
ghosts-open_and_close-L-SiteName g a = record { seats = a.blank.blank.parts; beginning = a.blank.paged.journal.beginning }
