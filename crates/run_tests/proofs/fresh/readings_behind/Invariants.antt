use Rattle.run_tests.proofs.fresh.readings_behind.Given as goal

abbrev pub ghosts-read_behind-L-Ledger : goal.ghosts-read_behind-L-Ledger
ghosts-read_behind-L-Ledger g a = record { name = a.blank.blank.name; parts = a.blank.blank.parts }

abbrev pub ghosts-read_behind-L-SiteName : goal.ghosts-read_behind-L-SiteName
ghosts-read_behind-L-SiteName g a = record { seats = a.blank.blank.parts; beginning = a.blank.paged.journal.beginning }
