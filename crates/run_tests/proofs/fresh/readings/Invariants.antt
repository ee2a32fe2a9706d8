use Rattle.run_tests.proofs.fresh.readings.Given as goal

abbrev pub ghosts-read_at-L-Ledger : goal.ghosts-read_at-L-Ledger
ghosts-read_at-L-Ledger g a = record { name = a.blank.blank.name; parts = a.blank.blank.parts }

abbrev pub ghosts-read_at-L-SiteName : goal.ghosts-read_at-L-SiteName
ghosts-read_at-L-SiteName g a = record { seats = a.blank.blank.parts; beginning = a.blank.paged.journal.beginning }
