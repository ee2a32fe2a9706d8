use Rattle.surface_tests.proofs.live.is_opened.Given as goal

abbrev pub ghosts-is_called-L-Ledger : goal.ghosts-is_called-L-Ledger
ghosts-is_called-L-Ledger g a = record { name = a.blank.blank.name; parts = a.blank.blank.parts }

abbrev pub ghosts-is_called-L-SiteName : goal.ghosts-is_called-L-SiteName
ghosts-is_called-L-SiteName g a = record { seats = a.blank.blank.parts; beginning = a.blank.paged.journal.beginning }
