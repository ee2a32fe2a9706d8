use Rattle.live_tests.proofs.sites.pages_are_read.Given as goal

abbrev pub ghosts-watch-L-Ledger : goal.ghosts-watch-L-Ledger
ghosts-watch-L-Ledger g a = record { name = a.blank.blank.name; parts = a.blank.blank.parts }

abbrev pub ghosts-watch-L-SiteName : goal.ghosts-watch-L-SiteName
ghosts-watch-L-SiteName g a = record { seats = a.blank.blank.parts; beginning = a.blank.paged.journal.beginning }
