use Rattle.live_tests.proofs.sites.read_behind.Given as goal

abbrev pub ghosts-page_behind-L-Ledger : goal.ghosts-page_behind-L-Ledger
ghosts-page_behind-L-Ledger g a = record { name = a.blank.blank.name; parts = a.blank.blank.parts }

abbrev pub ghosts-page_behind-L-SiteName : goal.ghosts-page_behind-L-SiteName
ghosts-page_behind-L-SiteName g a = record { seats = a.blank.blank.parts; beginning = a.blank.paged.journal.beginning }
