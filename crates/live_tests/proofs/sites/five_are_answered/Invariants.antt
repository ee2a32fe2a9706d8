use Rattle.live_tests.proofs.sites.five_are_answered.Given as goal

abbrev pub ghosts-work-L-Ledger : goal.ghosts-work-L-Ledger
ghosts-work-L-Ledger g a = record { name = a.blank.blank.name; parts = a.blank.blank.parts }

abbrev pub ghosts-work-L-SiteName : goal.ghosts-work-L-SiteName
ghosts-work-L-SiteName g a = record { seats = a.blank.blank.parts; beginning = a.blank.paged.journal.beginning }
