use Rattle.live_tests.proofs.sites.one_too_many.Given as goal

abbrev pub ghosts-one_more-L-Ledger : goal.ghosts-one_more-L-Ledger
ghosts-one_more-L-Ledger g a = record { name = a.blank.blank.name; parts = a.blank.blank.parts }

abbrev pub ghosts-one_more-L-SiteName : goal.ghosts-one_more-L-SiteName
ghosts-one_more-L-SiteName g a = record { seats = a.blank.blank.parts; beginning = a.blank.paged.journal.beginning }
