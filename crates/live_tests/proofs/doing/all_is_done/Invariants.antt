use Rattle.live_tests.proofs.doing.all_is_done.Given as goal

abbrev pub ghosts-open_and_ask-L-Ledger : goal.ghosts-open_and_ask-L-Ledger
ghosts-open_and_ask-L-Ledger g a = record { name = a.blank.blank.name; parts = a.blank.blank.parts }

abbrev pub ghosts-open_and_ask-L-SiteName : goal.ghosts-open_and_ask-L-SiteName
ghosts-open_and_ask-L-SiteName g a = record { seats = a.blank.blank.parts; beginning = a.blank.paged.journal.beginning }
