use Rattle.dac_crews.proofs.sites.at_first.Given as goal

abbrev pub ghosts-with_first-L-Ledger : goal.ghosts-with_first-L-Ledger
ghosts-with_first-L-Ledger g a = record { name = a.blank.blank.name; parts = a.blank.blank.parts }

abbrev pub ghosts-with_first-L-SiteName : goal.ghosts-with_first-L-SiteName
ghosts-with_first-L-SiteName g a = record { seats = a.blank.blank.parts; beginning = a.blank.paged.journal.beginning }
