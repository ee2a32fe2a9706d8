use Rattle.dac_crews.proofs.sites.at_second.Given as goal

abbrev pub ghosts-with_second-L-Ledger : goal.ghosts-with_second-L-Ledger
ghosts-with_second-L-Ledger g a = record { name = a.blank.blank.name; parts = a.blank.blank.parts }

abbrev pub ghosts-with_second-L-SiteName : goal.ghosts-with_second-L-SiteName
ghosts-with_second-L-SiteName g a = record { seats = a.blank.blank.parts; beginning = a.blank.paged.journal.beginning }
