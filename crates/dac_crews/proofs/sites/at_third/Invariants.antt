use Rattle.dac_crews.proofs.sites.at_third.Given as goal

abbrev pub ghosts-with_third-L-Ledger : goal.ghosts-with_third-L-Ledger
ghosts-with_third-L-Ledger g a = record { name = a.blank.blank.name; parts = a.blank.blank.parts }

abbrev pub ghosts-with_third-L-SiteName : goal.ghosts-with_third-L-SiteName
ghosts-with_third-L-SiteName g a = record { seats = a.blank.blank.parts; beginning = a.blank.paged.journal.beginning }
