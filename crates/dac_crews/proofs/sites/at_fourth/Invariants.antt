use Rattle.dac_crews.proofs.sites.at_fourth.Given as goal

abbrev pub ghosts-with_fourth-L-Ledger : goal.ghosts-with_fourth-L-Ledger
ghosts-with_fourth-L-Ledger g a = record { name = a.blank.blank.name; parts = a.blank.blank.parts }

abbrev pub ghosts-with_fourth-L-SiteName : goal.ghosts-with_fourth-L-SiteName
ghosts-with_fourth-L-SiteName g a = record { seats = a.blank.blank.parts; beginning = a.blank.paged.journal.beginning }
