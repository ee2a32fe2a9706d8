use Rattle.growths.proofs.sites.site_call.Given as goal

abbrev pub ghosts-open_and_call-L-Ledger : goal.ghosts-open_and_call-L-Ledger
ghosts-open_and_call-L-Ledger g a = record { name = a.blank.blank.name; parts = a.blank.blank.parts }

abbrev pub ghosts-open_and_call-L-SiteName : goal.ghosts-open_and_call-L-SiteName
ghosts-open_and_call-L-SiteName g a = record { seats = a.blank.blank.parts; beginning = a.blank.paged.journal.beginning }
