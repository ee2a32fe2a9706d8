use Rattle.growths.proofs.sites.OpenFixtureFixture.call.Given as goal

abbrev pub ghosts-opens-L-Ledger : goal.ghosts-opens-L-Ledger
ghosts-opens-L-Ledger g a = record { name = a.blank.blank.name; parts = a.blank.blank.parts }

abbrev pub ghosts-opens-L-SiteName : goal.ghosts-opens-L-SiteName
ghosts-opens-L-SiteName g a = record { seats = a.blank.blank.parts; beginning = a.blank.paged.journal.beginning }
