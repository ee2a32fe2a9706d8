use Rattle.live_tests.proofs.callers.boot_once.Given as goal

abbrev pub ghosts-boot_at-L-Ledger : goal.ghosts-boot_at-L-Ledger
ghosts-boot_at-L-Ledger g a = record { name = a.blank.blank.name; parts = a.blank.blank.parts }

abbrev pub ghosts-boot_at-L-SiteName : goal.ghosts-boot_at-L-SiteName
ghosts-boot_at-L-SiteName g a = record { seats = a.blank.blank.parts; beginning = a.blank.paged.journal.beginning }
