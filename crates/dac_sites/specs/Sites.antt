-- Sites under their names.
use Rattle.std.specs.Prelude.{◌≡◌, ℕ}
use Rattle.dac_journal.specs.Journals.{Beginning}
use Rattle.dac_sites.specs.declared.blank.SiteBlank.{SiteBlank}

-- The name belongs to this blank: it has the blank's ledger, with a part for each seat, and the beginning of the
-- blank's journal.
pub record IsBlankOf (b : SiteBlank) (name parts seats : ℕ) (beginning : Beginning) : Type 0 where
  pub named : b.blank.name ≡ name
  pub parted : b.blank.parts ≡ parts
  pub seated : seats ≡ parts
  pub begins : b.paged.journal.beginning ≡ beginning
