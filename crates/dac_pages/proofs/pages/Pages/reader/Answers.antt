use Rattle.dac_pages.proofs.Places.{admits}
use Rattle.dac_pages.proofs.pages.Pages.reader.Goals as goal

pub reader-requires : goal.reader-requires
reader-requires c = admits
