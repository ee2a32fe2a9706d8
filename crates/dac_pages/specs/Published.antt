-- The published and the prepared page, and the least place of a reader's next page.
use Rattle.std.specs.Prelude.{◌≡◌, ◌≤◌, ℕ, List, [], ◌∷◌, drop, fold, max, Option, Some, None, unwrap_or}
use Rattle.left_right.specs.declared.Absorb.{Ghosts}
use Rattle.left_right.specs.declared.writer.Writer.{Writer}
use Rattle.left_right.specs.declared.reader.Reader.{Reader}
use Rattle.left_right.specs.Sides.{view}
use Rattle.dac_pages.specs.declared.page.Page.{Page}
use Rattle.dac_pages.specs.declared.page.PageCopy.{PageCopy}
use Rattle.dac_pages.specs.declared.page.Update.{Update}
use Rattle.dac_pages.specs.declared.page.Update.TheVariants.{Place, Whole}

-- the page that readers get, and the prepared one, if any
pub record PagesValue : Type 0 where
  pub shown : Page
  pub ready : Option Page

-- a page is prepared, and its place isn't below that of the published one
abbrev pub Follows : PagesValue → Type 0
Follows v = (page : Page) × (v.ready ≡ Some page) × (v.shown.place ≤ page.place)

-- the page that an update makes of a page
abbrev pub updated : Page → Update → Page
updated page (Place place) = record page { place = place }
updated page (Whole other) = other.value

-- the page prepared last, or the published one if none is prepared
abbrev pub latest : PagesValue → Page
latest v = unwrap_or v.ready v.shown

-- the page that some updates make of a page, if there are any
abbrev pub ready_by : Page → List Update → Option Page
ready_by page [] = None
ready_by page (u ∷ us) = Some (fold updated (updated page u) us)

-- the value where there is no writer
abbrev pub no_pages : PagesValue
no_pages = record { shown = record { place = 0; origin = None; summary = record { heard = 0; known = 0; lives = []; drained = []; apps = [] } }; ready = None }

module _ {P A S : Type 0} {g : Ghosts PageCopy Update S} where
  -- the page that readers get, and the one that the pending updates make of it
  abbrev pub published_by : Option (Writer PageCopy Update ℕ P A S g) → PagesValue
  published_by None = no_pages
  published_by (Some w) = record { shown = w.desk.shown.value; ready = ready_by w.desk.shown.value (drop w.behind w.log.items) }

  -- the writer is present, and has seen no later place
  abbrev pub IsWriterReady : Option (Writer PageCopy Update ℕ P A S g) → Type 0
  IsWriterReady None = ⊥
  IsWriterReady (Some w) = view w.desk.place ≤ w.desk.shown.value.place

module _ {P A : Type 0} where
  abbrev pub IsHere : Option (Reader PageCopy ℕ P A) → Type 0
  IsHere None = ⊥
  IsHere (Some r) = Unit {0}

  -- the place of the last page that was read
  abbrev pub seen_by : Option (Reader PageCopy ℕ P A) → ℕ
  seen_by None = 0
  seen_by (Some r) = view r.place

  -- the least place that the next page can have
  abbrev pub least_of : ℕ → Option (Reader PageCopy ℕ P A) → ℕ
  least_of learned r = max learned (seen_by r)
