-- The messages of a merge, and those that wait for a delivery.
use Rattle.std.specs.Prelude.{◌≡◌, ◌≢◌, ◌↔◌, ◌⊎◌, ℕ, ◌+◌, ◌<◌, ◌≤◌, List, [], ◌∷◌, ◌++◌, length}
use Rattle.dac_config.specs.Table.{Table}
use Rattle.dac_events.specs.declared.What.{What}
use Rattle.dac_events.specs.declared.What.TheVariants as what
use Rattle.dac_events.specs.declared.WorldEvent.{WorldEvent}
use Rattle.dac_messages.specs.declared.message.Message.{Message}
use Rattle.dac_weave.specs.declared.mail.Mail.{Mail}
use Rattle.dac_weave.specs.Copies.{IsDelivered, NamesCopies}
use Rattle.dac_weave.specs.Indexing.{bucket_of, IsFiledIn}
use Rattle.dac_weave.specs.Labels.{message_label}
use Rattle.dac_weave.specs.Woven.{At}

-- numbers in rising order
abbrev pub IsRising : List ℕ → Type 0
IsRising ns = (i j a b : ℕ) → At ns i a → At ns j b → i < j → a < b

-- the table holds places of messages, each bucket in rising order
pub record IsMail (mail : Mail) : Type 0 where
  pub within : (q p : ℕ) → IsFiledIn mail.waiting.lists.items q p → p < length mail.shipped
  pub rising : (q : ℕ) → IsRising (bucket_of mail.waiting.lists.items q)

pub record IsNoMail (mail : Mail) : Type 0 where
  pub shipped : mail.shipped ≡ []
  pub waiting : (label p : ℕ) → IsFiledIn mail.waiting.lists.items label p → ⊥

-- message m at place p waits
abbrev pub IsWaiting : Mail → Message → ℕ → Type 0
IsWaiting mail m p = IsFiledIn mail.waiting.lists.items (message_label m) p

-- the message at place p waits, and no equal one before it
pub record IsFirstWaiting (mail : Mail) (m : Message) (p : ℕ) : Type 0 where
  pub there : At mail.shipped p m
  pub waits : IsWaiting mail m p
  pub before : (i : ℕ) → i < p → At mail.shipped i m → IsWaiting mail m i → ⊥

-- no message equal to m waits
abbrev pub NoneWaits : Mail → Message → Type 0
NoneWaits mail m = (p : ℕ) → At mail.shipped p m → IsWaiting mail m p → ⊥

-- the number names the first of equal messages that waits, or none waits
abbrev pub IsProperNumber : Mail → ℕ → Type 0
IsProperNumber mail k = (p : ℕ) (m : Message) → k ≡ p + 1 → At mail.shipped p m → IsFirstWaiting mail m p ⊎ NoneWaits mail m

abbrev pub IsProper : Mail → What → Type 0
IsProper mail (what.Boot now) = Unit {0}
IsProper mail what.Crash = Unit {0}
IsProper mail (what.Command command) = Unit {0}
IsProper mail (what.Tick now) = Unit {0}
IsProper mail (what.Ship to) = Unit {0}
IsProper mail (what.Deliver k) = IsProperNumber mail k
IsProper mail (what.Hand k) = Unit {0}

-- one more message, which waits
pub record Posts (old : Mail) (m : Message) (new : Mail) : Type 0 where
  pub shipped : new.shipped ≡ old.shipped ++ m ∷ []
  pub mail : IsMail new
  pub waits : (p : ℕ) (x : Message) → At new.shipped p x → IsWaiting new x p ↔ (IsWaiting old x p ⊎ (p ≡ length old.shipped))

-- the message with this number doesn't wait
pub record Takes (old : Mail) (number : ℕ) (new : Mail) : Type 0 where
  pub shipped : new.shipped ≡ old.shipped
  pub mail : IsMail new
  pub waits : (p : ℕ) (x : Message) → At old.shipped p x → IsWaiting new x p ↔ (IsWaiting old x p × (p + 1 ≢ number))

-- what an event does to the messages that wait
abbrev pub Notes : Mail → What → Mail → Type 0
Notes old (what.Boot now) new = new ≡ old
Notes old what.Crash new = new ≡ old
Notes old (what.Command command) new = new ≡ old
Notes old (what.Tick now) new = new ≡ old
Notes old (what.Ship to) new = new ≡ old
Notes old (what.Deliver k) new = Takes old k new
Notes old (what.Hand k) new = new ≡ old

-- these messages are appended
abbrev pub PostsAll : Mail → List Message → Mail → Type 0
PostsAll old [] new = new ≡ old
PostsAll old (m ∷ ms) new = (next : Mail) × (Posts old m next × PostsAll next ms new)

-- what an event and the messages that it ships do to the mail
pub record Moves (old : Mail) (e : What) (new : Mail) : Type 0 where
  pub noted : Mail
  pub messages : List Message
  pub notes : Notes old e noted
  pub posts : PostsAll noted messages new

-- a message waits if none of these events delivers it, and only then
pub record WaitsFor (mail : Mail) (es : List WorldEvent) : Type 0 where
  pub good : IsMail mail
  pub either : (p : ℕ) (m : Message) → At mail.shipped p m → IsWaiting mail m p ⊎ IsDelivered es (p + 1)
  pub once : (p : ℕ) (m : Message) → At mail.shipped p m → IsWaiting mail m p → IsDelivered es (p + 1) → ⊥
  pub few : (k : ℕ) → IsDelivered es k → k ≤ length mail.shipped

-- the mail after these events, whose deliveries name copies in order
pub record Delivers (t : Table) (mail : Mail) (es : List WorldEvent) : Type 0 where
  pub waits : WaitsFor mail es
  pub copies : NamesCopies t es
