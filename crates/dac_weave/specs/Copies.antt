-- Which of equal messages a delivery names.
use Rattle.std.specs.Prelude.{◌≡◌, ◌⊎◌, ℕ, ◌<◌, List, Some, take}
use Rattle.dac_config.specs.Table.{Table}
use Rattle.dac_events.specs.declared.What.TheVariants.{Deliver}
use Rattle.dac_base.specs.declared.NodeId.{NodeId}
use Rattle.dac_events.specs.declared.WorldEvent.{WorldEvent}
use Rattle.dac_messages.specs.declared.message.Message.{Message}
use Rattle.dac_journal.specs.EveryList.{run_from}
use Rattle.dac_journal.specs.ModelWorld.{start, counted}
use Rattle.dac_weave.specs.Woven.{At}

-- one of these events delivers the k-th message
abbrev pub IsDelivered : List WorldEvent → ℕ → Type 0
IsDelivered es k = (i : ℕ) × ((n : NodeId) × At es i (record { node = n; what = Deliver k }))

-- the k-th message isn't delivered, and each equal one before it is
pub record IsFirstLeft (ms : List Message) (es : List WorldEvent) (m : Message) (k : ℕ) : Type 0 where
  pub left : IsDelivered es k → ⊥
  pub before : (q : ℕ) → q < k → counted ms q ≡ Some m → IsDelivered es q

-- each message equal to m is delivered
abbrev pub NoneIsLeft : List Message → List WorldEvent → Message → Type 0
NoneIsLeft ms es m = (q : ℕ) → counted ms q ≡ Some m → IsDelivered es q

-- Each delivery of the run names the first of the equal messages shipped before it that no delivery before it names. It
-- names one again only if each of them is named.
abbrev pub NamesCopies : Table → List WorldEvent → Type 0
NamesCopies t es = (i k : ℕ) (n : NodeId) (m : Message) → At es i (record { node = n; what = Deliver k })
    → counted (run_from t (start t) (take i es)).messages k ≡ Some m
    → IsFirstLeft (run_from t (start t) (take i es)).messages (take i es) m k
    ⊎ NoneIsLeft (run_from t (start t) (take i es)).messages (take i es) m
