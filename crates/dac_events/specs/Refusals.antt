-- The printed form of a refusal.
use Rattle.std.specs.Prelude.{ℕ, List, codes}
use Rattle.dac_events.specs.declared.refusal.Refusal.{Refusal}
use Rattle.dac_events.specs.declared.refusal.Refusal.TheVariants.{Off, AlreadyOn, DeclaredDown, UnknownApp, UnknownNode, OnSelf, NotInList, MomentBack, NotLive, NotStarted, NotEligible, NotRunning, AlreadyHolder, LowerPriority, NotForMe, UpToDate, TooManyDots, TermsUsedUp, DotsUsedUp, IncarnationsUsedUp, NoMemory}

-- the number in the program's output
abbrev pub number_of : Refusal → ℕ
number_of Off = 1
number_of AlreadyOn = 2
number_of DeclaredDown = 3
number_of UnknownApp = 4
number_of UnknownNode = 5
number_of OnSelf = 6
number_of NotInList = 7
number_of MomentBack = 8
number_of NotLive = 9
number_of NotStarted = 10
number_of NotEligible = 11
number_of NotRunning = 12
number_of AlreadyHolder = 13
number_of LowerPriority = 14
number_of NotForMe = 15
number_of UpToDate = 16
number_of TooManyDots = 17
number_of TermsUsedUp = 18
number_of DotsUsedUp = 19
number_of IncarnationsUsedUp = 20
number_of NoMemory = 21

-- the name in the program's output
abbrev pub name_of : Refusal → List ℕ
name_of Off = codes "Off"
name_of AlreadyOn = codes "AlreadyOn"
name_of DeclaredDown = codes "DeclaredDown"
name_of UnknownApp = codes "UnknownApp"
name_of UnknownNode = codes "UnknownNode"
name_of OnSelf = codes "OnSelf"
name_of NotInList = codes "NotInList"
name_of MomentBack = codes "MomentBack"
name_of NotLive = codes "NotLive"
name_of NotStarted = codes "NotStarted"
name_of NotEligible = codes "NotEligible"
name_of NotRunning = codes "NotRunning"
name_of AlreadyHolder = codes "AlreadyHolder"
name_of LowerPriority = codes "LowerPriority"
name_of NotForMe = codes "NotForMe"
name_of UpToDate = codes "UpToDate"
name_of TooManyDots = codes "TooManyDots"
name_of TermsUsedUp = codes "TermsUsedUp"
name_of DotsUsedUp = codes "DotsUsedUp"
name_of IncarnationsUsedUp = codes "IncarnationsUsedUp"
name_of NoMemory = codes "NoMemory"
