-- Halls and dials in memory, by the steps that they take.
use Rattle.std.specs.Prelude.{◌≡◌, ◌≤◌, ℕ, ◌+◌, Bool, true, false, List, [], ◌∷◌, ◌++◌}
use Rattle.std.specs.Prelude.{Option, Result, Ok, Err}
use Rattle.flow_types.specs.declared.lists.Memory.{Memory}
use Rattle.flow_types.specs.declared.job.Failure.{Failure}
use Rattle.flow_types.specs.declared.job.Job.{Job}
use Rattle.flow_types.specs.declared.numbers.Amounts.{Amounts}
use Rattle.flow_types.specs.declared.numbers.LinkNo.{LinkNo}
use Rattle.flow_types.specs.Serial.{Function}
use Rattle.outside.specs.declared.fault.Fault.{Fault}
use Rattle.outside.specs.declared.fault.Fault.TheVariants as faults
use Rattle.links.specs.declared.passing.Came.{Came}
use Rattle.links.specs.declared.passing.Came.TheVariants as came
use Rattle.mem_links.specs.declared.mem_hall.HallStep.{HallStep}
use Rattle.mem_links.specs.declared.mem_hall.HallStep.TheVariants as steps
use Rattle.mem_links.specs.declared.mem_dial.DialStep.{DialStep}
use Rattle.mem_links.specs.declared.mem_dial.DialStep.TheVariants as dials
use Rattle.mem_links.specs.MemLinks.{LinkState, fresh_link}
use Rattle.mem_links.specs.Serving.{IsSureLink, OffersLink}

-- The answers to come, the links that were handed back, and the counts.
pub record HallState : Type 0 where
  pub steps : List HallStep
  pub got : List (Option LinkNo × LinkState)
  pub listens : Bool
  pub given : ℕ
  pub faults : ℕ
  pub idles : ℕ

-- no link was given or handed back
abbrev pub new_hall : List HallStep → HallState
new_hall steps =
    record { steps = steps; got = []; listens = false; given = 0; faults = 0; idles = 0 }

-- nothing has passed over the link
abbrev pub IsUnused : LinkState → Type 0
IsUnused link = link ≡ fresh_link link.steps link.server

-- nothing has passed over any link of these steps
abbrev pub AreFresh : List HallStep → Type 0
AreFresh [] = Unit {0}
AreFresh (steps.Link link ∷ rest) = IsUnused link × AreFresh rest
AreFresh (steps.Idle ∷ rest) = AreFresh rest
AreFresh (steps.Fail ∷ rest) = AreFresh rest

-- the link was given, or nothing changed
abbrev pub GivesLink : LinkState → List HallStep → HallState → Result (Came LinkState) Fault
    → HallState → Type 0
GivesLink link rest old (Ok answer) new =
    (answer ≡ came.Link link) × (new ≡ record old { steps = rest; given = old.given + 1 })
GivesLink link rest old (Err fault) new = (fault ≡ faults.Memory) × (new ≡ old)

-- nobody came, or nothing changed
abbrev pub GivesNone : List HallStep → HallState → Result (Came LinkState) Fault
    → HallState → Type 0
GivesNone rest old (Ok answer) new =
    (answer ≡ came.Idle) × (new ≡ record old { steps = rest; idles = old.idles + 1 })
GivesNone rest old (Err fault) new = (fault ≡ faults.Memory) × (new ≡ old)

-- the failure was counted, or nothing changed
abbrev pub FailsWait : List HallStep → HallState → Result (Came LinkState) Fault
    → HallState → Type 0
FailsWait rest old (Ok answer) new = ⊥
FailsWait rest old (Err faults.Failed) new =
    new ≡ record old { steps = rest; faults = old.faults + 1 }
FailsWait rest old (Err faults.Memory) new = new ≡ old

-- What a call of wait answers, and leaves.
abbrev pub WaitsBy : List HallStep → HallState → Result (Came LinkState) Fault
    → HallState → Type 0
WaitsBy [] old result new = GivesNone [] old result new
WaitsBy (steps.Link link ∷ rest) old result new = GivesLink link rest old result new
WaitsBy (steps.Idle ∷ rest) old result new = GivesNone rest old result new
WaitsBy (steps.Fail ∷ rest) old result new = FailsWait rest old result new

-- the first step is more than that nobody comes
abbrev pub has_news : List HallStep → Bool
has_news (steps.Link link ∷ rest) = true
has_news (steps.Fail ∷ rest) = true
has_news _ = false

-- each link of these steps has this
abbrev pub EachLink : (LinkState → Type 0) → List HallStep → Type 0
EachLink fact [] = Unit {0}
EachLink fact (steps.Link link ∷ rest) = fact link × EachLink fact rest
EachLink fact (steps.Idle ∷ rest) = EachLink fact rest
EachLink fact (steps.Fail ∷ rest) = EachLink fact rest

-- how many links stand in these steps
abbrev pub links_in : List HallStep → ℕ
links_in [] = 0
links_in (steps.Link link ∷ rest) = 1 + links_in rest
links_in (steps.Idle ∷ rest) = links_in rest
links_in (steps.Fail ∷ rest) = links_in rest

-- a link comes first
abbrev pub BeginsWithLink : List HallStep → Type 0
BeginsWithLink [] = ⊥
BeginsWithLink (steps.Link link ∷ rest) = Unit {0}
BeginsWithLink (steps.Idle ∷ rest) = ⊥
BeginsWithLink (steps.Fail ∷ rest) = ⊥

-- The links to come are sure and offer at least these amounts, and with those given are at most 32.
pub record IsStaffed (gives : Function) (may_fail : Job → Failure → Type 0) (least : Amounts)
    (hall : HallState) : Type 0 where
  pub serve : EachLink (λ link. IsSureLink gives may_fail link × OffersLink least link) hall.steps
  pub few : hall.given + links_in hall.steps ≤ 32

-- The same, where no link was given yet and one comes first.
pub record IsManned (gives : Function) (may_fail : Job → Failure → Type 0) (least : Amounts)
    (hall : HallState) : Type 0 where
  pub staffed : IsStaffed gives may_fail least hall
  pub none_given : hall.given ≡ 0
  pub first : BeginsWithLink hall.steps

-- What a call of back leaves: the link is kept, or nothing changed.
abbrev pub KeepsLink : Option LinkNo → LinkState → HallState → Result Unit Memory
    → HallState → Type 0
KeepsLink number way old (Ok x) new = new ≡ record old { got = old.got ++ (number, way) ∷ [] }
KeepsLink number way old (Err memory) new = new ≡ old

-- The answers of a dial to come, and its count.
pub record DialState : Type 0 where
  pub steps : List DialStep
  pub faults : ℕ

-- nothing has passed over any link of these steps
abbrev pub AreFreshLinks : List DialStep → Type 0
AreFreshLinks [] = Unit {0}
AreFreshLinks (dials.Link link ∷ rest) = IsUnused link × AreFreshLinks rest
AreFreshLinks (dials.Fail ∷ rest) = AreFreshLinks rest

-- the failure was counted, or the count is at its last value
abbrev pub FailsDial : List DialStep → DialState → Result LinkState Fault → DialState → Type 0
FailsDial rest old (Ok link) new = ⊥
FailsDial rest old (Err faults.Failed) new =
    new ≡ record old { steps = rest; faults = old.faults + 1 }
FailsDial rest old (Err faults.Memory) new = new ≡ record old { steps = rest }

-- What a call of dial answers, and leaves.
abbrev pub DialsBy : List DialStep → DialState → Result LinkState Fault → DialState → Type 0
DialsBy [] old result new = FailsDial [] old result new
DialsBy (dials.Link link ∷ rest) old result new =
    (result ≡ Ok link) × (new ≡ record old { steps = rest })
DialsBy (dials.Fail ∷ rest) old result new = FailsDial rest old result new
