-- What a crash leaves at the moments of a call.
use Rattle.std.specs.Prelude.{◌≡◌, ◌≢◌, ◌⊎◌, ℕ, List, [], length, Option, Result, Err}
use Rattle.flow_types.specs.declared.plan.Plan.{Plan}
use Rattle.flow_types.specs.declared.numbers.Content.{Content}
use Rattle.flow_types.specs.declared.records.Record.{Record}
use Rattle.outside.specs.Disk.{IsImage, Outcomes}
use Rattle.outside.specs.Files.{Files}
use Rattle.txn_log.specs.Logs.{LogState}
use Rattle.txn_log.specs.Spells.{IsUnbegun}
use Rattle.log_recover.specs.declared.fault.RecoverFault.{RecoverFault}
use Rattle.log_recover.specs.declared.fault.RecoverFault.TheVariants as recovery
use Rattle.log_recover.specs.Recovery.{Recovers}
use Rattle.desk.specs.Kept.{Keeps, WasKept}

-- The image keeps some list of records.
abbrev pub KeepsSome : (Plan → ℕ → Content → Option (List ℕ) → Type 0) → Plan → List ℕ → Files → Type 0
KeepsSome fits P log image = (H : List Record) × Keeps fits P log H image

-- What a call rests on that finds these records: there are none, or each image keeps some list, which needn't be this one.
abbrev pub IsResumable : (Plan → ℕ → Content → Option (List ℕ) → Type 0) → Plan → List ℕ → List Record → Outcomes → Type 0
IsResumable fits P log H outcomes = (H ≡ []) ⊎ ((image : Files) → IsImage outcomes image → KeepsSome fits P log image)

-- The image is one of before the log was read: each name has an outcome that it had, but the log may be one that isn't begun where it wasn't.
pub record IsBefore (log : List ℕ) (file : Option (List ℕ)) (outcomes : Outcomes) (image : Files) : Type 0 where
  pub spelled : outcomes log (image log) ⊎ (IsUnbegun file × IsUnbegun (image log))
  pub others : (m : List ℕ) → m ≢ log → outcomes m (image m)

-- At a moment of a call the image is one of before the log was read, or it keeps the records that stood there at the entry and the first of those that the call added. Where an append was cut short it may keep one record more.
abbrev pub IsMoment : (Plan → ℕ → Content → Option (List ℕ) → Type 0) → Plan → List ℕ → Files → Outcomes → List Record → List Record → Type 0 → Files → Type 0
IsMoment fits P log files outcomes H all cut image = IsBefore log (files log) outcomes image ⊎ WasKept fits P log (length H) all cut image

-- Why a log isn't read, by its file; the site's failure and want of memory may come instead.
abbrev pub IsUnread : Option (List ℕ) → RecoverFault → Type 0
IsUnread file why = Recovers file (let refused : Result (LogState × List Record) RecoverFault = Err why in refused)

-- It says that something is wrong with the bytes of the log.
abbrev pub IsDamageFault : RecoverFault → Type 0
IsDamageFault recovery.Site = ⊥
IsDamageFault recovery.BadHeader = Unit {0}
IsDamageFault (recovery.BadRecord at) = Unit {0}
IsDamageFault recovery.Memory = ⊥
