-- How a run ends, by how the work at its desk did.
use Rattle.std.proofs.Common.{◌≡◌, ◌≤◌, ◌∙◌, ℕ, List, Option, Some, None, Result, Ok, Err, sym, ap, arith, true≢false}
use Rattle.std.specs.Prelude.{IfErr, IfOk, is_some}
use Rattle.flow_types.specs.declared.plan.Plan.{Plan}
use Rattle.flow_types.specs.declared.records.Record.{Record}
use Rattle.run_history.specs.declared.answers.Check.{Check}
use Rattle.run_history.specs.declared.answers.Check.TheVariants as checks
use Rattle.outside.specs.Files.{Files}
use Rattle.outside.specs.declared.fault.Fault.TheVariants as devices
use Rattle.desk.specs.declared.answers.StartFault.{StartFault}
use Rattle.desk.specs.declared.answers.StartFault.TheVariants as faults
use Rattle.local_run.specs.declared.halt.Halt.{Halt}
use Rattle.local_run.specs.declared.halt.Halt.TheVariants as halts
use Rattle.local_run.specs.declared.ended.Stopped.{Stopped}
use Rattle.local_run.specs.declared.ended.Stopped.TheVariants as stopped
use Rattle.local_run.specs.Ends.{HasFailed, IsCompleteEnd, IsDone, IsFoundDamaged, IsSureEnd, IsSureHalt, IsWholeHalt, IsWholeRun, RunDamage, StartEnds}
use Rattle.local_run.specs.Runs.{HasCauses, IsHallEnd, ended_by}

pub if_ended : (r : Result Check Halt) (Q : Check → Type 0) → IfOk r Q → IfOk (ended_by r) Q
if_ended (Ok check) Q h = h
if_ended (Err halt) Q h = tt

pub damage_ended : (P : Plan) (H : List Record) (files : Files) (r : Result Check Halt) (told apart : Type 0) → IfErr r (λ halt. told → apart → IsFoundDamaged P H files halt) → told → apart → RunDamage P H files (ended_by r)
damage_ended P H files (Ok check) told apart h is far = tt
damage_ended P H files (Err (halts.Damaged file logged found)) told apart h is far = h is far
damage_ended P H files (Err halts.Runner) told apart h is far = tt
damage_ended P H files (Err halts.Site) told apart h is far = tt
damage_ended P H files (Err halts.Memory) told apart h is far = tt

pub whole_ended : (r : Result Check Halt) (told kept : Type 0) → IfErr r (λ halt. told → kept → IsWholeHalt halt) → told → kept → IsWholeRun (ended_by r)
whole_ended (Ok check) told kept h is keeps = tt
whole_ended (Err (halts.Damaged file logged found)) told kept h is keeps = absurd (h is keeps)
whole_ended (Err halts.Runner) told kept h is keeps = tt
whole_ended (Err halts.Site) told kept h is keeps = tt
whole_ended (Err halts.Memory) told kept h is keeps = tt

pub sure_ended : (r : Result Check Halt) (sure : Type 0) (before now : ℕ) → HasFailed before now (ended_by r) → now ≡ before → IfErr r (λ halt. sure → IsSureHalt halt) → sure → IsSureEnd (ended_by r)
sure_ended (Ok (checks.Complete collected)) sure before now failed same h is = tt
sure_ended (Ok (checks.CommandFailed rule why)) sure before now failed same h is = let wrong : ⊥ = omega (arith, failed, same) in wrong
sure_ended (Ok (checks.InputsTooLarge rule total)) sure before now failed same h is = tt
sure_ended (Ok (checks.NoRoom rule need stored limit)) sure before now failed same h is = tt
sure_ended (Ok (checks.Waited wait)) sure before now failed same h is = tt
sure_ended (Ok checks.Going) sure before now failed same h is = tt
sure_ended (Ok checks.Halted) sure before now failed same h is = tt
sure_ended (Ok (checks.LogFull records)) sure before now failed same h is = tt
sure_ended (Err (halts.Damaged file logged found)) sure before now failed same h is = tt
sure_ended (Err halts.Runner) sure before now failed same h is = absurd (h is)
sure_ended (Err halts.Site) sure before now failed same h is = tt
sure_ended (Err halts.Memory) sure before now failed same h is = tt

complete_done : (limit : Option ℕ) (check : Check) → IsCompleteEnd limit check → (let how : Result Check Stopped = Ok check in IsDone limit how)
complete_done limit (checks.Complete collected) h = tt
complete_done limit (checks.CommandFailed rule why) h = absurd h
complete_done limit (checks.InputsTooLarge rule total) h = absurd h
complete_done limit (checks.NoRoom rule need stored most) h = h
complete_done limit (checks.Waited wait) h = absurd h
complete_done limit checks.Going h = absurd h
complete_done limit checks.Halted h = absurd h
complete_done limit (checks.LogFull records) h = absurd h

not_refused : (expected : Option StartFault) (why : StartFault) → expected ≡ None → expected ≡ Some why → ⊥
not_refused expected why none some = true≢false (sym (ap is_some some) ∙ ap is_some none)

-- A run that nothing stops is done.
pub all_done : (limit : Option ℕ) (expected : Option StartFault) (how : Result Check Stopped) (before after first now : ℕ) → StartEnds expected how → expected ≡ None → IsWholeRun how → IsSureEnd how → HasCauses before after first now how → after ≤ before
    → (IsHallEnd how → ⊥) → IfOk how (IsCompleteEnd limit) → IsDone limit how
all_done limit expected (Ok check) before after first now starts none whole sure causes stood manned complete = complete_done limit check complete
all_done limit expected (Err (stopped.Refused (faults.OtherFlow logged found))) before after first now starts none whole sure causes stood manned complete = absurd (not_refused expected _ none (starts tt))
all_done limit expected (Err (stopped.Refused (faults.NotLegal at))) before after first now starts none whole sure causes stood manned complete = absurd (not_refused expected _ none (starts tt))
all_done limit expected (Err (stopped.Refused (faults.LogFull records))) before after first now starts none whole sure causes stood manned complete = absurd (not_refused expected _ none (starts tt))
all_done limit expected (Err (stopped.Refused (faults.StoredAboveLimit stored most))) before after first now starts none whole sure causes stood manned complete = absurd (not_refused expected _ none (starts tt))
all_done limit expected (Err (stopped.Refused (faults.SourceMissing file))) before after first now starts none whole sure causes stood manned complete = absurd (not_refused expected _ none (starts tt))
all_done limit expected (Err (stopped.Refused (faults.SourceTooLarge file size))) before after first now starts none whole sure causes stood manned complete = absurd (not_refused expected _ none (starts tt))
all_done limit expected (Err (stopped.Refused (faults.SourceChanged file logged found))) before after first now starts none whole sure causes stood manned complete = absurd (not_refused expected _ none (starts tt))
all_done limit expected (Err (stopped.Refused (faults.FileDamaged file logged found))) before after first now starts none whole sure causes stood manned complete = absurd (not_refused expected _ none (starts tt))
all_done limit expected (Err (stopped.Refused (faults.Site one other))) before after first now starts none whole sure causes stood manned complete = let wrong : ⊥ = omega (arith, causes, stood) in absurd wrong
all_done limit expected (Err (stopped.Refused faults.Memory)) before after first now starts none whole sure causes stood manned complete = tt
all_done limit expected (Err (stopped.Halted (halts.Damaged file logged found))) before after first now starts none whole sure causes stood manned complete = absurd whole
all_done limit expected (Err (stopped.Halted halts.Runner)) before after first now starts none whole sure causes stood manned complete = absurd sure
all_done limit expected (Err (stopped.Halted halts.Site)) before after first now starts none whole sure causes stood manned complete = let wrong : ⊥ = omega (arith, causes, stood) in absurd wrong
all_done limit expected (Err (stopped.Halted halts.Memory)) before after first now starts none whole sure causes stood manned complete = tt
all_done limit expected (Err stopped.Hall) before after first now starts none whole sure causes stood manned complete = absurd (manned tt)
all_done limit expected (Err (stopped.Unheard devices.Failed)) before after first now starts none whole sure causes stood manned complete = absurd (manned tt)
all_done limit expected (Err (stopped.Unheard devices.Memory)) before after first now starts none whole sure causes stood manned complete = tt
all_done limit expected (Err (stopped.Unopened devices.Failed)) before after first now starts none whole sure causes stood manned complete = let wrong : ⊥ = omega (arith, causes, stood) in absurd wrong
all_done limit expected (Err (stopped.Unopened devices.Memory)) before after first now starts none whole sure causes stood manned complete = tt
