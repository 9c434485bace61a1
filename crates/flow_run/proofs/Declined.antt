-- A run that isn't opened.
use Rattle.std.proofs.Common.{◌≡◌, ◌<◌, ℕ, List, true, None, Result, Ok, Err, refl}
use Rattle.std.specs.Prelude.{IsErrOf}
use Rattle.flow_types.specs.declared.plan.Plan.{Plan}
use Rattle.flow_types.specs.declared.records.Record.{Record}
use Rattle.run_history.specs.declared.options.Options.{Options}
use Rattle.outside.specs.declared.fault.Fault.{Fault}
use Rattle.outside.specs.declared.fault.Fault.TheVariants as devices
use Rattle.outside.specs.Files.{Files}
use Rattle.desk.specs.declared.answers.StartFault.{StartFault}
use Rattle.desk.specs.Begins.{FindsFiles, IsRefusal}
use Rattle.desk.specs.Openings.{early_fault}
use Rattle.desk.proofs.Starting.{early_legal}
use Rattle.local_run.specs.declared.ended.Stopped.TheVariants as stopped
use Rattle.local_run.proofs.Refused.{early_same}
use Rattle.local_run.proofs.Started.{refused_causes, refused_legal}
use Rattle.local_run.proofs.Starts.{none_stands, refused_ends}
use Rattle.flow_run.specs.declared.opening.Unopened.{Unopened}
use Rattle.flow_run.specs.Openings.{Declines}

module _ {S : Type 0} (count : S → ℕ) (P : Plan) (O : Options) (H : List Record) (tells : Type 0) (files : Files) (old new : S) (records : List Record) (same : records ≡ H) (hall hall_now : ℕ) where
  -- for what stands in its way, or since the looks were cut short
  pub refused_declines : (why : StartFault) → IsRefusal count P O H tells files old new why
      → (let left : Unopened S = record { site = new; records = records; why = stopped.Refused why } in Declines count P O H tells files old hall hall_now left)
  refused_declines why refusal = record {
    refused = tt;
    same = same;
    legal = refused_legal count P O H tells files old new why refusal;
    causes = λ runner runner_now. refused_causes count P O H tells files old new runner runner_now why refusal;
    starts = refused_ends count P O H tells files old new why refusal;
    early = early_same count P O H tells files old new why refusal;
    failed = λ is. absurd is;
  }

  module _ (none : early_fault P O H ≡ None) (finds : tells → FindsFiles P H files (let found : Result (Unit {0}) StartFault = Ok tt in found)) where
    -- since the hall can't listen
    pub unheard_declines : (fault : Fault) → O.wq ≡ true → (IsErrOf (let heard : Result (Unit {0}) Fault = Err fault in heard) devices.Failed → hall < hall_now)
        → (let left : Unopened S = record { site = new; records = records; why = stopped.Unheard fault } in Declines count P O H tells files old hall hall_now left)
    unheard_declines devices.Failed asked rose = record {
      refused = tt;
      same = same;
      legal = λ admitted. early_legal P O H none;
      causes = λ runner runner_now. tt;
      starts = λ told. none_stands P O H files none (finds told);
      early = λ is. absurd is;
      failed = λ is. (asked, rose refl);
    }
    unheard_declines devices.Memory asked rose = record {
      refused = tt;
      same = same;
      legal = λ admitted. early_legal P O H none;
      causes = λ runner runner_now. tt;
      starts = λ told. none_stands P O H files none (finds told);
      early = λ is. absurd is;
      failed = λ is. absurd is;
    }

    -- since its first record isn't logged
    pub unopened_declines : (fault : Fault) → (fault ≡ devices.Failed → count old < count new)
        → (let left : Unopened S = record { site = new; records = records; why = stopped.Unopened fault } in Declines count P O H tells files old hall hall_now left)
    unopened_declines devices.Failed rose = record {
      refused = tt;
      same = same;
      legal = λ admitted. early_legal P O H none;
      causes = λ runner runner_now. rose refl;
      starts = λ told. none_stands P O H files none (finds told);
      early = λ is. absurd is;
      failed = λ is. absurd is;
    }
    unopened_declines devices.Memory rose = record {
      refused = tt;
      same = same;
      legal = λ admitted. early_legal P O H none;
      causes = λ runner runner_now. tt;
      starts = λ told. none_stands P O H files none (finds told);
      early = λ is. absurd is;
      failed = λ is. absurd is;
    }
