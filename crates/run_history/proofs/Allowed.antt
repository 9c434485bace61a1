-- What it says of a history that a record is allowed behind it.
use Rattle.std.proofs.Common.{◌≡◌, ℕ, true, not, List, ◌==◌, length}
use Rattle.std.specs.Prelude.{nat_lt, nat_le, sum_by, is_some}
use Rattle.std.specs.List.{list_all}
use Rattle.std.proofs.lemmas.Bool.{and_parts}
use Rattle.run_history.proofs.Bools.{both}
use Rattle.flow_types.specs.declared.plan.Plan.{Plan}
use Rattle.flow_types.specs.declared.numbers.RuleNo.{RuleNo}
use Rattle.flow_types.specs.declared.numbers.AttemptNo.{AttemptNo}
use Rattle.flow_types.specs.declared.numbers.LinkNo.{LinkNo}
use Rattle.flow_types.specs.declared.numbers.FileNo.{FileNo}
use Rattle.flow_types.specs.declared.numbers.Content.{Content}
use Rattle.flow_types.specs.declared.records.Record.{Record}
use Rattle.flow_types.specs.declared.records.Record.TheVariants as records
use Rattle.flow_types.specs.Plans.{is_empty, takes, makes, takers_of, is_kept, maker_of, most_input_bytes}
use Rattle.run_history.specs.History.{part, next_attempt}
use Rattle.run_history.specs.Storage.{is_waiting, is_complete, is_present, input_bytes, fits_storage, rule_bound}
use Rattle.run_history.specs.Legal.{is_allowed, is_stopped, has_places, runs, are_within}

-- why a rule may start
pub record Starts (P : Plan) (H : List Record) (r attempt : ℕ) : Type 0 where
  pub opened : not (is_empty (part H)) ≡ true
  pub going : not (is_stopped P H) ≡ true
  pub in_plan : nat_lt r (length P.rules) ≡ true
  pub waits : is_waiting H r ≡ true
  pub inputs : list_all (is_present P H) (takes P r) ≡ true
  pub input_size : nat_le (input_bytes P H r) most_input_bytes ≡ true
  pub numbered : (attempt == next_attempt H) ≡ true
  pub fits : fits_storage P H r ≡ true
  pub places : has_places P H 2 ≡ true

pub starts : (P : Plan) (digest : List ℕ) (H : List Record) (moment : ℕ) (r : RuleNo) (attempt : AttemptNo) (link : LinkNo)
    → is_allowed P digest H (records.Started moment r attempt link) ≡ true → Starts P H r.0 attempt.0
starts P digest H moment r attempt link allowed =
    let h8 = and_parts _ _ allowed in let h7 = and_parts _ _ h8.0 in let h6 = and_parts _ _ h7.0 in let h5 = and_parts _ _ h6.0 in
    let h4 = and_parts _ _ h5.0 in let h3 = and_parts _ _ h4.0 in let h2 = and_parts _ _ h3.0 in let h1 = and_parts _ _ h2.0 in
    record {
      opened = h1.0;
      going = h1.1;
      in_plan = h2.1;
      waits = h3.1;
      inputs = h4.1;
      input_size = h5.1;
      numbered = h6.1;
      fits = h7.1;
      places = h8.1;
    }

pub may_start : (P : Plan) (digest : List ℕ) (H : List Record) (moment : ℕ) (r : RuleNo) (attempt : AttemptNo) (link : LinkNo)
    → Starts P H r.0 attempt.0 → is_allowed P digest H (records.Started moment r attempt link) ≡ true
may_start P digest H moment r attempt link why =
    both _ _ (both _ _ (both _ _ (both _ _ (both _ _ (both _ _ (both _ _ (both _ _ why.opened why.going) why.in_plan) why.waits) why.inputs) why.input_size) why.numbered) why.fits) why.places

-- why a file may be dropped
pub record Drops (P : Plan) (H : List Record) (f : ℕ) : Type 0 where
  pub made : is_some (maker_of P f) ≡ true
  pub present : is_present P H f ≡ true
  pub not_kept : not (is_kept P f) ≡ true
  pub not_needed : list_all (is_complete H) (takers_of P f) ≡ true
  pub places : has_places P H 1 ≡ true

pub drops_file : (P : Plan) (digest : List ℕ) (H : List Record) (moment : ℕ) (f : FileNo) → is_allowed P digest H (records.Dropped moment f) ≡ true → Drops P H f.0
drops_file P digest H moment f allowed =
    let h4 = and_parts _ _ allowed in let h3 = and_parts _ _ h4.0 in let h2 = and_parts _ _ h3.0 in let h1 = and_parts _ _ h2.0 in
    record { made = h1.0; present = h1.1; not_kept = h2.1; not_needed = h3.1; places = h4.1 }

pub may_drop : (P : Plan) (digest : List ℕ) (H : List Record) (moment : ℕ) (f : FileNo) → Drops P H f.0 → is_allowed P digest H (records.Dropped moment f) ≡ true
may_drop P digest H moment f why = both _ _ (both _ _ (both _ _ (both _ _ why.made why.present) why.not_kept) why.not_needed) why.places

-- why a rule may be done
pub record Finishes (P : Plan) (H : List Record) (r attempt : ℕ) (outs : List Content) : Type 0 where
  pub runs : runs P H r attempt ≡ true
  pub within : are_within P (makes P r) outs ≡ true
  pub together : nat_le (sum_by (λ row. row.size) outs) (rule_bound P r) ≡ true

pub finishes : (P : Plan) (digest : List ℕ) (H : List Record) (moment : ℕ) (r : RuleNo) (attempt : AttemptNo) (outs : List Content)
    → is_allowed P digest H (records.Done moment r attempt outs) ≡ true → Finishes P H r.0 attempt.0 outs
finishes P digest H moment r attempt outs allowed =
    let h2 = and_parts _ _ allowed in let h1 = and_parts _ _ h2.0 in
    record { runs = h1.0; within = h1.1; together = h2.1 }

pub may_finish : (P : Plan) (digest : List ℕ) (H : List Record) (moment : ℕ) (r : RuleNo) (attempt : AttemptNo) (outs : List Content)
    → Finishes P H r.0 attempt.0 outs → is_allowed P digest H (records.Done moment r attempt outs) ≡ true
may_finish P digest H moment r attempt outs why = both _ _ (both _ _ why.runs why.within) why.together
