-- What a run states at its opening stands until the next one.
use Rattle.std.proofs.Common.{◌≡◌, ◌∙◌, ℕ, Bool, true, false, List, [], ◌∷◌, ◌++◌, Option, Some, None, Result, Ok, refl, sym, ap, append_assoc, map, true≢false, unwrap_or}
use Rattle.std.specs.List.{list_any}
use Rattle.std.specs.Option.{option_map_or}
use Rattle.std.proofs.lemmas.Bool.{or_parts}
use Rattle.std.proofs.lemmas.List.{append-nil}
use Rattle.flow_types.specs.declared.plan.Plan.{Plan}
use Rattle.flow_types.specs.declared.numbers.Content.{Content}
use Rattle.flow_types.specs.declared.job.Failure.{Failure}
use Rattle.flow_types.specs.declared.job.Job.{Job}
use Rattle.flow_types.specs.declared.records.Record.{Record}
use Rattle.flow_types.specs.declared.records.Record.TheVariants as records
use Rattle.flow_types.specs.Serial.{Contents}
use Rattle.run_history.specs.declared.moves.Move.TheVariants as moves
use Rattle.run_history.specs.declared.options.Options.{Options}
use Rattle.run_history.specs.History.{is_cleaned, is_opening, last_said, part}
use Rattle.run_history.specs.Links.{records_of}
use Rattle.run_history.specs.States.{limit_of, retries_in, retries_of}
use Rattle.run_history.proofs.Steps.{last_said-push, part-push, said_or}
use Rattle.outside.specs.Files.{Files}
use Rattle.desk.specs.Begins.{BeginsRun, run_over}
use Rattle.desk.specs.declared.answers.StartRefused.{StartRefused}
use Rattle.desk.specs.Openings.{opening}
use Rattle.desk.specs.State.{DeskState}
use Rattle.local_run.specs.Course.{begins_anew}
use Rattle.local_run.specs.Ends.{OpensBy}
use Rattle.run_history.proofs.Grows.{records-push}
use Rattle.local_run.proofs.Fresh.{limit_more}
use Rattle.local_run.proofs.Going.{records_more}
use Rattle.local_run.proofs.Started.{begun}

retries-push : (H : List Record) (x : Record) → is_cleaned x ≡ false → retries_of (H ++ (x ∷ [])) ≡ option_map_or (λ n. n) (retries_in x) (retries_of H)
retries-push H x more =
    ap (λ xs. unwrap_or (last_said retries_in xs) 0) (part-push H x more)
    ∙ ap (λ said. unwrap_or said 0) (last_said-push retries_in (part H) x)
    ∙ said_or (retries_in x) (last_said retries_in (part H)) 0

retries_none : (x : Record) → is_opening x ≡ false → retries_in x ≡ None
retries_none (records.Opened moment run retries limit plan sources) other = absurd (true≢false other)
retries_none (records.Resumed moment run retries limit) other = absurd (true≢false other)
retries_none (records.Started moment rule attempt link) other = refl
retries_none (records.Done moment rule attempt outs) other = refl
retries_none (records.Failed moment rule attempt why) other = refl
retries_none (records.Lost moment rule attempt) other = refl
retries_none (records.Dropped moment file) other = refl
retries_none (records.Ended moment kind) other = refl

retries_more : (H more : List Record) → list_any begins_anew more ≡ false → retries_of (H ++ more) ≡ retries_of H
retries_more H [] none = ap retries_of (append-nil H)
retries_more H (x ∷ xs) none =
    let parts = or_parts (begins_anew x) (list_any begins_anew xs) none in
    let both = or_parts (is_opening x) (is_cleaned x) parts.0 in
    ap retries_of (sym (append_assoc H (x ∷ []) xs))
    ∙ retries_more (H ++ (x ∷ [])) xs parts.1
    ∙ retries-push H x both.1 ∙ ap (λ (o : Option ℕ). option_map_or (λ n. n) o (retries_of H)) (retries_none x both.0)

-- behind records that begin no run
pub opens_on : (O : Options) (H more all : List Record) → OpensBy O H → all ≡ H ++ more → list_any begins_anew more ≡ false → OpensBy O all
opens_on O H more all opens are none = record {
  limit = ap limit_of are ∙ limit_more H more none ∙ opens.limit;
  retries = ap retries_of are ∙ retries_more H more none ∙ opens.retries;
}

opening_says : (P : Plan) (O : Options) (first : Bool) (number moment : ℕ) (rows : List Content) → let x : Record = opening P O (record { first = first; number = number; moment = moment }) rows in (is_cleaned x ≡ false) × (retries_in x ≡ Some O.retries)
opening_says P O true number moment rows = (refl, refl)
opening_says P O false number moment rows = (refl, refl)

-- a desk that was just started
pub opens_by : {S : Type 0} (count : S → ℕ) (P : Plan) (O : Options) (log : List ℕ) (H : List Record) (moment : ℕ) (tells : Type 0) (files : Files) (old : S) (may_fail : Job → Failure → Type 0) (contents : Contents) (d : DeskState S)
    → (let begun : Result (DeskState S) (StartRefused S) = Ok d in BeginsRun count P O log H moment tells files old begun) → OpensBy O (records_of d.moves)
opens_by {S} count P O log H moment tells files old may_fail contents d h =
    let b = begun count P O log H moment tells files old may_fail contents d h in
    let opens = h.2.1 in
    let says = opening_says P O (run_over H moment).first (run_over H moment).number moment opens.0 in
    let x = h.2.0 in
    let are : records_of d.moves ≡ H ++ (x ∷ []) =
    ap (λ (v : DeskState S). records_of v.moves) h.2.2 ∙ records-push (map moves.Logged H) x ∙ ap (λ (G : List Record). G ++ (x ∷ [])) (records_more [] H) in
    record {
      limit = b.fresh.limited;
      retries = ap retries_of are ∙ retries-push H x (ap is_cleaned opens.1 ∙ says.0) ∙ ap (λ (o : Option ℕ). option_map_or (λ n. n) o (retries_of H)) (ap retries_in opens.1 ∙ says.1);
    }
