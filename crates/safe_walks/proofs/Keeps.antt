-- Every record that is allowed, but a start, keeps the walk within.
use Rattle.std.proofs.Common.{◌≡◌, ℕ, true, false, List, [], ◌∷◌, ◌++◌, refl, sym, true≢false}
use Rattle.flow_types.specs.declared.plan.Plan.{Plan}
use Rattle.flow_types.specs.declared.records.Record.{Record}
use Rattle.flow_types.specs.declared.records.Record.TheVariants as records
use Rattle.run_history.specs.History.{is_cleaned}
use Rattle.run_history.specs.Legal.{is_allowed}
use Rattle.safe_walks.specs.Walk.{standing}
use Rattle.safe_walks.specs.Safe.{is_safe}
use Rattle.safe_walks.specs.Laws.{starts_none}
use Rattle.safe_walks.proofs.Walks.{IsLess, less-within}
use Rattle.safe_walks.proofs.Records.{quiet}
use Rattle.safe_walks.proofs.Dones.{done-less}

record_less : (P : Plan) (digest : List ℕ) (H : List Record) (x : Record) → is_cleaned x ≡ false
    → starts_none x ≡ true → is_allowed P digest H x ≡ true
    → IsLess P (standing P H) (standing P (H ++ (x ∷ [])))
record_less P digest H (records.Opened moment run retries limit plan sources) more none allowed =
    quiet P H (records.Opened moment run retries limit plan sources) more (λ r. refl) (λ r. refl)
record_less P digest H (records.Resumed moment run retries limit) more none allowed =
    quiet P H (records.Resumed moment run retries limit) more (λ r. refl) (λ r. refl)
record_less P digest H (records.Started moment r attempt link) more none allowed =
    absurd (true≢false (sym none))
record_less P digest H (records.Done moment r attempt outs) more none allowed =
    done-less P digest H moment r attempt outs allowed
record_less P digest H (records.Failed moment r attempt why) more none allowed =
    quiet P H (records.Failed moment r attempt why) more (λ r. refl) (λ r. refl)
record_less P digest H (records.Lost moment r attempt) more none allowed =
    quiet P H (records.Lost moment r attempt) more (λ r. refl) (λ r. refl)
record_less P digest H (records.Dropped moment f) more none allowed =
    quiet P H (records.Dropped moment f) more (λ r. refl) (λ r. refl)
record_less P digest H (records.Ended moment kind) more none allowed =
    quiet P H (records.Ended moment kind) more (λ r. refl) (λ r. refl)

pub record-keeps : (P : Plan) (digest : List ℕ) (H : List Record) (x : Record) (limit : ℕ)
    → is_cleaned x ≡ false → starts_none x ≡ true → is_allowed P digest H x ≡ true
    → is_safe P H limit ≡ true → is_safe P (H ++ (x ∷ [])) limit ≡ true
record-keeps P digest H x limit more none allowed safe =
    less-within P (standing P H) (standing P (H ++ (x ∷ []))) limit
    (record_less P digest H x more none allowed) safe
