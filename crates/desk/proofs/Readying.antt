-- A run that is ready, and its beginning.
use Rattle.std.proofs.Common.{◌≡◌, ◌≢◌, ◌++◌, ◌∷◌, [], inl, inr, ⊎_elim, ℕ, List, Result, Ok, refl, subst}
use Rattle.flow_types.specs.declared.plan.Plan.{Plan}
use Rattle.flow_types.specs.declared.records.Record.{Record}
use Rattle.run_history.specs.declared.options.Options.{Options}
use Rattle.outside.specs.Disk.{IsImage, LeavesOnly, Outcomes, Within}
use Rattle.outside.specs.Files.{Files}
use Rattle.outside.proofs.Moments.{joined}
use Rattle.txn_log.specs.Logs.{IsAt}
use Rattle.desk.specs.declared.answers.StartRefused.{StartRefused}
use Rattle.desk.specs.Begins.{Begins, BeginsRun, KeepsOpening}
use Rattle.desk.specs.Kept.{Keeps, KeepsEither, ReadsStay, StaysBeside, Test}
use Rattle.desk.specs.Readiness.{ReadyState, Readies}
use Rattle.desk.specs.State.{DeskState}
use Rattle.desk.proofs.Beginning.{begins_run}

-- a log stays at its gate where nothing new may be left
pub gate_within : (H : List Record) (gate : ℕ) (log : List ℕ) (old new : Outcomes) → Within old new → IsAt H gate (old log) → IsAt H gate (new log)
gate_within H gate log old new within is = record { place = is.place; each = λ file left. is.each file (within log file left) }

-- its value by that of its table
pub ready_view : {S : Type 0} (p P : Plan) (o O : Options) (log : List ℕ) (f F : ℕ) (H : List Record) (x : Record) (site : S) → p ≡ P → o ≡ O → f ≡ F
    → (let v : ReadyState S = record { plan = p; options = o; log = log; faults = f; history = H; entry = x; site = site } in v)
    ≡ record { plan = P; options = O; log = log; faults = F; history = H; entry = x; site = site }
ready_view {S} p P o O log f F H x site plan options faults =
    subst (λ (Q : Plan). (let v : ReadyState S = record { plan = p; options = o; log = log; faults = f; history = H; entry = x; site = site } in v) ≡ record { plan = Q; options = O; log = log; faults = F; history = H; entry = x; site = site }) plan
    (subst (λ (Q : Options). (let v : ReadyState S = record { plan = p; options = o; log = log; faults = f; history = H; entry = x; site = site } in v) ≡ record { plan = p; options = Q; log = log; faults = F; history = H; entry = x; site = site }) options
    (subst (λ (n : ℕ). (let v : ReadyState S = record { plan = p; options = o; log = log; faults = f; history = H; entry = x; site = site } in v) ≡ record { plan = p; options = o; log = log; faults = n; history = H; entry = x; site = site }) faults refl))

module _ {S : Type 0} (count : S → ℕ) (P : Plan) (O : Options) (log : List ℕ) (H : List Record) (at : ℕ) (tells : Type 0) (files : Files) (old : S) (r : ReadyState S) (is : Readies count P O log H at tells files old (Ok r)) where
  -- what it answers as it is opened is what a start answers
  pub opened_run : (reply : Result (DeskState S) (StartRefused S)) → Begins count r.plan r.options r.log r.faults r.history r.entry reply → BeginsRun count P O log H at tells files old reply
  opened_run reply begins =
      begins_run count P O log (count old) (count old) H at tells files old r.entry reply is.0 (is.2, is.1)
      (subst (λ (v : ReadyState S). Begins count v.plan v.options v.log v.faults v.history r.entry reply) is.3 begins)

  -- what a crash may leave until its record stands
  pub opened_moments : (fits : Test) (may_leave : S → Outcomes) (moment : S → ℕ) (images_since : S → ℕ → Files → Type 0) (last : S)
      → ((image : Files) → IsImage (may_leave old) image → Keeps fits P log H image) → LeavesOnly moment images_since old r.site (IsImage (may_leave old))
      → LeavesOnly moment images_since r.site last (KeepsEither fits r.plan r.log r.history r.entry)
      → LeavesOnly moment images_since old last (KeepsOpening fits P O log H at tells files)
  opened_moments fits may_leave moment images_since last kept looked run =
      joined moment images_since old r.site last (IsImage (may_leave old)) (KeepsEither fits P log H r.entry) (KeepsOpening fits P O log H at tells files)
      looked (subst (λ (v : ReadyState S). LeavesOnly moment images_since r.site last (KeepsEither fits v.plan v.log v.history r.entry)) is.3 run)
      (λ image now. inl (kept image now))
      (λ image left. ⊎_elim (λ (k : Keeps fits P log H image). inl k) (λ (k : Keeps fits P log (H ++ (r.entry ∷ [])) image). inr (r.entry, is.2, k)) left)

  -- what stays beside the log
  pub opened_beside : (may_leave : S → Outcomes) (moment : S → ℕ) (images_since : S → ℕ → Files → Type 0) (last : S)
      → StaysBeside may_leave moment images_since (λ m. m ≢ r.log) r.site last → StaysBeside may_leave moment images_since (λ m. m ≢ log) r.site last
  opened_beside may_leave moment images_since last stays =
      subst (λ (v : ReadyState S). StaysBeside may_leave moment images_since (λ m. m ≢ v.log) r.site last) is.3 stays

  pub opened_reads : (reads : S → Files) (last : S) → ReadsStay reads (λ m. m ≢ r.log) r.site last → ReadsStay reads (λ m. m ≢ log) r.site last
  opened_reads reads last stays = subst (λ (v : ReadyState S). ReadsStay reads (λ m. m ≢ v.log) r.site last) is.3 stays
