-- An end keeps the invariant.
use Rattle.std.proofs.Common.{◌≡◌, Bool, true, false, cond, Option, Some, None, refl, ap}
use Rattle.std.proofs.lemmas.Bool.{and_parts}
use Rattle.flow_types.specs.declared.records.EndKind.{EndKind}
use Rattle.flow_types.specs.declared.records.EndKind.TheVariants as kinds
use Rattle.flow_types.specs.declared.records.Record.TheVariants as records
use Rattle.rule_graph.specs.Spelling.{plan_digest}
use Rattle.run_history.specs.declared.answers.Check.{Check}
use Rattle.run_history.specs.declared.answers.Check.TheVariants as check
use Rattle.run_history.specs.declared.options.Options.{Options}
use Rattle.run_history.specs.Answers.{end_of, has_ended, kind_of, logged_end}
use Rattle.run_history.specs.History.{is_cleaned_kind}
use Rattle.run_history.proofs.Claims.{end-follows}
use Rattle.world_laws.specs.Worlds.{World, records_in, ends_as, ends}
use Rattle.world_laws.proofs.Files.{stored_same}
use Rattle.world_laws.proofs.Closes.{logged_kept}
use Rattle.world_laws.proofs.Invariant.{Setting, IsKept}

-- no answer is logged as a cleaning
not_cleaned : (x : Check) (kind : EndKind) → kind_of x ≡ Some kind → is_cleaned_kind kind ≡ false
not_cleaned check.Going kind is = absurd (let h : ⊥ = cc in h)
not_cleaned check.Halted kind is = absurd (let h : ⊥ = cc in h)
not_cleaned (check.LogFull n) kind is = absurd (let h : ⊥ = cc in h)
not_cleaned (check.Complete collected) kind is = let same : kind ≡ kinds.Complete = cc in ap is_cleaned_kind same
not_cleaned (check.CommandFailed rule why) kind is = let same : kind ≡ kinds.CommandFailed = cc in ap is_cleaned_kind same
not_cleaned (check.InputsTooLarge rule total) kind is = let same : kind ≡ kinds.InputsTooLarge = cc in ap is_cleaned_kind same
not_cleaned (check.NoRoom rule need stored limit) kind is = let same : kind ≡ kinds.NoRoom = cc in ap is_cleaned_kind same
not_cleaned (check.Waited wait) kind is = let same : kind ≡ kinds.Waited = cc in ap is_cleaned_kind same

kind_by : (x : Check) (kind : EndKind) (ended : Bool) → cond ended None (kind_of x) ≡ Some kind → is_cleaned_kind kind ≡ false
kind_by x kind true is = absurd (let h : ⊥ = cc in h)
kind_by x kind false is = not_cleaned x kind is

as_kept : (S : Setting) (O : Options) (w : World) (found : Option EndKind) → logged_end S.plan O w.moves None ≡ found → IsKept S w → IsKept S (ends_as w found)
as_kept S O w None is kept = kept
as_kept S O w (Some kind) is kept =
    let plain : is_cleaned_kind kind ≡ false = kind_by (end_of S.plan O w.moves None) kind (has_ended (records_in w)) is in
    logged_kept S w (records.Ended 0 kind) w.contents kept plain
    (and_parts _ _ (end-follows S.plan (plan_digest S.plan) O w.moves None kind 0 kept.recorded.opened is)).0
    (stored_same S (records_in w) w.contents (records.Ended 0 kind) plain refl (λ m. refl) kept.stored) tt

-- an end
pub ends_kept : (S : Setting) (O : Options) (w : World) → IsKept S w → IsKept S (ends S.plan O w)
ends_kept S O w kept = as_kept S O w (logged_end S.plan O w.moves None) refl kept
