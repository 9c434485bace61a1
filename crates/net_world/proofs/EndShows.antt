-- What the machines of a world show after an end.
use Rattle.std.proofs.Common.{◌≡◌, true, false, cond, not, [], ◌∷◌, ◌++◌, Option, Some, None, refl, ap, sym, ◌∙◌, subst}
use Rattle.flow_types.specs.declared.plan.Plan.{Plan}
use Rattle.flow_types.specs.declared.records.EndKind.{EndKind}
use Rattle.flow_types.specs.declared.records.EndKind.TheVariants as kinds
use Rattle.flow_types.specs.declared.records.Record.TheVariants as records
use Rattle.run_history.specs.declared.answers.Check.{Check}
use Rattle.run_history.specs.declared.answers.Check.TheVariants as check
use Rattle.run_history.specs.declared.options.Options.{Options}
use Rattle.run_history.specs.Answers.{end_of, kind_of, logged_end}
use Rattle.run_history.specs.History.{is_cleaned, is_cleaned_kind}
use Rattle.task_core.specs.Ends.{Ends, EndsBy}
use Rattle.task_core.specs.Stands.{IsStill}
use Rattle.net_world.specs.declared.play.Play.{Play}
use Rattle.world_laws.specs.Worlds.{World, ends, ends_as}
use Rattle.net_world.specs.Plays.{IsShown, IsTable}
use Rattle.net_world.proofs.Lines.{goes_nowhere}
use Rattle.net_world.proofs.Shows.{IsBeside, logged_shown, moves_shown}

-- an end is logged by no cleaning
never_cleaned : (answer : Check) (kind : EndKind) → Some kind ≡ kind_of answer → is_cleaned (records.Ended 0 kind) ≡ false
never_cleaned check.Going kind is = absurd (let h : ⊥ = cc in h)
never_cleaned check.Halted kind is = absurd (let h : ⊥ = cc in h)
never_cleaned (check.Complete collected) kind is = let same : kind ≡ kinds.Complete = cc in ap is_cleaned_kind same
never_cleaned (check.CommandFailed rule why) kind is = let same : kind ≡ kinds.CommandFailed = cc in ap is_cleaned_kind same
never_cleaned (check.InputsTooLarge rule total) kind is = let same : kind ≡ kinds.InputsTooLarge = cc in ap is_cleaned_kind same
never_cleaned (check.LogFull count) kind is = absurd (let h : ⊥ = cc in h)
never_cleaned (check.NoRoom rule need stored limit) kind is = let same : kind ≡ kinds.NoRoom = cc in ap is_cleaned_kind same
never_cleaned (check.Waited wait) kind is = let same : kind ≡ kinds.Waited = cc in ap is_cleaned_kind same

-- a run that has ended stays so
pub ended_stays : (P : Plan) (O : Options) (w : World) (play : Play) → play.table.ended ≡ true → IsShown P O w play → IsShown P O (ends P O w) play
ended_stays P O w play ended shown =
    subst (λ b. IsShown P O (ends_as w (cond b None (kind_of (end_of P O w.moves None)))) play) (sym (sym shown.table.stands.ended ∙ ended)) shown

-- the run of a world is opened
pub is_begun : (P : Plan) (O : Options) (w : World) (play : Play) → IsShown P O w play → play.table.begun ≡ true
is_begun P O w play shown = shown.table.stands.begun ∙ ap not shown.table.opened

pub not_begun : (P : Plan) (O : Options) (w : World) (play : Play) → play.table.begun ≡ false → IsShown P O w play → ⊥
not_begun P O w play none shown = let begun : play.table.begun ≡ true = is_begun P O w play shown in cc

-- the kind that an end logs, by its answer
logged_by : (P : Plan) (O : Options) (w : World) (play : Play) (answer : Check) → play.table.ended ≡ false → answer ≡ end_of play.table.plan play.table.options w.moves play.table.stop → IsShown P O w play
    → logged_end play.table.plan play.table.options w.moves play.table.stop ≡ kind_of answer
logged_by P O w play answer goes is shown =
    ap (λ b. cond b None (kind_of (end_of play.table.plan play.table.options w.moves play.table.stop))) (sym shown.table.stands.ended ∙ goes) ∙ ap kind_of (sym is)

same_end : (P : Plan) (O : Options) (w : World) (play : Play) → IsShown P O w play → logged_end play.table.plan play.table.options w.moves play.table.stop ≡ logged_end P O w.moves None
same_end P O w play shown =
    ap (λ plan. logged_end plan play.table.options w.moves play.table.stop) shown.table.plan
    ∙ ap (λ options. logged_end P options w.moves play.table.stop) shown.table.options
    ∙ ap (logged_end P O w.moves) shown.table.stop

-- an end that is logged
pub end_logged_shown : (P : Plan) (O : Options) (w : World) (old new : Play) (answer : Check) (kind : EndKind) → old.table.ended ≡ false → Some kind ≡ kind_of answer → IsShown P O w old
    → Ends old.table w.moves answer new.table → IsStill old.table new.table → new.records.items ≡ old.records.items ++ (records.Ended 0 kind ∷ []) → IsBeside old new → IsShown P O (ends P O w) new
end_logged_shown P O w old new answer kind goes is shown did still pushed same =
    let logged : logged_end old.table.plan old.table.options w.moves old.table.stop ≡ Some kind = logged_by P O w old answer goes did.0 shown ∙ sym is in
    subst (λ found. IsShown P O (ends_as w found) new) (sym logged ∙ same_end P O w old shown)
    (logged_shown P O w old new (records.Ended 0 kind) (never_cleaned answer kind is) shown (subst (λ found. EndsBy found old.table w.moves new.table) logged did.1 0) still pushed same)

-- an end that isn't
pub end_silent_shown : (P : Plan) (O : Options) (w : World) (old new : Play) (answer : Check) → old.table.ended ≡ false → (let none : Option EndKind = None in none ≡ kind_of answer) → IsShown P O w old
    → Ends old.table w.moves answer new.table → new.records.items ≡ old.records.items → IsBeside old new → IsShown P O (ends P O w) new
end_silent_shown P O w old new answer goes is shown did entries same =
    let silent : logged_end old.table.plan old.table.options w.moves old.table.stop ≡ None = logged_by P O w old answer goes did.0 shown ∙ sym is in
    let still : new.table ≡ old.table = subst (λ found. EndsBy found old.table w.moves new.table) silent did.1 in
    subst (λ found. IsShown P O (ends_as w found) new) (sym silent ∙ same_end P O w old shown)
    (moves_shown P O w w old new shown (subst (IsTable P O w.moves new.table) (sym entries) (subst (λ t. IsTable P O w.moves t old.records.items) (sym still) shown.table))
    same (goes_nowhere O w.moves) (λ f. refl) refl refl refl refl)
