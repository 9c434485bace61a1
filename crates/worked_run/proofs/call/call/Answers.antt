use Rattle.std.proofs.Common.{◌≡◌, ◌≤◌, inl, true, [], ℕ, List, String, Global, Ok, refl, sym, subst, length, map, rules, arith}
use Rattle.flow_types.specs.declared.numbers.Content.{Content}
use Rattle.outside.specs.Files.{Files}
use Rattle.local_run.specs.Moments.{IsMoment, IsResumable}
use Rattle.local_run.specs.Runs.{Adds, Held, SerialFits, read_sources}
use Rattle.mem_commands.specs.Joins.{FailsWith}
use Rattle.mem_outside.specs.MemSite.{calls_of, files_of, leaves_of, moment_of, start_of, steps_of}
use Rattle.mem_outside.specs.MemSink.{calls_of as sink_calls}
use Rattle.mem_outside.specs.StepLaws.{counts_now, reads_image}
use Rattle.master_run.specs.Asked.{request}
use Rattle.master_run.specs.Serves.{CanComplete, IsCut}
use Rattle.txn_log.specs.Spells.{Spells}
use Rattle.worked_run.specs.Premises.{AreSure, AreTold, ask}
use Rattle.worked_run.specs.Worked.{entry_files, joins, plan}
use Rattle.worked_run.proofs.Made.{are_made}
use Rattle.worked_run.proofs.Premises.{all_tell, completes_over, is_requested, same_counts}
use Rattle.worked_run.proofs.call.call.Goals as goal

pub returns-clause-contents : goal.returns-clause-contents
returns-clause-contents g c image since =
    let none : c.as_slice.result.now ≡ [] = search rules in
    let is = is_requested c.args.words.now c.as_slice.result.now (files_of c.args.site) c.requires.words none c.requires.files in
    let spelled : Spells [] (files_of c.args.site ask.log) = subst (λ (fs : Files). Spells [] (fs ask.log)) (sym c.requires.files) (inl tt) in
    let said = (c.makeflow_top.ensures.ends.by_trust tt ask is [] spelled).contents
    (record { linked = λ asked. absurd (let wrong : ⊥ = cc in wrong); resumable = inl refl; jobs = λ r row there may. record { each = all_tell c.args.runners.now } }) image since in
    subst (λ (fs : Files). IsMoment (SerialFits joins (read_sources ask.plan fs)) ask.plan ask.log fs (leaves_of c.args.site) [] c.makeflow_top.result.records (IsCut c.makeflow_top.result.cause) image) c.requires.files said

pub returns-clause-made : goal.returns-clause-made
returns-clause-made g c whole f content present =
    let none : c.as_slice.result.now ≡ [] = search rules in
    let is = is_requested c.args.words.now c.as_slice.result.now (files_of c.args.site) c.requires.words none c.requires.files in
    let spelled : Spells [] (files_of c.args.site ask.log) = subst (λ (fs : Files). Spells [] (fs ask.log)) (sym c.requires.files) (inl tt) in
    let site = c.makeflow_top.result.site in
    let image = reads_image (start_of site) (steps_of site) (files_of site) site.agrees in
    let later : moment_of c.args.site ≤ moment_of site = ((c.makeflow_top.ensures.ends.by_files tt).others ask is).any_moment.later in
    let since = counts_now (start_of site) (steps_of site) (moment_of c.args.site) (files_of site) later image in
    let said = (c.makeflow_top.ensures.ends.by_trust tt ask is [] spelled).contents
    (record { linked = λ asked. absurd (let wrong : ⊥ = cc in wrong); resumable = inl refl; jobs = λ r row there may. record { each = all_tell c.args.runners.now } }) (files_of site) since in
    let moment = subst (λ (fs : Files). IsMoment (SerialFits joins (read_sources ask.plan fs)) ask.plan ask.log fs (leaves_of c.args.site) [] c.makeflow_top.result.records (IsCut c.makeflow_top.result.cause) (files_of site)) c.requires.files said in
    let kept = (c.makeflow_top.ensures.ends.by_log tt ask is [] spelled).now (inl refl) whole (files_of site) image in
    are_made c.files_spell_one_list.ensures.one (leaves_of c.args.site) c.requires.settled c.makeflow_top.result.records (IsCut c.makeflow_top.result.cause) (files_of site) kept moment f content present

pub returns-clause-honest : goal.returns-clause-honest
returns-clause-honest g c =
    let none : c.as_slice.result.now ≡ [] = search rules in
    let is = is_requested c.args.words.now c.as_slice.result.now (files_of c.args.site) c.requires.words none c.requires.files in
    let spelled : Spells [] (files_of c.args.site ask.log) = subst (λ (fs : Files). Spells [] (fs ask.log)) (sym c.requires.files) (inl tt) in
    let said = (c.makeflow_top.ensures.ends.by_trust tt ask is [] spelled).honest
    (record { linked = λ asked. absurd (let wrong : ⊥ = cc in wrong); resumable = inl refl; jobs = λ r row there may. record { each = all_tell c.args.runners.now } }) (c.makeflow_top.result.records, refl) in
    subst (λ (fs : Files). Adds (Unit {0}) joins FailsWith (read_sources ask.plan fs) ask.plan [] c.makeflow_top.result.records) c.requires.files said

pub returns-clause-completes : goal.returns-clause-completes
returns-clause-completes g c sure site sink =
    let none : c.as_slice.result.now ≡ [] = search rules in
    let is = is_requested c.args.words.now c.as_slice.result.now (files_of c.args.site) c.requires.words none c.requires.files in
    let spelled : Spells [] (files_of c.args.site ask.log) = subst (λ (fs : Files). Spells [] (fs ask.log)) (sym c.requires.files) (inl tt) in
    let same : length c.makeflow_top.new.runners ≡ length c.args.runners.now = search rules in
    completes_over c.args.runners.now c.args.site (files_of c.args.site) c.makeflow_top.result.cause c.requires.files sure
    site (same_counts c.makeflow_top.new.runners c.args.runners.now same) sink
    (c.makeflow_top.ensures.ends.by_trust tt ask is [] spelled).completes
