-- That the premises hold.
use Rattle.std.proofs.Common.{◌≡◌, ◌∙◌, ◌≤◌, inl, ℕ, zero, suc, true, false, List, [], ◌∷◌, length, Option, Some, None, Result, Ok, refl, sym, subst, ap, arith, map, sum_by, String, Global}
use Rattle.std.specs.Prelude.{codes, ok_or, string_bytes, unwrap_or}
use Rattle.flow_types.specs.declared.flow.RawFlow.{RawFlow}
use Rattle.flow_types.specs.declared.plan.Plan.{Plan}
use Rattle.flow_types.specs.Plans.{is_source, most_bytes, most_input_bytes, takes}
use Rattle.flow_types.specs.Serial.{serial}
use Rattle.mf_rules.specs.Flow.{given_pairs}
use Rattle.mf_text.specs.declared.fault.MakeFault.{MakeFault}
use Rattle.rule_graph.specs.declared.faults.GraphFault.{GraphFault}
use Rattle.rule_graph.specs.Faults.{plan_of}
use Rattle.command_words.specs.declared.options.Options.{Options}
use Rattle.outside.specs.Files.{Files}
use Rattle.file_store.specs.Outputs.{file_name}
use Rattle.worker_pool.specs.Hands.{AllHave}
use Rattle.report.specs.declared.cause.Cause.{Cause}
use Rattle.report.specs.declared.cause.Cause.TheVariants.{Usage}
use Rattle.master_run.specs.declared.ask.Ask.{Ask}
use Rattle.master_run.specs.Asked.{ask_by, asked, asked_by, checked, read_make, read_rules, request, run_options}
use Rattle.master_run.specs.Counts.{Counts}
use Rattle.master_run.specs.Ends.{NoneRose}
use Rattle.master_run.specs.Serves.{CanComplete, Completes}
use Rattle.master_run.specs.Words.{and_then}
use Rattle.mem_commands.specs.declared.runner.JoinedRunner.{JoinedRunner}
use Rattle.mem_outside.specs.declared.mem_site.MemSite.{MemSite}
use Rattle.mem_outside.specs.MemSite.{leaves_of}
use Rattle.worked_run.specs.Premises.{AreSure, AreTold, Meets, PremisesHold, RunsComplete, ask, entry_sources}
use Rattle.worked_run.specs.Worked.{call_words, chosen_options, entry_files, flow, flow_bytes, joins, plan}
use Rattle.worked_run.proofs.Reading.{planned, text, words}

-- what is asked for where the plan of the flow is this one
abbrev asked_for : Result Plan Cause → Result Ask Cause
asked_for planned = ask_by chosen_options (and_then planned (checked chosen_options.log (Some (codes "flow")) (run_options chosen_options)))

is_asked : asked call_words [] entry_files ≡ Ok ask
is_asked =
    ap (λ (o : Option Options). and_then (ok_or o Usage) (asked_by [] entry_files)) words
    ∙ ap (λ (r : Result RawFlow MakeFault). asked_for (and_then (read_make (codes "flow") r) (λ raw. read_rules (codes "flow") (plan_of raw)))) text
    ∙ ap (λ (p : Result Plan GraphFault). asked_for (read_rules (codes "flow") p)) planned

-- the same of a call's own words, variables and files
pub is_requested : (words : List (String Global)) (env : List (String Global × String Global)) (files : Files) → map string_bytes words ≡ call_words → env ≡ [] → files ≡ entry_files
    → request words env files ≡ Ok ask
is_requested words env files word none file =
    subst (λ (fs : Files). request words env fs ≡ Ok ask) (sym file)
    (subst (λ (es : List (String Global × String Global)). asked (map string_bytes words) (given_pairs es) entry_files ≡ Ok ask) (sym none)
    (subst (λ (ws : List (List ℕ)). asked ws [] entry_files ≡ Ok ask) (sym word) is_asked))

-- runners of the same number have the same counts
pub same_counts : (one two : List JoinedRunner) → length one ≡ length two → map {B = ℕ} (λ (runner : JoinedRunner). 0) one ≡ map {B = ℕ} (λ (runner : JoinedRunner). 0) two
same_counts [] [] same = refl
same_counts [] (x ∷ two) same = absurd (let wrong : ⊥ = grind arith in wrong)
same_counts (x ∷ one) [] same = absurd (let wrong : ⊥ = grind arith in wrong)
same_counts (x ∷ one) (y ∷ two) same = ap (λ (counts : List ℕ). 0 ∷ counts) (same_counts one two (let less : length one ≡ length two = grind arith in less))

-- each of any runners tells
pub all_tell : (runners : List JoinedRunner) → AllHave (λ runner. Unit {0}) runners
all_tell [] = tt
all_tell (runner ∷ runners) = (tt, all_tell runners)

has_sources : (f : ℕ) → is_source plan f ≡ true → (bytes : List ℕ) × (entry_files (file_name plan f) ≡ Some bytes) × (length bytes ≤ most_bytes)
has_sources zero is = (codes "abc", refl, omega arith)
has_sources (suc zero) is = absurd (let wrong : ⊥ = cc in wrong)
has_sources (suc (suc zero)) is = absurd (let wrong : ⊥ = cc in wrong)
has_sources (suc (suc (suc f))) is = absurd (let wrong : ⊥ = cc in wrong)

inputs_fit : (r : ℕ) → sum_by (λ f. length (unwrap_or (serial plan joins entry_sources f) [])) (takes plan r) ≤ most_input_bytes
inputs_fit zero = omega arith
inputs_fit (suc zero) = omega arith
inputs_fit (suc (suc r)) = omega arith

pub premises_hold : PremisesHold
premises_hold runners site = record {
  asked = is_asked;
  spelled = inl tt;
  resumable = inl refl;
  told = λ r row there may. record { each = all_tell runners };
  here = refl;
  runs = refl;
  unlimited = refl;
  free = refl;
  sources = has_sources;
  fit = inputs_fit;
  room = omega arith;
}

pub runs_complete : RunsComplete
runs_complete runners site before after cause sure stood can =
    let met = premises_hold runners site in
    can met.here met.runs met.resumable met.free met.sources met.fit met.room sure met.told stood

-- the same over files that are those
pub completes_over : {before after : Counts} (runners : List JoinedRunner) (site : MemSite) (files : Files) (cause : Cause) → files ≡ entry_files → AreSure runners
    → after.site ≡ before.site → after.runners ≡ before.runners → after.sink ≡ before.sink
    → CanComplete joins (AreTold runners) (AreSure runners) ask files (leaves_of site) [] before after cause → Completes None cause
completes_over {before} {after} runners site files cause are sure stood counts sink can =
    runs_complete runners site before after cause sure (record { site = stood; runners = counts; sink = sink })
    (subst (λ (fs : Files). CanComplete joins (AreTold runners) (AreSure runners) ask fs (leaves_of site) [] before after cause) are can)
