-- One stage of a call after another.
use Rattle.std.proofs.Common.{◌≡◌, ℕ, true, false, List, Option, Some, None, Result, Ok, Err, refl, sym, ap, subst}
use Rattle.flow_types.specs.declared.plan.Plan.{Plan}
use Rattle.report.specs.declared.cause.Cause.{Cause}
use Rattle.master_run.specs.declared.asking.Refusal.{Refusal}
use Rattle.master_run.specs.declared.asking.Refusal.TheVariants.{Said, Site, Memory}
use Rattle.flow_types.specs.declared.flow.RawFlow.{RawFlow}
use Rattle.command_words.specs.declared.options.Options.{Options}
use Rattle.mf_text.specs.declared.fault.MakeFault.{MakeFault}
use Rattle.mf_text.specs.declared.fault.MakeFault.TheVariants as make
use Rattle.mf_text.specs.Answers.{Fails as FailsText}
use Rattle.jx_flow.specs.declared.fault.JxFlowFault.{JxFlowFault}
use Rattle.jx_flow.specs.declared.fault.JxFlowFault.TheVariants as jx
use Rattle.jx_flow.specs.Answers.{Fails as FailsJx}
use Rattle.rule_graph.specs.declared.faults.GraphFault.{GraphFault}
use Rattle.rule_graph.specs.declared.faults.GraphFault.TheVariants as graph
use Rattle.rule_graph.specs.Answers.{Fails as FailsRules}
use Rattle.master_run.specs.Words.{and_then, flow_name}
use Rattle.master_run.specs.Asked.{read_make, read_jx, read_rules}
use Rattle.master_run.specs.Stages.{Stage, WordsStage, OfFlow, SaysRefusal, make_refusal, jx_refusal, graph_refusal}

true_is_false : true ≡ false → ⊥
true_is_false wrong = cc

none_is_some : {A : Type 0} (x : A) → (let none : Option A = None in none ≡ Some x) → ⊥
none_is_some x wrong = cc

-- a stage behind one that was passed
pub passed : {T U : Type 0} (first : Result T Cause) (next : T → Result U Cause) (value : T) (result : Result U Refusal) → first ≡ Ok value → Stage (next value) result → Stage (and_then first next) result
passed first next value result is stage = let P : Result _ Cause → Type 0 = λ r. Stage (and_then r next) result in subst P (sym is) stage

-- a stage that refuses ends those behind it too
pub stopped : (T U : Type 0) (first : Result T Cause) (next : T → Result U Cause) (refusal : Refusal) → Stage {T = T} first (Err refusal) → Stage {T = U} (and_then first next) (Err refusal)
stopped T U first next (Said cause) is = ap (λ r. and_then r next) is
stopped T U first next Site is = tt
stopped T U first next Memory is = tt

-- a text that is refused
pub refused_text : (name : List ℕ) (fault : MakeFault) (given : Result RawFlow MakeFault) (next : RawFlow → Result Plan Cause) → FailsText fault given
    → Stage {T = Plan} (and_then (read_make name given) next) (Err (make_refusal name fault))
refused_text name (make.NotUtf8 at) given next is = ap (λ g. and_then (read_make name g) next) is
refused_text name (make.OpenQuote line) given next is = ap (λ g. and_then (read_make name g) next) is
refused_text name (make.UnknownName line text) given next is = ap (λ g. and_then (read_make name g) next) is
refused_text name (make.OpenParen line) given next is = ap (λ g. and_then (read_make name g) next) is
refused_text name (make.NoColon line) given next is = ap (λ g. and_then (read_make name g) next) is
refused_text name (make.NoCommand line) given next is = ap (λ g. and_then (read_make name g) next) is
refused_text name (make.StrayCommand line) given next is = ap (λ g. and_then (read_make name g) next) is
refused_text name (make.BadNumber line) given next is = ap (λ g. and_then (read_make name g) next) is
refused_text name (make.TooLarge limit) given next is = ap (λ g. and_then (read_make name g) next) is
refused_text name make.Memory given next is = tt

-- a JX text that is refused
pub refused_jx : (name : List ℕ) (fault : JxFlowFault) (given : Result RawFlow JxFlowFault) (next : RawFlow → Result Plan Cause) → FailsJx fault given
    → Stage {T = Plan} (and_then (read_jx name given) next) (Err (jx_refusal name fault))
refused_jx name (jx.Syntax e) given next is = ap (λ g. and_then (read_jx name g) next) is
refused_jx name (jx.Evaluation e) given next is = ap (λ g. and_then (read_jx name g) next) is
refused_jx name (jx.MissingField rule field) given next is = ap (λ g. and_then (read_jx name g) next) is
refused_jx name (jx.FieldKind rule field) given next is = ap (λ g. and_then (read_jx name g) next) is
refused_jx name (jx.UnknownCategory rule) given next is = ap (λ g. and_then (read_jx name g) next) is
refused_jx name (jx.TooLarge limit) given next is = ap (λ g. and_then (read_jx name g) next) is
refused_jx name jx.Memory given next is = tt

-- rules that are refused
pub refused_rules : (name : List ℕ) (fault : GraphFault) (given : Result Plan GraphFault) → FailsRules fault given → Stage {T = Plan} (read_rules name given) (Err (graph_refusal name fault))
refused_rules name (graph.TooMany limit) given is = ap (read_rules name) is
refused_rules name (graph.BadName rule text) given is = ap (read_rules name) is
refused_rules name (graph.NoOutput rule) given is = ap (read_rules name) is
refused_rules name (graph.SameName rule other) given is = ap (read_rules name) is
refused_rules name (graph.NestedName folder other) given is = ap (read_rules name) is
refused_rules name (graph.TwoMakers made rule other) given is = ap (read_rules name) is
refused_rules name (graph.Cycle rules) given is = ap (read_rules name) is
refused_rules name graph.Memory given is = tt

-- what a refused text says
pub text_says : (name : List ℕ) (fault : MakeFault) → (let answer : Result Plan Refusal = Err (make_refusal name fault) in OfFlow name answer × (SaysRefusal answer × ((make_refusal name fault ≡ Site) → ⊥)))
text_says name (make.NotUtf8 at) = (refl, (refl, λ wrong. cc))
text_says name (make.OpenQuote line) = (refl, (refl, λ wrong. cc))
text_says name (make.UnknownName line text) = (refl, (refl, λ wrong. cc))
text_says name (make.OpenParen line) = (refl, (refl, λ wrong. cc))
text_says name (make.NoColon line) = (refl, (refl, λ wrong. cc))
text_says name (make.NoCommand line) = (refl, (refl, λ wrong. cc))
text_says name (make.StrayCommand line) = (refl, (refl, λ wrong. cc))
text_says name (make.BadNumber line) = (refl, (refl, λ wrong. cc))
text_says name (make.TooLarge limit) = (refl, (refl, λ wrong. cc))
text_says name make.Memory = (tt, (tt, λ wrong. cc))

-- what a refused JX text says
pub jx_says : (name : List ℕ) (fault : JxFlowFault) → (let answer : Result Plan Refusal = Err (jx_refusal name fault) in OfFlow name answer × (SaysRefusal answer × ((jx_refusal name fault ≡ Site) → ⊥)))
jx_says name (jx.Syntax e) = (refl, (refl, λ wrong. cc))
jx_says name (jx.Evaluation e) = (refl, (refl, λ wrong. cc))
jx_says name (jx.MissingField rule field) = (refl, (refl, λ wrong. cc))
jx_says name (jx.FieldKind rule field) = (refl, (refl, λ wrong. cc))
jx_says name (jx.UnknownCategory rule) = (refl, (refl, λ wrong. cc))
jx_says name (jx.TooLarge limit) = (refl, (refl, λ wrong. cc))
jx_says name jx.Memory = (tt, (tt, λ wrong. cc))

-- what refused rules say
pub rules_say : (name : List ℕ) (fault : GraphFault) → (let answer : Result Plan Refusal = Err (graph_refusal name fault) in OfFlow name answer × (SaysRefusal answer × ((graph_refusal name fault ≡ Site) → ⊥)))
rules_say name (graph.TooMany limit) = (refl, (refl, λ wrong. cc))
rules_say name (graph.BadName rule text) = (refl, (refl, λ wrong. cc))
rules_say name (graph.NoOutput rule) = (refl, (refl, λ wrong. cc))
rules_say name (graph.SameName rule other) = (refl, (refl, λ wrong. cc))
rules_say name (graph.NestedName folder other) = (refl, (refl, λ wrong. cc))
rules_say name (graph.TwoMakers made rule other) = (refl, (refl, λ wrong. cc))
rules_say name (graph.Cycle rules) = (refl, (refl, λ wrong. cc))
rules_say name graph.Memory = (tt, (tt, λ wrong. cc))

-- the words, behind a stage that speaks of their flow
pub words_of_flow : (words : Result Options Cause) (options : Options) (name : List ℕ) (result : Result Plan Refusal) → words ≡ Ok options → name ≡ flow_name options.flow → OfFlow name result → WordsStage words result
words_of_flow words options name result is named says = let P : Result Options Cause → Type 0 = λ w. WordsStage w result in subst P (sym is) (by_result result (let Q : List ℕ → Type 0 = λ n. OfFlow n result in subst Q named says))
  where
    by_result : (r : Result Plan Refusal) → OfFlow (flow_name options.flow) r → WordsStage (let chosen : Result Options Cause = Ok options in chosen) r
    by_result (Ok plan) says = refl
    by_result (Err (Said cause)) says = says
    by_result (Err Site) says = refl
    by_result (Err Memory) says = tt
