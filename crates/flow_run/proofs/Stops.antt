-- From why the run of a desk stopped to how it ended.
use Rattle.std.specs.Prelude.{IfErr, IfOk}
use Rattle.std.proofs.Common.{◌≡◌, ◌<◌, ◌∙◌, ◌⊎◌, ⊎_elim, inl, inr, ℕ, List, [], ◌∷◌, ◌++◌, Option, None, Result, Ok, Err, arith, refl, subst, sym}
use mathlib.Core.List.{IsPrefix}
use Rattle.std.proofs.lemmas.List.{append-nil}
use Rattle.flow_types.specs.declared.plan.Plan.{Plan}
use Rattle.flow_types.specs.declared.numbers.Content.{Content}
use Rattle.flow_types.specs.declared.numbers.LinkNo.{LinkNo}
use Rattle.flow_types.specs.declared.job.Job.{Job}
use Rattle.flow_types.specs.declared.job.Failure.{Failure}
use Rattle.flow_types.specs.declared.records.Record.{Record}
use Rattle.flow_types.specs.Serial.{Contents, Function}
use Rattle.run_history.specs.declared.answers.Check.{Check}
use Rattle.run_history.specs.declared.moves.Move.{Move}
use Rattle.run_history.specs.declared.options.Options.{Options}
use Rattle.run_history.specs.Admissions.{Admitting}
use Rattle.run_history.specs.Links.{records_of}
use Rattle.outside.specs.Disk.{Outcomes}
use Rattle.outside.specs.Files.{Files}
use Rattle.desk.specs.declared.answers.Trouble.{Trouble}
use Rattle.desk.specs.declared.answers.Trouble.TheVariants as trouble
use Rattle.desk.specs.Kept.{WasKept}
use Rattle.desk.specs.State.{DeskState, HasCounts, IsCut, IsFine}
use Rattle.desk.proofs.Keeping.{not_cut}
use Rattle.local_run.specs.declared.halt.Halt.{Halt}
use Rattle.local_run.specs.declared.halt.Halt.TheVariants as halts
use Rattle.local_run.specs.declared.ended.Stopped.{Stopped}
use Rattle.local_run.specs.declared.ended.Stopped.TheVariants as stopped
use Rattle.local_run.specs.Course.{Closed, GoesOn, HaltsBy, IsBroken}
use Rattle.local_run.specs.Ends.{IsSureEnd, IsSureHalt, IsWholeRun, RunDamage, StartEnds}
use Rattle.local_run.specs.Runs.{HasCauses, IsClosedRun, IsCutRun, IsHallEnd, IsRefusedRun, IsUnmetRun, ended_by}
use Rattle.wq_run.specs.Ends.{AreBack, EndsHere, EndsWaiting, IsSparedRunners, StopsBy}

-- ---- of a run with workers

-- an end at a desk, told by the records of its log
pub waits_logged : (A : Admitting) (P : Plan) (O : Options) (limit rise : ℕ) (M : List Move) (how : Result Check Stopped) → IfOk how (EndsHere A P O limit rise M) → IfOk how (EndsWaiting A P O limit rise (records_of M))
waits_logged A P O limit rise M (Ok check) ends = ends.ends
waits_logged A P O limit rise M (Err why) ends = tt

-- ---- of a run without workers

-- why it stopped, where no hall has to do with it
pub stops_here : {S : Type 0} (d after : DeskState S) (before now hall : ℕ) (r : Result Check Halt) → HaltsBy after.trouble before now r → Closed d after r → StopsBy after.trouble before now hall hall (ended_by r)
stops_here {S} d after before now hall (Ok check) halts closed = closed.0
stops_here {S} d after before now hall (Err halt) halts closed = halts

-- sure runners don't stop it
pub spared_here : (r : Result Check Halt) (sure : Type 0) → IfErr r (λ halt. sure → IsSureHalt halt) → sure → IsSparedRunners (ended_by r)
spared_here (Ok check) sure never is = tt
spared_here (Err (halts.Damaged file logged found)) sure never is = tt
spared_here (Err halts.Runner) sure never is = never is
spared_here (Err halts.Site) sure never is = tt
spared_here (Err halts.Memory) sure never is = tt

-- what its end answers where no stop was set
pub ends_here : {S : Type 0} (d after : DeskState S) (r : Result Check Halt) (Q : Check → Type 0) → d.stop ≡ None → Closed d after r → IfOk r (λ check. after.stop ≡ None → Q check) → IfOk (ended_by r) Q
ends_here {S} d after (Ok check) Q unset closed ends = ends (closed.1 ∙ unset)
ends_here {S} d after (Err halt) Q unset closed ends = tt

-- no hall failed
pub no_hall : (r : Result Check Halt) → IsHallEnd (ended_by r) → ⊥
no_hall (Ok check) is = is
no_hall (Err halt) is = is

-- nothing was given and nothing handed back
pub back_as : {L : Type 0} (got got_now : List (Option LinkNo × L)) (given given_now : ℕ) → got_now ≡ got → given_now ≡ given → AreBack got got_now given given_now
back_as {L} got got_now given given_now same many = record {
  more = [];
  are = same ∙ sym (append-nil got);
  many = omega (arith, many);
  apart = λ k. omega arith;
}

pub back_same : {L : Type 0} (got : List (Option LinkNo × L)) (given : ℕ) → AreBack got got given given
back_same got given = back_as got got given given refl refl

-- a run that didn't start stopped by no runner
pub refused_spared : (how : Result Check Stopped) → IsRefusedRun how → IsSparedRunners how
refused_spared (Ok check) refused = absurd refused
refused_spared (Err (stopped.Refused why)) refused = tt
refused_spared (Err (stopped.Halted halt)) refused = absurd refused
refused_spared (Err stopped.Hall) refused = absurd refused
refused_spared (Err (stopped.Unheard fault)) refused = tt
refused_spared (Err (stopped.Unopened fault)) refused = tt

-- nor for a damaged input
pub refused_damage : (P : Plan) (H : List Record) (files : Files) (how : Result Check Stopped) → IsRefusedRun how → RunDamage P H files how
refused_damage P H files (Ok check) refused = absurd refused
refused_damage P H files (Err (stopped.Refused why)) refused = tt
refused_damage P H files (Err (stopped.Halted halt)) refused = absurd refused
refused_damage P H files (Err stopped.Hall) refused = absurd refused
refused_damage P H files (Err (stopped.Unheard fault)) refused = tt
refused_damage P H files (Err (stopped.Unopened fault)) refused = tt

pub refused_whole : (how : Result Check Stopped) → IsRefusedRun how → IsWholeRun how
refused_whole (Ok check) refused = absurd refused
refused_whole (Err (stopped.Refused why)) refused = tt
refused_whole (Err (stopped.Halted halt)) refused = absurd refused
refused_whole (Err stopped.Hall) refused = absurd refused
refused_whole (Err (stopped.Unheard fault)) refused = tt
refused_whole (Err (stopped.Unopened fault)) refused = tt

-- nor by a failed command
pub refused_sure : (how : Result Check Stopped) → IsRefusedRun how → IsSureEnd how
refused_sure (Ok check) refused = absurd refused
refused_sure (Err (stopped.Refused why)) refused = tt
refused_sure (Err (stopped.Halted halt)) refused = absurd refused
refused_sure (Err stopped.Hall) refused = absurd refused
refused_sure (Err (stopped.Unheard fault)) refused = tt
refused_sure (Err (stopped.Unopened fault)) refused = tt

-- and none was closed
pub refused_unclosed : (how : Result Check Stopped) → IsRefusedRun how → IsClosedRun how → ⊥
refused_unclosed (Ok check) refused closed = absurd refused
refused_unclosed (Err (stopped.Refused why)) refused closed = closed
refused_unclosed (Err (stopped.Halted halt)) refused closed = absurd refused
refused_unclosed (Err stopped.Hall) refused closed = absurd refused
refused_unclosed (Err (stopped.Unheard fault)) refused closed = closed
refused_unclosed (Err (stopped.Unopened fault)) refused closed = closed

-- where no hall was asked for anything the run didn't start
pub unmet_refused : (how : Result Check Stopped) → IsUnmetRun how → IsRefusedRun how
unmet_refused (Ok check) unmet = unmet
unmet_refused (Err (stopped.Refused why)) unmet = tt
unmet_refused (Err (stopped.Halted halt)) unmet = unmet
unmet_refused (Err stopped.Hall) unmet = unmet
unmet_refused (Err (stopped.Unheard fault)) unmet = absurd unmet
unmet_refused (Err (stopped.Unopened fault)) unmet = absurd unmet

-- ---- of both

-- where the run isn't cut short the desk works
pub fine_stop : (t : Trouble) (before now hall_before hall_now : ℕ) (how : Result Check Stopped) → StopsBy t before now hall_before hall_now how → (IsCutRun how → ⊥) → IsFine t
fine_stop t before now hb hn (Ok check) stops whole = stops
fine_stop t before now hb hn (Err (stopped.Refused why)) stops whole = absurd stops
fine_stop t before now hb hn (Err (stopped.Halted (halts.Damaged file logged found))) stops whole = stops
fine_stop t before now hb hn (Err (stopped.Halted halts.Runner)) stops whole = stops.0
fine_stop t before now hb hn (Err (stopped.Halted halts.Site)) stops whole = absurd (whole tt)
fine_stop t before now hb hn (Err (stopped.Halted halts.Memory)) stops whole = absurd (whole tt)
fine_stop t before now hb hn (Err stopped.Hall) stops whole = stops.0
fine_stop t before now hb hn (Err (stopped.Unheard fault)) stops whole = absurd stops
fine_stop t before now hb hn (Err (stopped.Unopened fault)) stops whole = absurd stops

cut_stop : (t : Trouble) (before now hall_before hall_now : ℕ) (how : Result Check Stopped) → StopsBy t before now hall_before hall_now how → IsCut t → IsCutRun how
cut_stop t before now hb hn (Ok check) stops cut = not_cut t stops cut
cut_stop t before now hb hn (Err (stopped.Refused why)) stops cut = absurd stops
cut_stop t before now hb hn (Err (stopped.Halted (halts.Damaged file logged found))) stops cut = not_cut t stops cut
cut_stop t before now hb hn (Err (stopped.Halted halts.Runner)) stops cut = not_cut t stops.0 cut
cut_stop t before now hb hn (Err (stopped.Halted halts.Site)) stops cut = tt
cut_stop t before now hb hn (Err (stopped.Halted halts.Memory)) stops cut = tt
cut_stop t before now hb hn (Err stopped.Hall) stops cut = not_cut t stops.0 cut
cut_stop t before now hb hn (Err (stopped.Unheard fault)) stops cut = absurd stops
cut_stop t before now hb hn (Err (stopped.Unopened fault)) stops cut = absurd stops

rose : (first now : ℕ) (t : Trouble) → IsBroken t → HasCounts first now t → first < now
rose first now trouble.Fine broken counts = absurd broken
rose first now (trouble.Broken before after) broken counts = let start = counts.0 in let up = counts.1 in let le = counts.2 in omega (arith, start, up, le)
rose first now trouble.Wants broken counts = absurd broken

pub causes_stop : (first now before after hall_before hall_now : ℕ) (t : Trouble) (how : Result Check Stopped) → StopsBy t before after hall_before hall_now how → HasCounts first now t → HasCauses first now before after how
causes_stop first now before after hb hn t (Ok check) stops counts = tt
causes_stop first now before after hb hn t (Err (stopped.Refused why)) stops counts = absurd stops
causes_stop first now before after hb hn t (Err (stopped.Halted (halts.Damaged file logged found))) stops counts = tt
causes_stop first now before after hb hn t (Err (stopped.Halted halts.Runner)) stops counts = stops.1
causes_stop first now before after hb hn t (Err (stopped.Halted halts.Site)) stops counts = rose first now t stops counts
causes_stop first now before after hb hn t (Err (stopped.Halted halts.Memory)) stops counts = tt
causes_stop first now before after hb hn t (Err stopped.Hall) stops counts = tt
causes_stop first now before after hb hn t (Err (stopped.Unheard fault)) stops counts = absurd stops
causes_stop first now before after hb hn t (Err (stopped.Unopened fault)) stops counts = absurd stops

-- the run of a desk that was started isn't refused
pub started_stop : (t : Trouble) (before now hall_before hall_now : ℕ) (how : Result Check Stopped) → StopsBy t before now hall_before hall_now how → IsRefusedRun how → ⊥
started_stop t before now hb hn (Ok check) stops refused = refused
started_stop t before now hb hn (Err (stopped.Refused why)) stops refused = stops
started_stop t before now hb hn (Err (stopped.Halted halt)) stops refused = refused
started_stop t before now hb hn (Err stopped.Hall) stops refused = refused
started_stop t before now hb hn (Err (stopped.Unheard fault)) stops refused = stops
started_stop t before now hb hn (Err (stopped.Unopened fault)) stops refused = stops

pub starts_stop : (t : Trouble) (before now hall_before hall_now : ℕ) (how : Result Check Stopped) → StopsBy t before now hall_before hall_now how → StartEnds None how
starts_stop t before now hb hn (Ok check) stops = refl
starts_stop t before now hb hn (Err (stopped.Refused why)) stops = absurd stops
starts_stop t before now hb hn (Err (stopped.Halted halt)) stops = refl
starts_stop t before now hb hn (Err stopped.Hall) stops = refl
starts_stop t before now hb hn (Err (stopped.Unheard fault)) stops = absurd stops
starts_stop t before now hb hn (Err (stopped.Unopened fault)) stops = absurd stops

-- the hall's count rose where it stopped by its failure
pub hall_stop : (t : Trouble) (before now hall_before hall_now : ℕ) (how : Result Check Stopped) → StopsBy t before now hall_before hall_now how → IsHallEnd how → hall_before < hall_now
hall_stop t before now hb hn (Ok check) stops is = absurd is
hall_stop t before now hb hn (Err (stopped.Refused why)) stops is = absurd is
hall_stop t before now hb hn (Err (stopped.Halted halt)) stops is = absurd is
hall_stop t before now hb hn (Err stopped.Hall) stops is = stops.1
hall_stop t before now hb hn (Err (stopped.Unheard fault)) stops is = absurd stops
hall_stop t before now hb hn (Err (stopped.Unopened fault)) stops is = absurd stops

cut_more : (fits : Plan → ℕ → Content → Option (List ℕ) → Type 0) (P : Plan) (log : List ℕ) (base : ℕ) (H : List Record) (cut cut2 : Type 0) (image : Files) → (cut → cut2) → WasKept fits P log base H cut image → WasKept fits P log base H cut2 image
cut_more fits P log base H cut cut2 image f kept = record {
  records = kept.records;
  since = kept.since;
  kept = kept.kept;
  known = ⊎_elim (λ (p : IsPrefix kept.records H). inl p) (λ (q : cut × ((x : Record) × (kept.records ≡ H ++ (x ∷ [])))). inr (f q.0, q.1)) kept.known;
}

-- what was kept at each moment
pub stop_kept : {S : Type 0} (fits : Plan → ℕ → Content → Option (List ℕ) → Type 0) (d after : DeskState S) (all : List Record) (trust : Type 0) (gives : Function) (may_fail : Job → Failure → Type 0) (sources : Contents)
    (tells : Type 0) (files : S → Files) (may_leave : S → Outcomes) (moment : S → ℕ) (images_since : S → ℕ → Files → Type 0) (links : List Move) (past : Type 0) (before now hall_before hall_now : ℕ) (how : Result Check Stopped) (image : Files)
    → all ≡ records_of after.moves → GoesOn trust gives may_fail sources tells files may_leave moment images_since links d after → StopsBy after.trouble before now hall_before hall_now how
    → past ⊎ WasKept fits after.plan after.log after.base (records_of after.moves) (IsCut after.trouble) image → past ⊎ WasKept fits d.plan d.log d.base all (IsCutRun how) image
stop_kept {S} fits d after all trust gives may_fail sources tells files may_leave moment images_since links past before now hb hn how image are goes stops left =
    ⊎_elim (λ (p : past). inl p)
    (λ (k : WasKept fits after.plan after.log after.base (records_of after.moves) (IsCut after.trouble) image). inr
    (subst (λ (P : Plan). WasKept fits P d.log d.base all (IsCutRun how) image) goes.plan
    (subst (λ (n : List ℕ). WasKept fits after.plan n d.base all (IsCutRun how) image) goes.log
    (subst (λ (b : ℕ). WasKept fits after.plan after.log b all (IsCutRun how) image) goes.base
    (subst (λ (G : List Record). WasKept fits after.plan after.log after.base G (IsCutRun how) image) (sym are)
    (cut_more fits after.plan after.log after.base (records_of after.moves) (IsCut after.trouble) (IsCutRun how) image (cut_stop after.trouble before now hb hn how stops) k)))))) left
