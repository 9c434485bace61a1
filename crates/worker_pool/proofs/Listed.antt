-- What is heard of a list of jobs.
use Rattle.std.proofs.Common.{◌≡◌, ◌≤◌, ◌<◌, ◌+◌, ℕ, Bool, true, false, cond, List, [], ◌∷◌, ◌++◌, length, refl, sym, ap, ◌∙◌, subst, arith, append-nil, append_assoc, length-append}
use Rattle.std.specs.Prelude.{nat_lt, if◌then◌else◌}
use Rattle.std.proofs.lemmas.Bool.Decides.{nat_tests}
use Rattle.flow_types.specs.declared.job.Job.{Job}
use Rattle.flow_types.specs.declared.job.Outcome.{Outcome}
use Rattle.flow_types.specs.declared.job.Start.{Start}
use Rattle.flow_types.specs.declared.job.Report.{Report}
use Rattle.worker_pool.specs.declared.step.Step.{Step}
use Rattle.worker_pool.specs.declared.step.Step.TheVariants.{Give, Look, Done}
use Rattle.worker_pool.specs.declared.step.Event.{Event}
use Rattle.worker_pool.specs.declared.step.Event.TheVariants.{Asked, Heard}
use Rattle.worker_pool.specs.declared.hand.Tally.{Tally}
use Rattle.worker_pool.specs.Courses.{Runs, Plays, TakesOut, heard_of}
use Rattle.worker_pool.specs.Tallies.{plus, tally_of}
use Rattle.worker_pool.specs.Steers.{Steered}
use Rattle.worker_pool.specs.Lists.{IsAsked, IsTold, JobsState, Reported, reported_of}

is_less : (n m : ℕ) → n < m → nat_lt n m ≡ true
is_less n m h = grind (arith, nat_tests)

abbrev Listed : (Job → Outcome → Type 0) → List Event → JobsState → JobsState → List Start → Type 0
Listed fits events c d waiting = (rs : List Report) × (d.reports ≡ c.reports ++ rs) × Reported fits (waiting ++ c.left) rs × (heard_of events ≡ reported_of rs)

-- What was heard from here on are reports of the jobs that were out and of those that were left.
pub listed : (fits : Job → Outcome → Type 0) (events : List Event) (c d : JobsState) (waiting : List Start) (done last : Bool) → Runs IsAsked IsTold c events d → Plays fits done waiting events last [] → d.left ≡ []
    → length c.reports + length waiting + length c.left ≤ c.room → Listed fits events c d waiting
listed fits [] c d waiting done last runs plays over room =
    let gone : waiting ++ c.left ≡ [] = ap (λ (l : List Start). l ++ c.left) plays.1 ∙ (ap (λ (x : JobsState). x.left) runs ∙ over) in
    ([], ap (λ (x : JobsState). x.reports) (sym runs) ∙ sym (append-nil c.reports), gone, refl)
listed fits (Asked (Give start) ∷ events) c d waiting done last runs plays over room =
    let next : JobsState = runs.0 in
    let was : c ≡ record next { left = start ∷ next.left } = runs.1 in
    let left : c.left ≡ start ∷ next.left = ap (λ (x : JobsState). x.left) was in
    let reports : c.reports ≡ next.reports = ap (λ (x : JobsState). x.reports) was in
    let rooms : c.room ≡ next.room = ap (λ (x : JobsState). x.room) was in
    let long = length-append waiting (start ∷ []) in
    let r = listed fits events next d (waiting ++ (start ∷ [])) false last runs.2 plays.2 over (omega (arith, room, long, ap length left, ap length reports, rooms)) in
    let moved : (waiting ++ (start ∷ [])) ++ next.left ≡ waiting ++ c.left = append_assoc waiting (start ∷ []) next.left ∙ ap (λ (l : List Start). waiting ++ l) (sym left) in
    (r.0, r.1 ∙ ap (λ (l : List Report). l ++ r.0) (sym reports), subst (λ (l : List Start). Reported fits l r.0) moved r.2, r.3)
listed fits (Asked Look ∷ events) c d waiting done last runs plays over room = absurd (runs.1)
listed fits (Asked Done ∷ events) c d waiting done last runs plays over room =
    let next : JobsState = runs.0 in
    let same : next ≡ c = runs.1.0 in
    let r = listed fits events next d waiting true last runs.2 plays.1 over (subst (λ (x : JobsState). length x.reports + length waiting + length x.left ≤ x.room) (sym same) room) in
    (r.0, r.1 ∙ ap (λ (x : JobsState). x.reports ++ r.0) same, subst (λ (x : JobsState). Reported fits (waiting ++ x.left) r.0) same r.2, r.3)
listed fits (Heard report ∷ events) c d waiting done last runs plays over room =
    let next : JobsState = runs.0 in
    let start : Start = plays.0 in
    let rest : List Start = plays.1 in
    let out : TakesOut start waiting rest = plays.2 in
    let front : List Start = out.0 in
    let back : List Start = out.1 in
    let less : length c.reports < c.room = omega (arith, room, ap length out.2, length-append front (start ∷ back)) in
    let told : next ≡ record c { reports = if nat_lt (length c.reports) c.room then c.reports ++ (report ∷ []) else c.reports } = runs.1 in
    let reports : next.reports ≡ c.reports ++ (report ∷ []) = ap (λ (x : JobsState). x.reports) told ∙ ap (λ b. if b then c.reports ++ (report ∷ []) else c.reports) (is_less (length c.reports) c.room less) in
    let left : next.left ≡ c.left = ap (λ (x : JobsState). x.left) told in
    let rooms : next.room ≡ c.room = ap (λ (x : JobsState). x.room) told in
    let r = listed fits events next d rest done last runs.2 plays.5 over
    (omega (arith, room, ap length out.2, ap length out.3, length-append front (start ∷ back), length-append front back, ap length reports, length-append c.reports (report ∷ []), ap length left, rooms)) in
    let here : waiting ++ c.left ≡ front ++ (start ∷ (back ++ c.left)) = ap (λ (l : List Start). l ++ c.left) out.2 ∙ append_assoc front (start ∷ back) c.left in
    let there : rest ++ next.left ≡ front ++ (back ++ c.left) = ap (λ (l : List Start). l ++ next.left) out.3 ∙ (append_assoc front back next.left ∙ ap (λ (l : List Start). front ++ (back ++ l)) left) in (
      report ∷ r.0,
      r.1 ∙ (ap (λ (l : List Report). l ++ r.0) reports ∙ append_assoc c.reports (report ∷ []) r.0),
      (start, rest ++ next.left, (front, back ++ c.left, here, there), plays.3, plays.4, r.2),
      ap (plus (tally_of report.outcome)) r.3,
    )

-- the whole of a list
pub listed_all : (due : JobsState → Start → Type 0) (fits : Job → Outcome → Type 0) (jobs : List Start) (first last : JobsState) (done : Bool) (waiting : List Start) (heard : Tally) (result : List Report)
    → first ≡ record { left = jobs; reports = []; room = length jobs } → Steered IsAsked IsTold due fits first last done waiting heard → waiting ≡ [] → last.left ≡ [] → result ≡ last.reports
    → Reported fits jobs result × (reported_of result ≡ heard)
listed_all due fits jobs first last done waiting lost result begins steered none over is =
    let plays : Plays fits false [] steered.events done [] = subst (λ (w : List Start). Plays fits false [] steered.events done w) none steered.plays in
    let left : first.left ≡ jobs = ap (λ (x : JobsState). x.left) begins in
    let reports : first.reports ≡ [] = ap (λ (x : JobsState). x.reports) begins in
    let rooms : first.room ≡ length jobs = ap (λ (x : JobsState). x.room) begins in
    let l = listed fits steered.events first last [] false done steered.runs plays over (omega (arith, ap (λ (r : List Report). length r) reports, ap (λ (s : List Start). length s) left, rooms)) in
    let same : result ≡ l.0 = is ∙ (l.1 ∙ ap (λ (r : List Report). r ++ l.0) reports) in (
      subst (λ (s : List Start). Reported fits s result) left (subst (λ (r : List Report). Reported fits first.left r) (sym same) l.2),
      ap reported_of same ∙ (sym l.3 ∙ steered.heard_is),
    )
