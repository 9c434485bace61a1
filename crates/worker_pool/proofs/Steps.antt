-- One more call of the course.
use Rattle.std.proofs.Common.{◌≡◌, ◌≢◌, ℕ, ◌+◌, Bool, true, false, List, [], ◌∷◌, ◌++◌, refl, sym, ap, ◌∙◌, subst, arith}
use Rattle.flow_types.specs.declared.job.Job.{Job}
use Rattle.flow_types.specs.declared.job.Outcome.{Outcome}
use Rattle.flow_types.specs.declared.job.Start.{Start}
use Rattle.flow_types.specs.declared.numbers.AttemptNo.{AttemptNo}
use Rattle.flow_types.specs.declared.job.Report.{Report}
use Rattle.worker_pool.specs.declared.step.Step.{Step}
use Rattle.worker_pool.specs.declared.step.Step.TheVariants.{Give, Look, Done}
use Rattle.worker_pool.specs.declared.step.Event.{Event}
use Rattle.worker_pool.specs.declared.step.Event.TheVariants.{Asked, Heard}
use Rattle.worker_pool.specs.declared.hand.Tally.{Tally}
use Rattle.worker_pool.specs.Courses.{Runs, Plays, NoneHas, TakesOut, Gives, heard_of}
use Rattle.worker_pool.specs.Tallies.{none, plus, tally_of}
use Rattle.worker_pool.specs.Steers.{AllDue, Steered}

module _ {C : Type 0} (asked : C → Step → C → Type 0) (told : C → Report → C → Type 0) where
  runs_asked : (a b c : C) (events : List Event) (step : Step) → Runs asked told a events b → asked b step c → Runs asked told a (events ++ Asked step ∷ []) c
  runs_asked a b c [] step r s = (c, subst (λ (x : C). asked x step c) (sym r) s, refl)
  runs_asked a b c (Asked first ∷ events) step r s = (r.0, r.1, runs_asked r.0 b c events step r.2 s)
  runs_asked a b c (Heard first ∷ events) step r s = (r.0, r.1, runs_asked r.0 b c events step r.2 s)

  runs_told : (a b c : C) (events : List Event) (report : Report) → Runs asked told a events b → told b report c → Runs asked told a (events ++ Heard report ∷ []) c
  runs_told a b c [] report r s = (c, subst (λ (x : C). told x report c) (sym r) s, refl)
  runs_told a b c (Asked first ∷ events) report r s = (r.0, r.1, runs_told r.0 b c events report r.2 s)
  runs_told a b c (Heard first ∷ events) report r s = (r.0, r.1, runs_told r.0 b c events report r.2 s)

same_tally : (a b : Tally) → a.unrun ≡ b.unrun → a.failed ≡ b.failed → a ≡ b
same_tally a b p q = λ i. record { unrun = p i; failed = q i }

heard_asked : (events : List Event) (step : Step) → heard_of (events ++ Asked step ∷ []) ≡ heard_of events
heard_asked [] step = refl
heard_asked (Asked first ∷ events) step = heard_asked events step
heard_asked (Heard report ∷ events) step = ap (plus (tally_of report.outcome)) (heard_asked events step)

heard_more : (events : List Event) (report : Report) → heard_of (events ++ Heard report ∷ []) ≡ plus (heard_of events) (tally_of report.outcome)
heard_more [] report = let t = tally_of report.outcome in same_tally (plus t none) (plus none t) (omega arith) (omega arith)
heard_more (Asked first ∷ events) report = heard_more events report
heard_more (Heard first ∷ events) report =
    let f = tally_of first.outcome in
    let h = heard_of events in
    let t = tally_of report.outcome in
    ap (plus f) (heard_more events report) ∙ same_tally (plus f (plus h t)) (plus (plus f h) t) (omega arith) (omega arith)

module _ (fits : Job → Outcome → Type 0) where
  plays_on : (done : Bool) (open1 : List Start) (xs ys : List Event) (mid : Bool) (open2 : List Start) (last : Bool) (open3 : List Start)
      → Plays fits done open1 xs mid open2 → Plays fits mid open2 ys last open3 → Plays fits done open1 (xs ++ ys) last open3
  plays_on done open1 [] ys mid open2 last open3 p q = subst (λ (y : Bool × List Start). Plays fits y.0 y.1 ys last open3) (λ i. (sym p.0 i, sym p.1 i)) q
  plays_on done open1 (Asked (Give start) ∷ xs) ys mid open2 last open3 p q = (p.0, p.1, plays_on false (open1 ++ start ∷ []) xs ys mid open2 last open3 p.2 q)
  plays_on done open1 (Asked Look ∷ xs) ys mid open2 last open3 p q = (p.0, plays_on false open1 xs ys mid open2 last open3 p.1 q)
  plays_on done open1 (Asked Done ∷ xs) ys mid open2 last open3 p q = (p.0, plays_on true open1 xs ys mid open2 last open3 p.1 q)
  plays_on done open1 (Heard report ∷ xs) ys mid open2 last open3 p q = (p.0, p.1, p.2, p.3, p.4, plays_on done p.1 xs ys mid open2 last open3 p.5 q)

pub all_kept : (due later : Start → Type 0) (starts : List Start) → ((s : Start) → due s → later s) → AllDue due starts → AllDue later starts
all_kept due later [] k a = tt
all_kept due later (s ∷ starts) k a = (k s a.0, a.1, all_kept due later starts k a.2)

none_among : (due : Start → Type 0) (attempt : AttemptNo) (starts : List Start) → ((s : Start) → due s → s.attempt ≢ attempt) → AllDue due starts → NoneHas attempt starts
none_among due attempt [] k a = tt
none_among due attempt (s ∷ starts) k a = (k s a.0, none_among due attempt starts k a.2)

none_snoc : (attempt : AttemptNo) (starts : List Start) (s : Start) → NoneHas attempt starts → s.attempt ≢ attempt → NoneHas attempt (starts ++ s ∷ [])
none_snoc attempt [] s n k = (k, tt)
none_snoc attempt (x ∷ starts) s n k = (n.0, none_snoc attempt starts s n.1 k)

due_snoc : (due : Start → Type 0) (starts : List Start) (s : Start) → AllDue due starts → NoneHas s.attempt starts → due s → AllDue due (starts ++ s ∷ [])
due_snoc due [] s a n d = (d, tt, tt)
due_snoc due (x ∷ starts) s a n d = (a.0, none_snoc x.attempt starts s a.1 (λ e. n.0 (sym e)), due_snoc due starts s a.2 n.1 d)

none_out : (attempt : AttemptNo) (front back : List Start) (s : Start) → NoneHas attempt (front ++ s ∷ back) → (s.attempt ≢ attempt) × NoneHas attempt (front ++ back)
none_out attempt [] back s n = (n.0, n.1)
none_out attempt (x ∷ front) back s n = let r = none_out attempt front back s n.1 in (r.0, (n.0, r.1))

-- the one that is taken out is due, and the others are due and have other attempts
due_out : (due : Start → Type 0) (front back : List Start) (s : Start) → AllDue due (front ++ s ∷ back) → due s × NoneHas s.attempt (front ++ back) × AllDue due (front ++ back)
due_out due [] back s a = a
due_out due (x ∷ front) back s a =
    let r = due_out due front back s a.2 in
    let n = none_out x.attempt front back s a.1 in
    (r.0, ((λ e. n.0 (sym e)), r.1), (a.0, n.1, r.2))

kept_apart : (due later : Start → Type 0) (attempt : AttemptNo) (starts : List Start) → ((s : Start) → s.attempt ≢ attempt → due s → later s) → NoneHas attempt starts → AllDue due starts → AllDue later starts
kept_apart due later attempt [] k n a = tt
kept_apart due later attempt (s ∷ starts) k n a = (k s n.0 a.0, a.1, kept_apart due later attempt starts k n.1 a.2)

module _ {C : Type 0} (asked : C → Step → C → Type 0) (told : C → Report → C → Type 0) (due : C → Start → Type 0) (fits : Job → Outcome → Type 0) where
  pub steered_self : (c : C) → Steered asked told due fits c c false [] none
  steered_self c = record { events = []; runs = refl; plays = (refl, refl); heard_is = refl; each_due = tt }

  pub steered_give : (old mid new : C) (waiting : List Start) (heard : Tally) (start : Start) → Steered asked told due fits old mid false waiting heard → asked mid (Give start) new
      → ((s : Start) → due mid s → due new s) → Gives due mid (Give start) new → Steered asked told due fits old new false (waiting ++ start ∷ []) heard
  steered_give old mid new waiting heard start was call kept gives =
      let fresh : NoneHas start.attempt waiting = none_among (due mid) start.attempt waiting gives.1 was.each_due in record {
        events = was.events ++ Asked (Give start) ∷ [];
        runs = runs_asked asked told old mid new was.events (Give start) was.runs call;
        plays = plays_on fits false [] was.events (Asked (Give start) ∷ []) false waiting false (waiting ++ start ∷ []) was.plays (refl, fresh, (refl, refl));
        heard_is = heard_asked was.events (Give start) ∙ was.heard_is;
        each_due = due_snoc (due new) waiting start (all_kept (due mid) (due new) waiting kept was.each_due) fresh gives.0;
      }

  pub steered_look : (old mid new : C) (waiting : List Start) (heard : Tally) → Steered asked told due fits old mid false waiting heard → asked mid Look new
      → ((s : Start) → due mid s → due new s) → Steered asked told due fits old new false waiting heard
  steered_look old mid new waiting heard was call kept = record {
    events = was.events ++ Asked Look ∷ [];
    runs = runs_asked asked told old mid new was.events Look was.runs call;
    plays = plays_on fits false [] was.events (Asked Look ∷ []) false waiting false waiting was.plays (refl, (refl, refl));
    heard_is = heard_asked was.events Look ∙ was.heard_is;
    each_due = all_kept (due mid) (due new) waiting kept was.each_due;
  }

  pub steered_done : (old mid new : C) (waiting : List Start) (heard : Tally) → Steered asked told due fits old mid false waiting heard → asked mid Done new
      → ((s : Start) → due mid s → due new s) → Steered asked told due fits old new true waiting heard
  steered_done old mid new waiting heard was call kept = record {
    events = was.events ++ Asked Done ∷ [];
    runs = runs_asked asked told old mid new was.events Done was.runs call;
    plays = plays_on fits false [] was.events (Asked Done ∷ []) false waiting true waiting was.plays (refl, (refl, refl));
    heard_is = heard_asked was.events Done ∙ was.heard_is;
    each_due = all_kept (due mid) (due new) waiting kept was.each_due;
  }

  -- what comes back is due
  pub is_due : (old mid : C) (done : Bool) (waiting rest : List Start) (heard : Tally) (start : Start) → Steered asked told due fits old mid done waiting heard → TakesOut start waiting rest → due mid start
  is_due old mid done waiting rest heard start was out = (due_out (due mid) out.0 out.1 start (subst (AllDue (due mid)) out.2 was.each_due)).0

  pub steered_heard : (old mid new : C) (done : Bool) (waiting rest : List Start) (heard : Tally) (start : Start) (report : Report) → Steered asked told due fits old mid done waiting heard
      → TakesOut start waiting rest → start.attempt ≡ report.attempt → fits start.job report.outcome → told mid report new
      → ((s : Start) → s.attempt ≢ report.attempt → due mid s → due new s) → Steered asked told due fits old new done rest (plus heard (tally_of report.outcome))
  steered_heard old mid new done waiting rest heard start report was out same fit call kept =
      let r = due_out (due mid) out.0 out.1 start (subst (AllDue (due mid)) out.2 was.each_due) in
      let apart : NoneHas report.attempt rest = subst (λ (y : AttemptNo × List Start). NoneHas y.0 y.1) (λ i. (same i, sym out.3 i)) r.1 in record {
        events = was.events ++ Heard report ∷ [];
        runs = runs_told asked told old mid new was.events report was.runs call;
        plays = plays_on fits false [] was.events (Heard report ∷ []) done waiting done rest was.plays (start, rest, out, same, fit, (refl, refl));
        heard_is = heard_more was.events report ∙ ap (λ (t : Tally). plus t (tally_of report.outcome)) was.heard_is;
        each_due = kept_apart (due mid) (due new) report.attempt rest kept apart (subst (AllDue (due mid)) (sym out.3) r.2);
      }
