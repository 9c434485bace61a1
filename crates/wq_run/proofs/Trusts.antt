-- What was said to workers, where links tell their bytes.
use Rattle.std.proofs.Common.{◌≡◌, ◌≢◌, ◌≤◌, ◌<◌, ◌+◌, ◌-◌, ◌⊎◌, inl, inr, ◌∙◌, ℕ, zero, suc, Bool, true, false, List, [], ◌∷◌, ◌++◌, Option, Some, None, Result, Ok, Err, refl, sym, ap, subst, arith, true≢false, take, drop}
use Rattle.std.specs.Prelude.{◌||◌, IfOk, OnOk, cond, count_by, is_some, option_map, remove, slice_get, unwrap_or}
use Rattle.std.specs.List.{AllByRecursion, list_any}
use Rattle.std.proofs.lemmas.List.Sums.{sum_by-append, sum_by-cons}
use Rattle.flow_types.specs.declared.plan.Plan.{Plan}
use Rattle.flow_types.specs.declared.plan.Rule.{Rule}
use Rattle.flow_types.specs.declared.numbers.AttemptNo.{AttemptNo}
use Rattle.flow_types.specs.declared.numbers.LinkNo.{LinkNo}
use Rattle.flow_types.specs.declared.job.Failure.{Failure}
use Rattle.flow_types.specs.declared.job.Job.{Job}
use Rattle.flow_types.specs.declared.job.Outcome.{Outcome}
use Rattle.flow_types.specs.declared.job.Outcome.TheVariants as outcomes
use Rattle.flow_types.specs.declared.job.Start.{Start}
use Rattle.flow_types.specs.declared.job.Task.{Task}
use Rattle.flow_types.specs.declared.messages.Key.{Key}
use Rattle.flow_types.specs.declared.messages.Message.{Message}
use Rattle.flow_types.specs.declared.messages.Message.TheVariants as messages
use Rattle.flow_types.specs.declared.records.Record.{Record}
use Rattle.flow_types.specs.Serial.{Contents, Function, job_of, serial}
use Rattle.run_history.specs.declared.options.Options.{Options}
use Rattle.run_history.specs.declared.moves.Move.{Move}
use Rattle.run_history.specs.History.{is_cleaned, is_opening, next_run}
use Rattle.run_history.specs.Links.{records_of}
use Rattle.outside.specs.Disk.{Outcomes}
use Rattle.outside.specs.Files.{Files}
use Rattle.link_session.specs.declared.open.Open.{Open}
use Rattle.link_session.specs.Sessions.{State, started}
use Rattle.links.specs.declared.passing.Passed.{Passed}
use Rattle.links.specs.Honesty.{task_job}
use Rattle.message_forms.specs.Streams.{IsAmong}
use Rattle.worker_pool.specs.declared.hand.Tally.{Tally}
use Rattle.worker_pool.specs.Courses.{EndsAsTold}
use Rattle.desk.specs.declared.attempt.Attempt.{Attempt}
use Rattle.desk.specs.State.{DeskState, IsFine}
use Rattle.desk.specs.Tasks.{task_of, task_with}
use Rattle.peers.specs.declared.leave.Leave.{Leave}
use Rattle.peers.specs.declared.told.Told.{Told}
use Rattle.peers.specs.declared.told.Told.TheVariants as tell
use Rattle.link_session.specs.Keys.{lacking}
use Rattle.flow_types.specs.declared.numbers.FileNo.{FileNo}
use Rattle.peers.specs.Hears.{Hears, IsResult, ServesOn, Tells}
use Rattle.peers.specs.Provides.{IsPutOrLeft, Provides, keys_of}
use Rattle.peers.proofs.Providing.{provides_again, provides_asked, provides_first, provides_heard, provides_opened, provides_put, provides_said}
use Rattle.wq_run.proofs.Known.{known_on}
use Rattle.peers.specs.Serves.{AreDue, DueStaysDue, IsNew, Serves, WasHonest}
use Rattle.peers.specs.States.{PeerState, new_peer}
use Rattle.peers.proofs.Serving.{among_left, among_or}
use Rattle.local_run.specs.Course.{GoesOn, TellsJobs, begins_anew}
use Rattle.local_run.specs.Underway.{AreAway, HeldState, NoneHas}
use Rattle.local_run.proofs.Going.{records_grown}
use Rattle.wq_run.specs.Seats.{IsAtSeat, IsGuest, IsManned, IsServed, KeepsManned, KeepsSeat, KeepsServed, SeatState, seat_with}
use Rattle.wq_run.specs.Trusted.{EndsDue, IsAwaited, IsHonestGuest, IsMeant, IsOf, IsOwn, IsStranger, IsTrusted, IsUpTo, MayAsk, MayOpen, SaysOwn, SpokenTo, TellsDue, WasAsked, own_task}
use Rattle.wq_run.proofs.Closes.{placed, stands}
use Rattle.wq_run.proofs.Places.{all_at, none_left, none_right, unique_back, unique_front}
use Rattle.wq_run.proofs.Told.{hears_on}

-- ---- the number of the run stays

both_false : (b c d : Bool) → ((b || c) || d) ≡ false → (b ≡ false) × (d ≡ false)
both_false true c d is = absurd (true≢false is)
both_false false true d is = absurd (true≢false is)
both_false false false d is = (refl, is)

add_none : (a b : ℕ) → a ≡ 0 → b ≡ 0 → a + b ≡ 0
add_none a b one other = omega (arith, one, other)

add_nothing : (a b : ℕ) → b ≡ 0 → a + b ≡ a
add_nothing a b none = omega (arith, none)

no_openings : (xs : List Record) → list_any begins_anew xs ≡ false → count_by is_opening xs ≡ 0
no_openings [] none = refl
no_openings (x ∷ xs) none =
    let p = both_false (is_opening x) (is_cleaned x) (list_any begins_anew xs) none in
    sum_by-cons (λ (y : Record). cond (is_opening y) 1 0) x xs ∙ add_none (cond (is_opening x) 1 0) (count_by is_opening xs) (ap (λ (b : Bool). cond b 1 0) p.0) (no_openings xs p.1)

run_on : (H more : List Record) → list_any begins_anew more ≡ false → next_run (H ++ more) ≡ next_run H
run_on H more none = sum_by-append (λ (x : Record). cond (is_opening x) 1 0) H more ∙ add_nothing (next_run H) (next_run more) (no_openings more none)

-- ---- what is relied on is so of the desk at any time of the run

module _ {S : Type 0} (trust : Type 0) (gives : Function) (may_fail : Job → Failure → Type 0) (sources : Contents) (tells kept sure : Type 0) (files : S → Files) (may_leave : S → Outcomes) (moment : S → ℕ)
    (images_since : S → ℕ → Files → Type 0) (holds : Type 0) (plan : Plan) (options : Options) (run : ℕ) (due : Contents) where
  abbrev pub OfDesk : DeskState S → Type 0
  OfDesk d = IsOf trust gives sources tells kept holds plan options run due d.plan d.options (records_of d.moves)

  abbrev pub Goes : List Move → DeskState S → DeskState S → Type 0
  Goes links first d = GoesOn trust gives may_fail sources tells files may_leave moment images_since links first d

  run_of : (links : List Move) (first d : DeskState S) → Goes links first d → next_run (records_of d.moves) ≡ next_run (records_of first.moves)
  run_of links first d g =
      ap (λ (M : List Move). next_run (records_of M)) g.moves ∙ ap next_run (records_grown first.moves g.passed) ∙ ap (λ (xs : List Record). next_run (records_of first.moves ++ xs)) g.logged
      ∙ run_on (records_of first.moves) g.more g.anew

  pub of_goes : (links links_now : List Move) (first d after : DeskState S) → Goes links first d → Goes links_now first after → OfDesk d → OfDesk after
  of_goes links links_now first d after g h o = record {
    relies = o.relies;
    trusts = o.trusts;
    base = o.base;
    plan_is = h.plan ∙ sym g.plan ∙ o.plan_is;
    options_is = h.options ∙ sym g.options ∙ o.options_is;
    run_is = ap (λ (n : ℕ). n - 1) (run_of links_now first after h ∙ sym (run_of links first d g)) ∙ o.run_is;
    due_is = ap (λ (P : Plan). serial P gives sources) (h.plan ∙ sym g.plan) ∙ o.due_is;
  }

  pub of_then : (links : List Move) (d after : DeskState S) → Goes links d after → OfDesk d → OfDesk after
  of_then links d after h o = record {
    relies = o.relies;
    trusts = o.trusts;
    base = o.base;
    plan_is = h.plan ∙ o.plan_is;
    options_is = h.options ∙ o.options_is;
    run_is = ap (λ (n : ℕ). n - 1) (run_of links d after h) ∙ o.run_is;
    due_is = ap (λ (P : Plan). serial P gives sources) h.plan ∙ o.due_is;
  }

  module _ {L : Type 0} where
    pub of_seat : (d after : DeskState S) (held held_now : HeldState) (s s_now : SeatState L) → IsAtSeat trust gives may_fail sources tells kept sure files may_leave moment images_since d held s
        → KeepsSeat trust gives may_fail sources tells kept sure files may_leave moment images_since d after held held_now s s_now → OfDesk d → OfDesk after
    of_seat d after held held_now s s_now is keeps o =
        let now = keeps.keeps is.front is.back is.first is.waiting is.heard is.at in of_goes is.at.away.links now.away.links is.first d after is.at.under.goes now.under.goes o

    pub of_manned : (d after : DeskState S) (held held_now : HeldState) (seats seats_now : List (SeatState L)) → IsManned trust gives may_fail sources tells kept sure files may_leave moment images_since d held seats
        → KeepsManned trust gives may_fail sources tells kept sure files may_leave moment images_since d after held held_now seats seats_now → OfDesk d → OfDesk after
    of_manned d after held held_now seats seats_now is keeps o =
        let now = keeps is.first is.waiting is.heard is.manned in of_goes is.manned.away.links now.away.links is.first d after is.manned.under.goes now.under.goes o

    pub of_served : (d after : DeskState S) (held held_now : HeldState) (waiting waiting_now : List Start) (heard heard_now : Tally) (seats seats_now : List (SeatState L))
        → IsServed trust gives may_fail sources tells kept sure files may_leave moment images_since d held waiting heard seats
        → KeepsServed trust gives may_fail sources tells kept sure files may_leave moment images_since d after held held_now waiting waiting_now heard heard_now seats seats_now → OfDesk d → OfDesk after
    of_served d after held held_now waiting waiting_now heard heard_now seats seats_now is keeps o =
        let now = keeps is.first is.manned in of_goes is.manned.away.links now.away.links is.first d after is.manned.under.goes now.under.goes o

    -- its attempts have numbers of their own
    pub alone_at : (d : DeskState S) (held : HeldState) (s : SeatState L) (f : List Attempt) (a : Attempt) (b : List Attempt) → s.attempts ≡ f ++ (a ∷ b)
        → IsAtSeat trust gives may_fail sources tells kept sure files may_leave moment images_since d held s → NoneHas a.number f × NoneHas a.number b
    alone_at d held s f a b split is =
        let place = placed trust gives may_fail sources tells kept sure files may_leave moment images_since is.front is.back is.first d held is.waiting is.heard s is.at in
        let all : AreAway d.plan (IsFine d.trouble) d.moves held.attempts None ((is.front ++ f) ++ (a ∷ (b ++ is.back))) = subst (AreAway d.plan (IsFine d.trouble) d.moves held.attempts None)
        (stands trust gives may_fail sources tells kept sure files may_leave moment images_since is.front is.back is.first d held is.waiting is.heard s f a b split place) is.at.under.beyond in (
          none_right a.number is.front f (unique_front d.plan (IsFine d.trouble) d.moves held.attempts (is.front ++ f) a (b ++ is.back) all),
          none_left a.number b is.back (unique_back d.plan (IsFine d.trouble) d.moves held.attempts (is.front ++ f) a (b ++ is.back) all),
        )

-- the task of an attempt by the desk is its own
pub own_by : {trust : Type 0} {gives : Function} {sources : Contents} {tells kept holds : Type 0} {plan : Plan} {options : Options} {run : ℕ} {due : Contents} (P : Plan) (O : Options) (H : List Record) (a : Attempt) (t : Task)
    → IsOf trust gives sources tells kept holds plan options run due P O H → task_of P H a ≡ Some t → own_task plan run a ≡ Some t
own_by {trust} {gives} {sources} {tells} {kept} {holds} {plan} {options} {run} {due} P O H a t o is = subst (λ (n : ℕ). own_task plan n a ≡ Some t) o.run_is (subst (λ (Q : Plan). own_task Q (next_run H - 1) a ≡ Some t) o.plan_is is)

-- what is due by what is relied on is so by the desk
pub due_by : {trust : Type 0} {gives : Function} {sources : Contents} {tells kept holds : Type 0} {plan : Plan} {options : Options} {run : ℕ} {due : Contents} (may_fail : Job → Failure → Type 0) (P : Plan) (O : Options) (H : List Record) (number : AttemptNo) (outcome : Outcome) (xs : List Attempt)
    → IsOf trust gives sources tells kept holds plan options run due P O H → (holds → AllByRecursion (EndsDue plan gives may_fail due number outcome) xs) → trust → AllByRecursion (EndsDue P gives may_fail (serial P gives sources) number outcome) xs
due_by {trust} {gives} {sources} {tells} {kept} {holds} {plan} {options} {run} {due} may_fail P O H number outcome xs o all trusted =
    subst (λ (c : Contents). AllByRecursion (EndsDue P gives may_fail c number outcome) xs) (sym o.due_is) (subst (λ (Q : Plan). AllByRecursion (EndsDue Q gives may_fail due number outcome) xs) (sym o.plan_is) (all (o.relies trusted)))

-- nothing is said of what wasn't run
pub ends_unrun : (P : Plan) (gives : Function) (may_fail : Job → Failure → Type 0) (due : Contents) (number : AttemptNo) (xs : List Attempt) → AllByRecursion (EndsDue P gives may_fail due number outcomes.NotRun) xs
ends_unrun P gives may_fail due number [] = tt
ends_unrun P gives may_fail due number (x ∷ xs) = ((λ same row there. tt), ends_unrun P gives may_fail due number xs)

-- what runners tell is so of the desk's plan
pub told_by : {trust : Type 0} {gives : Function} {sources : Contents} {tells kept holds : Type 0} {plan : Plan} {options : Options} {run : ℕ} {due : Contents} (P : Plan) (O : Options) (H : List Record) (told : Job → Type 0)
    → IsOf trust gives sources tells kept holds plan options run due P O H → (trust → TellsJobs plan options told due) → trust → TellsJobs P O told (serial P gives sources)
told_by {trust} {gives} {sources} {tells} {kept} {holds} {plan} {options} {run} {due} P O H told o all trusted =
    subst (λ (c : Contents). TellsJobs P O told c) (sym o.due_is) (subst (λ (Q : Plan). TellsJobs Q O told due) (sym o.plan_is) (subst (λ (Q : Options). TellsJobs plan Q told due) (sym o.options_is) (all trusted)))

-- a content that was read is due
pub read_due : {trust : Type 0} {gives : Function} {sources : Contents} {tells kept holds : Type 0} {plan : Plan} {options : Options} {run : ℕ} {due : Contents} (P : Plan) (O : Options) (H : List Record) (f : ℕ) (content : List ℕ)
    → IsOf trust gives sources tells kept holds plan options run due P O H → (tells → kept → trust → serial P gives sources f ≡ Some content) → holds → due f ≡ Some content
read_due {trust} P O H f content o is held =
    let trusted : trust = o.trusts held in sym (ap (λ (c : Contents). c f) o.due_is) ∙ is (o.base trusted).0 (o.base trusted).1 trusted

-- ---- answers

pub ok_both : {A E : Type 0} (r : Result A E) (P Q R : Type 0) → OnOk r P → OnOk r Q → (P → Q → R) → OnOk r R
ok_both (Ok x) P Q R p q step = step p q
ok_both (Err why) P Q R p q step = tt

pub if_both : {A E : Type 0} (r : Result A E) (P Q R : A → Type 0) → IfOk r P → IfOk r Q → ((x : A) → P x → Q x → R x) → IfOk r R
if_both (Ok x) P Q R p q step = step x p q
if_both (Err why) P Q R p q step = tt

-- ---- lists of attempts

all_take : (Q : Attempt → Type 0) (n : ℕ) (xs : List Attempt) → AllByRecursion Q xs → AllByRecursion Q (take n xs)
all_take Q zero xs all = tt
all_take Q (suc n) [] all = tt
all_take Q (suc n) (x ∷ xs) all = (all.0, all_take Q n xs all.1)

all_drop : (Q : Attempt → Type 0) (n : ℕ) (xs : List Attempt) → AllByRecursion Q xs → AllByRecursion Q (drop n xs)
all_drop Q zero xs all = all
all_drop Q (suc n) [] all = tt
all_drop Q (suc n) (x ∷ xs) all = all_drop Q n xs all.1

all_append : (Q : Attempt → Type 0) (xs ys : List Attempt) → AllByRecursion Q xs → AllByRecursion Q ys → AllByRecursion Q (xs ++ ys)
all_append Q [] ys one other = other
all_append Q (x ∷ xs) ys one other = (one.0, all_append Q xs ys one.1 other)

all_before : (Q : Attempt → Type 0) (xs ys : List Attempt) → AllByRecursion Q (xs ++ ys) → AllByRecursion Q xs
all_before Q [] ys all = tt
all_before Q (x ∷ xs) ys all = (all.0, all_before Q xs ys all.1)

all_step : (Q R : Attempt → Type 0) → ((a : Attempt) → Q a → R a) → (xs : List Attempt) → AllByRecursion Q xs → AllByRecursion R xs
all_step Q R step [] all = tt
all_step Q R step (x ∷ xs) all = (step x all.0, all_step Q R step xs all.1)

all_with : (Q R T : Attempt → Type 0) → ((a : Attempt) → Q a → R a → T a) → (xs : List Attempt) → AllByRecursion Q xs → AllByRecursion R xs → AllByRecursion T xs
all_with Q R T step [] all both = tt
all_with Q R T step (x ∷ xs) all both = (step x all.0 both.0, all_with Q R T step xs all.1 both.1)

others_all : (n : AttemptNo) (Q : Attempt → Type 0) → ((a : Attempt) → a.number ≢ n → Q a) → (xs : List Attempt) → NoneHas n xs → AllByRecursion Q xs
others_all n Q step [] none = tt
others_all n Q step (x ∷ xs) none = (step x none.0, others_all n Q step xs none.1)

-- ---- tasks

the_task : Option Task → Task → Task
the_task None d = d
the_task (Some t) d = t

some_task : (x y : Task) → Some x ≡ Some y → x ≡ y
some_task x y is = ap (λ (o : Option Task). unwrap_or o x) is

some_rule : (x y : Rule) → Some x ≡ Some y → x ≡ y
some_rule x y is = ap (λ (o : Option Rule). unwrap_or o x) is

-- the task of an attempt at this rule
own_with : (P : Plan) (run : ℕ) (a : Attempt) (row : Rule) (t : Task) → slice_get P.rules a.rule.0 ≡ Some row → own_task P run a ≡ Some t → task_with P row a.number run ≡ t
own_with P run a row t there is = some_task (task_with P row a.number run) t (sym (ap (option_map (λ (rule : Rule). task_with P rule a.number run)) there) ∙ is)

number_by : (P : Plan) (run : ℕ) (a : Attempt) (t : Task) (row : Option Rule) → slice_get P.rules a.rule.0 ≡ row → option_map (λ (rule : Rule). task_with P rule a.number run) row ≡ Some t → t.attempt ≡ a.number
number_by P run a t None there is = absurd (true≢false (sym (ap is_some is)))
number_by P run a t (Some row) there is = sym (ap (λ (x : Task). x.attempt) (some_task (task_with P row a.number run) t is))

own_number : (P : Plan) (run : ℕ) (a : Attempt) (t : Task) → own_task P run a ≡ Some t → t.attempt ≡ a.number
own_number P run a t is = number_by P run a t (slice_get P.rules a.rule.0) refl is

-- The task is that of the one attempt of its number.
pub own_all : (P : Plan) (run : ℕ) (f : List Attempt) (a : Attempt) (b : List Attempt) (t : Task) → NoneHas a.number f × NoneHas a.number b → own_task P run a ≡ Some t → AllByRecursion (IsOwn P run t) (f ++ (a ∷ b))
own_all P run f a b t alone is =
    let other : (x : Attempt) → x.number ≢ a.number → IsOwn P run t x = λ x apart same. absurd (apart (sym same ∙ own_number P run a t is)) in
    all_append (IsOwn P run t) f (a ∷ b) (others_all a.number (IsOwn P run t) other f alone.0) ((λ same. is), others_all a.number (IsOwn P run t) other b alone.1)

-- numbers that are newer than all
pub newer_some : (newest : Option AttemptNo) (last number : AttemptNo) → newest ≡ Some last → last.0 < number.0 → (t : Task) → IsUpTo newest t.attempt → t.attempt.0 < number.0
newer_some newest last number is less t up = let upto : IsUpTo (Some last) t.attempt = subst (λ (o : Option AttemptNo). IsUpTo o t.attempt) is up in omega (arith, upto, less)

pub newer_none : (newest : Option AttemptNo) (number : AttemptNo) → newest ≡ None → (t : Task) → IsUpTo newest t.attempt → t.attempt.0 < number.0
newer_none newest number is t up = absurd (subst (λ (o : Option AttemptNo). IsUpTo o t.attempt) is up)

-- ---- seats

module _ {L : Type 0} (holds : Type 0) (gives : Function) (may_fail : Job → Failure → Type 0) (history : L → List Passed) (honest : L → Type 0) (P : Plan) (run : ℕ) (due : Contents) where
  abbrev pub Spoken : SeatState L → List Message → List Message → Option Task → List Key → Type 0
  Spoken s said heard waiting left = SpokenTo holds gives may_fail history honest P run due s said heard waiting left

  abbrev pub Trusted : SeatState L → Type 0
  Trusted s = IsTrusted holds gives may_fail history honest P run due s

  abbrev pub Asks : SeatState L → Task → List Key → Type 0
  Asks s task left = MayAsk holds gives may_fail history honest P run due s task left

  abbrev pub Opens : SeatState L → AttemptNo → Type 0
  Opens s number = MayOpen holds gives may_fail history honest P run due s number

  -- the peer is served with these
  abbrev pub ServesBy : PeerState L → List Message → List Message → Option Task → Type 0
  ServesBy p said heard waiting = Serves gives may_fail (history p.way) p.feed p.session said heard waiting

  -- a new seat
  pub guest_trusted : (p : PeerState L) (link : LinkNo) → IsHonestGuest gives may_fail history honest p → Trusted (record { peer = p; link = link; attempts = []; newest = None })
  guest_trusted p link guest = record {
    said = [];
    heard = guest.heard;
    spoken = record { serves = guest.serves; provides = guest.provides; put = λ held key content is. absurd is; asked = tt; older = λ t is. absurd is; honestly = guest.honestly };
  }

  -- A message more was said.
  said_more : (s : SeatState L) (p : PeerState L) (m : Message) (said heard : List Message) (waiting waiting_now : Option Task) (left left_now : List Key) → Spoken s said heard waiting left → ServesBy p (said ++ (m ∷ [])) heard waiting_now → Provides p.session.known (said ++ (m ∷ [])) waiting_now left_now → (holds → AreDue due (said ++ (m ∷ [])))
      → ((t : Task) → messages.Task t ≡ m → AllByRecursion (IsOwn P run t) s.attempts × IsUpTo s.newest t.attempt) → honest p.way → Spoken (record s { peer = p }) (said ++ (m ∷ [])) heard waiting_now left_now
  said_more s p m said heard waiting waiting_now left left_now spoken serves provides put task on = record {
    serves = serves;
    provides = provides;
    put = put;
    asked = asked_more s.attempts spoken.asked (λ t is. (task t is).0);
    older = λ t is. older_by t (among_or (messages.Task t) m said is);
    honestly = on;
  }
    where
      older_by : (t : Task) → IsAmong (messages.Task t) said ⊎ (messages.Task t ≡ m) → IsUpTo s.newest t.attempt
      older_by t (inl is) = spoken.older t is
      older_by t (inr is) = (task t is).1

      asked_by : (x : Attempt) (t : Task) → SaysOwn P run said x → (messages.Task t ≡ m → IsOwn P run t x) → IsAmong (messages.Task t) said ⊎ (messages.Task t ≡ m) → IsOwn P run t x
      asked_by x t was now (inl is) = was t is
      asked_by x t was now (inr is) = now is

      asked_more : (xs : List Attempt) → AllByRecursion (SaysOwn P run said) xs → ((t : Task) → messages.Task t ≡ m → AllByRecursion (IsOwn P run t) xs) → AllByRecursion (SaysOwn P run (said ++ (m ∷ []))) xs
      asked_more [] all new = tt
      asked_more (x ∷ xs) all new = ((λ t is. asked_by x t all.0 (λ same. (new t same).0) (among_or (messages.Task t) m said is)), asked_more xs all.1 (λ t same. (new t same).1))

  -- ---- a content is put

  task_no_put : (key : Key) (content : List ℕ) (t : Task) → messages.Task t ≡ messages.Put key content → ⊥
  task_no_put key content t is = true≢false (ap is_task is)
    where
      is_task : Message → Bool
      is_task (messages.Task x) = true
      is_task m = false

  put_spoken : (s : SeatState L) (p : PeerState L) (key : Key) (content : List ℕ) (said heard : List Message) (waiting : Option Task) (left left_now : List Key) → DueStaysDue → (holds → due key.file.0 ≡ Some content) → Spoken s said heard waiting left
      → ServesBy p (said ++ (messages.Put key content ∷ [])) heard waiting → p.session ≡ s.peer.session → Provides s.peer.session.known (said ++ (messages.Put key content ∷ [])) waiting left_now → honest p.way → Spoken (record s { peer = p }) (said ++ (messages.Put key content ∷ [])) heard waiting left_now
  put_spoken s p key content said heard waiting left left_now stays is spoken serves same provides on =
      said_more s p (messages.Put key content) said heard waiting waiting left left_now spoken serves (subst (λ (x : State). Provides x.known (said ++ (messages.Put key content ∷ [])) waiting left_now) (sym same) provides) (λ held. stays due said (messages.Put key content) (spoken.put held) (is held)) (λ t same. absurd (task_no_put key content t same)) on

  -- what a call that puts a content does
  abbrev pub Puts : PeerState L → PeerState L → Key → List ℕ → Type 0
  Puts p p_now key content = (said heard : List Message) (waiting : Option Task) → honest p.way → ServesBy p said heard waiting → ServesBy p_now (said ++ (messages.Put key content ∷ [])) heard waiting

  pub put_trusted : (s : SeatState L) (p : PeerState L) (key : Key) (content : List ℕ) → DueStaysDue → (holds → due key.file.0 ≡ Some content) → p.session ≡ s.peer.session → Puts s.peer p key content → (honest s.peer.way → honest p.way) → Trusted s → Trusted (record s { peer = p })
  put_trusted s p key content stays is same puts on was = record {
    said = was.said ++ (messages.Put key content ∷ []);
    heard = was.heard;
    spoken = put_spoken s p key content was.said was.heard None [] [] stays is was.spoken (puts was.said was.heard None was.spoken.honestly was.spoken.serves) same
        (provides_said s.peer.session.known [] was.said None (messages.Put key content) (task_no_put key content) was.spoken.provides) (on was.spoken.honestly);
  }

  task_no_unlink : (key : Key) (t : Task) → messages.Task t ≡ messages.Unlink key → ⊥
  task_no_unlink key t is = true≢false (ap is_task is)
    where
      is_task : Message → Bool
      is_task (messages.Task x) = true
      is_task m = false

  -- a word was said that changes nothing
  pub word_trusted : (s : SeatState L) (p : PeerState L) (key : Key) → DueStaysDue → p.session ≡ s.peer.session
      → ((said heard : List Message) (waiting : Option Task) → honest s.peer.way → ServesBy s.peer said heard waiting → ServesBy p (said ++ (messages.Unlink key ∷ [])) heard waiting) → (honest s.peer.way → honest p.way) → Trusted s → Trusted (record s { peer = p })
  word_trusted s p key stays same says on was = record {
    said = was.said ++ (messages.Unlink key ∷ []);
    heard = was.heard;
    spoken = said_more s p (messages.Unlink key) was.said was.heard None None [] [] was.spoken (says was.said was.heard None was.spoken.honestly was.spoken.serves)
        (subst (λ (x : State). Provides x.known (was.said ++ (messages.Unlink key ∷ [])) None []) (sym same) (provides_said s.peer.session.known [] was.said None (messages.Unlink key) (task_no_unlink key) was.spoken.provides)) (λ held. stays due was.said (messages.Unlink key) (was.spoken.put held) tt) (λ t same. absurd (task_no_unlink key t same)) (on was.spoken.honestly);
  }

  pub put_asks : (s : SeatState L) (p : PeerState L) (key : Key) (content : List ℕ) (task : Task) (left : List Key) → DueStaysDue → (holds → due key.file.0 ≡ Some content) → p.session ≡ s.peer.session → Puts s.peer p key content → (honest s.peer.way → honest p.way) → Asks s task (key ∷ left) → Asks (record s { peer = p }) task left
  put_asks s p key content task left stays is same puts on may = record {
    said = may.said ++ (messages.Put key content ∷ []);
    heard = may.heard;
    waiting = may.waiting;
    spoken = put_spoken s p key content may.said may.heard may.waiting (key ∷ left) left stays is may.spoken (puts may.said may.heard may.waiting may.spoken.honestly may.spoken.serves) same
        (provides_put s.peer.session.known left may.said may.waiting key content may.spoken.provides) (on may.spoken.honestly);
    may = still may.may;
    own = may.own;
    newest = may.newest;
  }
    where
      still : (may.waiting ≡ Some task) ⊎ ((may.waiting ≡ None) × IsAmong (messages.Task task) may.said) → (may.waiting ≡ Some task) ⊎ ((may.waiting ≡ None) × IsAmong (messages.Task task) (may.said ++ (messages.Put key content ∷ [])))
      still (inl waits) = inl waits
      still (inr among) = inr (among.0, among_left (messages.Task task) may.said (messages.Put key content ∷ []) among.1)

  -- ---- a task is asked

  task_is : (t task : Task) → messages.Task t ≡ messages.Task task → t ≡ task
  task_is t task is = ap of_message is
    where
      of_message : Message → Task
      of_message (messages.Task x) = x
      of_message m = t

  -- what a call that asks for a task does, first and again
  abbrev pub AsksFirst : PeerState L → PeerState L → Task → Type 0
  AsksFirst p p_now task = (said heard : List Message) → honest p.way → ServesBy p said heard (Some task) → ServesBy p_now (said ++ (messages.Task task ∷ [])) heard None

  abbrev pub AsksAgain : PeerState L → PeerState L → Task → Type 0
  AsksAgain p p_now task = (said heard : List Message) → honest p.way → ServesBy p said heard None → IsAmong (messages.Task task) said → ServesBy p_now (said ++ (messages.Task task ∷ [])) heard None

  pub ask_trusted : (s : SeatState L) (p : PeerState L) (task : Task) → DueStaysDue → p.session ≡ s.peer.session → AsksFirst s.peer p task → AsksAgain s.peer p task → (honest s.peer.way → honest p.way) → Asks s task [] → Trusted (record s { peer = p })
  ask_trusted s p task stays same first again on may = record {
    said = may.said ++ (messages.Task task ∷ []);
    heard = may.heard;
    spoken = said_more s p (messages.Task task) may.said may.heard may.waiting None [] [] may.spoken (served may.may) (subst (λ (x : State). Provides x.known (may.said ++ (messages.Task task ∷ [])) None []) (sym same) (provided may.may)) (λ held. stays due may.said (messages.Task task) (may.spoken.put held) tt) own (on may.spoken.honestly);
  }
    where
      served : (may.waiting ≡ Some task) ⊎ ((may.waiting ≡ None) × IsAmong (messages.Task task) may.said) → ServesBy p (may.said ++ (messages.Task task ∷ [])) may.heard None
      served (inl waits) = first may.said may.heard may.spoken.honestly (subst (ServesBy s.peer may.said may.heard) waits may.spoken.serves)
      served (inr among) = again may.said may.heard may.spoken.honestly (subst (ServesBy s.peer may.said may.heard) among.0 may.spoken.serves) among.1

      provided : (may.waiting ≡ Some task) ⊎ ((may.waiting ≡ None) × IsAmong (messages.Task task) may.said) → Provides s.peer.session.known (may.said ++ (messages.Task task ∷ [])) None []
      provided (inl waits) = provides_asked s.peer.session.known may.said task (subst (λ (w : Option Task). Provides s.peer.session.known may.said w []) waits may.spoken.provides)
      provided (inr among) = provides_again s.peer.session.known may.said task among.1 (subst (λ (w : Option Task). Provides s.peer.session.known may.said w []) among.0 may.spoken.provides)

      own : (t : Task) → messages.Task t ≡ messages.Task task → AllByRecursion (IsOwn P run t) s.attempts × IsUpTo s.newest t.attempt
      own t same = let one : task ≡ t = sym (task_is t task same) in (
        subst (λ (x : Task). AllByRecursion (IsOwn P run x) s.attempts) one may.own,
        subst (λ (x : Task). IsUpTo s.newest x.attempt) one may.newest,
      )

  -- ---- an attempt is opened

  -- what a call that opens a task does
  abbrev pub OpensTask : PeerState L → PeerState L → Task → Type 0
  OpensTask p p_now task = (said heard : List Message) → honest p.way → ServesBy p said heard None → IsNew task.attempt said → ServesBy p_now said heard (Some task)

  less_apart : (m n : AttemptNo) → m.0 < n.0 → m ≡ n → ⊥
  less_apart m n less same = let is : m.0 ≡ n.0 = ap (λ (k : AttemptNo). k.0) same in omega (arith, less, is)

  less_up : (m n : ℕ) → m < n → m ≤ n
  less_up m n less = omega (arith, less)

  pub open_asks : (s : SeatState L) (p : PeerState L) (task : Task) (files : List FileNo) → p.session ≡ started s.peer.session task → files ≡ lacking s.peer.session.known task.run task.inputs → OpensTask s.peer p task → (honest s.peer.way → honest p.way) → Opens s task.attempt
      → AllByRecursion (IsOwn P run task) s.attempts → Asks (record s { peer = p; newest = Some task.attempt }) task (keys_of task.run files)
  open_asks s p task files now left opens on may own = record {
    said = may.said;
    heard = may.heard;
    waiting = Some task;
    spoken = record {
      serves = opens may.said may.heard may.spoken.honestly may.spoken.serves (λ t is same. less_apart t.attempt task.attempt (may.earlier t is) same);
      provides = subst (λ (x : State). Provides x.known may.said (Some task) (keys_of task.run files)) (sym now)
          (subst (λ (xs : List FileNo). Provides (started s.peer.session task).known may.said (Some task) (keys_of task.run xs)) (sym left) (provides_opened s.peer.session.known may.said task may.spoken.provides));
      put = may.spoken.put;
      asked = may.spoken.asked;
      older = λ t is. less_up t.attempt.0 task.attempt.0 (may.earlier t is);
      honestly = on may.spoken.honestly;
    };
    may = inl refl;
    own = own;
    newest = (let n = task.attempt.0 in omega arith);
  }

  -- Nothing of an attempt that is newer than all was said.
  pub new_opens : (s : SeatState L) (number : AttemptNo) → ((t : Task) → IsUpTo s.newest t.attempt → t.attempt.0 < number.0) → Trusted s → Opens s number
  new_opens s number newer was = record { said = was.said; heard = was.heard; spoken = was.spoken; earlier = λ t is. newer t (was.spoken.older t is) }

  -- It may be opened once it is held.
  pub held_opens : (s : SeatState L) (a : Attempt) → Opens s a.number → Opens (seat_with s (s.attempts ++ (a ∷ []))) a.number
  held_opens s a may = record {
    said = may.said;
    heard = may.heard;
    spoken = record {
      serves = may.spoken.serves;
      provides = may.spoken.provides;
      put = may.spoken.put;
      asked = all_append (SaysOwn P run may.said) s.attempts (a ∷ []) may.spoken.asked ((λ t is same. absurd (less_apart t.attempt a.number (may.earlier t is) same)), tt);
      older = may.spoken.older;
      honestly = may.spoken.honestly;
    };
    earlier = may.earlier;
  }

  -- ---- fewer attempts run there

  attempts_less : (s : SeatState L) (xs : List Attempt) → ((Q : Attempt → Type 0) → AllByRecursion Q s.attempts → AllByRecursion Q xs) → Trusted s → Trusted (seat_with s xs)
  attempts_less s xs less was = record {
    said = was.said;
    heard = was.heard;
    spoken = record { serves = was.spoken.serves; provides = was.spoken.provides; put = was.spoken.put; asked = less (SaysOwn P run was.said) was.spoken.asked; older = was.spoken.older; honestly = was.spoken.honestly };
  }

  pub take_trusted : (s : SeatState L) (xs : List Attempt) (at : ℕ) → xs ≡ remove s.attempts at → Trusted s → Trusted (seat_with s xs)
  take_trusted s xs at is was =
      attempts_less s xs (λ Q all. subst (AllByRecursion Q) (sym is) (all_append Q (take at s.attempts) (drop (suc at) s.attempts) (all_take Q at s.attempts all) (all_drop Q (suc at) s.attempts all))) was

  pub pop_trusted : (s : SeatState L) (xs ys : List Attempt) → s.attempts ≡ xs ++ ys → Trusted s → Trusted (seat_with s xs)
  pop_trusted s xs ys is was = attempts_less s xs (λ Q all. all_before Q xs ys (subst (AllByRecursion Q) is all)) was

  -- ---- bytes come

  pub come_trusted : (s : SeatState L) (p : PeerState L) → p.session ≡ s.peer.session → ((said heard : List Message) (waiting : Option Task) → honest s.peer.way → ServesBy s.peer said heard waiting → ServesBy p said heard waiting) → (honest s.peer.way → honest p.way) → Trusted s → Trusted (record s { peer = p })
  come_trusted s p same stays on was = record {
    said = was.said;
    heard = was.heard;
    spoken = record { serves = stays was.said was.heard None was.spoken.honestly was.spoken.serves; provides = subst (λ (x : State). Provides x.known was.said None []) (sym same) was.spoken.provides; put = was.spoken.put; asked = was.spoken.asked; older = was.spoken.older; honestly = on was.spoken.honestly };
  }

  -- ---- a message is heard

  -- what a call that hears a message does
  abbrev pub HearsAs : PeerState L → PeerState L → Told → Type 0
  HearsAs p p_now t = let r : Result Told Leave = Ok t in (said heard : List Message) → honest p.way → ServesBy p said heard None → ServesOn gives may_fail (history p_now.way) said heard r p_now.feed p_now.session

  heard_more : (s : SeatState L) (p : PeerState L) (said heard heard_now : List Message) → Spoken s said heard None [] → ServesBy p said heard_now None → Provides p.session.known said None [] → honest p.way → Spoken (record s { peer = p }) said heard_now None []
  heard_more s p said heard heard_now spoken serves provides on = record { serves = serves; provides = provides; put = spoken.put; asked = spoken.asked; older = spoken.older; honestly = on }

  heard_by : (s : SeatState L) (p : PeerState L) (t : Told) (said heard : List Message) → Spoken s said heard None [] → Provides p.session.known said None [] → honest p.way → Tells gives may_fail (history p.way) p.feed p.session said heard t → Trusted (record s { peer = p })
  heard_by s p t said heard spoken provides on tells = record { said = said; heard = heard ++ (tells.message ∷ []); spoken = heard_more s p said heard (heard ++ (tells.message ∷ [])) spoken tells.serves provides on }

  -- what a call that hears a message makes of the session
  abbrev pub MeansAs : PeerState L → PeerState L → Told → Type 0
  MeansAs p p_now t = p.feed.stop ≡ None → (let r : Result Told Leave = Ok t in Hears p.feed p.session r p_now.feed p_now.session)

  heard_known : (s : SeatState L) (p : PeerState L) (t : Told) → MeansAs s.peer p t → (was : Trusted s) → Provides p.session.known was.said None []
  heard_known s p t means was = known_on s.peer.feed p.feed s.peer.session p.session t was.said provides_heard (means was.spoken.serves.going) was.spoken.provides

  pub heard_trusted : (s : SeatState L) (p : PeerState L) (t : Told) → MeansAs s.peer p t → HearsAs s.peer p t → (honest s.peer.way → honest p.way) → Trusted s → Trusted (record s { peer = p })
  heard_trusted s p t means hears on was = by_told t (hears was.said was.heard was.spoken.honestly was.spoken.serves)
    where
      on_now : honest p.way
      on_now = on was.spoken.honestly

      known : Provides p.session.known was.said None []
      known = heard_known s p t means was

      by_told : (t : Told) → (let r : Result Told Leave = Ok t in ServesOn gives may_fail (history p.way) was.said was.heard r p.feed p.session) → Trusted (record s { peer = p })
      by_told tell.Nothing serves = record { said = was.said; heard = was.heard; spoken = heard_more s p was.said was.heard was.heard was.spoken serves known on_now }
      by_told (tell.Joined total largest cache) tells = heard_by s p (tell.Joined total largest cache) was.said was.heard was.spoken known on_now tells
      by_told (tell.Changed total largest cache) tells = heard_by s p (tell.Changed total largest cache) was.said was.heard was.spoken known on_now tells
      by_told (tell.Finish attempt outs) tells = heard_by s p (tell.Finish attempt outs) was.said was.heard was.spoken known on_now tells
      by_told (tell.Fail attempt why) tells = heard_by s p (tell.Fail attempt why) was.said was.heard was.spoken known on_now tells
      by_told (tell.Lose attempt) tells = heard_by s p (tell.Lose attempt) was.said was.heard was.spoken known on_now tells
      by_told (tell.PutAgain attempt files) tells = heard_by s p (tell.PutAgain attempt files) was.said was.heard was.spoken known on_now tells
      by_told (tell.Stale attempt) tells = heard_by s p (tell.Stale attempt) was.said was.heard was.spoken known on_now tells

  -- a result of a task that was asked is what the commands say of its attempt
  result_at : (said : List Message) (number : AttemptNo) (outcome : Outcome) (task : Task) → task.attempt ≡ number → IsAmong (messages.Task task) said
      → (fact : Job → Type 0) → fact (task_job task due) → (a : Attempt) → SaysOwn P run said a → a.number ≡ number → (row : Rule) → slice_get P.rules a.rule.0 ≡ Some row → fact (job_of P row due)
  result_at said number outcome task same among fact is a own at row there =
      let one : task_with P row a.number run ≡ task = own_with P run a row task there (own task among (same ∙ sym at)) in subst (λ (x : Task). fact (task_job x due)) (sym one) is

  abbrev ResultOf : List Passed → List Message → List Message → AttemptNo → Outcome → Type 0
  ResultOf past said heard number outcome = IsResult gives may_fail past said heard number outcome

  success_due : (past : List Passed) (said heard : List Message) (number : AttemptNo) (outs : List (List ℕ)) (xs : List Attempt) → AreDue due said → WasHonest gives may_fail past → AllByRecursion (SaysOwn P run said) xs → ResultOf past said heard number (outcomes.Success outs)
      → AllByRecursion (EndsDue P gives may_fail due number (outcomes.Success outs)) xs
  success_due past said heard number outs xs put was own r =
      all_step (SaysOwn P run said) (EndsDue P gives may_fail due number (outcomes.Success outs))
      (λ a says at row there. result_at said number (outcomes.Success outs) r.task r.of_attempt r.asked (λ (job : Job). EndsAsTold gives may_fail job (outcomes.Success outs)) (r.honest due put was) a says at row there) xs own

  failure_due : (past : List Passed) (said heard : List Message) (number : AttemptNo) (why : Failure) (xs : List Attempt) → AreDue due said → WasHonest gives may_fail past → AllByRecursion (SaysOwn P run said) xs → ResultOf past said heard number (outcomes.Failed why)
      → AllByRecursion (EndsDue P gives may_fail due number (outcomes.Failed why)) xs
  failure_due past said heard number why xs put was own r =
      all_step (SaysOwn P run said) (EndsDue P gives may_fail due number (outcomes.Failed why))
      (λ a says at row there. result_at said number (outcomes.Failed why) r.task r.of_attempt r.asked (λ (job : Job). EndsAsTold gives may_fail job (outcomes.Failed why)) (r.honest due put was) a says at row there) xs own

  -- What is told is due.
  pub heard_due : (s : SeatState L) (p : PeerState L) (t : Told) → MeansAs s.peer p t → HearsAs s.peer p t → (honest s.peer.way → honest p.way) → (holds → honest p.way → WasHonest gives may_fail (history p.way)) → Trusted s → TellsDue holds gives may_fail history honest P run due (record s { peer = p }) t
  heard_due s p t means hears on past was = by_told t (hears was.said was.heard was.spoken.honestly was.spoken.serves)
    where
      on_now : honest p.way
      on_now = on was.spoken.honestly

      known : Provides p.session.known was.said None []
      known = heard_known s p t means was

      by_told : (t : Told) → (let r : Result Told Leave = Ok t in ServesOn gives may_fail (history p.way) was.said was.heard r p.feed p.session) → TellsDue holds gives may_fail history honest P run due (record s { peer = p }) t
      by_told tell.Nothing serves = tt
      by_told (tell.Joined total largest cache) tells = tt
      by_told (tell.Changed total largest cache) tells = tt
      by_told (tell.Finish attempt outs) tells = λ held. success_due (history p.way) was.said (was.heard ++ (tells.message ∷ [])) attempt outs s.attempts (was.spoken.put held) (past held on_now) was.spoken.asked tells.is_so
      by_told (tell.Fail attempt why) tells = λ held. failure_due (history p.way) was.said (was.heard ++ (tells.message ∷ [])) attempt why s.attempts (was.spoken.put held) (past held on_now) was.spoken.asked tells.is_so
      by_told (tell.Lose attempt) tells = tt
      by_told (tell.PutAgain attempt files) tells = record {
        said = was.said;
        heard = was.heard ++ (tells.message ∷ []);
        spoken = heard_more s p was.said was.heard (was.heard ++ (tells.message ∷ [])) was.spoken tells.serves known on_now;
        task = tells.is_so.0;
        of_attempt = tells.is_so.1;
        among = tells.is_so.2;
      }
      by_told (tell.Stale attempt) tells = tt

  put_or_left : (said : List Message) (left : List Key) (key : Key) → IsPutOrLeft said [] key → IsPutOrLeft said left key
  put_or_left said left key (inl put) = inl put
  put_or_left said left key (inr none) = absurd none

  all_put_or_left : (said : List Message) (left known : List Key) → AllByRecursion (IsPutOrLeft said []) known → AllByRecursion (IsPutOrLeft said left) known
  all_put_or_left said left [] all = tt
  all_put_or_left said left (key ∷ known) all = (put_or_left said left key all.0, all_put_or_left said left known all.1)

  -- more may be put once more
  wide_left : (s : SeatState L) (said heard : List Message) (left : List Key) → Spoken s said heard None [] → Spoken s said heard None left
  wide_left s said heard left spoken = record {
    serves = spoken.serves;
    provides = record { put_or_left = all_put_or_left said left s.peer.session.known spoken.provides.put_or_left; waits = spoken.provides.waits; provided = spoken.provides.provided };
    put = spoken.put;
    asked = spoken.asked;
    older = spoken.older;
    honestly = spoken.honestly;
  }

  -- A task that was asked may be asked again.
  pub again_asks : (s : SeatState L) (number : AttemptNo) (f : List Attempt) (a : Attempt) (b : List Attempt) (task : Task) (left : List Key) → s.attempts ≡ f ++ (a ∷ b) → a.number ≡ number → NoneHas a.number f × NoneHas a.number b → own_task P run a ≡ Some task
      → WasAsked holds gives may_fail history honest P run due s number → Asks s task left
  again_asks s number f a b task left split at alone is was =
      let says : SaysOwn P run was.said a = all_at (SaysOwn P run was.said) f a b (subst (AllByRecursion (SaysOwn P run was.said)) split was.spoken.asked) in
      let one : was.task ≡ task = some_task was.task task (sym (says was.task was.among (was.of_attempt ∙ sym at)) ∙ is) in
      record {
        said = was.said;
        heard = was.heard;
        waiting = None;
        spoken = wide_left s was.said was.heard left was.spoken;
        may = inr (refl, subst (λ (x : Task). IsAmong (messages.Task x) was.said) one was.among);
        own = subst (AllByRecursion (IsOwn P run task)) (sym split) (own_all P run f a b task alone is);
        newest = subst (λ (x : Task). IsUpTo s.newest x.attempt) one (was.spoken.older was.task was.among);
      }

-- ---- guests

module _ {L : Type 0} (gives : Function) (may_fail : Job → Failure → Type 0) (history : L → List Passed) (honest : L → Type 0) where
  abbrev pub Guest : PeerState L → Type 0
  Guest p = IsHonestGuest gives may_fail history honest p

  abbrev pub Stranger : PeerState L → Type 0
  Stranger p = IsStranger gives may_fail history honest p

  -- a peer that came over an honest link
  pub new_awaited : (holds : Type 0) (p : PeerState L) (way : L) (run : ℕ) → history way ≡ [] → (holds → honest way) → p ≡ new_peer way run → (history way ≡ [] → Serves gives may_fail (history p.way) p.feed p.session [] [] None)
      → IsGuest (IsAwaited holds gives may_fail history honest) p
  new_awaited holds p way run fresh on same serves = record {
    opens = subst (λ (q : PeerState L). AllByRecursion (λ (o : Open). ⊥) q.session.attempts) (sym same) tt;
    going = ap (λ (q : PeerState L). q.feed.stop) same;
    so = λ held. record { serves = serves fresh; provides = subst (λ (q : PeerState L). Provides q.session.known [] None []) (sym same) provides_first; honestly = subst (λ (q : PeerState L). honest q.way) (sym same) (on held) };
  }

  -- bytes came of it
  pub come_stranger : (p q : PeerState L) → q.session ≡ p.session → ((said heard : List Message) (waiting : Option Task) → honest p.way → Serves gives may_fail (history p.way) p.feed p.session said heard waiting → Serves gives may_fail (history q.way) q.feed q.session said heard waiting)
      → (honest p.way → honest q.way) → Stranger p → Stranger q
  come_stranger p q same stays on was = record { serves = stays [] [] None was.honestly was.serves; provides = subst (λ (x : State). Provides x.known [] None []) (sym same) was.provides; honestly = on was.honestly }

  -- nothing was heard of it
  pub guest_of : (holds : Type 0) (p : PeerState L) → IsGuest (IsAwaited holds gives may_fail history honest) p → IsGuest (IsMeant holds gives may_fail history honest) p
  guest_of holds p guest = record {
    opens = guest.opens;
    going = guest.going;
    so = λ held. record { heard = []; serves = (guest.so held).serves; provides = (guest.so held).provides; honestly = (guest.so held).honestly };
  }

  -- what a call that hears a message does
  abbrev pub HearsGuest : PeerState L → PeerState L → Told → Type 0
  HearsGuest p q t = let r : Result Told Leave = Ok t in (said heard : List Message) → honest p.way → Serves gives may_fail (history p.way) p.feed p.session said heard None → ServesOn gives may_fail (history q.way) said heard r q.feed q.session

  pub heard_guest : (p q : PeerState L) (t : Told) → (p.feed.stop ≡ None → (let r : Result Told Leave = Ok t in Hears p.feed p.session r q.feed q.session)) → HearsGuest p q t → (honest p.way → honest q.way) → Guest p → Guest q
  heard_guest p q t means hears on was = by_told t (hears [] was.heard was.honestly was.serves)
    where
      known : Provides q.session.known [] None []
      known = known_on p.feed q.feed p.session q.session t [] provides_heard (means was.serves.going) was.provides

      by : (t : Told) → Tells gives may_fail (history q.way) q.feed q.session [] was.heard t → Guest q
      by t tells = record { heard = was.heard ++ (tells.message ∷ []); serves = tells.serves; provides = known; honestly = on was.honestly }

      by_told : (t : Told) → (let r : Result Told Leave = Ok t in ServesOn gives may_fail (history q.way) [] was.heard r q.feed q.session) → Guest q
      by_told tell.Nothing serves = record { heard = was.heard; serves = serves; provides = known; honestly = on was.honestly }
      by_told (tell.Joined total largest cache) tells = by (tell.Joined total largest cache) tells
      by_told (tell.Changed total largest cache) tells = by (tell.Changed total largest cache) tells
      by_told (tell.Finish attempt outs) tells = by (tell.Finish attempt outs) tells
      by_told (tell.Fail attempt why) tells = by (tell.Fail attempt why) tells
      by_told (tell.Lose attempt) tells = by (tell.Lose attempt) tells
      by_told (tell.PutAgain attempt files) tells = by (tell.PutAgain attempt files) tells
      by_told (tell.Stale attempt) tells = by (tell.Stale attempt) tells

  -- A guest stays one while bytes come of it.
  pub listened_guest : (holds : Type 0) (p q : PeerState L) → q.session ≡ p.session → (p.feed.stop ≡ None → q.feed.stop ≡ None) → (Stranger p → Stranger q) → IsGuest (IsAwaited holds gives may_fail history honest) p → IsGuest (IsAwaited holds gives may_fail history honest) q
  listened_guest holds p q session going on guest = record {
    opens = subst (λ (s : State). AllByRecursion (λ (o : Open). ⊥) s.attempts) (sym session) guest.opens;
    going = going guest.going;
    so = λ held. on (guest.so held);
  }

  -- And while nothing whole is there to be heard.
  pub waits_guest : (holds : Type 0) (p q : PeerState L) → (let r : Result Told Leave = Ok tell.Nothing in p.feed.stop ≡ None → Hears p.feed p.session r q.feed q.session) → HearsGuest p q tell.Nothing → (honest p.way → honest q.way)
      → IsGuest (IsAwaited holds gives may_fail history honest) p → IsGuest (IsAwaited holds gives may_fail history honest) q
  waits_guest holds p q hears serves on guest =
      let h = hears_on (λ (o : Open). ⊥) (λ o none. none) p.feed q.feed p.session q.session tell.Nothing guest.going guest.opens (hears guest.going) in
      record {
        opens = h.opens;
        going = h.going;
        so = λ held. let was = guest.so held in record { serves = serves [] [] was.honestly was.serves; provides = known_on p.feed q.feed p.session q.session tell.Nothing [] provides_heard (hears guest.going) was.provides; honestly = on was.honestly };
      }

  -- And while messages are heard of it.
  pub told_guest : (holds : Type 0) (p q : PeerState L) (t : Told) → (let r : Result Told Leave = Ok t in p.feed.stop ≡ None → Hears p.feed p.session r q.feed q.session) → HearsGuest p q t → (honest p.way → honest q.way)
      → IsGuest (IsMeant holds gives may_fail history honest) p → IsGuest (IsMeant holds gives may_fail history honest) q
  told_guest holds p q t hears serves on guest =
      let h = hears_on (λ (o : Open). ⊥) (λ o none. none) p.feed q.feed p.session q.session t guest.going guest.opens (hears guest.going) in
      record { opens = h.opens; going = h.going; so = λ held. heard_guest p q t hears serves on (guest.so held) }
