-- How a peer stays at work where it tells something, and what its link shows then.
use Rattle.std.proofs.Common.{◌≡◌, ◌⊎◌, inl, inr, ℕ, List, [], ◌∷◌, ◌++◌, Option, Some, None, Result, Ok, Err, sym, ap, ◌∙◌, subst}
use Rattle.std.specs.Prelude.{OnOk}
use Rattle.flow_types.specs.declared.job.Failure.{Failure}
use Rattle.flow_types.specs.declared.job.Job.{Job}
use Rattle.flow_types.specs.declared.job.Outcome.{Outcome}
use Rattle.flow_types.specs.declared.job.Outcome.TheVariants as outcomes
use Rattle.flow_types.specs.declared.job.Task.{Task}
use Rattle.flow_types.specs.declared.messages.Message.{Message}
use Rattle.flow_types.specs.declared.messages.Message.TheVariants as messages
use Rattle.flow_types.specs.declared.numbers.AttemptNo.{AttemptNo}
use Rattle.flow_types.specs.Serial.{Function, given_by}
use Rattle.links.specs.declared.passing.Passed.{Passed}
use Rattle.links.specs.Honesty.{task_job}
use Rattle.links.specs.Passings.{received_in, sent_in}
use Rattle.message_forms.specs.Streams.{Carries, IsAmong, IsStream}
use Rattle.outside.specs.Jobs.{IsHonest}
use Rattle.peers.specs.declared.leave.Leave.{Leave}
use Rattle.peers.specs.declared.told.Told.{Told}
use Rattle.peers.specs.declared.told.Told.TheVariants as tell
use Rattle.link_session.specs.declared.word.Word.{Word}
use Rattle.link_session.specs.Sessions.{State, told}
use Rattle.peers.specs.Hears.{Hears, IsResult, IsTold, Means, ServesOn, Tells, Turns}
use Rattle.peers.specs.Provides.{Provides}
use Rattle.peers.specs.Serves.{AreDue, Serves, WasHonest, WhatIsSaidWentOut}
use Rattle.peers.specs.States.{PeerState}
use Rattle.peers.proofs.Providing.{provides_heard}
use Rattle.resource_pack.specs.declared.occupied.Stated.{Stated}
use Rattle.task_book.specs.declared.task.Held.{Held}
use Rattle.task_book.specs.declared.task.Submission.{Submission}
use Rattle.task_book.specs.Kept.{Kept}
use Rattle.task_book.specs.Stages.{Ends, EndsOn, EndsWith, Runs}
use Rattle.wq_frames.specs.Frames.{front, part}
use Rattle.wq_frames.specs.Streams.{Stream}
use Rattle.wq_seats.specs.declared.run.Again.{Again}
use Rattle.wq_seats.specs.declared.run.Run.{Run}
use Rattle.wq_seats.specs.Shown.{EndsRight, ShowsOn, IsRightOf, IsShownOn}
use Rattle.wq_seats.specs.Works.{GoesOnAs}
use Rattle.wq_seats.specs.Tellings.{IsSilent, StaysRested, id_of, told_again, told_book, told_runs, told_stated}
use Rattle.wq_seats.specs.Seats.{AreOpen, AreOwn, AreWell, IsAtWork, IsStated, SeatState, WasSaid, contents_of, task_of}
use Rattle.peer_health.specs.Healths.{IsRested}
use Rattle.wq_seats.proofs.Going.{ended_where, ended_where_ends, goes_same, waits_where, waits_where_ends}
use Rattle.wq_seats.proofs.Speaking.{same_said, works_on}
use Rattle.wq_seats.proofs.Telling.{now_open, now_owed, now_stated, now_well, same_message, told_after, well_before}

abbrev ok_told : Told → Result Told Leave
ok_told t = Ok t

module _ {L : Type 0} (gives : Function) (may_fail : Job → Failure → Type 0) (history : L → List Passed) where
  abbrev ServesBy : PeerState L → List Message → List Message → Type 0
  ServesBy p said heard = Serves gives may_fail (history p.way) p.feed p.session said heard None

  -- What a call that hears a message does.
  abbrev pub HearsAs : PeerState L → PeerState L → Told → Type 0
  HearsAs p p_now t = (said heard : List Message) → ServesBy p said heard → ServesOn gives may_fail (history p_now.way) said heard (ok_told t) p_now.feed p_now.session

  -- What a call that waits for bytes does.
  abbrev pub Listens : PeerState L → PeerState L → Type 0
  Listens p p_now = (said heard : List Message) → ServesBy p said heard → ServesBy p_now said heard

  -- What it tells, by session and stream.
  abbrev pub HearsBy : PeerState L → PeerState L → Told → Type 0
  HearsBy p p_now t = (p.feed.stop ≡ None → Hears p.feed p.session (ok_told t) p_now.feed p_now.session) × (p_now.way ≡ p.way)

  abbrev pub AtWork : List (List ℕ) → List Held → ℕ → SeatState L → Type 0
  AtWork files held next s = IsAtWork gives may_fail history files held next s

  pub listen_works : (files : List (List ℕ)) (held : List Held) (next : ℕ) (s : SeatState L) (p_now : PeerState L) → p_now.session ≡ s.peer.session → Listens s.peer p_now → AtWork files held next s → AtWork files held next (record s { peer = p_now })
  listen_works files held next s p_now same listens w = same_said gives may_fail history files held next s p_now None [] w same (listens w.said w.heard w.spoken.serves)

  -- nothing whole is there, and nothing changes
  still_works : (files : List (List ℕ)) (held : List Held) (next : ℕ) (s now : SeatState L) (w : AtWork files held next s) → now.peer.session ≡ s.peer.session → ServesBy now.peer w.said w.heard
      → now.runs ≡ s.runs → now.stated ≡ s.stated → now.again ≡ s.again → (IsRested s.health → IsRested now.health) → AtWork files held next now
  still_works files held next s now w same serves runs stated again rested = record {
    said = w.said;
    heard = w.heard;
    spoken = record { serves = serves; due = w.spoken.due; own = w.spoken.own; older = w.spoken.older };
    owed = λ a is. w.owed a (sym again ∙ is);
    provides = subst (λ (z : State). let none : Option Task = None in Provides z.known w.said none []) (sym same) w.provides;
    runs = subst (λ (rs : List Run). AreOpen rs now.peer.session.attempts) (sym runs) (subst (λ (z : State). AreOpen s.runs z.attempts) (sym same) w.runs);
    stated = subst (λ (o : Option Stated). IsStated o now.peer.session.stage w.heard) (sym stated) (subst (λ (z : State). IsStated s.stated z.stage w.heard) (sym same) w.stated);
    well = λ well. (again ∙ (w.well well).0, rested (w.well well).1);
  }

  -- a message was heard, and this is how the seat is then
  heard_works : (files : List (List ℕ)) (held : List Held) (next : ℕ) (s now : SeatState L) (w : AtWork files held next s) (m : Message) (word : Word) → (told s.peer.session m).answer ≡ Ok word → now.peer.session ≡ (told s.peer.session m).state
      → ServesBy now.peer w.said (w.heard ++ m ∷ []) → ((a : Again) → now.again ≡ Some a → WasSaid a.attempt w.said) → AreOpen now.runs now.peer.session.attempts → IsStated now.stated now.peer.session.stage (w.heard ++ m ∷ [])
      → (AreWell (w.heard ++ m ∷ []) → (now.again ≡ None) × IsRested now.health) → AtWork files held next now
  heard_works files held next s now w m word answer after serves owed runs stated well = record {
    said = w.said;
    heard = w.heard ++ m ∷ [];
    spoken = record { serves = serves; due = w.spoken.due; own = w.spoken.own; older = w.spoken.older };
    owed = owed;
    provides = subst (λ (z : State). let none : Option Task = None in Provides z.known w.said none []) (sym after) (provides_heard s.peer.session w.said m w.provides);
    runs = runs;
    stated = stated;
    well = well;
  }

  -- ---- by what is told

  told_at : (files : List (List ℕ)) (held : List Held) (next : ℕ) (s now : SeatState L) (t : Told) (w : AtWork files held next s) (m : Message) → ServesBy now.peer w.said (w.heard ++ m ∷ [])
      → IsTold gives may_fail (history now.peer.way) w.said (w.heard ++ m ∷ []) t → (let r : Result Told Leave = Ok t in Turns s.peer.session m r now.peer.session)
      → now.runs ≡ told_runs t s.runs → now.stated ≡ told_stated t s.stated → now.again ≡ told_again t s.again → StaysRested t s.health now.health → AtWork files held next now
  told_at files held next s now t w m serves is_so turns runs stated again rested =
      let word = turns.0 in
      let answer = turns.1 in
      let is = told_after s.peer.session m word answer in
      heard_works files held next s now w m word answer turns.2 serves
      (now_owed gives may_fail (history now.peer.way) w.said (w.heard ++ m ∷ []) t s.again now.again again is_so w.owed)
      (subst (λ (rs : List Run). AreOpen rs now.peer.session.attempts) (sym runs) (subst (λ (z : State). AreOpen (told_runs t s.runs) z.attempts) (sym turns.2)
      (now_open s.runs s.peer.session (told s.peer.session m).state t word m turns.4 is w.runs)))
      (subst (λ (o : Option Stated). IsStated o now.peer.session.stage (w.heard ++ m ∷ [])) (sym stated) (subst (λ (z : State). IsStated (told_stated t s.stated) z.stage (w.heard ++ m ∷ [])) (sym turns.2)
      (now_stated gives may_fail (history now.peer.way) w.said w.heard s.stated s.peer.session (told s.peer.session m).state t word m turns.4 is is_so w.stated)))
      (λ well. now_well gives may_fail (history now.peer.way) w.said w.heard s.again now.again s.health now.health t word m s.peer.session (told s.peer.session m).state turns.4 is is_so again rested well (w.well (well_before w.heard m well)))

  tells_at : (files : List (List ℕ)) (held : List Held) (next : ℕ) (s now : SeatState L) (t : Told) (w : AtWork files held next s) → Tells gives may_fail (history now.peer.way) now.peer.feed now.peer.session w.said w.heard t
      → Means s.peer.feed s.peer.session (ok_told t) now.peer.feed now.peer.session → now.peer.way ≡ s.peer.way
      → now.runs ≡ told_runs t s.runs → now.stated ≡ told_stated t s.stated → now.again ≡ told_again t s.again → StaysRested t s.health now.health → AtWork files held next now
  tells_at files held next s now t w tells h way runs stated again rested =
      let one : tells.message ≡ h.0 =
      same_message (received_in (history s.peer.way)) w.heard s.peer.feed now.peer.feed now.peer.feed.rest tells.message h.0 w.spoken.serves.came h.1
      (subst (λ (x : L). IsStream (received_in (history x)) (w.heard ++ tells.message ∷ []) now.peer.feed.rest) way tells.serves.came) in
      told_at files held next s now t w h.0 (subst (λ (x : Message). ServesBy now.peer w.said (w.heard ++ x ∷ [])) one tells.serves)
      (subst (λ (x : Message). IsTold gives may_fail (history now.peer.way) w.said (w.heard ++ x ∷ []) t) one tells.is_so) h.2 runs stated again rested

  -- the peer stays at work, whatever it tells
  pub told_works_at : (files : List (List ℕ)) (held : List Held) (next : ℕ) (s now : SeatState L) (t : Told) → HearsAs s.peer now.peer t → HearsBy s.peer now.peer t
      → now.runs ≡ told_runs t s.runs → now.stated ≡ told_stated t s.stated → now.again ≡ told_again t s.again → StaysRested t s.health now.health → AtWork files held next s → AtWork files held next now
  told_works_at files held next s now tell.Nothing hears means runs stated again rested w =
      still_works files held next s now w (means.0 w.spoken.serves.going).2 (hears w.said w.heard w.spoken.serves) runs stated again rested
  told_works_at files held next s now (tell.Joined total largest cache) hears means runs stated again rested w =
      tells_at files held next s now (tell.Joined total largest cache) w (hears w.said w.heard w.spoken.serves) (means.0 w.spoken.serves.going) means.1 runs stated again rested
  told_works_at files held next s now (tell.Changed total largest cache) hears means runs stated again rested w =
      tells_at files held next s now (tell.Changed total largest cache) w (hears w.said w.heard w.spoken.serves) (means.0 w.spoken.serves.going) means.1 runs stated again rested
  told_works_at files held next s now (tell.Finish attempt outs) hears means runs stated again rested w =
      tells_at files held next s now (tell.Finish attempt outs) w (hears w.said w.heard w.spoken.serves) (means.0 w.spoken.serves.going) means.1 runs stated again rested
  told_works_at files held next s now (tell.Fail attempt why) hears means runs stated again rested w =
      tells_at files held next s now (tell.Fail attempt why) w (hears w.said w.heard w.spoken.serves) (means.0 w.spoken.serves.going) means.1 runs stated again rested
  told_works_at files held next s now (tell.Lose attempt) hears means runs stated again rested w =
      tells_at files held next s now (tell.Lose attempt) w (hears w.said w.heard w.spoken.serves) (means.0 w.spoken.serves.going) means.1 runs stated again rested
  told_works_at files held next s now (tell.PutAgain attempt lacked) hears means runs stated again rested w =
      tells_at files held next s now (tell.PutAgain attempt lacked) w (hears w.said w.heard w.spoken.serves) (means.0 w.spoken.serves.going) means.1 runs stated again rested
  told_works_at files held next s now (tell.Stale attempt) hears means runs stated again rested w =
      tells_at files held next s now (tell.Stale attempt) w (hears w.said w.heard w.spoken.serves) (means.0 w.spoken.serves.going) means.1 runs stated again rested

  -- ---- what is shown

  -- the task of a result is that of the held one that ran
  its_task : (held : List Held) (said : List Message) (t : Task) (attempt : AttemptNo) (task : Submission) → AreOwn held said → IsAmong (messages.Task t) said → t.attempt ≡ attempt → Runs held attempt task
      → t ≡ task_of attempt task
  its_task held said t attempt task own among same runs =
      own t among task (subst (λ (a : AttemptNo). Runs held a task) (sym same) runs) ∙ ap (λ (a : AttemptNo). task_of a task) same

  result_shown : (held new : List Held) (attempt : AttemptNo) (outcome : Outcome) (way : L) (said heard : List Message) → AreOwn held said → IsResult gives may_fail (history way) said heard attempt outcome
      → ((m : Message) → (IsAmong m said → Carries (sent_in (history way)) m) × (IsAmong m heard → Carries (received_in (history way)) m)) → EndsWith held new attempt outcome
      → ShowsOn history held new way
  result_shown held new attempt outcome way said heard own r went ends a o task end = by (ends a o task end)
    where
      by : Ends held a o task ⊎ ((a ≡ attempt) × (o ≡ outcome) × Runs held attempt task) → Ends held a o task ⊎ IsShownOn history task a o way
      by (inl before) = inl before
      by (inr (same, ended, runs)) =
          let its = its_task held said r.task attempt task own r.asked r.of_attempt runs in
          let asked : Carries (sent_in (history way)) (messages.Task (task_of attempt task)) =
          subst (λ (t : Task). Carries (sent_in (history way)) (messages.Task t)) its ((went (messages.Task r.task)).0 r.asked) in
          let came : Carries (received_in (history way)) (messages.Done attempt outcome) = (went (messages.Done attempt outcome)).1 r.came in
          inr (record {
            asked = subst (λ (n : AttemptNo). Carries (sent_in (history way)) (messages.Task (task_of n task))) (sym same) asked;
            answered =
                subst (λ (n : AttemptNo). Carries (received_in (history way)) (messages.Done n o)) (sym same)
                (subst (λ (x : Outcome). Carries (received_in (history way)) (messages.Done attempt x)) (sym ended) came);
          })

  result_right : (files : List (List ℕ)) (held new : List Held) (attempt : AttemptNo) (outcome : Outcome) (past : List Passed) (said heard : List Message) → AreOwn held said → AreDue (contents_of files) said
      → IsResult gives may_fail past said heard attempt outcome → WasHonest gives may_fail past → EndsWith held new attempt outcome → EndsRight gives may_fail files held new
  result_right files held new attempt outcome past said heard own due r was ends a o task end = by (ends a o task end)
    where
      by : Ends held a o task ⊎ ((a ≡ attempt) × (o ≡ outcome) × Runs held attempt task) → Ends held a o task ⊎ IsRightOf gives may_fail files task o
      by (inl before) = inl before
      by (inr (same, ended, runs)) =
          let its = its_task held said r.task attempt task own r.asked r.of_attempt runs in
          let right = r.honest (contents_of files) due was in
          let ours : IsHonest (given_by gives (task_job (task_of attempt task) (contents_of files))) (may_fail (task_job (task_of attempt task) (contents_of files))) outcome =
          subst (λ (t : Task). IsHonest (given_by gives (task_job t (contents_of files))) (may_fail (task_job t (contents_of files))) outcome) its right in
          inr (subst (λ (x : Outcome). IsRightOf gives may_fail files task x) (sym ended) ours)

  -- nothing came to its end
  pub none_shown : (held new : List Held) (way : L) → EndsOn held new → ShowsOn history held new way
  none_shown held new way on a o task end = inl (on a o task end)

  pub none_right : (files : List (List ℕ)) (held new : List Held) → EndsOn held new → EndsRight gives may_fail files held new
  none_right files held new on a o task end = inl (on a o task end)

  pub finish_shown : (files : List (List ℕ)) (held new : List Held) (next : ℕ) (s : SeatState L) (p_now : PeerState L) (attempt : AttemptNo) (outs : List (List ℕ)) → WhatIsSaidWentOut gives may_fail
      → HearsAs s.peer p_now (tell.Finish attempt outs) → EndsWith held new attempt (outcomes.Success outs) → AtWork files held next s → ShowsOn history held new p_now.way
  finish_shown files held new next s p_now attempt outs went hears ends w =
      let tells = hears w.said w.heard w.spoken.serves in
      result_shown held new attempt (outcomes.Success outs) p_now.way w.said (w.heard ++ tells.message ∷ []) w.spoken.own tells.is_so
      (λ m. went (history p_now.way) p_now.feed p_now.session w.said (w.heard ++ tells.message ∷ []) None m tells.serves) ends

  pub fail_shown : (files : List (List ℕ)) (held new : List Held) (next : ℕ) (s : SeatState L) (p_now : PeerState L) (attempt : AttemptNo) (why : Failure) → WhatIsSaidWentOut gives may_fail
      → HearsAs s.peer p_now (tell.Fail attempt why) → EndsWith held new attempt (outcomes.Failed why) → AtWork files held next s → ShowsOn history held new p_now.way
  fail_shown files held new next s p_now attempt why went hears ends w =
      let tells = hears w.said w.heard w.spoken.serves in
      result_shown held new attempt (outcomes.Failed why) p_now.way w.said (w.heard ++ tells.message ∷ []) w.spoken.own tells.is_so
      (λ m. went (history p_now.way) p_now.feed p_now.session w.said (w.heard ++ tells.message ∷ []) None m tells.serves) ends

  pub finish_right : (files : List (List ℕ)) (held new : List Held) (next : ℕ) (s : SeatState L) (p_now : PeerState L) (attempt : AttemptNo) (outs : List (List ℕ)) → WasHonest gives may_fail (history p_now.way)
      → HearsAs s.peer p_now (tell.Finish attempt outs) → EndsWith held new attempt (outcomes.Success outs) → AtWork files held next s → EndsRight gives may_fail files held new
  finish_right files held new next s p_now attempt outs was hears ends w =
      let tells = hears w.said w.heard w.spoken.serves in
      result_right files held new attempt (outcomes.Success outs) (history p_now.way) w.said (w.heard ++ tells.message ∷ []) w.spoken.own w.spoken.due tells.is_so was ends

  pub fail_right : (files : List (List ℕ)) (held new : List Held) (next : ℕ) (s : SeatState L) (p_now : PeerState L) (attempt : AttemptNo) (why : Failure) → WasHonest gives may_fail (history p_now.way)
      → HearsAs s.peer p_now (tell.Fail attempt why) → EndsWith held new attempt (outcomes.Failed why) → AtWork files held next s → EndsRight gives may_fail files held new
  fail_right files held new next s p_now attempt why was hears ends w =
      let tells = hears w.said w.heard w.spoken.serves in
      result_right files held new attempt (outcomes.Failed why) (history p_now.way) w.said (w.heard ++ tells.message ∷ []) w.spoken.own w.spoken.due tells.is_so was ends

  -- ---- by what is told

  -- the book goes on
  pub told_goes : (k : Kept) (runs : List Run) (t : Told) → GoesOnAs k (told_book runs t k)
  told_goes k runs tell.Nothing = goes_same k
  told_goes k runs (tell.Joined total largest cache) = goes_same k
  told_goes k runs (tell.Changed total largest cache) = goes_same k
  told_goes k runs (tell.Finish attempt outs) = ended_where k (id_of attempt runs) attempt (outcomes.Success outs)
  told_goes k runs (tell.Fail attempt why) = ended_where k (id_of attempt runs) attempt (outcomes.Failed why)
  told_goes k runs (tell.Lose attempt) = waits_where k (id_of attempt runs) attempt
  told_goes k runs (tell.PutAgain attempt files) = goes_same k
  told_goes k runs (tell.Stale attempt) = goes_same k

  -- the peer stays at work, and the book goes on
  pub told_works : (files : List (List ℕ)) (k : Kept) (next : ℕ) (s now : SeatState L) (t : Told) → HearsAs s.peer now.peer t → HearsBy s.peer now.peer t
      → now.runs ≡ told_runs t s.runs → now.stated ≡ told_stated t s.stated → now.again ≡ told_again t s.again → StaysRested t s.health now.health
      → AtWork files k.held next s → AtWork files (told_book s.runs t k).held next now
  told_works files k next s now t hears means runs stated again rested w =
      works_on gives may_fail history files k.held (told_book s.runs t k).held next now (told_goes k s.runs t).runs (told_works_at files k.held next s now t hears means runs stated again rested w)

  -- what came to its end is shown
  pub told_shows : (files : List (List ℕ)) (k : Kept) (runs : List Run) (next : ℕ) (s : SeatState L) (p_now : PeerState L) (t : Told) → WhatIsSaidWentOut gives may_fail → HearsAs s.peer p_now t → AtWork files k.held next s → ShowsOn history k.held (told_book runs t k).held p_now.way
  told_shows files k runs next s p_now tell.Nothing went hears w = none_shown k.held k.held p_now.way (λ a o task end. end)
  told_shows files k runs next s p_now (tell.Joined total largest cache) went hears w = none_shown k.held k.held p_now.way (λ a o task end. end)
  told_shows files k runs next s p_now (tell.Changed total largest cache) went hears w = none_shown k.held k.held p_now.way (λ a o task end. end)
  told_shows files k runs next s p_now (tell.Finish attempt outs) went hears w =
      finish_shown files k.held (told_book runs (tell.Finish attempt outs) k).held next s p_now attempt outs went hears (ended_where_ends k (id_of attempt runs) attempt (outcomes.Success outs)) w
  told_shows files k runs next s p_now (tell.Fail attempt why) went hears w =
      fail_shown files k.held (told_book runs (tell.Fail attempt why) k).held next s p_now attempt why went hears (ended_where_ends k (id_of attempt runs) attempt (outcomes.Failed why)) w
  told_shows files k runs next s p_now (tell.Lose attempt) went hears w = none_shown k.held (told_book runs (tell.Lose attempt) k).held p_now.way (waits_where_ends k (id_of attempt runs) attempt)
  told_shows files k runs next s p_now (tell.PutAgain attempt lacked) went hears w = none_shown k.held k.held p_now.way (λ a o task end. end)
  told_shows files k runs next s p_now (tell.Stale attempt) went hears w = none_shown k.held k.held p_now.way (λ a o task end. end)

  -- what came to its end did so as its job does, where the link was honest
  pub told_right : (files : List (List ℕ)) (k : Kept) (runs : List Run) (next : ℕ) (s : SeatState L) (p_now : PeerState L) (t : Told) → WasHonest gives may_fail (history p_now.way) → HearsAs s.peer p_now t
      → AtWork files k.held next s → EndsRight gives may_fail files k.held (told_book runs t k).held
  told_right files k runs next s p_now tell.Nothing was hears w = none_right files k.held k.held (λ a o task end. end)
  told_right files k runs next s p_now (tell.Joined total largest cache) was hears w = none_right files k.held k.held (λ a o task end. end)
  told_right files k runs next s p_now (tell.Changed total largest cache) was hears w = none_right files k.held k.held (λ a o task end. end)
  told_right files k runs next s p_now (tell.Finish attempt outs) was hears w =
      finish_right files k.held (told_book runs (tell.Finish attempt outs) k).held next s p_now attempt outs was hears (ended_where_ends k (id_of attempt runs) attempt (outcomes.Success outs)) w
  told_right files k runs next s p_now (tell.Fail attempt why) was hears w =
      fail_right files k.held (told_book runs (tell.Fail attempt why) k).held next s p_now attempt why was hears (ended_where_ends k (id_of attempt runs) attempt (outcomes.Failed why)) w
  told_right files k runs next s p_now (tell.Lose attempt) was hears w = none_right files k.held (told_book runs (tell.Lose attempt) k).held (waits_where_ends k (id_of attempt runs) attempt)
  told_right files k runs next s p_now (tell.PutAgain attempt lacked) was hears w = none_right files k.held k.held (λ a o task end. end)
  told_right files k runs next s p_now (tell.Stale attempt) was hears w = none_right files k.held k.held (λ a o task end. end)

-- what is so, is so where a call went well
pub where_ok : {T E : Type 0} {P : Type 0} (r : Result T E) → P → OnOk r P
where_ok (Ok x) p = p
where_ok (Err e) p = tt

-- peers of the same parts are one
pub peer_is : {L : Type 0} (p q : PeerState L) → p.way ≡ q.way → p.feed ≡ q.feed → p.session ≡ q.session → p ≡ q
peer_is {L} p q way feed session =
    ap (λ (w : L). let x : PeerState L = record { way = w; feed = p.feed; session = p.session } in x) way
    ∙ ap (λ (f : Stream). let x : PeerState L = record { way = q.way; feed = f; session = p.session } in x) feed
    ∙ ap (λ (z : State). let x : PeerState L = record { way = q.way; feed = q.feed; session = z } in x) session

-- from where nothing had been heard
pub silent_from : {L : Type 0} (first book now : Kept) (old s new : SeatState L) → s ≡ old → book ≡ first → IsSilent book now s new → IsSilent first now old new
silent_from {L} first book now old s new same kept is = record {
  peer_is = is.peer_is ∙ same;
  kept_is = is.kept_is ∙ kept;
  part_of = subst (λ (x : SeatState L). front x.peer.feed.rest ≡ part) same is.part_of;
}
