-- What a session's words say of the attempts that were open.
use Rattle.std.proofs.Common.{◌≡◌, ℕ, Bool, true, false, List, Option, Some, None, Result, Ok, Err, refl, sym, ap, ◌∙◌, subst}
use Rattle.std.specs.Prelude.{slice_get, nat_lt}
use Rattle.std.specs.List.{AllByRecursion}
use Rattle.flow_types.specs.declared.numbers.AttemptNo.{AttemptNo}
use Rattle.flow_types.specs.declared.numbers.FileNo.{FileNo}
use Rattle.flow_types.specs.declared.job.Outcome.{Outcome}
use Rattle.flow_types.specs.declared.job.Outcome.TheVariants as outcomes
use Rattle.flow_types.specs.declared.messages.Message.{Message}
use Rattle.flow_types.specs.declared.messages.Message.TheVariants as messages
use Rattle.link_session.specs.declared.open.Open.{Open}
use Rattle.link_session.specs.declared.session.Stage.{Stage}
use Rattle.link_session.specs.declared.session.Stage.TheVariants as stages
use Rattle.link_session.specs.declared.word.Word.{Word}
use Rattle.link_session.specs.declared.word.Word.TheVariants as words
use Rattle.link_session.specs.declared.word.SessionFault.{SessionFault}
use Rattle.link_session.specs.Fits.{has_all, outcome_fits}
use Rattle.link_session.specs.Laws.{Closes, ended_by_word}
use Rattle.link_session.specs.Sessions.{State, Told, closed_at, ended_at, ended_by, greets, hears, is_open, lacked_at, lacked_by, missed, most_misses, place, says, told_by, word_of}
use Rattle.peers.specs.declared.leave.Leave.{Leave}
use Rattle.peers.specs.declared.told.Told.{Told as Saying}
use Rattle.peers.specs.declared.told.Told.TheVariants as tell
use Rattle.peers.specs.Hears.{Hears, Means, told_as}
use Rattle.peers.proofs.Opens.{Placed, all_get, all_left, all_set, placed}
use Rattle.wq_frames.specs.Streams.{Stream}

-- An open attempt of this number, of which this is so and which may end so.
pub record Ends (Q : Open → Type 0) (attempt : AttemptNo) (outcome : Outcome) : Type 0 where
  pub it : Open
  pub so : Q it
  pub of_it : it.attempt ≡ attempt
  pub fits : outcome_fits it.bounds outcome ≡ true

-- the same of one that doesn't end
pub record Stands (Q : Open → Type 0) (attempt : AttemptNo) : Type 0 where
  pub it : Open
  pub so : Q it
  pub of_it : it.attempt ≡ attempt

-- What is so of what is told, where this is so of each open attempt.
abbrev pub Says : (Open → Type 0) → Saying → Type 0
Says Q (tell.Finish attempt outs) = Ends Q attempt (outcomes.Success outs)
Says Q (tell.Fail attempt why) = Ends Q attempt (outcomes.Failed why)
Says Q (tell.Lose attempt) = Ends Q attempt outcomes.NotRun
Says Q (tell.PutAgain attempt files) = Stands Q attempt
Says Q t = Unit {0}

-- the same of a session's answer
abbrev SaysBy : (Open → Type 0) → Message → Result Word SessionFault → Type 0
SaysBy Q m (Ok word) = Says Q (told_as word m)
SaysBy Q m (Err fault) = Unit {0}

module _ (Q : Open → Type 0) (stays : (o : Open) → Q o → Q (missed o)) where
  -- it stays so of what is open, and what is answered is so
  abbrev Comes : Message → Told → Type 0
  Comes m t = AllByRecursion Q t.state.attempts × SaysBy Q m t.answer

  greeted : (s : State) (m : Message) → AllByRecursion Q s.attempts → Comes m (greets s m)
  greeted s (messages.Hello total largest cache) all = (all, tt)
  greeted s (messages.Put key content) all = (all, tt)
  greeted s (messages.Task task) all = (all, tt)
  greeted s (messages.Done attempt outcome) all = (all, tt)
  greeted s (messages.Missing attempt files) all = (all, tt)
  greeted s (messages.Cancel attempt) all = (all, tt)
  greeted s (messages.Unlink key) all = (all, tt)
  greeted s (messages.Totals total largest cache) all = (all, tt)
  greeted s messages.Bye all = (all, tt)

  ends_well : (s : State) (attempt : AttemptNo) (outcome : Outcome) (at : ℕ) (o : Open) → AllByRecursion Q s.attempts → Q o → o.attempt ≡ attempt → outcome_fits o.bounds outcome ≡ true
      → Comes (messages.Done attempt outcome) (says (closed_at s at) (word_of attempt outcome))
  ends_well s attempt (outcomes.Success outs) at o all so same fits = (all_left Q s.attempts at all, record { it = o; so = so; of_it = same; fits = fits })
  ends_well s attempt (outcomes.Failed why) at o all so same fits = (all_left Q s.attempts at all, record { it = o; so = so; of_it = same; fits = fits })
  ends_well s attempt outcomes.NotRun at o all so same fits = (all_left Q s.attempts at all, record { it = o; so = so; of_it = same; fits = fits })

  ended_fits : (s : State) (attempt : AttemptNo) (outcome : Outcome) (at : ℕ) (o : Open) (b : Bool) → outcome_fits o.bounds outcome ≡ b → AllByRecursion Q s.attempts → Q o → o.attempt ≡ attempt
      → Comes (messages.Done attempt outcome) (ended_by s attempt outcome at (Some o))
  ended_fits s attempt outcome at o true e all so same = rw e (ends_well s attempt outcome at o all so same e)
  ended_fits s attempt outcome at o false e all so same = rw e (all, tt)

  ended_of : (s : State) (attempt : AttemptNo) (outcome : Outcome) (at : ℕ) (p : Option Open) → slice_get s.attempts at ≡ p → Placed attempt s.attempts at → AllByRecursion Q s.attempts
      → Comes (messages.Done attempt outcome) (ended_by s attempt outcome at p)
  ended_of s attempt outcome at None is here all = (all, tt)
  ended_of s attempt outcome at (Some o) is here all =
      let same : here.it ≡ o = cc (sym here.there_it_is ∙ is) in
      ended_fits s attempt outcome at o (outcome_fits o.bounds outcome) refl all (all_get Q s.attempts at o is all) (sym (ap (λ (x : Open). x.attempt) same) ∙ here.of_it)

  ended : (s : State) (attempt : AttemptNo) (outcome : Outcome) (p : Option ℕ) → place attempt s.attempts ≡ p → AllByRecursion Q s.attempts → Comes (messages.Done attempt outcome) (ended_at s attempt outcome p)
  ended s attempt outcome None is all = (all, tt)
  ended s attempt outcome (Some at) is all = ended_of s attempt outcome at (slice_get s.attempts at) refl (placed attempt s.attempts at is) all

  lacked_few : (s : State) (attempt : AttemptNo) (files : List FileNo) (at : ℕ) (o : Open) (whole few : Bool) → has_all o.files files ≡ whole → nat_lt o.misses most_misses ≡ few → AllByRecursion Q s.attempts → Q o → o.attempt ≡ attempt
      → Comes (messages.Missing attempt files) (lacked_by s attempt files at (Some o))
  lacked_few s attempt files at o true true e f all so same = rw (e, f) (all_set Q s.attempts at (missed o) (stays o so) all, record { it = o; so = so; of_it = same })
  lacked_few s attempt files at o true false e f all so same = rw (e, f) (all_left Q s.attempts at all, record { it = o; so = so; of_it = same; fits = refl })
  lacked_few s attempt files at o false few e f all so same = rw e (all, tt)

  lacked_of : (s : State) (attempt : AttemptNo) (files : List FileNo) (at : ℕ) (p : Option Open) → slice_get s.attempts at ≡ p → Placed attempt s.attempts at → AllByRecursion Q s.attempts
      → Comes (messages.Missing attempt files) (lacked_by s attempt files at p)
  lacked_of s attempt files at None is here all = (all, tt)
  lacked_of s attempt files at (Some o) is here all =
      let same : here.it ≡ o = cc (sym here.there_it_is ∙ is) in
      lacked_few s attempt files at o (has_all o.files files) (nat_lt o.misses most_misses) refl refl all (all_get Q s.attempts at o is all) (sym (ap (λ (x : Open). x.attempt) same) ∙ here.of_it)

  lacked : (s : State) (attempt : AttemptNo) (files : List FileNo) (p : Option ℕ) → place attempt s.attempts ≡ p → AllByRecursion Q s.attempts → Comes (messages.Missing attempt files) (lacked_at s attempt files p)
  lacked s attempt files None is all = (all, tt)
  lacked s attempt files (Some at) is all = lacked_of s attempt files at (slice_get s.attempts at) refl (placed attempt s.attempts at is) all

  behind : (s : State) (m : Message) → AllByRecursion Q s.attempts → Comes m (hears s m)
  behind s (messages.Hello total largest cache) all = (all, tt)
  behind s (messages.Put key content) all = (all, tt)
  behind s (messages.Task task) all = (all, tt)
  behind s (messages.Done attempt outcome) all = ended s attempt outcome (place attempt s.attempts) refl all
  behind s (messages.Missing attempt files) all = lacked s attempt files (place attempt s.attempts) refl all
  behind s (messages.Cancel attempt) all = (all, tt)
  behind s (messages.Unlink key) all = (all, tt)
  behind s (messages.Totals total largest cache) all = (all, tt)
  behind s messages.Bye all = (all, tt)

  by_stage : (s : State) (m : Message) (stage : Stage) → AllByRecursion Q s.attempts → Comes m (told_by s m stage)
  by_stage s m stages.New all = greeted s m all
  by_stage s m stages.Greeted all = behind s m all
  by_stage s m stages.Broken all = (all, tt)

  -- What is open no more once it is told.
  abbrev pub Gone : Saying → List Open → Type 0
  Gone (tell.Finish attempt outs) os = is_open attempt os ≡ false
  Gone (tell.Fail attempt why) os = is_open attempt os ≡ false
  Gone (tell.Lose attempt) os = is_open attempt os ≡ false
  Gone t os = Unit {0}

  -- what is heard
  pub record Heard (next : Stream) (after : State) (t : Saying) : Type 0 where
    pub opens : AllByRecursion Q after.attempts
    pub so : Says Q t
    pub going : next.stop ≡ None
    pub gone : Gone t after.attempts

  gone_by : (word : Word) (m : Message) (before after : List Open) → Closes (ended_by_word word) before after → Gone (told_as word m) after
  gone_by (words.Joined total largest cache) m before after closes = tt
  gone_by (words.Changed total largest cache) m before after closes = tt
  gone_by (words.Finish attempt) m before after closes = closes.1
  gone_by (words.Fail attempt why) m before after closes = closes.1
  gone_by (words.Lose attempt) m before after closes = closes.1
  gone_by (words.PutAgain attempt files) m before after closes = tt
  gone_by (words.Stale attempt) m before after closes = tt

  means : (feed next : Stream) (s after : State) (t : Saying) → AllByRecursion Q s.attempts → (let r : Result Saying Leave = Ok t in Means feed s r next after) → Heard next after t
  means feed next s after t all h =
      let m = h.0 in
      let takes = h.1 in
      let turns = h.2 in
      let word = turns.0 in
      let comes = by_stage s m s.stage all in
      let so : Says Q (told_as word m) = subst (SaysBy Q m) turns.1 comes.1 in
      record {
        opens = subst (λ (x : State). AllByRecursion Q x.attempts) (sym turns.2) comes.0;
        so = subst (Says Q) (sym turns.4) so;
        going = takes.going;
        gone = subst (λ (x : Saying). Gone x after.attempts) (sym turns.4) (gone_by word m s.attempts after.attempts turns.3);
      }

  -- What is heard keeps this of what is open.
  pub hears_on : (feed next : Stream) (s after : State) (t : Saying) → feed.stop ≡ None → AllByRecursion Q s.attempts → (let r : Result Saying Leave = Ok t in Hears feed s r next after) → Heard next after t
  hears_on feed next s after tell.Nothing going all h = record {
    opens = subst (λ (x : State). AllByRecursion Q x.attempts) (sym h.2) all;
    so = tt;
    going = ap (λ (x : Stream). x.stop) h.1 ∙ going;
    gone = tt;
  }
  hears_on feed next s after (tell.Joined total largest cache) going all h = means feed next s after (tell.Joined total largest cache) all h
  hears_on feed next s after (tell.Changed total largest cache) going all h = means feed next s after (tell.Changed total largest cache) all h
  hears_on feed next s after (tell.Finish attempt outs) going all h = means feed next s after (tell.Finish attempt outs) all h
  hears_on feed next s after (tell.Fail attempt why) going all h = means feed next s after (tell.Fail attempt why) all h
  hears_on feed next s after (tell.Lose attempt) going all h = means feed next s after (tell.Lose attempt) all h
  hears_on feed next s after (tell.PutAgain attempt files) going all h = means feed next s after (tell.PutAgain attempt files) all h
  hears_on feed next s after (tell.Stale attempt) going all h = means feed next s after (tell.Stale attempt) all h
