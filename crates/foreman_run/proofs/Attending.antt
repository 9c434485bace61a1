-- What a foreman's machine answers, and what that means to its link.
use Rattle.std.proofs.Common.{◌≡◌, ◌≤◌, ℕ, Bool, true, false, List, [], ◌∷◌, Option, Some, None, Result, Ok, Err, refl, sym, ◌∙◌, subst}
use Rattle.flow_types.specs.declared.job.Failure.{Failure}
use Rattle.flow_types.specs.declared.job.Job.{Job}
use Rattle.flow_types.specs.declared.messages.Message.{Message}
use Rattle.flow_types.specs.declared.numbers.LinkNo.{LinkNo}
use Rattle.flow_types.specs.Serial.{Function}
use Rattle.message_forms.specs.Streams.{AreFramed, IsFramed}
use Rattle.message_forms.proofs.Parses.{framed_append}
use Rattle.wq_messages.specs.Spelling.{HasCounts}
use Rattle.wq_messages.specs.Views.{shown}
use Rattle.wq_messages.specs.declared.fault.PeerFault.{PeerFault}
use Rattle.wq_messages.specs.declared.fault.PeerFault.TheVariants as peers
use Rattle.worker_core.specs.Workers.{goes_up}
use Rattle.foreman_core.specs.declared.acts.Down.{Down}
use Rattle.foreman_core.specs.declared.acts.ForemanActs.{ForemanActs}
use Rattle.foreman_core.specs.Answers.{HearsUp}
use Rattle.foreman_core.specs.Foremen.{Foreman}
use Rattle.foreman_core.specs.Members.{Every}
use Rattle.foreman_core.specs.Steps.{Led, hears_down, hears_up, loses}
use Rattle.foreman_core.proofs.Members.{every_append, every_one}
use Rattle.peer_run.specs.declared.halt.Halt.{Halt}
use Rattle.peer_run.specs.declared.halt.Halt.TheVariants as halts
use Rattle.peer_run.specs.Ends.{Advanced, Takes}
use Rattle.peer_run.specs.Met.{is_bye}
use Rattle.peer_run.specs.Says.{CanBeTold, Each}
use Rattle.peer_run.specs.Works.{EarState, Way}
use Rattle.peer_run.proofs.Steps.{spelled_counts}
use Rattle.foreman_run.specs.declared.stop.Stop.TheVariants as stops
use Rattle.foreman_run.specs.Ends.{StopsAt}
use Rattle.std.specs.Prelude.{is_some, slice_get, slice_set}
use Rattle.foreman_run.specs.Lowers.{HearsOn, IsHeld, LowerState, over}
use Rattle.foreman_run.specs.Lost.{Seen, refused_by}
use Rattle.wq_messages.specs.Heads.{head_of}
use Rattle.foreman_run.specs.Met.{Met, Roll, above, below, lost, heard_of, told_of}
use Rattle.foreman_run.specs.Says.{CanGoDown}
use Rattle.foreman_run.specs.Tied.{Book, with_due}
use Rattle.foreman_run.specs.Works.{Works}
use Rattle.peers.specs.Serves.{WasHonest}
use Rattle.std.proofs.lemmas.List.{length-set}
use Rattle.foreman_run.proofs.Companies.{hears_same, set_begun}
use Rattle.foreman_run.proofs.Tying.{held_set, tied_kept}
use Rattle.foreman_run.proofs.Going.{changed_at, found_now, heard_down, heard_up, is_broken, lost_link, wants}
use Rattle.foreman_run.proofs.Plain.{bye_ends, bye_is}
use Rattle.foreman_run.proofs.Runs.{says_told, sends_told}

-- a message that was refused only goes up
pub is_refused : (b : Bool) (led : Led) (old new : Foreman) (fault : PeerFault) → (let r : Result ForemanActs PeerFault = Err fault in HearsUp b led old r new) → fault ≡ peers.Unexpected → b ≡ true
is_refused true led old new fault h is = refl
is_refused false led old new fault h is = absurd (let wrong : ⊥ = cc (sym h.0 ∙ is) in wrong)

-- a message that was taken goes down, and is a step
pub is_taken : (b : Bool) (led : Led) (old new : Foreman) (acts : ForemanActs) → (let r : Result ForemanActs PeerFault = Ok acts in HearsUp b led old r new) → (b ≡ false) × (acts ≡ led.acts) × (new ≡ led.foreman)
is_taken true led old new acts h = absurd (let wrong : ⊥ = cc h.0 in wrong)
is_taken false led old new acts h = (refl, h.0, h.1)

module _ {L : Type 0} (gives : Function) (may_fail : Job → Failure → Type 0) (tells : Type 0) (trusted : Bool) (below_tells : Type 0) (seen : L → Seen) (honest : L → Type 0) (cap : ℕ) (book : Book L) where
  -- A next message that can't be taken makes a foreman stop.
  pub takes_not : (way : Way) (ear next : EarState) (core : Foreman) (lowers : List (LowerState L)) (halt : Halt) → (let r : Result (Option Message) Halt = Err halt in Takes ear r next)
      → Works gives may_fail tells trusted below_tells seen honest cap book way ear core lowers [] [] false → StopsAt gives may_fail tells trusted below_tells seen cap book way lowers (stops.Left halt)
  takes_not way ear next core lowers halts.Bye took works = absurd took
  takes_not way ear next core lowers halts.Closed took works = absurd took
  takes_not way ear next core lowers halts.Link took works = absurd took
  takes_not way ear next core lowers (halts.Bad at) took works = is_broken gives may_fail tells trusted below_tells seen honest cap book way ear core lowers at took.0 took.1 works
  takes_not way ear next core lowers halts.Memory took works = wants gives may_fail tells trusted below_tells seen honest cap book way ear core lowers [] [] false works

  -- What a message from above that isn't Bye makes it say and send can be told.
  pub up_told : (way : Way) (ear next : EarState) (core : Foreman) (lowers : List (LowerState L)) (m : Message) → Takes ear (Ok (Some m)) next → is_bye m ≡ false
      → Works gives may_fail tells trusted below_tells seen honest cap book way ear core lowers [] [] false → Each CanBeTold (hears_up core m).acts.up × CanGoDown (hears_up core m).acts.down
  up_told way ear next core lowers m took stays w =
      let counts : HasCounts m = spelled_counts m took.0.0 in
      let all : AreFramed (heard_of (above m ∷ w.past)) = framed_append (heard_of w.past) (m ∷ []) w.heard_framed (took.0, tt) in (
        subst (λ (f : Foreman). Each CanBeTold (hears_up f m).acts.up) (sym w.core_is) (says_told cap (above m) w.past (counts, stays) w.told_framed),
        subst (λ (f : Foreman). CanGoDown (hears_up f m).acts.down) (sym w.core_is) (sends_told cap (above m) w.past (counts, stays) all),
      )

  -- So can what a message from below makes it say and send.
  pub down_told : (way : Way) (ear : EarState) (core : Foreman) (lowers : List (LowerState L)) (old new : LowerState L) → Advanced old.ear (Ok true) new.ear
      → Works gives may_fail tells trusted below_tells seen honest cap book way ear core lowers [] [] false
      → (let led = hears_down core old.link (shown new.ear.body) in Each CanBeTold led.acts.up × CanGoDown led.acts.down)
  down_told way ear core lowers old new took w =
      let m : Message = shown new.ear.body in
      let met : Met = below old.link m in
      let all : Every (λ told. IsFramed told.message) (told_of (met ∷ w.past)) =
      every_append (λ told. IsFramed told.message) (told_of w.past) (over old.link m ∷ []) w.told_framed (every_one (λ told. IsFramed told.message) (over old.link m) took.0) in (
        subst (λ (f : Foreman). Each CanBeTold (hears_down f old.link m).acts.up) (sym w.core_is) (says_told cap met w.past tt all),
        subst (λ (f : Foreman). CanGoDown (hears_down f old.link m).acts.down) (sym w.core_is) (sends_told cap met w.past tt w.heard_framed),
      )

  -- So can what a lost link makes it say and send.
  pub lost_told : (way : Way) (ear : EarState) (core : Foreman) (lowers : List (LowerState L)) (k : LinkNo)
      → Works gives may_fail tells trusted below_tells seen honest cap book way ear core lowers [] [] false → Each CanBeTold (loses core k).acts.up × CanGoDown (loses core k).acts.down
  lost_told way ear core lowers k w =
      let met : Met = lost k in (
        subst (λ (f : Foreman). Each CanBeTold (loses f k).acts.up) (sym w.core_is) (says_told cap met w.past tt w.told_framed),
        subst (λ (f : Foreman). CanGoDown (loses f k).acts.down) (sym w.core_is) (sends_told cap met w.past tt w.heard_framed),
      )

  -- The message that ends the work came.
  pub bye_met : (way : Way) (ear next : EarState) (core : Foreman) (lowers : List (LowerState L)) (m : Message) → Takes ear (Ok (Some m)) next → goes_up m ≡ false → (hears_up core m).acts.bye ≡ true
      → Works gives may_fail tells trusted below_tells seen honest cap book way ear core lowers [] [] false
      → Works gives may_fail tells trusted below_tells seen honest cap book way next (hears_up core m).foreman lowers [] [] true
  bye_met way ear next core lowers m took fine bye w =
      let is : is_bye m ≡ true = sym (bye_is core m (spelled_counts m took.0.0)) ∙ bye in
      let ends = bye_ends core m is in
      let met = heard_up gives may_fail tells trusted below_tells seen honest cap book way ear next core lowers m took fine w in
      subst (λ (b : Bool). Works gives may_fail tells trusted below_tells seen honest cap book way next (hears_up core m).foreman lowers [] [] b) is
      (subst (λ (down : List Down). Works gives may_fail tells trusted below_tells seen honest cap book way next (hears_up core m).foreman lowers [] down (is_bye m)) ends.1
      (subst (λ (up : List Message). Works gives may_fail tells trusted below_tells seen honest cap book way next (hears_up core m).foreman lowers up (hears_up core m).acts.down (is_bye m)) ends.0 met))

  -- Another came.
  pub other_met : (way : Way) (ear next : EarState) (core : Foreman) (lowers : List (LowerState L)) (m : Message) → Takes ear (Ok (Some m)) next → goes_up m ≡ false → (hears_up core m).acts.bye ≡ false
      → Works gives may_fail tells trusted below_tells seen honest cap book way ear core lowers [] [] false
      → Works gives may_fail tells trusted below_tells seen honest cap book way next (hears_up core m).foreman lowers (hears_up core m).acts.up (hears_up core m).acts.down false
  other_met way ear next core lowers m took fine bye w =
      let is : is_bye m ≡ false = sym (bye_is core m (spelled_counts m took.0.0)) ∙ bye in
      subst (λ (b : Bool). Works gives may_fail tells trusted below_tells seen honest cap book way next (hears_up core m).foreman lowers (hears_up core m).acts.up (hears_up core m).acts.down b) is
      (heard_up gives may_fail tells trusted below_tells seen honest cap book way ear next core lowers m took fine w)

  -- a message that doesn't end the work
  pub not_bye : (way : Way) (ear next : EarState) (core : Foreman) (m : Message) → Takes ear (Ok (Some m)) next → (hears_up core m).acts.bye ≡ false → is_bye m ≡ false
  not_bye way ear next core m took bye = sym (bye_is core m (spelled_counts m took.0.0)) ∙ bye

  abbrev Met_so : Way → EarState → Foreman → List (LowerState L) → List Message → List Down → Type 0
  Met_so way ear core lowers up down = Works gives may_fail tells trusted below_tells seen honest cap book way ear core lowers up down false

  -- The foreman and what it does are those of a step.
  pub with_acts : (way : Way) (ear : EarState) (core : Foreman) (lowers : List (LowerState L)) (led : Led) (acts : ForemanActs) → core ≡ led.foreman → acts ≡ led.acts → Met_so way ear led.foreman lowers led.acts.up led.acts.down → Met_so way ear core lowers acts.up acts.down
  with_acts way ear core lowers led acts is does w =
      subst (λ (f : Foreman). Met_so way ear f lowers acts.up acts.down) (sym is) (subst (λ (a : ForemanActs). Met_so way ear led.foreman lowers a.up a.down) (sym does) w)

  -- A message came from below, over the link at a place, by what is found there.
  pub heard_there : (way : Way) (ear : EarState) (core now : Foreman) (inside lowers : List (LowerState L)) (at : ℕ) (old new : LowerState L) (acts : ForemanActs) → ((link : L) → honest link → below_tells × WasHonest gives may_fail (seen link).history)
      → inside ≡ lowers → slice_get lowers at ≡ Some old → new.link ≡ old.link → new.way ≡ old.way → old.gone ≡ false → Advanced old.ear (Ok true) new.ear
      → acts ≡ (hears_down core old.link (shown new.ear.body)).acts → now ≡ (hears_down core old.link (shown new.ear.body)).foreman
      → new.gone ≡ is_some acts.leave → new.care.greeted ≡ true → new.care.refused ≤ refused_by old.care.refused (head_of (shown new.ear.body)) → Met_so way ear core lowers [] [] → Met_so way ear now (slice_set inside at new) acts.up acts.down
  heard_there way ear core now inside lowers at old new acts law are is link same stays took does foreman leaves greeted refused w =
      subst (λ (xs : List (LowerState L)). Met_so way ear now (slice_set xs at new) acts.up acts.down) (sym are)
      (with_acts way ear now (slice_set lowers at new) (hears_down core old.link (shown new.ear.body)) acts foreman does
      (heard_down gives may_fail tells trusted below_tells seen honest cap book way ear core lowers at old new law is link same stays took
      (subst (λ (a : ForemanActs). new.gone ≡ is_some a.leave) does leaves) greeted refused w))

  -- The link at a place changed, and what holds of it stays so.
  pub changed_there : (way : Way) (ear : EarState) (core now : Foreman) (inside lowers : List (LowerState L)) (at : ℕ) (old new : LowerState L) → inside ≡ lowers → slice_get lowers at ≡ Some old → now ≡ core → new.link ≡ old.link
      → ((roll : Roll) (heard : List Message) → IsHeld below_tells seen roll heard old → IsHeld below_tells seen roll heard new) → (below_tells → HearsOn (seen old.way).history (seen new.way).history) → (honest old.way → honest new.way) → Met_so way ear core lowers [] [] → Met_so way ear now (slice_set inside at new) [] []
  changed_there way ear core now inside lowers at old new are is same link held comes keeps w =
      subst (λ (xs : List (LowerState L)). Met_so way ear now (slice_set xs at new) [] []) (sym are)
      (subst (λ (f : Foreman). Met_so way ear f (slice_set lowers at new) [] []) (sym same) (changed_at gives may_fail tells trusted below_tells seen honest cap book way ear core lowers at old new is link held comes keeps w))

  -- Memory was wanting for what came over the link at a place.
  pub wants_there : (way : Way) (ear : EarState) (core : Foreman) (inside lowers : List (LowerState L)) (at : ℕ) (old new : LowerState L) → inside ≡ lowers → slice_get lowers at ≡ Some old → new.link ≡ old.link → new.way ≡ old.way
      → Met_so way ear core lowers [] [] → StopsAt gives may_fail tells trusted below_tells seen cap book way (slice_set inside at new) (stops.Left halts.Memory)
  wants_there way ear core inside lowers at old new are is link same w =
      subst (λ (xs : List (LowerState L)). StopsAt gives may_fail tells trusted below_tells seen cap book way (slice_set xs at new) (stops.Left halts.Memory)) (sym are) (record {
        stops = record { past = w.past; found = found_now gives may_fail tells trusted below_tells seen honest cap book way ear core lowers [] [] false w; why = w.closed };
        tied = tied_kept below_tells seen cap w.past lowers (slice_set lowers at new) book (length-set lowers at new) (λ k. held_set k lowers at old new is link)
            (set_begun below_tells seen honest (told_of w.past) lowers at old new is link (λ t. hears_same below_tells seen honest old.way new.way same)) w.tied;
      })

module _ {L : Type 0} (gives : Function) (may_fail : Job → Failure → Type 0) (tells : Type 0) (trusted : Bool) (below_tells : Type 0) (seen : L → Seen) (honest : L → Type 0) (cap : ℕ) (book : Book L) where
  -- A link was lost.
  pub lost_there : (way : Way) (ear : EarState) (core now : Foreman) (lowers : List (LowerState L)) (k : LinkNo) (acts : ForemanActs) → acts ≡ (loses core k).acts → now ≡ (loses core k).foreman
      → Works gives may_fail tells trusted below_tells seen honest cap (with_due book (Some k)) way ear core lowers [] [] false → Works gives may_fail tells trusted below_tells seen honest cap (with_due book None) way ear now lowers acts.up acts.down false
  lost_there way ear core now lowers k acts does foreman w =
      with_acts gives may_fail tells trusted below_tells seen honest cap (with_due book None) way ear now lowers (loses core k) acts foreman does (lost_link gives may_fail tells trusted below_tells seen honest cap book k way ear core lowers w)
