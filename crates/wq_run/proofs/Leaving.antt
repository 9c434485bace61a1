-- Why guests are left.
use Rattle.std.proofs.Common.{◌≡◌, ◌≤◌, ◌<◌, ◌+◌, inl, inr, ◌∙◌, ℕ, zero, suc, Bool, true, false, cond, List, [], ◌∷◌, Some, None, Result, Ok, Err, length, refl, sym, ap, subst, arith, true≢false}
use Rattle.std.specs.Prelude.{IfErr, count_by}
use Rattle.std.specs.List.{range_with_len}
use Rattle.std.proofs.lemmas.Bool.{leb-false}
use Rattle.std.proofs.lemmas.List.Sums.{count_by-le-length, length-filter}
use Rattle.flow_types.specs.declared.numbers.Amounts.{Amounts}
use Rattle.flow_types.specs.declared.numbers.LinkNo.{LinkNo}
use Rattle.flow_types.specs.declared.job.Failure.{Failure}
use Rattle.flow_types.specs.declared.job.Job.{Job}
use Rattle.flow_types.specs.declared.messages.Message.{Message}
use Rattle.flow_types.specs.declared.messages.Message.TheVariants as messages
use Rattle.flow_types.specs.Plans.{numbers}
use Rattle.flow_types.specs.Serial.{Function}
use Rattle.run_history.specs.declared.links.JoinRefused.{JoinRefused}
use Rattle.run_history.specs.declared.links.JoinRefused.TheVariants as refused
use Rattle.run_history.specs.declared.moves.Move.{Move}
use Rattle.run_history.specs.declared.options.Options.{Options}
use Rattle.run_history.specs.Links.{is_live}
use Rattle.run_history.specs.Moves.{change_refusal, has_link_room, is_join, join_refusal, joins_and_changes, live_links, most_joins, most_links, next_link}
use Rattle.links.specs.declared.passing.Passed.{Passed}
use Rattle.links.specs.Honesty.{OwesNothing}
use Rattle.links.specs.Ill.{Misspeaks, closed as ill_closed, failed as ill_failed, misspeaks as ill_misspeaks, silent as ill_silent}
use Rattle.links.specs.Passings.{received_in, sent_in}
use Rattle.link_session.specs.declared.session.Stage.{Stage}
use Rattle.link_session.specs.declared.session.Stage.TheVariants as stages
use Rattle.link_session.specs.declared.word.Word.{Word}
use Rattle.link_session.specs.declared.word.SessionFault.{SessionFault}
use Rattle.link_session.specs.Sessions.{State, greets, told_by}
use Rattle.message_forms.specs.Streams.{Carries, IsAmong}
use Rattle.wq_frames.specs.Frames.{front, part}
use Rattle.wq_frames.specs.Streams.{Stream}
use Rattle.desk.specs.Links.{Joins}
use Rattle.desk.specs.State.{DeskState}
use Rattle.peers.specs.declared.leave.Leave.{Leave}
use Rattle.peers.specs.declared.leave.Leave.TheVariants as leaves
use Rattle.peers.specs.declared.told.Told.{Told}
use Rattle.peers.specs.declared.told.Told.TheVariants as tell
use Rattle.peers.specs.Hears.{Hears, Means, ServesOn, told_as}
use Rattle.peers.specs.Serves.{HasGreeted}
use Rattle.peers.specs.States.{LeavesAs, PeerState}
use Rattle.peers.proofs.Frames.{carried_heard}
use Rattle.peers.proofs.Owing.{went_and_came}
use Rattle.wq_run.specs.Dues.{IsIllLink, left_lost}
use Rattle.wq_run.specs.Earned.{HasEarned, LeavesGuest, refused_lost}
use Rattle.wq_run.specs.Trusted.{IsStranger}
use Rattle.wq_run.proofs.Fares.{change_full}

-- ---- a peer's first message

-- a peer joined by this
abbrev pub is_joined : Told → Bool
is_joined (tell.Joined total largest cache) = true
is_joined t = false

abbrev pub joined_in : Message → Result Word SessionFault → Bool
joined_in m (Ok word) = is_joined (told_as word m)
joined_in m (Err fault) = true

greets_joined : (s : State) (m : Message) → joined_in m (greets s m).answer ≡ true
greets_joined s (messages.Hello total largest cache) = refl
greets_joined s (messages.Put key content) = refl
greets_joined s (messages.Task task) = refl
greets_joined s (messages.Done attempt outcome) = refl
greets_joined s (messages.Missing attempt files) = refl
greets_joined s (messages.Cancel attempt) = refl
greets_joined s (messages.Unlink key) = refl
greets_joined s (messages.Totals total largest cache) = refl
greets_joined s messages.Bye = refl

is_new : (stage : Stage) → HasGreeted stage [] → stage ≡ stages.New
is_new stages.New none = refl
is_new stages.Greeted some = let wrong : ⊥ = cc (some.3) in absurd wrong
is_new stages.Broken wrong = absurd wrong

-- What a peer's first message tells is that it joined.
first_joined : (feed next : Stream) (s after : State) (t : Told) → s.stage ≡ stages.New → (let r : Result Told Leave = Ok t in Means feed s r next after) → is_joined t ≡ true
first_joined feed next s after t new means =
    let m = means.0 in
    let word = means.2.0 in
    let greeted : (greets s m).answer ≡ Ok word = sym (ap (λ (stage : Stage). (told_by s m stage).answer) new) ∙ means.2.1 in
    ap is_joined means.2.4 ∙ sym (ap (joined_in m) greeted) ∙ greets_joined s m

abbrev pub not_nothing : Told → Bool
not_nothing tell.Nothing = false
not_nothing t = true

hears_means : (feed next : Stream) (s after : State) (t : Told) → not_nothing t ≡ true → (let r : Result Told Leave = Ok t in Hears feed s r next after) → (let r : Result Told Leave = Ok t in Means feed s r next after)
hears_means feed next s after tell.Nothing some h = absurd (true≢false (sym some))
hears_means feed next s after (tell.Joined total largest cache) some h = h
hears_means feed next s after (tell.Changed total largest cache) some h = h
hears_means feed next s after (tell.Finish attempt outs) some h = h
hears_means feed next s after (tell.Fail attempt why) some h = h
hears_means feed next s after (tell.Lose attempt) some h = h
hears_means feed next s after (tell.PutAgain attempt files) some h = h
hears_means feed next s after (tell.Stale attempt) some h = h

-- neither of these
pub told_other : (t : Told) → (t ≡ tell.Nothing → ⊥) → ((total largest : Amounts) (cache : ℕ) → t ≡ tell.Joined total largest cache → ⊥) → (not_nothing t ≡ true → is_joined t ≡ true) → ⊥
told_other tell.Nothing some other joins = some refl
told_other (tell.Joined total largest cache) some other joins = other total largest cache refl
told_other (tell.Changed total largest cache) some other joins = true≢false (sym (joins refl))
told_other (tell.Finish attempt outs) some other joins = true≢false (sym (joins refl))
told_other (tell.Fail attempt why) some other joins = true≢false (sym (joins refl))
told_other (tell.Lose attempt) some other joins = true≢false (sym (joins refl))
told_other (tell.PutAgain attempt files) some other joins = true≢false (sym (joins refl))
told_other (tell.Stale attempt) some other joins = true≢false (sym (joins refl))

module _ {L : Type 0} (gives : Function) (may_fail : Job → Failure → Type 0) (history : L → List Passed) (count idles : L → ℕ) (closed : L → Bool) (limit : ℕ) where
  abbrev pub Ill : LinkNo → L → Type 0
  Ill link way = IsIllLink gives may_fail history count idles closed limit link way

  -- a call that waits for bytes left
  pub guest_closed : {A : Type 0} (before : ℕ) (way : L) (r : Result A Leave) → IfErr r (LeavesAs (closed way) before (count way)) → IfErr r (LeavesGuest Ill way)
  guest_closed before way (Ok x) may = tt
  guest_closed before way (Err leaves.Closed) may = λ link others. ill_closed may
  guest_closed before way (Err leaves.Failed) may = λ link others. ill_failed (omega (arith, may))
  guest_closed before way (Err leaves.Bad) may = absurd may
  guest_closed before way (Err leaves.Unexpected) may = absurd may
  guest_closed before way (Err leaves.Memory) may = tt

  -- It was idle for too long before its hello had come whole.
  pub guest_silent : (honest : L → Type 0) (p : PeerState L) → IsStranger gives may_fail history honest p → front p.feed.rest ≡ part → 8 ≤ idles p.way → LeavesGuest Ill p.way leaves.Closed
  guest_silent honest p stranger none long link others =
      ill_silent long (λ hello. carried_heard (received_in (history p.way)) [] p.feed.rest (messages.Hello hello.0 hello.1 hello.2) stranger.serves.came none hello.3)

  -- Where its link is idle only while nothing is owed, its hello has come before.
  pub guest_answered : (honest : L → Type 0) (p : PeerState L) → IsStranger gives may_fail history honest p → front p.feed.rest ≡ part → 8 ≤ idles p.way → (0 < idles p.way → OwesNothing (sent_in (history p.way)) (received_in (history p.way))) → ⊥
  guest_answered honest p stranger none long owes =
      let hello = (owes (omega (arith, long))).hello in
      carried_heard (received_in (history p.way)) [] p.feed.rest (messages.Hello hello.0 hello.1 hello.2) stranger.serves.came none hello.3

  -- less than a whole message lies there
  pub still_part : (p q : PeerState L) → (let r : Result Told Leave = Ok tell.Nothing in Hears p.feed p.session r q.feed q.session) → front q.feed.rest ≡ part
  still_part p q waits = ap (λ (x : Stream). front x.rest) waits.1 ∙ waits.0

  -- It left the grammar or was out of turn.
  pub guest_misspeaks : (past : List Passed) (way : L) (feed : Stream) (session : State) (leave : Leave) → past ≡ history way → (let r : Result Told Leave = Err leave in ServesOn gives may_fail past [] [] r feed session) → LeavesGuest Ill way leave
  guest_misspeaks past way feed session leaves.Closed same on = λ link others. ill_misspeaks (subst (λ (h : List Passed). Misspeaks (sent_in h) (received_in h)) same on.1)
  guest_misspeaks past way feed session leaves.Failed same on = λ link others. ill_misspeaks (subst (λ (h : List Passed). Misspeaks (sent_in h) (received_in h)) same on.1)
  guest_misspeaks past way feed session leaves.Bad same on = λ link others. ill_misspeaks (subst (λ (h : List Passed). Misspeaks (sent_in h) (received_in h)) same on.1)
  guest_misspeaks past way feed session leaves.Unexpected same on = λ link others. ill_misspeaks (subst (λ (h : List Passed). Misspeaks (sent_in h) (received_in h)) same on.1)
  guest_misspeaks past way feed session leaves.Memory same on = tt

  -- The first that it tells is that it joined.
  pub guest_joins : (honest : L → Type 0) (p q : PeerState L) (t : Told) → IsStranger gives may_fail history honest p → (let r : Result Told Leave = Ok t in Hears p.feed p.session r q.feed q.session) → not_nothing t ≡ true → is_joined t ≡ true
  guest_joins honest p q t stranger hears some = first_joined p.feed q.feed p.session q.session t (is_new p.session.stage stranger.serves.greeted) (hears_means p.feed q.feed p.session q.session t some hears)

  -- What it offers came.
  pub came_hello : (past : List Passed) (feed : Stream) (session : State) (total largest : Amounts) (cache : ℕ) → (let r : Result Told Leave = Ok (tell.Joined total largest cache) in ServesOn gives may_fail past [] [] r feed session) → Carries (received_in past) (messages.Hello total largest cache)
  came_hello past feed session total largest cache tells =
      let heard : List Message = tells.message ∷ [] in
      let among : IsAmong (messages.Hello total largest cache) heard = subst (IsAmong (messages.Hello total largest cache)) (sym tells.is_so) (inl refl) in
      (went_and_came gives may_fail past feed session [] heard None (messages.Hello total largest cache) tells.serves).1 among

-- ---- a guest that the desk refuses

many_numbers : (n a : ℕ) → length (range_with_len a n) ≡ n
many_numbers zero a = refl
many_numbers (suc n) a = ap (λ (k : ℕ). suc k) (many_numbers n (a + 1))

many_live : (O : Options) (M : List Move) → has_link_room O M ≡ false → most_links ≤ count_by is_join M
many_live O M full =
    let more = leb-false (length (live_links O M)) most_links full in
    let many = length-filter (is_live O M) (numbers (next_link M)) in
    let few = count_by-le-length (is_live O M) (numbers (next_link M)) in
    let all = many_numbers (next_link M) 0 in
    omega (arith, more, many, few, all)

module _ {L S : Type 0} (ill : LinkNo → L → Type 0) where
  -- Where memory isn't wanting the desk has taken as many joins as links may live, or takes no more.
  pub refused_earned : (d after : DeskState S) (total largest : Amounts) (cache : ℕ) (why : JoinRefused) (way : L) (lost : Bool) → (let r : Result LinkNo JoinRefused = Err why in Joins d total largest cache r after) → refused_lost why lost ≡ false → HasEarned ill d.moves None way
  refused_earned d after total largest cache refused.Memory way lost h kept = absurd (true≢false kept)
  refused_earned d after total largest cache refused.TooManyLinks way lost h kept = by_room refused.TooManyLinks (has_link_room d.options d.moves) refl h.0
    where
      by_room : (why : JoinRefused) (room : Bool) → has_link_room d.options d.moves ≡ room → join_refusal d.options d.moves ≡ Some why → HasEarned ill d.moves None way
      by_room why true room is = inr (inr (change_full d.moves why (sym (ap (λ (b : Bool). cond b (change_refusal d.moves) (Some refused.TooManyLinks)) room) ∙ is)))
      by_room why false room is = inr (inl (many_live d.options d.moves room))
  refused_earned d after total largest cache refused.TooManyJoins way lost h kept = by_room refused.TooManyJoins (has_link_room d.options d.moves) refl h.0
    where
      by_room : (why : JoinRefused) (room : Bool) → has_link_room d.options d.moves ≡ room → join_refusal d.options d.moves ≡ Some why → HasEarned ill d.moves None way
      by_room why true room is = inr (inr (change_full d.moves why (sym (ap (λ (b : Bool). cond b (change_refusal d.moves) (Some refused.TooManyLinks)) room) ∙ is)))
      by_room why false room is = inr (inl (many_live d.options d.moves room))

-- The desk has taken as many joins as links may live, where it takes more.
pub refused_links : {L : Type 0} (M : List Move) (way : L) → HasEarned (λ (link : LinkNo) (x : L). ⊥) M None way → (most_joins ≤ joins_and_changes M → ⊥) → 0 < count_by is_join M
refused_links M way (inl is) room = absurd (is (record { 0 = 0 }))
refused_links M way (inr (inl many)) room = omega (arith, many)
refused_links M way (inr (inr full)) room = absurd (room full)

-- A guest that is left had earned it.
pub left_earned : {L : Type 0} (ill : LinkNo → L → Type 0) (M : List Move) (way : L) (leave : Leave) (lost : Bool) → LeavesGuest ill way leave → left_lost leave lost ≡ false → HasEarned ill M None way
left_earned ill M way leaves.Closed lost is kept = inl is
left_earned ill M way leaves.Failed lost is kept = inl is
left_earned ill M way leaves.Bad lost is kept = inl is
left_earned ill M way leaves.Unexpected lost is kept = inl is
left_earned ill M way leaves.Memory lost is kept = absurd (true≢false kept)

-- where no link is lost none was
pub left_kept : (leave : Leave) (lost : Bool) → left_lost leave lost ≡ false → lost ≡ false
left_kept leaves.Closed lost kept = kept
left_kept leaves.Failed lost kept = kept
left_kept leaves.Bad lost kept = kept
left_kept leaves.Unexpected lost kept = kept
left_kept leaves.Memory lost kept = absurd (true≢false kept)

pub refused_kept : (why : JoinRefused) (lost : Bool) → refused_lost why lost ≡ false → lost ≡ false
refused_kept refused.TooManyLinks lost kept = kept
refused_kept refused.TooManyJoins lost kept = kept
refused_kept refused.Memory lost kept = absurd (true≢false kept)

-- a refusal leaves the moves
pub refused_still : {S : Type 0} (d after : DeskState S) (total largest : Amounts) (cache : ℕ) (why : JoinRefused) → (let r : Result LinkNo JoinRefused = Err why in Joins d total largest cache r after) → after.moves ≡ d.moves
refused_still {S} d after total largest cache refused.TooManyLinks h = ap (λ (b : DeskState S). b.moves) h.1
refused_still {S} d after total largest cache refused.TooManyJoins h = ap (λ (b : DeskState S). b.moves) h.1
refused_still {S} d after total largest cache refused.Memory h = ap (λ (b : DeskState S). b.moves) h
