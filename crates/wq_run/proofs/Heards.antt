-- Offers that came and were heard.
use Rattle.std.proofs.Common.{◌≡◌, ◌≤◌, ◌+◌, ◌∙◌, ℕ, Bool, true, false, List, [], ◌∷◌, ◌++◌, Option, Some, None, Result, Ok, Err, length, length-append, refl, sym, ap, subst, arith, append_assoc}
use Rattle.std.specs.Prelude.{OnOk, cond, count_by, nat_lt, slice_get, if◌then◌else◌}
use Rattle.std.proofs.lemmas.List.{append-nil}
use Rattle.std.proofs.lemmas.List.Sums.{sum_by-append}
use Rattle.flow_types.specs.declared.numbers.Amounts.{Amounts}
use Rattle.flow_types.specs.declared.numbers.AttemptNo.{AttemptNo}
use Rattle.flow_types.specs.declared.numbers.FileNo.{FileNo}
use Rattle.flow_types.specs.declared.numbers.LinkNo.{LinkNo}
use Rattle.flow_types.specs.declared.job.Failure.{Failure}
use Rattle.flow_types.specs.declared.job.Job.{Job}
use Rattle.flow_types.specs.declared.job.Outcome.{Outcome}
use Rattle.flow_types.specs.declared.job.Outcome.TheVariants as outcomes
use Rattle.flow_types.specs.declared.job.Task.{Task}
use Rattle.flow_types.specs.declared.messages.Message.{Message}
use Rattle.flow_types.specs.declared.messages.Message.TheVariants as messages
use Rattle.flow_types.specs.Serial.{Function}
use Rattle.run_history.specs.declared.moves.Move.{Move}
use Rattle.run_history.specs.Moves.{is_change, is_join, joins_and_changes}
use Rattle.wq_messages.proofs.Shown.{spelled_apart}
use Rattle.message_forms.proofs.Parses.{begin_together, frames_append, framed_append}
use Rattle.message_forms.specs.Streams.{AreFramed, framed, frames_of}
use Rattle.wq_frames.specs.Streams.{Stream}
use Rattle.link_session.specs.declared.open.Open.{Open}
use Rattle.link_session.specs.declared.session.Stage.{Stage}
use Rattle.link_session.specs.declared.session.Stage.TheVariants as stages
use Rattle.link_session.specs.declared.word.SessionFault.{SessionFault}
use Rattle.link_session.specs.declared.word.Word.{Word}
use Rattle.link_session.specs.declared.word.Word.TheVariants as words
use Rattle.link_session.specs.Fits.{has_all, outcome_fits}
use Rattle.link_session.specs.Sessions.{State, breaks, closed_at, ended_at, ended_by, greets, hears, lacked_at, lacked_by, lost, most_misses, place, put_again, says, told_by, word_of}
use Rattle.links.specs.declared.passing.Passed.{Passed}
use Rattle.links.specs.Ill.{offers_in}
use Rattle.links.specs.Passings.{received_in, sent_in}
use Rattle.peers.specs.declared.leave.Leave.{Leave}
use Rattle.peers.specs.declared.told.Told.{Told}
use Rattle.peers.specs.declared.told.Told.TheVariants as tell
use Rattle.peers.specs.Hears.{Hears, Takes, Tells, Turns, told_as}
use Rattle.peers.specs.Serves.{Serves}
use Rattle.peers.specs.States.{PeerState, PassesOn}
use Rattle.wq_run.specs.Seats.{SeatState}
use Rattle.wq_run.specs.Dues.{CameAll, HasCome, HasHeard, HeardAll, HeardBut, HearsMore, HearsOffer, StaysHeard}

-- ---- offers among messages

pub offers_append : (xs ys : List Message) → offers_in (xs ++ ys) ≡ offers_in xs + offers_in ys
offers_append [] ys = omega arith
offers_append (messages.Hello total largest cache ∷ xs) ys = let rest = offers_append xs ys in omega (arith, rest)
offers_append (messages.Put key content ∷ xs) ys = offers_append xs ys
offers_append (messages.Task task ∷ xs) ys = offers_append xs ys
offers_append (messages.Done attempt outcome ∷ xs) ys = offers_append xs ys
offers_append (messages.Missing attempt files ∷ xs) ys = offers_append xs ys
offers_append (messages.Cancel attempt ∷ xs) ys = offers_append xs ys
offers_append (messages.Unlink key ∷ xs) ys = offers_append xs ys
offers_append (messages.Totals total largest cache ∷ xs) ys = let rest = offers_append xs ys in omega (arith, rest)
offers_append (messages.Bye ∷ xs) ys = offers_append xs ys

-- ---- one stream read twice

too_short : (m : Message) (xs : List Message) (r s : List ℕ) → frames_of (m ∷ xs) ++ r ≡ s → length s ≤ length r → ⊥
too_short m xs r s same less =
    let many = ap length same in
    let parts = length-append (framed m ++ frames_of xs) r in
    let heads = length-append (framed m) (frames_of xs) in
    omega (arith, many, parts, heads, less)

-- What was read with more bytes left begins what was read with fewer.
pub heard_within : (xs ys : List Message) (r s : List ℕ) → AreFramed xs → AreFramed ys → frames_of xs ++ r ≡ frames_of ys ++ s → length s ≤ length r → (mid : List Message) × (ys ≡ xs ++ mid)
heard_within [] ys r s all some same less = (ys, refl)
heard_within (x ∷ xs) [] r s all some same less = absurd (too_short x xs r s same less)
heard_within (x ∷ xs) (y ∷ ys) r s all some same less =
    let apart : framed x ++ (frames_of xs ++ r) ≡ framed y ++ (frames_of ys ++ s) = sym (append_assoc (framed x) (frames_of xs) r) ∙ same ∙ append_assoc (framed y) (frames_of ys) s in
    let both = begin_together spelled_apart x y (frames_of xs ++ r) (frames_of ys ++ s) all.0 some.0 apart in
    let rest = heard_within xs ys r s all.1 some.1 both.1 less in
    (rest.0, ap (λ (m : Message). m ∷ ys) (sym both.0) ∙ ap (λ (ms : List Message). x ∷ ms) rest.1)

-- ---- what came

pub come_on : (up up_now more : List ℕ) (n : ℕ) → up_now ≡ up ++ more → HasCome up n → HasCome up_now n
come_on up up_now more n are come = record {
  messages = come.messages;
  begins = (
    come.begins.0 ++ more,
    record {
      framed_all = come.begins.1.framed_all;
      are = are ∙ ap (λ (b : List ℕ). b ++ more) come.begins.1.are ∙ append_assoc (frames_of come.messages) come.begins.0 more;
    },
  );
  many = come.many;
}

-- nothing need have come
pub come_none : (up : List ℕ) → HasCome up 0
come_none up = record { messages = []; begins = (up, record { framed_all = tt; are = refl }); many = refl }

-- ---- what was heard

module _ {L : Type 0} (history : L → List Passed) where
  pub heard_come : (p : PeerState L) (n : ℕ) → HasHeard history p n → HasCome (received_in (history p.way)) n
  heard_come p n heard = record { messages = heard.heard; begins = heard.begins; many = heard.many }

  -- What was taken off the feed stays so where the feed grows by no more than came.
  pub heard_on : (p p_now : PeerState L) (on : PassesOn (history p.way) (history p_now.way)) → length p_now.feed.rest ≤ length p.feed.rest + length on.0 → StaysHeard history p p_now
  heard_on p p_now on less n heard = record {
    heard = heard.heard;
    begins = (
      heard.begins.0 ++ on.0,
      record {
        framed_all = heard.begins.1.framed_all;
        are = on.1 ∙ ap (λ (b : List ℕ). b ++ on.0) heard.begins.1.are ∙ append_assoc (frames_of heard.heard) heard.begins.0 on.0;
      },
    );
    taken = (
        let taken = heard.taken in
        let both = length-append heard.begins.0 on.0 in
        omega (arith, less, taken, both)
        );
    many = heard.many;
  }

  -- the feed is the same
  pub heard_fed : (p p_now : PeerState L) → PassesOn (history p.way) (history p_now.way) → p_now.feed ≡ p.feed → StaysHeard history p p_now
  heard_fed p p_now on same = heard_on p p_now on (let rest = ap (λ (f : Stream). length f.rest) same in omega (arith, rest))

  -- the link is the same, and the feed is or has fewer bytes
  pub heard_still : (p p_now : PeerState L) → p_now.way ≡ p.way → length p_now.feed.rest ≤ length p.feed.rest → StaysHeard history p p_now
  heard_still p p_now way less = heard_on p p_now ([], ap (λ (w : L). received_in (history w)) way ∙ sym (append-nil (received_in (history p.way))), ([], ap (λ (w : L). sent_in (history w)) way ∙ sym (append-nil (sent_in (history p.way))))) (omega (arith, less))

  pub heard_same : (p p_now : PeerState L) → p_now ≡ p → StaysHeard history p p_now
  heard_same p p_now same n heard = subst (λ (q : PeerState L). HasHeard history q n) (sym same) heard

  -- bytes came to the feed, and no message was taken off
  pub heard_served : (gives : Function) (may_fail : Job → Failure → Type 0) (p p_now : PeerState L) (said heard : List Message) (waiting : Option Task) → PassesOn (history p.way) (history p_now.way)
      → Serves gives may_fail (history p.way) p.feed p.session said heard waiting → Serves gives may_fail (history p_now.way) p_now.feed p_now.session said heard waiting → StaysHeard history p p_now
  heard_served gives may_fail p p_now said heard waiting on old new = heard_on p p_now on (
      let was = ap length old.came.are in
      let now = ap length new.came.are in
      let grown = ap length on.1 in
      let first = length-append (frames_of heard) p.feed.rest in
      let second = length-append (frames_of heard) p_now.feed.rest in
      let both = length-append (received_in (history p.way)) on.0 in
      omega (arith, was, now, grown, first, second, both)
      )

-- ---- what a message takes off the feed

takes_less : (m : Message) (old new : Stream) → Takes m old new → length new.rest ≤ length old.rest
takes_less m old new takes =
    let many = ap length takes.parts in
    let both = length-append (framed m) new.rest in
    omega (arith, many, both)

pub hears_less : (old new : Stream) (before after : State) (t : Told) → (let r : Result Told Leave = Ok t in Hears old before r new after) → length new.rest ≤ length old.rest
hears_less old new before after tell.Nothing h = let rest = ap (λ (f : Stream). length f.rest) h.1 in omega (arith, rest)
hears_less old new before after (tell.Joined total largest cache) h = takes_less h.0 old new h.1
hears_less old new before after (tell.Changed total largest cache) h = takes_less h.0 old new h.1
hears_less old new before after (tell.Finish attempt outs) h = takes_less h.0 old new h.1
hears_less old new before after (tell.Fail attempt why) h = takes_less h.0 old new h.1
hears_less old new before after (tell.Lose attempt) h = takes_less h.0 old new h.1
hears_less old new before after (tell.PutAgain attempt files) h = takes_less h.0 old new h.1
hears_less old new before after (tell.Stale attempt) h = takes_less h.0 old new h.1

-- ---- which message states other amounts

-- what is meant is a change of amounts
abbrev IsChanged : Result Word SessionFault → Type 0
IsChanged (Ok (words.Joined total largest cache)) = ⊥
IsChanged (Ok (words.Changed total largest cache)) = Unit {0}
IsChanged (Ok (words.Finish attempt)) = ⊥
IsChanged (Ok (words.Fail attempt why)) = ⊥
IsChanged (Ok (words.Lose attempt)) = ⊥
IsChanged (Ok (words.PutAgain attempt files)) = ⊥
IsChanged (Ok (words.Stale attempt)) = ⊥
IsChanged (Err fault) = ⊥

fit_unchanged : (fits : Bool) (s closed : State) (attempt : AttemptNo) (outcome : Outcome) → IsChanged (if fits then says closed (word_of attempt outcome) else breaks s).answer → ⊥
fit_unchanged true s closed attempt (outcomes.Success contents) is = is
fit_unchanged true s closed attempt (outcomes.Failed why) is = is
fit_unchanged true s closed attempt outcomes.NotRun is = is
fit_unchanged false s closed attempt outcome is = is

end_unchanged : (s : State) (attempt : AttemptNo) (outcome : Outcome) (at : ℕ) (o : Option Open) → IsChanged (ended_by s attempt outcome at o).answer → ⊥
end_unchanged s attempt outcome at None is = is
end_unchanged s attempt outcome at (Some o) is = fit_unchanged (outcome_fits o.bounds outcome) s (closed_at s at) attempt outcome is

end_at_unchanged : (s : State) (attempt : AttemptNo) (outcome : Outcome) (at : Option ℕ) → IsChanged (ended_at s attempt outcome at).answer → ⊥
end_at_unchanged s attempt outcome None is = is
end_at_unchanged s attempt outcome (Some at) is = end_unchanged s attempt outcome at (slice_get s.attempts at) is

gone_unchanged : (all few : Bool) (s : State) (attempt : AttemptNo) (files : List FileNo) (at : ℕ) (o : Open) → IsChanged (if all then (if few then put_again s attempt files at o else lost s attempt files at o) else breaks s).answer → ⊥
gone_unchanged true true s attempt files at o is = is
gone_unchanged true false s attempt files at o is = is
gone_unchanged false few s attempt files at o is = is

lack_unchanged : (s : State) (attempt : AttemptNo) (files : List FileNo) (at : ℕ) (o : Option Open) → IsChanged (lacked_by s attempt files at o).answer → ⊥
lack_unchanged s attempt files at None is = is
lack_unchanged s attempt files at (Some o) is = gone_unchanged (has_all o.files files) (nat_lt o.misses most_misses) s attempt files at o is

lack_at_unchanged : (s : State) (attempt : AttemptNo) (files : List FileNo) (at : Option ℕ) → IsChanged (lacked_at s attempt files at).answer → ⊥
lack_at_unchanged s attempt files None is = is
lack_at_unchanged s attempt files (Some at) is = lack_unchanged s attempt files at (slice_get s.attempts at) is

greeting_offers : (s : State) (m : Message) → IsChanged (greets s m).answer → offers_in (m ∷ []) ≡ 1
greeting_offers s (messages.Hello total largest cache) is = absurd is
greeting_offers s (messages.Put key content) is = absurd is
greeting_offers s (messages.Task task) is = absurd is
greeting_offers s (messages.Done attempt outcome) is = absurd is
greeting_offers s (messages.Missing attempt files) is = absurd is
greeting_offers s (messages.Cancel attempt) is = absurd is
greeting_offers s (messages.Unlink key) is = absurd is
greeting_offers s (messages.Totals total largest cache) is = absurd is
greeting_offers s messages.Bye is = absurd is

hearing_offers : (s : State) (m : Message) → IsChanged (hears s m).answer → offers_in (m ∷ []) ≡ 1
hearing_offers s (messages.Hello total largest cache) is = absurd is
hearing_offers s (messages.Put key content) is = absurd is
hearing_offers s (messages.Task task) is = absurd is
hearing_offers s (messages.Done attempt outcome) is = absurd (end_at_unchanged s attempt outcome (place attempt s.attempts) is)
hearing_offers s (messages.Missing attempt files) is = absurd (lack_at_unchanged s attempt files (place attempt s.attempts) is)
hearing_offers s (messages.Cancel attempt) is = absurd is
hearing_offers s (messages.Unlink key) is = absurd is
hearing_offers s (messages.Totals total largest cache) is = refl
hearing_offers s messages.Bye is = absurd is

told_offers : (s : State) (m : Message) (stage : Stage) → IsChanged (told_by s m stage).answer → offers_in (m ∷ []) ≡ 1
told_offers s m stages.New is = greeting_offers s m is
told_offers s m stages.Greeted is = hearing_offers s m is
told_offers s m stages.Broken is = absurd is

word_changed : (total largest : Amounts) (cache : ℕ) (word : Word) (m : Message) → tell.Changed total largest cache ≡ told_as word m → IsChanged (Ok word)
word_changed total largest cache (words.Joined x y z) m e = absurd cc
word_changed total largest cache (words.Changed x y z) m e = tt
word_changed total largest cache (words.Finish attempt) m e = absurd cc
word_changed total largest cache (words.Fail attempt why) m e = absurd cc
word_changed total largest cache (words.Lose attempt) m e = absurd cc
word_changed total largest cache (words.PutAgain attempt files) m e = absurd cc
word_changed total largest cache (words.Stale attempt) m e = absurd cc

turn_offers : (total largest : Amounts) (cache : ℕ) (before after : State) (m : Message) → (let r : Result Told Leave = Ok (tell.Changed total largest cache) in Turns before m r after) → offers_in (m ∷ []) ≡ 1
turn_offers total largest cache before after m h = told_offers before m before.stage (subst IsChanged (sym h.1) (word_changed total largest cache h.0 m h.4))

-- ---- one message more

one_more : (heard : List Message) (m : Message) (rest : List ℕ) → frames_of heard ++ (framed m ++ rest) ≡ frames_of (heard ++ m ∷ []) ++ rest
one_more heard m rest = sym (append_assoc (frames_of heard) (framed m) rest)
    ∙ ap (λ (b : List ℕ). b ++ rest) (ap (λ (b : List ℕ). frames_of heard ++ b) (sym (append-nil (framed m))) ∙ sym (frames_append heard (m ∷ [])))

module _ {L : Type 0} (gives : Function) (may_fail : Job → Failure → Type 0) (history : L → List Passed) where
  -- Other amounts were stated.
  more_heard : (p p_now : PeerState L) (said heard : List Message) (m : Message) → Serves gives may_fail (history p.way) p.feed p.session said heard None → p_now.way ≡ p.way → Takes m p.feed p_now.feed → offers_in (m ∷ []) ≡ 1 → HearsMore history p p_now
  more_heard p p_now said heard m serves way takes one n was =
      let within = heard_within was.heard heard was.begins.0 p.feed.rest was.begins.1.framed_all serves.came.framed_all (sym was.begins.1.are ∙ serves.came.are) was.taken in
      let first = ap offers_in within.1 ∙ offers_append was.heard within.0 in
      let last = offers_append heard (m ∷ []) in
      let many = was.many in (
        offers_in (heard ++ m ∷ []),
        omega (arith, first, last, many, one),
        record {
          heard = heard ++ m ∷ [];
          begins = (
            p_now.feed.rest,
            record {
              framed_all = framed_append heard (m ∷ []) serves.came.framed_all (takes.whole, tt);
              are = ap (λ (w : L). received_in (history w)) way ∙ serves.came.are ∙ ap (λ (b : List ℕ). frames_of heard ++ b) takes.parts ∙ one_more heard m p_now.feed.rest;
            },
          );
          taken = omega arith;
          many = refl;
        },
      )

  pub hears_offer : (p p_now : PeerState L) (said heard : List Message) (t : Told) → Serves gives may_fail (history p.way) p.feed p.session said heard None → p_now.way ≡ p.way → (let r : Result Told Leave = Ok t in Hears p.feed p.session r p_now.feed p_now.session) → HearsOffer history p p_now t
  hears_offer p p_now said heard tell.Nothing serves way h = tt
  hears_offer p p_now said heard (tell.Joined total largest cache) serves way h = tt
  hears_offer p p_now said heard (tell.Changed total largest cache) serves way h = more_heard p p_now said heard h.0 serves way h.1 (turn_offers total largest cache p.session p_now.session h.0 h.2)
  hears_offer p p_now said heard (tell.Finish attempt outs) serves way h = tt
  hears_offer p p_now said heard (tell.Fail attempt why) serves way h = tt
  hears_offer p p_now said heard (tell.Lose attempt) serves way h = tt
  hears_offer p p_now said heard (tell.PutAgain attempt files) serves way h = tt
  hears_offer p p_now said heard (tell.Stale attempt) serves way h = tt

  -- A hello was heard.
  pub greeted_one : (p : PeerState L) (said heard : List Message) (total largest : Amounts) (cache : ℕ) → Tells gives may_fail (history p.way) p.feed p.session said heard (tell.Joined total largest cache) → HasHeard history p 1
  greeted_one p said heard total largest cache tells = record { heard = heard ++ tells.message ∷ []; begins = (p.feed.rest, tells.serves.came); taken = omega arith; many = sym (ap offers_in tells.is_so) }

-- ---- of all seats

module _ {L : Type 0} (history : L → List Passed) where
  -- of a seat among others, and of the others
  pub heard_split : (f : List (SeatState L)) (s : SeatState L) (b : List (SeatState L)) (n : ℕ) → HeardAll history (f ++ (s ∷ b)) n → (k : ℕ) × (m : ℕ) × HasHeard history s.peer k × HeardAll history (f ++ b) m × (n ≡ k + m)
  heard_split [] s b n all = all
  heard_split (x ∷ f) s b n all =
      let rest = heard_split f s b all.1 all.3 in
      let sum = all.4 in
      let inner = rest.4 in
      (rest.0, all.0 + rest.1, rest.2, (all.0, rest.1, all.2, rest.3, refl), omega (arith, sum, inner))

  pub heard_put : (f : List (SeatState L)) (s : SeatState L) (b : List (SeatState L)) (k m n : ℕ) → n ≡ k + m → HasHeard history s.peer k → HeardAll history (f ++ b) m → HeardAll history (f ++ (s ∷ b)) n
  heard_put [] s b k m n sum here all = (k, m, here, all, sum)
  heard_put (x ∷ f) s b k m n sum here all =
      let inner = all.4 in
      (all.0, k + all.1, all.2, heard_put f s b k all.1 (k + all.1) refl here all.3, omega (arith, sum, inner))

  -- The seat is to be left.
  pub heard_left : (f : List (SeatState L)) (s : SeatState L) (b : List (SeatState L)) (k m n : ℕ) → n ≡ k + m → HasCome (received_in (history s.peer.way)) k → HeardAll history (f ++ b) m → HeardBut history (length f) (f ++ (s ∷ b)) n
  heard_left [] s b k m n sum here all = (k, m, here, all, sum)
  heard_left (x ∷ f) s b k m n sum here all =
      let inner = all.4 in
      (all.0, k + all.1, all.2, heard_left f s b k all.1 (k + all.1) refl here all.3, omega (arith, sum, inner))

  pub heard_apart : (f : List (SeatState L)) (s : SeatState L) (b : List (SeatState L)) (n : ℕ) → HeardBut history (length f) (f ++ (s ∷ b)) n → (k : ℕ) × (m : ℕ) × HasCome (received_in (history s.peer.way)) k × HeardAll history (f ++ b) m × (n ≡ k + m)
  heard_apart [] s b n all = all
  heard_apart (x ∷ f) s b n all =
      let rest = heard_apart f s b all.1 all.3 in
      let sum = all.4 in
      let inner = rest.4 in
      (rest.0, all.0 + rest.1, rest.2, (all.0, rest.1, all.2, rest.3, refl), omega (arith, sum, inner))

  -- ---- of links that were handed back

  pub came_append : (xs ys : List (Option LinkNo × L)) (n m k : ℕ) → k ≡ n + m → CameAll history xs n → CameAll history ys m → CameAll history (xs ++ ys) k
  came_append [] ys n m k sum none back = subst (CameAll history ys) (let sum = sum in let none = none in omega (arith, sum, none)) back
  came_append (x ∷ xs) ys n m k sum all back =
      let inner = all.4 in
      (all.0, all.1 + m, all.2, came_append xs ys all.1 m (all.1 + m) refl all.3 back, omega (arith, sum, inner))

  pub came_nothing : (xs : List (Option LinkNo × L)) → CameAll history xs 0
  came_nothing [] = refl
  came_nothing (x ∷ xs) = (0, 0, come_none (received_in (history x.1)), came_nothing xs, refl)

  pub came_one : (link : Option LinkNo) (way : L) (n : ℕ) → HasCome (received_in (history way)) n → CameAll history ((link, way) ∷ []) n
  came_one link way n come = (n, 0, come, refl, omega arith)

-- ---- joins and changes

-- those of moves behind others
pub joins_append : (M more all : List Move) → all ≡ M ++ more → joins_and_changes all ≡ joins_and_changes M + joins_and_changes more
joins_append M more all are =
    let joins : count_by is_join all ≡ count_by is_join M + count_by is_join more = ap (count_by is_join) are ∙ sum_by-append (λ (m : Move). cond (is_join m) 1 0) M more in
    let changes : count_by is_change all ≡ count_by is_change M + count_by is_change more = ap (count_by is_change) are ∙ sum_by-append (λ (m : Move). cond (is_change m) 1 0) M more in
    omega (arith, joins, changes)

-- moves by which none joined or changed
pub quiet_on : (M more all : List Move) → all ≡ M ++ more → joins_and_changes more ≡ 0 → joins_and_changes all ≡ joins_and_changes M
quiet_on M more all are none = let both = joins_append M more all are in omega (arith, both, none)

-- ---- answers that went well

pub ok_with : {A E : Type 0} (r : Result A E) (P : Type 0) → P → OnOk r P
ok_with (Ok x) P is = is
ok_with (Err why) P is = tt

pub ok_step : {A E : Type 0} (r : Result A E) (P Q : Type 0) → (P → Q) → OnOk r P → OnOk r Q
ok_step (Ok x) P Q step is = step is
ok_step (Err why) P Q step is = tt
