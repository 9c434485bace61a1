-- A link that serves goes on serving.
use Rattle.std.proofs.Common.{◌≡◌, ◌≤◌, ◌⊎◌, inl, inr, ◌+◌, ℕ, Bool, true, false, List, [], ◌∷◌, ◌++◌, Option, Some, None, Result, Ok, Err, refl, sym, ap, ◌∙◌, subst, append_assoc, append-nil}
use Rattle.std.specs.Prelude.{IfOk, IsErrOf}
use Rattle.flow_types.specs.declared.lists.Memory.{Memory}
use Rattle.flow_types.specs.declared.job.Failure.{Failure}
use Rattle.flow_types.specs.declared.job.Job.{Job}
use Rattle.flow_types.specs.declared.messages.Key.{Key}
use Rattle.flow_types.specs.declared.messages.Message.{Message}
use Rattle.flow_types.specs.declared.numbers.Amounts.{Amounts}
use Rattle.flow_types.specs.Plans.{most_input_bytes}
use Rattle.flow_types.specs.Serial.{Function}
use Rattle.outside.specs.declared.fault.Fault.{Fault}
use Rattle.outside.specs.declared.fault.Fault.TheVariants as faults
use Rattle.links.specs.declared.passing.Got.{Got}
use Rattle.links.specs.declared.passing.Passed.{Passed}
use Rattle.links.specs.declared.passing.Passed.TheVariants as passed
use Rattle.links.specs.Honesty.{IsAtLeast, IsHonestSoFar, IsHonestThroughout, IsOrderly, IsSureAnswer}
use Rattle.links.specs.Passings.{received_in, sent_in}
use Rattle.message_forms.specs.Streams.{IsFramed, framed, frames_of}
use Rattle.mem_links.specs.declared.mem_link.LinkStep.{LinkStep}
use Rattle.mem_links.specs.declared.mem_link.LinkStep.TheVariants as steps
use Rattle.mem_links.specs.MemLinks.{Flushes, HandsOut, Idles, LinkState, Sends, SendsBy, Takes, awaits_send, fresh_link, serving_link, waits}
use Rattle.mem_links.specs.Servers.{Comes, Hears, ServerState, answers, given, hello, keys_put, new_server}
use Rattle.mem_links.specs.Serving.{AreBlank, HasAtLeast, IsHonestLink, IsServing, IsSureLink, OffersLink}
use Rattle.mem_links.proofs.Answering.{answers_append}
use Rattle.mem_links.proofs.Honest.{WasServed, offers_so, orderly, owes_nothing, served_honest}
use Rattle.mem_links.proofs.Keys.{keys_append}
use Rattle.mem_links.proofs.Rows.{comes_on, frames_more, given_append}

-- ---- at this moment

pub served_now : (s : LinkState) (is : IsServing s)
    → WasServed is.server.total is.server.cache (sent_in s.history) (received_in s.history) is.left
served_now s is = record {
  heard = is.heard;
  rest = is.server.rest;
  came = is.came.parts;
  gave = is.gave;
  gave_all = is.gave_all;
  answered = is.answered;
}

-- ---- what follows

honest_now : (gives : Function) (may_fail : Job → Failure → Type 0) (s : LinkState)
    → AreBlank gives → IsServing s
    → IsHonestSoFar gives may_fail (sent_in s.history) (received_in s.history)
honest_now gives may_fail s blank is =
    served_honest gives may_fail is.server.total is.server.cache (sent_in s.history)
    (received_in s.history) is.left blank is.hello_framed (served_now s is)

serves_orderly : (s : LinkState) → IsServing s
    → IsOrderly (sent_in s.history) (received_in s.history)
serves_orderly s is =
    orderly is.server.total is.server.cache (sent_in s.history) (received_in s.history) is.left
    is.hello_framed (served_now s is)

serves_offers : (least : Amounts) (s : LinkState) → IsServing s → HasAtLeast least s.server
    → OffersLink least s
serves_offers least s is enough =
    let here : HasAtLeast least (Some is.server) =
    subst (λ (o : Option ServerState). HasAtLeast least o) is.serves enough in
    record {
      serves = is;
      enough = enough;
      offered = offers_so least is.server.total is.server.cache (sent_in s.history)
          (received_in s.history) is.left is.hello_framed (served_now s is) here.0 here.1;
    }

-- one passage more, or none
abbrev pub GoesOn : LinkState → LinkState → Type 0
GoesOn old new = (new.history ≡ old.history) ⊎ ((p : Passed) × (new.history ≡ p ∷ old.history))

honest_on : (gives : Function) (may_fail : Job → Failure → Type 0) (old new : LinkState)
    → IsHonestLink gives may_fail old → IsServing new → GoesOn old new
    → IsHonestLink gives may_fail new
honest_on gives may_fail old new was serves goes =
    record { serves = serves; blank = was.blank; honest = by goes }
  where
    by : GoesOn old new → IsHonestThroughout gives may_fail sent_in received_in new.history
    by (inl same) =
        subst (λ (h : List Passed). IsHonestThroughout gives may_fail sent_in received_in h)
        (sym same) was.honest
    by (inr (p, same)) =
        let now : IsHonestSoFar gives may_fail (sent_in (p ∷ old.history))
        (received_in (p ∷ old.history)) =
        subst
        (λ (h : List Passed). IsHonestSoFar gives may_fail (sent_in h) (received_in h))
        same (honest_now gives may_fail new was.blank serves) in
        subst (λ (h : List Passed). IsHonestThroughout gives may_fail sent_in received_in h)
        (sym same) (now, was.honest)

sure_on : (gives : Function) (may_fail : Job → Failure → Type 0) (old new : LinkState)
    → IsSureLink gives may_fail old → IsServing new → GoesOn old new
    → IsSureLink gives may_fail new
sure_on gives may_fail old new was serves goes = record {
  honest = honest_on gives may_fail old new was.honest serves goes;
  orderly = serves_orderly new serves;
}

-- ---- a link that was made so

serving_serves : (total : Amounts) (cache : ℕ) → IsFramed (hello total cache)
    → IsServing (serving_link total cache)
serving_serves total cache first = record {
  server = new_server total cache;
  serves = refl;
  left = hello total cache ∷ [];
  steps_are = refl;
  heard = [];
  came = record {
    parts = record { framed_all = tt; are = refl };
    no_more = λ m begins. none m begins.0 begins.1.are;
  };
  keys_are = refl;
  gave = [];
  gave_all = refl;
  answered = refl;
  hello_framed = first;
}
  where
    none : (m : Message) (rest : List ℕ) → [] ≡ frames_of (m ∷ []) ++ rest → ⊥
    none m rest same = absurd cc

pub serving_sure : (gives : Function) (may_fail : Job → Failure → Type 0) (total : Amounts)
    (cache : ℕ) → AreBlank gives → IsFramed (hello total cache)
    → IsSureLink gives may_fail (serving_link total cache)
serving_sure gives may_fail total cache blank first =
    let serves = serving_serves total cache first in
    record {
      honest = record { serves = serves; blank = blank; honest = tt };
      orderly = serves_orderly (serving_link total cache) serves;
    }

pub serving_offers : (least total : Amounts) (cache : ℕ) → IsFramed (hello total cache)
    → IsAtLeast least total → most_input_bytes ≤ cache
    → OffersLink least (serving_link total cache)
serving_offers least total cache first enough room =
    serves_offers least (serving_link total cache) (serving_serves total cache first) (enough, room)

-- ---- answers

ok_no_err : {T : Type 0} (x : T) (e : Fault) → IsErrOf {T = T} {E = Fault} (Ok x) e → ⊥
ok_no_err x e wrong = cc

memory_no_failed : {T : Type 0} (f : Fault) → f ≡ faults.Memory
    → IsErrOf {T = T} {E = Fault} (Err f) faults.Failed → ⊥
memory_no_failed f memory wrong = cc

-- ---- send

-- a send that was heard leaves it serving
hears_on : (old new : LinkState) (server after : ServerState) (bytes : List ℕ)
    (gives : List LinkStep) (is : IsServing old) → old.server ≡ Some server
    → Hears server bytes after gives
    → new ≡ record old {
      steps = old.steps ++ gives;
      history = passed.Sent bytes ∷ old.history;
      idles = 0;
      server = Some after;
    }
    → IsServing new
hears_on old new server after bytes gives is serves h are =
    subst IsServing (sym are) (by server (some_is server is.server (sym serves ∙ is.serves)) h)
  where
    some_is : (a b : ServerState) → (let one : Option ServerState = Some a in one ≡ Some b) → a ≡ b
    some_is a b same = cc

    by : (s : ServerState) → s ≡ is.server → Hears s bytes after gives
        → IsServing (record old {
          steps = old.steps ++ gives;
          history = passed.Sent bytes ∷ old.history;
          idles = 0;
          server = Some after;
        })
    by s same h =
        let ms = h.messages in
        let more = answers s.keys ms in
        let left = is.left ++ more in
        let heard = is.heard ++ ms in
        let now : ServerState =
        record is.server { keys = is.server.keys ++ keys_put ms; rest = h.rest } in
        let after_is : after ≡ now =
        h.server ∙ ap (λ (x : ServerState). record x { keys = x.keys ++ keys_put ms; rest = h.rest }) same
        in
        let came : Comes (sent_in old.history ++ bytes) heard h.rest =
        comes_on (sent_in old.history) bytes is.server.rest h.rest is.heard ms is.came
        (subst (λ (x : ServerState). Comes (x.rest ++ bytes) ms h.rest) same h.came) in
        let keys_are : is.server.keys ++ keys_put ms ≡ keys_put heard =
        ap (λ (ks : List Key). ks ++ keys_put ms) is.keys_are ∙ sym (keys_append is.heard ms) in
        let first = hello is.server.total is.server.cache in
        let more_is : more ≡ answers (keys_put is.heard) ms =
        ap (λ (ks : List Key). answers ks ms) (ap (λ (x : ServerState). x.keys) same ∙ is.keys_are)
        in
        let answered : is.gave ++ left ≡ first ∷ answers [] heard =
        sym (append_assoc is.gave is.left more)
        ∙ ap (λ (xs : List Message). xs ++ more) is.answered
        ∙ ap (λ (xs : List Message). first ∷ (answers [] is.heard ++ xs)) more_is
        ∙ ap (λ (xs : List Message). first ∷ xs) (sym (answers_append [] is.heard ms)) in
        record {
          server = now;
          serves = ap (λ (x : ServerState). Some x) after_is;
          left = left;
          steps_are = ap (λ (ss : List LinkStep). ss ++ gives) is.steps_are
              ∙ ap (λ (ss : List LinkStep). given is.left ++ ss) h.answered
              ∙ sym (given_append is.left more);
          heard = heard;
          came = came;
          keys_are = keys_are;
          gave = is.gave;
          gave_all = is.gave_all;
          answered = answered;
          hello_framed = is.hello_framed;
        }

-- what was sent is heard, since a server is there
sends_on : (old new : LinkState) (bytes : List ℕ) (o : Option ServerState) → old.server ≡ o
    → IsServing old → Sends o bytes old new
    → IsServing new × ((least : Amounts) → HasAtLeast least old.server
    → HasAtLeast least new.server) × GoesOn old new
sends_on old new bytes None serves is sent = absurd (none is.server (sym serves ∙ is.serves))
  where
    none : (a : ServerState) → (let one : Option ServerState = None in one ≡ Some a) → ⊥
    none a same = cc
sends_on old new bytes (Some server) serves is (after, gives, h, are) = (
  hears_on old new server after bytes gives is serves h are,
  λ least enough.
      let new_is : new.server ≡ Some after = ap (λ (s : LinkState). s.server) are in
      let before : HasAtLeast least (Some server) =
      subst (λ (o : Option ServerState). HasAtLeast least o) serves enough in
      subst (λ (o : Option ServerState). HasAtLeast least o) (sym new_is)
      (subst (λ (x : ServerState). HasAtLeast least (Some x)) (sym h.server) before),
  inr (passed.Sent bytes, ap (λ (s : LinkState). s.history) are),
)

no_send_awaited : (ms : List Message) (ss : List LinkStep) → ss ≡ given ms → awaits_send ss ≡ false
no_send_awaited [] ss same = ap awaits_send same
no_send_awaited (m ∷ ms) ss same = ap awaits_send same

-- What a call of send makes of a link that serves.
pub record SendKeeps {T : Type 0} (old : LinkState) (result : Result T Fault) (new : LinkState)
    : Type 0 where
  pub serving : IsServing new
  pub offers : (least : Amounts) → HasAtLeast least old.server → HasAtLeast least new.server
  pub goes : GoesOn old new
  pub sound : IsErrOf result faults.Failed → ⊥

send_by : {T : Type 0} (b : Bool) (old new : LinkState) (bytes : List ℕ) (result : Result T Fault)
    → b ≡ false → IsServing old → SendsBy b bytes old result new → SendKeeps old result new
send_by true old new bytes result is serving step = absurd (let none : ⊥ = cc in none)
send_by false old new bytes (Ok x) is serving step =
    let kept = sends_on old new bytes old.server refl serving step in
    record {
      serving = kept.0;
      offers = kept.1;
      goes = kept.2;
      sound = λ wrong. ok_no_err x faults.Failed wrong;
    }
send_by false old new bytes (Err fault) is serving (memory, same) = record {
  serving = subst IsServing (sym same) serving;
  offers = λ least enough. subst (λ (s : LinkState). HasAtLeast least s.server) (sym same) enough;
  goes = inl (ap (λ (s : LinkState). s.history) same);
  sound = λ wrong. memory_no_failed fault memory wrong;
}

send_keeps : {T : Type 0} (old new : LinkState) (bytes : List ℕ) (result : Result T Fault)
    → IsServing old → SendsBy (awaits_send old.steps) bytes old result new
    → SendKeeps old result new
send_keeps old new bytes result serving step =
    send_by (awaits_send old.steps) old new bytes result
    (no_send_awaited serving.left old.steps serving.steps_are) serving step

-- ---- recv

-- What a call of recv makes of a link that serves.
pub record RecvKeeps (old : LinkState) (result : Result Got Fault) (new : LinkState)
    : Type 0 where
  pub serving : IsServing new
  pub offers : (least : Amounts) → HasAtLeast least old.server → HasAtLeast least new.server
  pub goes : GoesOn old new
  pub sound : IsSureAnswer (sent_in old.history) (received_in old.history) result

-- a link that was idle, or wanted memory
idle_keeps : (old new : LinkState) (result : Result Got Fault) (is : IsServing old) → is.left ≡ []
    → Idles old result new → RecvKeeps old result new
idle_keeps old new (Ok answer) is none (idle, are) =
    let all : received_in old.history
    ≡ frames_of (hello is.server.total is.server.cache ∷ answers [] is.heard) =
    is.gave_all ∙ ap frames_of
    (sym (append_nil_by is.gave is.left none) ∙ is.answered) in
    record {
      serving = subst IsServing (sym are) (with_idles old is (old.idles + 1));
      offers = λ least enough. subst (λ (s : LinkState). HasAtLeast least s.server) (sym are) enough;
      goes = inl (ap (λ (s : LinkState). s.history) are);
      sound = subst
          (λ (a : Got). IsSureAnswer (sent_in old.history) (received_in old.history) (Ok a))
          (sym idle)
          (owes_nothing is.server.total is.server.cache (sent_in old.history)
          (received_in old.history) is.server.rest is.heard is.hello_framed is.came all);
    }
  where
    append_nil_by : (xs ys : List Message) → ys ≡ [] → xs ++ ys ≡ xs
    append_nil_by xs ys same = ap (λ (zs : List Message). xs ++ zs) same ∙ append-nil xs

    with_idles : (s : LinkState) → IsServing s → (n : ℕ) → IsServing (record s { idles = n })
    with_idles s is n = record {
      server = is.server;
      serves = is.serves;
      left = is.left;
      steps_are = is.steps_are;
      heard = is.heard;
      came = is.came;
      keys_are = is.keys_are;
      gave = is.gave;
      gave_all = is.gave_all;
      answered = is.answered;
      hello_framed = is.hello_framed;
    }
idle_keeps old new (Err fault) is none (memory, same) = record {
  serving = subst IsServing (sym same) is;
  offers = λ least enough. subst (λ (s : LinkState). HasAtLeast least s.server) (sym same) enough;
  goes = inl (ap (λ (s : LinkState). s.history) same);
  sound = subst
      (λ (f : Fault). IsSureAnswer (sent_in old.history) (received_in old.history) (Err f))
      (sym memory) tt;
}

-- a link that gave its next message, or wanted memory
gives_keeps : (old new : LinkState) (result : Result Got Fault) (is : IsServing old)
    (m : Message) (ms : List Message) (bytes : List ℕ) → is.left ≡ m ∷ ms → bytes ≡ framed m
    → HandsOut bytes (given ms) old result new → RecvKeeps old result new
gives_keeps old new (Ok answer) is m ms bytes left same (piece, are) =
    let gave = is.gave ++ m ∷ [] in
    let gave_all : received_in old.history ++ bytes ≡ frames_of gave =
    ap (λ (w : List ℕ). w ++ bytes) is.gave_all
    ∙ ap (λ (w : List ℕ). frames_of is.gave ++ w) same ∙ frames_more is.gave m in
    let answered : gave ++ ms ≡ hello is.server.total is.server.cache ∷ answers [] is.heard =
    append_assoc is.gave (m ∷ []) ms ∙ ap (λ (xs : List Message). is.gave ++ xs) (sym left)
    ∙ is.answered in
    record {
      serving = subst IsServing (sym are) (record {
        server = is.server;
        serves = is.serves;
        left = ms;
        steps_are = refl;
        heard = is.heard;
        came = is.came;
        keys_are = is.keys_are;
        gave = gave;
        gave_all = gave_all;
        answered = answered;
        hello_framed = is.hello_framed;
      });
      offers = λ least enough. subst (λ (s : LinkState). HasAtLeast least s.server) (sym are) enough;
      goes = inr (passed.Received bytes, ap (λ (s : LinkState). s.history) are);
      sound = subst
          (λ (a : Got). IsSureAnswer (sent_in old.history) (received_in old.history) (Ok a))
          (sym piece) tt;
    }
gives_keeps old new (Err fault) is m ms bytes left same (memory, stays) = record {
  serving = subst IsServing (sym stays) is;
  offers = λ least enough. subst (λ (s : LinkState). HasAtLeast least s.server) (sym stays) enough;
  goes = inl (ap (λ (s : LinkState). s.history) stays);
  sound = subst
      (λ (f : Fault). IsSureAnswer (sent_in old.history) (received_in old.history) (Err f))
      (sym memory) tt;
}

-- what a step that gives these bytes answers, where they are a frame
takes_frame : (old new : LinkState) (result : Result Got Fault) (m : Message)
    (ms : List Message) (bytes : List ℕ) → bytes ≡ framed m
    → Takes (steps.Give bytes ∷ given ms) old result new → HandsOut bytes (given ms) old result new
takes_frame old new result m ms [] same step = absurd (let none : ⊥ = cc in none)
takes_frame old new result m ms (b ∷ bs) same step = step

recv_by : (old new : LinkState) (result : Result Got Fault) (is : IsServing old)
    (left : List Message) → is.left ≡ left → Takes (given left) old result new
    → RecvKeeps old result new
recv_by old new result is [] same step = idle_keeps old new result is same step
recv_by old new result is (m ∷ ms) same step =
    gives_keeps old new result is m ms (framed m) same refl
    (takes_frame old new result m ms (framed m) refl step)

recv_keeps : (old new : LinkState) (result : Result Got Fault) → IsServing old
    → Takes old.steps old result new → RecvKeeps old result new
recv_keeps old new result is step =
    recv_by old new result is is.left refl
    (subst (λ (ss : List LinkStep). Takes ss old result new) is.steps_are step)

-- ---- the calls

pub send_honest : {T : Type 0} (gives : Function) (may_fail : Job → Failure → Type 0)
    (old new : LinkState) (bytes : List ℕ) (result : Result T Fault)
    → SendsBy (awaits_send old.steps) bytes old result new
    → IsHonestLink gives may_fail old → IsHonestLink gives may_fail new
send_honest gives may_fail old new bytes result step is =
    let kept = send_keeps old new bytes result is.serves step in
    honest_on gives may_fail old new is kept.serving kept.goes

pub send_sure : {T : Type 0} (gives : Function) (may_fail : Job → Failure → Type 0)
    (old new : LinkState) (bytes : List ℕ) (result : Result T Fault)
    → SendsBy (awaits_send old.steps) bytes old result new
    → IsSureLink gives may_fail old
    → IsSureLink gives may_fail new × (IsErrOf result faults.Failed → ⊥)
send_sure gives may_fail old new bytes result step is =
    let kept = send_keeps old new bytes result is.honest.serves step in
    (sure_on gives may_fail old new is kept.serving kept.goes, kept.sound)

pub send_offers : {T : Type 0} (least : Amounts) (old new : LinkState) (bytes : List ℕ)
    (result : Result T Fault) → SendsBy (awaits_send old.steps) bytes old result new
    → OffersLink least old → OffersLink least new
send_offers least old new bytes result step is =
    let kept = send_keeps old new bytes result is.serves step in
    serves_offers least new kept.serving (kept.offers least is.enough)

pub recv_honest : (gives : Function) (may_fail : Job → Failure → Type 0) (old new : LinkState)
    (result : Result Got Fault) → Takes old.steps old result new
    → IsHonestLink gives may_fail old
    → IsHonestLink gives may_fail new
    × IsHonestSoFar gives may_fail (sent_in new.history) (received_in new.history)
recv_honest gives may_fail old new result step is =
    let kept = recv_keeps old new result is.serves step in (
      honest_on gives may_fail old new is kept.serving kept.goes,
      honest_now gives may_fail new is.blank kept.serving,
    )

pub recv_sure : (gives : Function) (may_fail : Job → Failure → Type 0) (old new : LinkState)
    (result : Result Got Fault) → Takes old.steps old result new
    → IsSureLink gives may_fail old
    → IsSureLink gives may_fail new
    × IsSureAnswer (sent_in old.history) (received_in old.history) result
recv_sure gives may_fail old new result step is =
    let kept = recv_keeps old new result is.honest.serves step in
    (sure_on gives may_fail old new is kept.serving kept.goes, kept.sound)

pub recv_offers : (least : Amounts) (old new : LinkState) (result : Result Got Fault)
    → Takes old.steps old result new → OffersLink least old → OffersLink least new
recv_offers least old new result step is =
    let kept = recv_keeps old new result is.serves step in
    serves_offers least new kept.serving (kept.offers least is.enough)

-- a link that serves is never behind
waits_none : (ms : List Message) (ss : List LinkStep) → ss ≡ given ms → waits ss ≡ 0
waits_none [] ss same = ap waits same
waits_none (m ∷ ms) ss same = ap waits same

pub behind_none : (gives : Function) (may_fail : Job → Failure → Type 0) (s : LinkState)
    (count : ℕ) → count ≡ waits s.steps → IsSureLink gives may_fail s → count ≡ 0
behind_none gives may_fail s count counted is =
    counted ∙ waits_none is.honest.serves.left s.steps is.honest.serves.steps_are

flush_same : (ms : List Message) (ss : List LinkStep) (old new : LinkState)
    (result : Result ℕ Fault) → ss ≡ given ms → Flushes ss old result new
    → (result ≡ Ok 0) × (new ≡ old)
flush_same [] ss old new result same step =
    subst (λ (x : List LinkStep). Flushes x old result new) same step
flush_same (m ∷ ms) ss old new result same step =
    subst (λ (x : List LinkStep). Flushes x old result new) same step

flushed : (old new : LinkState) (result : Result ℕ Fault) → Flushes old.steps old result new
    → IsServing old → (result ≡ Ok 0) × (new ≡ old)
flushed old new result step is =
    flush_same is.left old.steps old new result is.steps_are step

pub flush_honest : (gives : Function) (may_fail : Job → Failure → Type 0) (old new : LinkState)
    (result : Result ℕ Fault) → Flushes old.steps old result new
    → IsHonestLink gives may_fail old → IsHonestLink gives may_fail new
flush_honest gives may_fail old new result step is =
    subst (IsHonestLink gives may_fail) (sym (flushed old new result step is.serves).1) is

pub flush_sure : (gives : Function) (may_fail : Job → Failure → Type 0) (old new : LinkState)
    (result : Result ℕ Fault) → Flushes old.steps old result new
    → IsSureLink gives may_fail old → IsSureLink gives may_fail new × (result ≡ Ok 0)
flush_sure gives may_fail old new result step is =
    let same = flushed old new result step is.honest.serves in
    (subst (IsSureLink gives may_fail) (sym same.1) is, same.0)

pub flush_offers : (least : Amounts) (old new : LinkState) (result : Result ℕ Fault)
    → Flushes old.steps old result new → OffersLink least old → OffersLink least new
flush_offers least old new result step is =
    subst (OffersLink least) (sym (flushed old new result step is.serves).1) is

-- a link that was made so offers what it was made with
pub made_offers : (total : Amounts) (cache : ℕ) (frame : List ℕ) (server : ServerState)
    (result : Result LinkState Memory) → IsFramed (hello total cache)
    → frame ≡ framed (hello total cache) → server ≡ new_server total cache
    → IfOk result (λ link. link ≡ fresh_link (steps.Give frame ∷ []) (Some server))
    → (least : Amounts) → IsAtLeast least total → most_input_bytes ≤ cache
    → IfOk result (OffersLink least)
made_offers total cache frame server (Ok link) first bytes state same least enough room =
    let are : link ≡ serving_link total cache =
    same ∙ ap (λ (w : List ℕ). fresh_link (steps.Give w ∷ []) (Some server)) bytes
    ∙ ap (λ (s : ServerState). fresh_link (given (hello total cache ∷ [])) (Some s)) state in
    subst (λ (s : LinkState). OffersLink least s) (sym are)
    (serving_offers least total cache first enough room)
made_offers total cache frame server (Err memory) first bytes state same least enough room = tt
