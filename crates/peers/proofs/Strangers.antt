-- What can't begin with a hello misspeaks, and what comes in order can.
use Rattle.std.proofs.Common.{◌≡◌, ℕ, Bool, true, false, not, List, [], ◌∷◌, ◌++◌, length, take, nat_eq, refl, sym, ap, ◌∙◌, subst, append_assoc, arith}
use Rattle.std.proofs.lemmas.Bool.{eq-eqb}
use Rattle.std.proofs.lemmas.List.{length-append}
use Rattle.std.specs.List.{starts_with}
use Rattle.byteorder.specs.Endian.{big_bytes}
use Rattle.byteorder.specs.Numbers.{length-bytes_high_first}
use Rattle.flow_types.specs.declared.messages.Message.{Message}
use Rattle.flow_types.specs.declared.messages.Message.TheVariants as messages
use Rattle.flow_types.specs.declared.numbers.Amounts.{Amounts}
use Rattle.link_session.specs.declared.session.Stage.{Stage}
use Rattle.link_session.specs.declared.session.Stage.TheVariants as stages
use Rattle.links.specs.Honesty.{IsHelloFirst, IsOrderly}
use Rattle.links.specs.Ill.{MayBegin, Misspeaks, stranger}
use Rattle.message_forms.specs.Streams.{IsStream, framed, frames_of}
use Rattle.wq_messages.specs.Spelling.{amounts_bytes, fields_of, offer_bytes, spelling}
use Rattle.peers.specs.Serves.{HasGreeted}
use Rattle.peers.specs.Strangers.{hello_head, is_stranger, may_greet}

-- ---- how a hello begins

len : (n x : ℕ) → length (big_bytes n x) ≡ n
len n x = length-bytes_high_first n x

amounts_len : (a : Amounts) → length (amounts_bytes a) ≡ 12
amounts_len a =
    omega (
      arith,
      length-append (big_bytes 4 a.cores) (big_bytes 4 a.memory ++ big_bytes 4 a.disk),
      length-append (big_bytes 4 a.memory) (big_bytes 4 a.disk),
      len 4 a.cores,
      len 4 a.memory,
      len 4 a.disk,
    )

offer_len : (total largest : Amounts) (cache : ℕ) → length (offer_bytes total largest cache) ≡ 32
offer_len total largest cache =
    omega (
      arith,
      length-append (amounts_bytes total) (amounts_bytes largest ++ big_bytes 8 cache),
      length-append (amounts_bytes largest) (big_bytes 8 cache),
      amounts_len total,
      amounts_len largest,
      len 8 cache,
    )

hello_len : (total largest : Amounts) (cache : ℕ) → length (spelling (messages.Hello total largest cache)) ≡ 35
hello_len total largest cache =
    omega (
      arith,
      length-append (big_bytes 1 1) (fields_of (messages.Hello total largest cache)),
      length-append (big_bytes 2 1) (offer_bytes total largest cache),
      len 1 1,
      len 2 1,
      offer_len total largest cache,
    )

begins_so : (total largest : Amounts) (cache : ℕ) → framed (messages.Hello total largest cache) ≡ hello_head ++ fields_of (messages.Hello total largest cache)
begins_so total largest cache =
    let m = messages.Hello total largest cache in
    ap (λ (n : ℕ). big_bytes 4 n ++ spelling m) (hello_len total largest cache)

-- ---- what goes with a head

-- bytes that begin so, or that begin what begins so, start it
starts : (head bytes more tail : List ℕ) → bytes ++ more ≡ head ++ tail → starts_with nat_eq head (take (length head) bytes) ≡ true
starts [] bytes more tail same = refl
starts (y ∷ head) [] more tail same = refl
starts (y ∷ head) (x ∷ bytes) more tail same =
    let first : x ≡ y = cc in
    let rest : bytes ++ more ≡ head ++ tail = cc in
    rw (eq-eqb x y first) (starts head bytes more tail rest)

-- What may begin with a hello goes with its first bytes.
greets : (bytes : List ℕ) (total largest : Amounts) (cache : ℕ) → MayBegin bytes (messages.Hello total largest cache) → may_greet bytes ≡ true
greets bytes total largest cache (more, behind, same) =
    let fields = fields_of (messages.Hello total largest cache) in
    starts hello_head bytes more (fields ++ behind)
    (same ∙ ap (λ (w : List ℕ). w ++ behind) (begins_so total largest cache) ∙ append_assoc hello_head fields behind)

-- ---- a peer that wasn't heard

-- where nothing was heard, all that came is left
none_heard : (up rest : List ℕ) (heard : List Message) → IsStream up heard rest → heard ≡ [] → up ≡ rest
none_heard up rest heard came none = came.are ∙ ap (λ (ms : List Message). frames_of ms ++ rest) none

not_both : (b : Bool) → b ≡ true → not b ≡ true → ⊥
not_both true is other = cc
not_both false is other = cc

-- Who is a stranger by what came has misspoken.
pub misspeaks : (down up rest : List ℕ) (heard : List Message) (stage : Stage) → HasGreeted stage heard → IsStream up heard rest → is_stranger stage rest ≡ true → Misspeaks down up
misspeaks down up rest heard stages.New none came is =
    stranger (λ total largest cache may.
    let left = subst (λ (w : List ℕ). MayBegin w (messages.Hello total largest cache)) (none_heard up rest heard came none) may in
    not_both (may_greet rest) (greets rest total largest cache left) is)
misspeaks down up rest heard stages.Greeted greeted came is = absurd cc
misspeaks down up rest heard stages.Broken greeted came is = absurd greeted

-- what comes in order begins with a hello
pub record Greeting (up : List ℕ) : Type 0 where
  pub total : Amounts
  pub largest : Amounts
  pub cache : ℕ
  pub begin : MayBegin up (messages.Hello total largest cache)

greeting : (down : List ℕ) (ms : List Message) (up more : List ℕ) → IsHelloFirst down ms → frames_of ms ≡ up ++ more → Greeting up
greeting down [] up more is same = absurd is
greeting down (messages.Hello total largest cache ∷ ms) up more is same =
    record { total = total; largest = largest; cache = cache; begin = (more, frames_of ms, sym same) }
greeting down (messages.Put key content ∷ ms) up more is same = absurd is
greeting down (messages.Task task ∷ ms) up more is same = absurd is
greeting down (messages.Done attempt outcome ∷ ms) up more is same = absurd is
greeting down (messages.Missing attempt files ∷ ms) up more is same = absurd is
greeting down (messages.Cancel attempt ∷ ms) up more is same = absurd is
greeting down (messages.Unlink key ∷ ms) up more is same = absurd is
greeting down (messages.Totals total largest cache ∷ ms) up more is same = absurd is
greeting down (messages.Bye ∷ ms) up more is same = absurd is

-- Whose bytes come in order is no stranger.
pub in_order : (down up rest : List ℕ) (heard : List Message) (stage : Stage) → HasGreeted stage heard → IsStream up heard rest → IsOrderly down up → is_stranger stage rest ≡ false
in_order down up rest heard stages.New none came orderly =
    let g = greeting down orderly.messages_up up orderly.begin.0 orderly.hello_first orderly.begin.1 in
    let left = subst (λ (w : List ℕ). MayBegin w (messages.Hello g.total g.largest g.cache)) (none_heard up rest heard came none) g.begin in
    ap not (greets rest g.total g.largest g.cache left)
in_order down up rest heard stages.Greeted greeted came orderly = refl
in_order down up rest heard stages.Broken greeted came orderly = refl
