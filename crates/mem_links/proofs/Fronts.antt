-- Messages off the front of a stream.
use Rattle.std.proofs.Common.{◌≡◌, ◌≤◌, ◌<◌, ℕ, List, [], ◌∷◌, ◌++◌, length, Result, Ok, Err, refl, sym, ap, ◌∙◌, subst, append_assoc, append-nil, arith}
use Rattle.byte_fields.specs.declared.fault.FieldFault.{FieldFault}
use Rattle.byte_fields.specs.Laws.{IsBytes}
use Rattle.byte_fields.specs.Reading.{bytes_at}
use Rattle.byte_fields.specs.Spelling.{counted}
use Rattle.byte_fields.proofs.Fields.{counted_is_field}
use Rattle.flow_types.specs.declared.messages.Key.{Key}
use Rattle.flow_types.specs.declared.messages.Message.{Message}
use Rattle.message_forms.specs.Streams.{BeginsWith, IsFramed, IsStream, framed, frames_of}
use Rattle.message_forms.proofs.Parses.{framed_append, frames_append}
use Rattle.wq_messages.specs.Spelling.{HasSpelling, most_body, spelling}
use Rattle.mem_links.specs.declared.mem_link.LinkStep.{LinkStep}
use Rattle.mem_links.specs.Servers.{BeginsNone, HearsAll, answer, answers, given, key_put, keys_put}
use Rattle.mem_links.proofs.Answering.{answers_append}
use Rattle.mem_links.proofs.Keys.{keys_append}
use Rattle.mem_links.proofs.Rows.{given_append}

-- ---- the first message

-- the body of a message that stands in front is read
begins_at : (bytes : List ℕ) (m : Message) (b : BeginsWith bytes (m ∷ []))
    → bytes_at bytes ≡ Ok (spelling m, b.0)
begins_at bytes m b =
    let small : length (spelling m) ≤ most_body = b.1.framed_all.0.1 in
    let same : bytes ≡ counted (spelling m) ++ b.0 =
    b.1.are ∙ ap (λ (w : List ℕ). w ++ b.0) (append-nil (framed m)) in
    ap bytes_at same ∙ counted_is_field.again (spelling m) b.0 (omega (arith, small))

read_one : (p q : List ℕ × List ℕ)
    → (let one : Result (List ℕ × List ℕ) FieldFault = Ok p in one ≡ Ok q) → p ≡ q
read_one p q same = cc

read_none : (p : List ℕ × List ℕ) (e : FieldFault)
    → (let one : Result (List ℕ × List ℕ) FieldFault = Ok p in one ≡ Err e) → ⊥
read_none p e same = cc

-- no body is there
pub none_short : (bytes : List ℕ) (e : FieldFault) → bytes_at bytes ≡ Err e → BeginsNone bytes
none_short bytes e is m b =
    read_none (spelling m, b.0) e (sym (begins_at bytes m b) ∙ is)

-- the body that is there is that of the message
body_is : (bytes body behind : List ℕ) (m : Message) (b : BeginsWith bytes (m ∷ []))
    → bytes_at bytes ≡ Ok (body, behind) → body ≡ spelling m
body_is bytes body behind m b is =
    ap (λ (p : List ℕ × List ℕ). p.0)
    (read_one (body, behind) (spelling m, b.0) (sym is ∙ begins_at bytes m b))

-- it is too long
pub none_long : (bytes body behind : List ℕ) → bytes_at bytes ≡ Ok (body, behind)
    → most_body < length body → BeginsNone bytes
none_long bytes body behind is long m b =
    let same : length body ≡ length (spelling m) =
    ap length (body_is bytes body behind m b is) in
    let small : length (spelling m) ≤ most_body = b.1.framed_all.0.1 in
    absurd (omega (arith, same, small, long))

-- it is no message
pub none_bad : (bytes body behind : List ℕ) → bytes_at bytes ≡ Ok (body, behind)
    → ((m : Message) → HasSpelling m → body ≡ spelling m → ⊥) → BeginsNone bytes
none_bad bytes body behind is none m b =
    none m b.1.framed_all.0.0 (body_is bytes body behind m b is)

-- it is a message
pub one_front : (bytes body behind : List ℕ) (m : Message) → IsBytes bytes
    → bytes_at bytes ≡ Ok (body, behind) → length body ≤ most_body → HasSpelling m
    → body ≡ spelling m → IsFramed m × (bytes ≡ framed m ++ behind)
one_front bytes body behind m small is few fits same =
    let parts = (counted_is_field.takes bytes body behind small is).0.parts in (
      (fits, subst (λ (w : List ℕ). length w ≤ most_body) same few),
      parts ∙ ap (λ (w : List ℕ). counted w ++ behind) same,
    )

-- ---- all messages

-- So far these bytes were messages, and this is left.
pub record HeardSoFar (bytes : List ℕ) (keys : List Key) (gives : List LinkStep) (rest : List ℕ)
    (keys_now : List Key) (gives_now : List LinkStep) : Type 0 where
  pub messages : List Message
  pub parts : IsStream bytes messages rest
  pub keys_are : keys_now ≡ keys ++ keys_put messages
  pub gives_are : gives_now ≡ gives ++ given (answers keys messages)

pub heard_none : (bytes : List ℕ) (keys : List Key) (gives : List LinkStep)
    → HeardSoFar bytes keys gives bytes keys gives
heard_none bytes keys gives = record {
  messages = [];
  parts = record { framed_all = tt; are = refl };
  keys_are = sym (append-nil keys);
  gives_are = sym (append-nil gives);
}

pub heard_more : (bytes : List ℕ) (keys : List Key) (gives : List LinkStep) (rest behind : List ℕ)
    (keys_now keys_then : List Key) (gives_now gives_then : List LinkStep) (m : Message)
    → HeardSoFar bytes keys gives rest keys_now gives_now → IsFramed m
    → rest ≡ framed m ++ behind → keys_then ≡ keys_now ++ key_put m
    → gives_then ≡ gives_now ++ given (answer keys_now m)
    → HeardSoFar bytes keys gives behind keys_then gives_then
heard_more bytes keys gives rest behind keys_now keys_then gives_now gives_then m so is front more_keys more_gives =
    let ms = so.messages in
    let one = m ∷ [] in
    let before = keys ++ keys_put ms in
    let said : answers keys (ms ++ one) ≡ answers keys ms ++ answer keys_now m =
    answers_append keys ms one
    ∙ ap (λ (xs : List Message). answers keys ms ++ xs) (append-nil (answer before m))
    ∙ ap (λ (ks : List Key). answers keys ms ++ answer ks m) (sym so.keys_are) in
    record {
      messages = ms ++ one;
      parts = record {
        framed_all = framed_append ms one so.parts.framed_all (is, tt);
        are = so.parts.are ∙ ap (λ (w : List ℕ). frames_of ms ++ w) front
            ∙ ap (λ (w : List ℕ). frames_of ms ++ (w ++ behind)) (sym (append-nil (framed m)))
            ∙ sym (append_assoc (frames_of ms) (frames_of one) behind)
            ∙ ap (λ (w : List ℕ). w ++ behind) (sym (frames_append ms one));
      };
      keys_are = more_keys ∙ ap (λ (ks : List Key). ks ++ key_put m) so.keys_are
          ∙ append_assoc keys (keys_put ms) (key_put m)
          ∙ ap (λ (ks : List Key). keys ++ (keys_put ms ++ ks)) (sym (append-nil (key_put m)))
          ∙ ap (λ (ks : List Key). keys ++ ks) (sym (keys_append ms one));
      gives_are = more_gives ∙ ap (λ (ss : List LinkStep). ss ++ given (answer keys_now m)) so.gives_are
          ∙ append_assoc gives (given (answers keys ms)) (given (answer keys_now m))
          ∙ ap (λ (ss : List LinkStep). gives ++ ss)
          (sym (given_append (answers keys ms) (answer keys_now m)) ∙ ap given (sym said));
    }

pub heard_all : (bytes : List ℕ) (keys : List Key) (gives : List LinkStep) (rest : List ℕ)
    (keys_now : List Key) (gives_now : List LinkStep)
    → HeardSoFar bytes keys gives rest keys_now gives_now → BeginsNone rest
    → HearsAll bytes keys gives rest keys_now gives_now
heard_all bytes keys gives rest keys_now gives_now so none = record {
  messages = so.messages;
  came = record { parts = so.parts; no_more = none };
  keys_are = so.keys_are;
  gives_are = so.gives_are;
}
