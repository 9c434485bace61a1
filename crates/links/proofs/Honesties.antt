-- A peer that answers only what it was asked keeps its link honest, at every moment.
use Rattle.std.proofs.Common.{◌≡◌, ◌⊎◌, inl, inr, ℕ, List, [], ◌∷◌, ◌++◌, take, drop}
use Rattle.std.proofs.Common.{Result, Ok, Err, refl, sym, ap, ◌∙◌, subst, append_assoc, append-nil}
use Rattle.std.proofs.lemmas.List.{take-append-drop}
use Rattle.flow_types.specs.declared.job.Job.{Job}
use Rattle.flow_types.specs.declared.job.Failure.{Failure}
use Rattle.flow_types.specs.declared.job.Outcome.{Outcome}
use Rattle.flow_types.specs.declared.numbers.AttemptNo.{AttemptNo}
use Rattle.flow_types.specs.declared.messages.Message.{Message}
use Rattle.flow_types.specs.declared.messages.Message.TheVariants as messages
use Rattle.flow_types.specs.Serial.{Function}
use Rattle.message_forms.specs.Streams.{framed, frames_of, IsFramed, Carries, IsAmong}
use Rattle.message_forms.proofs.Parses.{carries_more, frames_append, framed_append}
use Rattle.message_forms.proofs.Parses.{rows_carry_their_own}
use Rattle.outside.specs.declared.fault.Fault.{Fault}
use Rattle.links.specs.declared.passing.Passed.{Passed}
use Rattle.links.specs.declared.passing.Passed.TheVariants.{Sent, Received}
use Rattle.links.specs.Honesty.{HasRun, Answers, IsHonestSoFar, IsHonestThroughout}
use Rattle.links.specs.declared.passing.Got.{Got}
use Rattle.links.specs.declared.passing.Got.TheVariants.{Piece, Idle, Closed}
use Rattle.links.specs.Passings.{sent_in, received_in, Transmits, Receives}
use Rattle.links.specs.Peers.{IsRight, IsRightLink, MaySay, Says}

-- an answer stays one as more comes down
pub answers_more : (gives : Function) (may_fail : Job → Failure → Type 0) (down more : List ℕ)
    (attempt : AttemptNo) (outcome : Outcome) → Answers gives may_fail down attempt outcome
    → Answers gives may_fail (down ++ more) attempt outcome
answers_more gives may_fail down more attempt outcome a = record {
  task = a.task;
  of_attempt = a.of_attempt;
  asked = carries_more down more (messages.Task a.task) a.asked;
  contents = a.contents;
  were_put = λ f is. let put = a.were_put f is in (put.0, put.1, carries_more down more _ put.2);
  ends_so = a.ends_so;
}

-- right messages stay so as more comes down
pub right_more : (gives : Function) (may_fail : Job → Failure → Type 0) (down more : List ℕ)
    (said : List Message) → IsRight gives may_fail down said
    → IsRight gives may_fail (down ++ more) said
right_more gives may_fail down more said right = record {
  framed_all = right.framed_all;
  answers = λ attempt outcome there ran.
      answers_more gives may_fail down more attempt outcome
      (right.answers attempt outcome there ran);
}

-- what is among both is among one of them
pub stands_either : (m : Message) (xs ys : List Message) → IsAmong m (xs ++ ys)
    → IsAmong m xs ⊎ IsAmong m ys
stands_either m [] ys there = inr there
stands_either m (x ∷ xs) ys (inl same) = inl (inl same)
stands_either m (x ∷ xs) ys (inr later) = by (stands_either m xs ys later)
  where
    by : IsAmong m xs ⊎ IsAmong m ys → IsAmong m (x ∷ xs) ⊎ IsAmong m ys
    by (inl left) = inl (inr left)
    by (inr right) = inr right

-- a message that may be said leaves all of them right
pub right_said : (gives : Function) (may_fail : Job → Failure → Type 0) (down : List ℕ)
    (said : List Message) (m : Message) → IsRight gives may_fail down said → IsFramed m
    → MaySay gives may_fail down m → IsRight gives may_fail down (said ++ m ∷ [])
right_said gives may_fail down said m right is may = record {
  framed_all = framed_append said (m ∷ []) right.framed_all (is, tt);
  answers = λ attempt outcome there ran.
      by attempt outcome ran (stands_either (messages.Done attempt outcome) said (m ∷ []) there);
}
  where
    by : (attempt : AttemptNo) (outcome : Outcome) → HasRun outcome
        → IsAmong (messages.Done attempt outcome) said
        ⊎ IsAmong (messages.Done attempt outcome) (m ∷ [])
        → Answers gives may_fail down attempt outcome
    by attempt outcome ran (inl before) = right.answers attempt outcome before ran
    by attempt outcome ran (inr (inl same)) = may attempt outcome (sym same) ran
    by attempt outcome ran (inr (inr none)) = absurd none

-- bytes that begin the frames of right messages are honest
pub honest_so_far : (gives : Function) (may_fail : Job → Failure → Type 0)
    (down up more : List ℕ) (said : List Message) → IsRight gives may_fail down said
    → up ++ more ≡ frames_of said → IsHonestSoFar gives may_fail down up
honest_so_far gives may_fail down up more said right begin attempt outcome carried ran =
    let done = messages.Done attempt outcome in
    let carries : Carries (frames_of said) done =
    subst (λ (w : List ℕ). Carries w done) begin (carries_more up more done carried) in
    right.answers attempt outcome ((rows_carry_their_own said done right.framed_all).0 carries) ran

-- A link over which nothing has passed is right.
pub new_link_right : (gives : Function) (may_fail : Job → Failure → Type 0)
    → IsRightLink gives may_fail [] []
new_link_right gives may_fail = record {
  right = record { framed_all = tt; answers = λ attempt outcome there ran. absurd there };
  are_sent = refl;
  honest = tt;
}

-- A piece came.
pub hears : (gives : Function) (may_fail : Job → Failure → Type 0)
    (history : List Passed) (said : List Message) (piece : List ℕ)
    → IsRightLink gives may_fail history said
    → IsRightLink gives may_fail (Received piece ∷ history) said
hears gives may_fail history said piece link =
    let right = right_more gives may_fail (received_in history) piece said link.right in
    let all : sent_in history ++ [] ≡ frames_of said =
    append-nil (sent_in history) ∙ link.are_sent in
    let down = received_in history ++ piece in
    let now = honest_so_far gives may_fail down (sent_in history) [] said right all in
    record { right = right; are_sent = link.are_sent; honest = (now, link.honest) }

-- what was sent, with a whole message behind
sent_whole : (history : List Passed) (said : List Message) (m : Message)
    → sent_in history ≡ frames_of said
    → sent_in history ++ framed m ≡ frames_of (said ++ m ∷ [])
sent_whole history said m are =
    ap (λ (w : List ℕ). w ++ framed m) are
    ∙ ap (λ (w : List ℕ). frames_of said ++ w) (sym (append-nil (framed m)))
    ∙ sym (frames_append said (m ∷ []))

-- A message went out whole.
pub says : (gives : Function) (may_fail : Job → Failure → Type 0)
    (history : List Passed) (said : List Message) (m : Message)
    → IsRightLink gives may_fail history said → IsFramed m
    → MaySay gives may_fail (received_in history) m
    → IsRightLink gives may_fail (Sent (framed m) ∷ history) (said ++ m ∷ [])
says gives may_fail history said m link is may =
    let down = received_in history in
    let right = right_said gives may_fail down said m link.right is may in
    let up = sent_in history ++ framed m in
    let sent : up ≡ frames_of (said ++ m ∷ []) = sent_whole history said m link.are_sent in
    let now =
    honest_so_far gives may_fail down up [] (said ++ m ∷ []) right (append-nil up ∙ sent) in
    record { right = right; are_sent = sent; honest = (now, link.honest) }

-- A message was cut short, and nothing is said any more.
pub breaks_off : (gives : Function) (may_fail : Job → Failure → Type 0)
    (history : List Passed) (said : List Message) (m : Message) (n : ℕ)
    → IsRightLink gives may_fail history said → IsFramed m
    → MaySay gives may_fail (received_in history) m
    → IsHonestThroughout gives may_fail received_in sent_in (Sent (take n (framed m)) ∷ history)
breaks_off gives may_fail history said m n link is may =
    let right = right_said gives may_fail (received_in history) said m link.right is may in
    let up = sent_in history ++ take n (framed m) in
    let left = drop n (framed m) in
    let whole : up ++ left ≡ frames_of (said ++ m ∷ []) =
    append_assoc (sent_in history) (take n (framed m)) left
    ∙ ap (λ (w : List ℕ). sent_in history ++ w) (take-append-drop n (framed m))
    ∙ sent_whole history said m link.are_sent in
    let now =
    honest_so_far gives may_fail (received_in history) up left (said ++ m ∷ []) right whole in
    (now, link.honest)

-- What a call of send makes of a right link, whatever it answers.
pub said_as : {T : Type 0} → (gives : Function) (may_fail : Job → Failure → Type 0)
    (old new : List Passed) (said : List Message) (m : Message) (bytes : List ℕ)
    (r : Result T Fault) → Transmits r bytes old new → bytes ≡ framed m
    → IsRightLink gives may_fail old said → IsFramed m → MaySay gives may_fail (received_in old) m
    → Says gives may_fail m said new r
said_as gives may_fail old new said m bytes (Ok x) is same link fits may =
    subst (λ (h : List Passed). IsRightLink gives may_fail h (said ++ m ∷ []))
    (sym (is ∙ ap (λ (b : List ℕ). Sent b ∷ old) same))
    (says gives may_fail old said m link fits may)
said_as gives may_fail old new said m bytes (Err fault) (inl is) same link fits may =
    subst (λ (h : List Passed). IsHonestThroughout gives may_fail received_in sent_in h) (sym is)
    link.honest
said_as gives may_fail old new said m bytes (Err fault) (inr (n, is)) same link fits may =
    subst (λ (h : List Passed). IsHonestThroughout gives may_fail received_in sent_in h)
    (sym (is ∙ ap (λ (b : List ℕ). Sent (take n b) ∷ old) same))
    (breaks_off gives may_fail old said m n link fits may)

-- What a call of recv makes of a right link, whatever it answers.
pub heard_as : (gives : Function) (may_fail : Job → Failure → Type 0) (old new : List Passed)
    (said : List Message) (r : Result Got Fault) → Receives r old new
    → IsRightLink gives may_fail old said → IsRightLink gives may_fail new said
heard_as gives may_fail old new said (Ok (Piece bytes)) is link =
    subst (λ (h : List Passed). IsRightLink gives may_fail h said) (sym is)
    (hears gives may_fail old said bytes link)
heard_as gives may_fail old new said (Ok Idle) is link =
    subst (λ (h : List Passed). IsRightLink gives may_fail h said) (sym is) link
heard_as gives may_fail old new said (Ok Closed) is link =
    subst (λ (h : List Passed). IsRightLink gives may_fail h said) (sym is) link
heard_as gives may_fail old new said (Err fault) is link =
    subst (λ (h : List Passed). IsRightLink gives may_fail h said) (sym is) link
