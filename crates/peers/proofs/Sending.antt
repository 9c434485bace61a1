-- What calls of send do, told by the message that they say.
use Rattle.std.proofs.Common.{◌≡◌, ◌≤◌, ◌⊎◌, inl, inr, ℕ, ◌+◌, true, false, List, [], ◌∷◌, ◌++◌, length, take, drop, Option, Some, None, is_some, Result, Ok, Err, refl, sym, ap, ◌∙◌, subst, append_assoc, arith}
use Rattle.std.specs.List.{AllByRecursion}
use Rattle.std.proofs.lemmas.List.{length-append, take-append-drop}
use Rattle.byteorder.specs.Endian.{big_bytes}
use Rattle.byteorder.specs.Numbers.{length-bytes_high_first}
use Rattle.flow_types.specs.declared.job.Failure.{Failure}
use Rattle.flow_types.specs.declared.job.Job.{Job}
use Rattle.flow_types.specs.declared.job.Task.{Task}
use Rattle.flow_types.specs.declared.messages.Key.{Key}
use Rattle.flow_types.specs.declared.messages.Message.{Message}
use Rattle.flow_types.specs.declared.messages.Message.TheVariants as messages
use Rattle.flow_types.specs.declared.numbers.AttemptNo.{AttemptNo}
use Rattle.flow_types.specs.Plans.{most_bytes}
use Rattle.flow_types.specs.Serial.{Function}
use Rattle.links.specs.declared.passing.Passed.{Passed}
use Rattle.links.specs.declared.passing.Passed.TheVariants.{Sent}
use Rattle.links.specs.Passings.{Transmits, received_in, sent_in}
use Rattle.link_session.specs.declared.open.Open.{Open}
use Rattle.link_session.specs.Sessions.{State, closed_where, is_open, place}
use Rattle.message_forms.specs.Streams.{IsAmong, IsFramed, framed}
use Rattle.outside.specs.declared.fault.Fault.{Fault}
use Rattle.wq_frames.specs.Streams.{Stream}
use Rattle.wq_messages.specs.Spelling.{IsKey, key_bytes, spelling}
use Rattle.peers.specs.declared.leave.Leave.{Leave}
use Rattle.peers.specs.Sends.{Sends, ServesAfter, put_head}
use Rattle.peers.specs.Serves.{IsBooked, IsServed, Serves}
use Rattle.peers.proofs.Opens.{IsOther, all_get, all_left, all_map, all_of, others, placed}
use Rattle.peers.proofs.Serving.{Spares, among_left, among_last, among_or, breaks_off, says, stands}

-- ---- one call

-- Nothing went out.
pub unsaid : {T : Type 0} (m : Message) (leave : Leave) (old new : List Passed) → new ≡ old → (let r : Result T Leave = Err leave in Sends r m old new)
unsaid m leave old new same = record { further = ([], same); nothing_came = ap received_in same; out = inl (ap sent_in same) }

-- The message went out whole.
pub said_whole : (m : Message) (old new : List Passed) (bytes : List ℕ) → (let r : Result (Unit {0}) Fault = Ok tt in Transmits r bytes old new) → bytes ≡ framed m → IsFramed m
    → (let r : Result (Unit {0}) Leave = Ok tt in Sends r m old new)
said_whole m old new bytes is same fits = record {
  further = (Sent bytes ∷ [], is);
  nothing_came = ap received_in is;
  out = (fits, ap sent_in is ∙ ap (λ (w : List ℕ). sent_in old ++ w) same);
}

-- what went out of these bytes, and what didn't
cut : (fault : Fault) (old new : List Passed) (bytes : List ℕ) → (let r : Result (Unit {0}) Fault = Err fault in Transmits r bytes old new)
    → ((more : List Passed) × (new ≡ more ++ old)) × (received_in new ≡ received_in old) × ((sent_in new ≡ sent_in old) ⊎ ((more : List ℕ) × (sent_in new ++ more ≡ sent_in old ++ bytes)))
cut fault old new bytes (inl is) = (([], is), ap received_in is, inl (ap sent_in is))
cut fault old new bytes (inr (n, is)) = (
  (Sent (take n bytes) ∷ [], is),
  ap received_in is,
  inr (drop n bytes, ap (λ (h : List Passed). sent_in h ++ drop n bytes) is ∙ append_assoc (sent_in old) (take n bytes) (drop n bytes) ∙ ap (λ (w : List ℕ). sent_in old ++ w) (take-append-drop n bytes)),
)

-- The message was cut short.
pub said_part : {U : Type 0} (m : Message) (leave : Leave) (fault : Fault) (old new : List Passed) (bytes : List ℕ) → (let r : Result (Unit {0}) Fault = Err fault in Transmits r bytes old new) → bytes ≡ framed m → IsFramed m
    → (let r : Result U Leave = Err leave in Sends r m old new)
said_part m leave fault old new bytes is same fits =
    let c = cut fault old new bytes is in
    record { further = c.0; nothing_came = c.1; out = by c.2 }
  where
    by : (sent_in new ≡ sent_in old) ⊎ ((more : List ℕ) × (sent_in new ++ more ≡ sent_in old ++ bytes)) → (sent_in new ≡ sent_in old) ⊎ (IsFramed m × ((more : List ℕ) × (sent_in new ++ more ≡ sent_in old ++ framed m)))
    by (inl none) = inl none
    by (inr (more, out)) = inr (fits, (more, out ∙ ap (λ (w : List ℕ). sent_in old ++ w) same))

-- ---- a Put in two calls

len : (n x : ℕ) → length (big_bytes n x) ≡ n
len n x = length-bytes_high_first n x

key_len : (key : Key) → length (key_bytes key) ≡ 12
key_len key = omega (arith, length-append (big_bytes 8 key.run) (big_bytes 4 key.file.0), len 8 key.run, len 4 key.file.0)

put_len : (key : Key) (content : List ℕ) → length (spelling (messages.Put key content)) ≡ 17 + length content
put_len key content =
    let n = length content in
    omega (
      arith,
      length-append (big_bytes 1 2) (key_bytes key ++ (big_bytes 4 n ++ content)),
      length-append (key_bytes key) (big_bytes 4 n ++ content),
      length-append (big_bytes 4 n) content,
      len 1 2,
      key_len key,
      len 4 n,
    )

regroup : (a b c d e : List ℕ) → (a ++ (b ++ (c ++ d))) ++ e ≡ a ++ (b ++ (c ++ (d ++ e)))
regroup a b c d e =
    append_assoc a (b ++ (c ++ d)) e ∙ ap (λ (w : List ℕ). a ++ w) (append_assoc b (c ++ d) e) ∙ ap (λ (w : List ℕ). a ++ (b ++ w)) (append_assoc c d e)

-- The head and the content are the frame of a Put.
pub put_parts : (key : Key) (content : List ℕ) → put_head key (length content) ++ content ≡ framed (messages.Put key content)
put_parts key content =
    let n = length content in
    regroup (big_bytes 4 (17 + n)) (big_bytes 1 2) (key_bytes key) (big_bytes 4 n) content
    ∙ ap (λ (k : ℕ). big_bytes 4 k ++ spelling (messages.Put key content)) (sym (put_len key content))

pub put_framed : (key : Key) (content : List ℕ) → IsKey key → length content ≤ most_bytes → IsFramed (messages.Put key content)
put_framed key content is few = ((is, omega (arith, few)), omega (arith, few, put_len key content))

-- The head was cut short.
pub put_cut : {U : Type 0} (key : Key) (content head : List ℕ) (leave : Leave) (fault : Fault) (old new : List Passed) → (let r : Result (Unit {0}) Fault = Err fault in Transmits r head old new)
    → head ++ content ≡ framed (messages.Put key content) → IsFramed (messages.Put key content) → (let r : Result U Leave = Err leave in Sends r (messages.Put key content) old new)
put_cut key content head leave fault old new is whole fits =
    let c = cut fault old new head is in
    record { further = c.0; nothing_came = c.1; out = by c.2 }
  where
    by : (sent_in new ≡ sent_in old) ⊎ ((more : List ℕ) × (sent_in new ++ more ≡ sent_in old ++ head))
        → (sent_in new ≡ sent_in old) ⊎ (IsFramed (messages.Put key content) × ((more : List ℕ) × (sent_in new ++ more ≡ sent_in old ++ framed (messages.Put key content))))
    by (inl none) = inl none
    by (inr (more, out)) = inr (
      fits,
      (
        more ++ content,
        sym (append_assoc (sent_in new) more content) ∙ ap (λ (w : List ℕ). w ++ content) out ∙ append_assoc (sent_in old) head content ∙ ap (λ (w : List ℕ). sent_in old ++ w) whole,
      ),
    )

-- The head went out.
headed : (old mid : List Passed) (head : List ℕ) → (let r : Result (Unit {0}) Fault = Ok tt in Transmits r head old mid) → sent_in mid ≡ sent_in old ++ head
headed old mid head is = ap sent_in is

-- Both went out.
pub put_whole : (key : Key) (content head : List ℕ) (old mid new : List Passed) → (let r : Result (Unit {0}) Fault = Ok tt in Transmits r head old mid) → (let r : Result (Unit {0}) Fault = Ok tt in Transmits r content mid new)
    → head ++ content ≡ framed (messages.Put key content) → IsFramed (messages.Put key content) → (let r : Result (Unit {0}) Leave = Ok tt in Sends r (messages.Put key content) old new)
put_whole key content head old mid new first second whole fits = record {
  further = (Sent content ∷ Sent head ∷ [], second ∙ ap (λ (h : List Passed). Sent content ∷ h) first);
  nothing_came = ap received_in second ∙ ap received_in first;
  out = (
    fits,
    ap sent_in second ∙ ap (λ (w : List ℕ). w ++ content) (ap sent_in first) ∙ append_assoc (sent_in old) head content ∙ ap (λ (w : List ℕ). sent_in old ++ w) whole,
  );
}

-- The head went out, and the content was cut short.
pub put_part : {U : Type 0} (key : Key) (content head : List ℕ) (leave : Leave) (fault : Fault) (old mid new : List Passed) → (let r : Result (Unit {0}) Fault = Ok tt in Transmits r head old mid)
    → (let r : Result (Unit {0}) Fault = Err fault in Transmits r content mid new)
    → head ++ content ≡ framed (messages.Put key content) → IsFramed (messages.Put key content) → (let r : Result U Leave = Err leave in Sends r (messages.Put key content) old new)
put_part key content head leave fault old mid new first second whole fits =
    let c = cut fault mid new content second in
    let before : sent_in old ++ framed (messages.Put key content) ≡ sent_in mid ++ content =
    ap (λ (w : List ℕ). sent_in old ++ w) (sym whole) ∙ sym (append_assoc (sent_in old) head content) ∙ ap (λ (w : List ℕ). w ++ content) (sym (ap sent_in first)) in
    record {
      further = (c.0.0 ++ Sent head ∷ [], c.0.1 ∙ ap (λ (h : List Passed). c.0.0 ++ h) first ∙ behind c.0.0 (Sent head) old);
      nothing_came = c.1 ∙ ap received_in first;
      out = inr (fits, by before c.2);
    }
  where
    behind : (xs : List Passed) (x : Passed) (ys : List Passed) → xs ++ x ∷ ys ≡ (xs ++ x ∷ []) ++ ys
    behind [] x ys = refl
    behind (y ∷ xs) x ys = ap (λ (h : List Passed). y ∷ h) (behind xs x ys)

    by : sent_in old ++ framed (messages.Put key content) ≡ sent_in mid ++ content → (sent_in new ≡ sent_in mid) ⊎ ((more : List ℕ) × (sent_in new ++ more ≡ sent_in mid ++ content))
        → (more : List ℕ) × (sent_in new ++ more ≡ sent_in old ++ framed (messages.Put key content))
    by before (inl none) = (content, ap (λ (w : List ℕ). w ++ content) none ∙ sym before)
    by before (inr (more, out)) = (more, out ∙ sym before)

-- ---- a served peer

-- the message is no task and no cancel
pub record IsPlain (m : Message) : Type 0 where
  pub no_task : (t : Task) → messages.Task t ≡ m → ⊥
  pub no_cancel : (attempt : AttemptNo) → m ≡ messages.Cancel attempt → ⊥

pub put_plain : (key : Key) (content : List ℕ) → IsPlain (messages.Put key content)
put_plain key content = record { no_task = λ t e. cc; no_cancel = λ attempt e. cc }

pub unlink_plain : (key : Key) → IsPlain (messages.Unlink key)
unlink_plain key = record { no_task = λ t e. cc; no_cancel = λ attempt e. cc }

pub bye_plain : IsPlain messages.Bye
bye_plain = record { no_task = λ t e. cc; no_cancel = λ attempt e. cc }

plain_back : (m : Message) (said : List Message) (waiting : Option Task) (t : Task) → (messages.Task t ≡ m → ⊥) → IsAmong (messages.Task t) said ⊎ (messages.Task t ≡ m) → IsBooked said waiting t
plain_back m said waiting t none (inl is) = inl is
plain_back m said waiting t none (inr same) = absurd (none same)

books_back : (m : Message) (said : List Message) (waiting : Option Task) (t : Task) → (messages.Task t ≡ m → ⊥) → IsBooked (said ++ m ∷ []) waiting t → IsBooked said waiting t
books_back m said waiting t none (inl is) = plain_back m said waiting t none (among_or (messages.Task t) m said is)
books_back m said waiting t none (inr same) = inr same

books_on : (m : Message) (said : List Message) (waiting : Option Task) (t : Task) → IsBooked said waiting t → IsBooked (said ++ m ∷ []) waiting t
books_on m said waiting t (inl is) = inl (among_left (messages.Task t) said (m ∷ []) is)
books_on m said waiting t (inr same) = inr same

module _ (gives : Function) (may_fail : Job → Failure → Type 0) where
  -- The peer is served with a plain message more.
  pub says_plain : {T : Type 0} (r : Result T Leave) (old new : List Passed) (feed : Stream) (session session_now : State) (said heard : List Message) (waiting : Option Task) (m : Message)
      → IsPlain m → Sends r m old new → session_now.stage ≡ session.stage → session_now.attempts ≡ session.attempts
      → Serves gives may_fail old feed session said heard waiting → ServesAfter gives may_fail m said heard waiting r new feed session_now
  says_plain (Ok x) old new feed session session_now said heard waiting m plain sends stage same s =
      says gives may_fail old new feed session session_now said heard waiting waiting m sends.further sends.nothing_came sends.out.0 sends.out.1
      (λ t b. books_back m said waiting t (plain.no_task t) b) (λ t b. books_on m said waiting t b) (λ attempt e. absurd (plain.no_cancel attempt e)) stage
      (subst (AllByRecursion (IsServed gives may_fail old said heard waiting)) (sym same) s.served)
      (all_of (Spares gives may_fail m) (λ o e. plain.no_cancel o.attempt e) session_now.attempts) s
  says_plain (Err leave) old new feed session session_now said heard waiting m plain sends stage same s =
      breaks_off gives may_fail old new said heard m (stands gives may_fail old feed session said heard waiting s) s.sent sends.nothing_came sends.out

  -- ---- a task

  asked_back : (said : List Message) (task t : Task) → IsAmong (messages.Task t) said ⊎ (messages.Task t ≡ messages.Task task) → IsBooked said (Some task) t
  asked_back said task t (inl is) = inl is
  asked_back said task t (inr same) = inr (let one : t ≡ task = cc in ap (λ (x : Task). Some x) (sym one))

  asks_back : (said : List Message) (task t : Task) → IsBooked (said ++ messages.Task task ∷ []) None t → IsBooked said (Some task) t
  asks_back said task t (inl is) = asked_back said task t (among_or (messages.Task t) (messages.Task task) said is)
  asks_back said task t (inr same) = absurd cc

  asks_on : (said : List Message) (task t : Task) → IsBooked said (Some task) t → IsBooked (said ++ messages.Task task ∷ []) None t
  asks_on said task t (inl is) = inl (among_left (messages.Task t) said (messages.Task task ∷ []) is)
  asks_on said task t (inr same) =
      let one : task ≡ t = cc in
      inl (subst (λ (x : Task). IsAmong (messages.Task x) (said ++ messages.Task task ∷ [])) one (among_last (messages.Task task) said))

  -- The task that waits is said.
  pub says_task : {T : Type 0} (r : Result T Leave) (old new : List Passed) (feed : Stream) (session : State) (said heard : List Message) (task : Task)
      → Sends r (messages.Task task) old new → Serves gives may_fail old feed session said heard (Some task)
      → ServesAfter gives may_fail (messages.Task task) said heard None r new feed session
  says_task (Ok x) old new feed session said heard task sends s =
      says gives may_fail old new feed session session said heard (Some task) None (messages.Task task) sends.further sends.nothing_came sends.out.0 sends.out.1
      (λ t b. asks_back said task t b) (λ t b. asks_on said task t b) (λ attempt e. let wrong : ⊥ = cc in absurd wrong) refl s.served
      (all_of (Spares gives may_fail (messages.Task task)) (λ o e. let wrong : ⊥ = cc in wrong) session.attempts) s
  says_task (Err leave) old new feed session said heard task sends s =
      breaks_off gives may_fail old new said heard (messages.Task task) (stands gives may_fail old feed session said heard (Some task) s) s.sent sends.nothing_came sends.out

  again_back : (said : List Message) (task t : Task) → IsAmong (messages.Task task) said → IsAmong (messages.Task t) said ⊎ (messages.Task t ≡ messages.Task task) → IsAmong (messages.Task t) said
  again_back said task t ours (inl is) = is
  again_back said task t ours (inr same) = subst (λ (m : Message). IsAmong m said) (sym same) ours

  repeats_back : (said : List Message) (task t : Task) → IsAmong (messages.Task task) said → IsBooked (said ++ messages.Task task ∷ []) None t → IsBooked said None t
  repeats_back said task t ours (inl is) = inl (again_back said task t ours (among_or (messages.Task t) (messages.Task task) said is))
  repeats_back said task t ours (inr same) = inr same

  -- A task that was said is said once more.
  pub says_again : {T : Type 0} (r : Result T Leave) (old new : List Passed) (feed : Stream) (session : State) (said heard : List Message) (task : Task)
      → Sends r (messages.Task task) old new → IsAmong (messages.Task task) said → Serves gives may_fail old feed session said heard None
      → ServesAfter gives may_fail (messages.Task task) said heard None r new feed session
  says_again (Ok x) old new feed session said heard task sends ours s =
      says gives may_fail old new feed session session said heard None None (messages.Task task) sends.further sends.nothing_came sends.out.0 sends.out.1
      (λ t b. repeats_back said task t ours b) (λ t b. books_on (messages.Task task) said None t b) (λ attempt e. let wrong : ⊥ = cc in absurd wrong) refl s.served
      (all_of (Spares gives may_fail (messages.Task task)) (λ o e. let wrong : ⊥ = cc in wrong) session.attempts) s
  says_again (Err leave) old new feed session said heard task sends ours s =
      breaks_off gives may_fail old new said heard (messages.Task task) (stands gives may_fail old feed session said heard None s) s.sent sends.nothing_came sends.out

  -- ---- a cancel

  closed_served : (P : Open → Type 0) (s : State) (p : Option ℕ) → AllByRecursion P s.attempts → AllByRecursion P (closed_where s p).attempts
  closed_served P s None all = all
  closed_served P s (Some at) all = all_left P s.attempts at all

  closed_stage : (s : State) (p : Option ℕ) → (closed_where s p).stage ≡ s.stage
  closed_stage s None = refl
  closed_stage s (Some at) = refl

  spared : (attempt : AttemptNo) (o : Open) → IsOther attempt o → Spares gives may_fail (messages.Cancel attempt) o
  spared attempt o other = λ e. other (let same : attempt ≡ o.attempt = cc in sym same)

  -- An open attempt's cancel is said.
  pub says_cancel : {T : Type 0} (r : Result T Leave) (old new : List Passed) (feed : Stream) (session session_now : State) (said heard : List Message) (waiting : Option Task) (attempt : AttemptNo)
      → Sends r (messages.Cancel attempt) old new → session_now ≡ closed_where session (place attempt session.attempts) → is_open attempt session.attempts ≡ true → is_open attempt session_now.attempts ≡ false
      → Serves gives may_fail old feed session said heard waiting → ServesAfter gives may_fail (messages.Cancel attempt) said heard waiting r new feed session_now
  says_cancel (Ok x) old new feed session session_now said heard waiting attempt sends closes was closed s =
      let m = messages.Cancel attempt in
      let p = place attempt session.attempts in
      says gives may_fail old new feed session session_now said heard waiting waiting m sends.further sends.nothing_came sends.out.0 sends.out.1
      (λ t b. books_back m said waiting t (λ e. let wrong : ⊥ = cc in wrong) b) (λ t b. books_on m said waiting t b)
      (λ other e.
      let same : attempt ≡ other = cc in
      let its = booked_at p refl in
      (its.0, its.1, its.2 ∙ same))
      (ap (λ (x : State). x.stage) closes ∙ closed_stage session p)
      (subst (λ (x : State). AllByRecursion (IsServed gives may_fail old said heard waiting) x.attempts) (sym closes) (closed_served (IsServed gives may_fail old said heard waiting) session p s.served))
      (all_map (IsOther attempt) (Spares gives may_fail m) (λ o other. spared attempt o other) session_now.attempts (others attempt session_now.attempts closed)) s
    where
      booked_at : (p : Option ℕ) → place attempt session.attempts ≡ p → (t : Task) × IsBooked said waiting t × (t.attempt ≡ attempt)
      booked_at None is = absurd (let wrong : ⊥ = cc (sym (ap (λ (q : Option ℕ). is_some q) is) ∙ was) in wrong)
      booked_at (Some at) is =
          let here = placed attempt session.attempts at is in
          let o = all_get (IsServed gives may_fail old said heard waiting) session.attempts at here.it here.there_it_is s.served in
          (o.task, o.booked, sym o.attempt ∙ here.of_it)
  says_cancel (Err leave) old new feed session session_now said heard waiting attempt sends closes was closed s =
      breaks_off gives may_fail old new said heard (messages.Cancel attempt) (stands gives may_fail old feed session said heard waiting s) s.sent sends.nothing_came sends.out
