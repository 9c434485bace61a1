-- What a link that serves gives is honest, in order, and all that it owes.
use Rattle.std.proofs.Common.{◌≡◌, ◌≤◌, inl, inr, ℕ, Bool, true, false, List, [], ◌∷◌, ◌++◌, Option, Some, None, map, refl, sym, ap, ◌∙◌, subst, arith}
use Rattle.flow_types.specs.declared.job.Failure.{Failure}
use Rattle.flow_types.specs.declared.job.Job.{Job}
use Rattle.flow_types.specs.declared.job.Outcome.{Outcome}
use Rattle.flow_types.specs.declared.job.Outcome.TheVariants.{Success}
use Rattle.flow_types.specs.declared.job.Task.{Task}
use Rattle.flow_types.specs.declared.messages.Key.{Key}
use Rattle.flow_types.specs.declared.messages.Message.{Message}
use Rattle.flow_types.specs.declared.messages.Message.TheVariants as messages
use Rattle.flow_types.specs.declared.numbers.Amounts.{Amounts}
use Rattle.flow_types.specs.declared.numbers.AttemptNo.{AttemptNo}
use Rattle.flow_types.specs.Plans.{most_input_bytes}
use Rattle.flow_types.specs.Serial.{Contents, Function, given_by}
use Rattle.links.specs.Honesty.{Answers, AreGood, IsAtLeast, IsGood, IsHonestSoFar, IsOfferOf, IsOrderly, OffersAtLeast, OwesNothing, key_of, task_job}
use Rattle.outside.specs.Jobs.{IsHonest}
use Rattle.message_forms.specs.Streams.{AreFramed, Carries, IsAmong, IsFramed, IsStream, frames_of}
use Rattle.message_forms.proofs.Parses.{carries_more, frames_append, rows_carry_their_own}
use Rattle.mem_links.specs.Servers.{Comes, answers, blanks, contains_inputs, contains_key, done_of, hello, keys_put}
use Rattle.mem_links.specs.Serving.{AreBlank}
use Rattle.mem_links.proofs.Answering.{IsAnswer, answers_are, answers_framed, blanks_fit, blanks_named, blanks_small, task_answered}
use Rattle.mem_links.proofs.Keys.{have_inputs, inputs_have, put_found, put_has}
use Rattle.mem_links.proofs.Rows.{among_left, first_of, framed_left}

-- Of these bytes up, and of what is left to be given, all are the hello and then the answers to the
-- messages among the bytes down.
pub record WasServed (total : Amounts) (cache : ℕ) (down up : List ℕ) (left : List Message)
    : Type 0 where
  pub heard : List Message
  pub rest : List ℕ
  pub came : IsStream down heard rest
  pub gave : List Message
  pub gave_all : up ≡ frames_of gave
  pub answered : gave ++ left ≡ hello total cache ∷ answers [] heard

-- what came whole among some bytes is carried by them
pub came_carried : (down rest : List ℕ) (heard : List Message) (m : Message)
    → IsStream down heard rest → IsAmong m heard → Carries down m
came_carried down rest heard m came there =
    subst (λ (w : List ℕ). Carries w m) (sym came.are)
    (carries_more (frames_of heard) rest m ((rows_carry_their_own heard m came.framed_all).1 there))

-- ---- honest

-- the content under which a key was put, if it was
abbrev picked : (k : Key) (ms : List Message) (b : Bool) → contains_key k (keys_put ms) ≡ b
    → Option (List ℕ)
picked k ms true is = Some (put_found k ms is).0
picked k ms false is = None

abbrev contents_put : ℕ → List Message → Contents
contents_put run ms f =
    picked (key_of run f) ms (contains_key (key_of run f) (keys_put ms)) refl

picked_is : (k : Key) (ms : List Message) (b : Bool) (is : contains_key k (keys_put ms) ≡ b)
    → b ≡ true
    → (content : List ℕ) × (picked k ms b is ≡ Some content) × IsAmong (messages.Put k content) ms
picked_is k ms true is has = ((put_found k ms is).0, refl, (put_found k ms is).1)
picked_is k ms false is has = absurd (let none : ⊥ = cc in none)

-- the result of a task answers it
done_answers : (gives : Function) (may_fail : Job → Failure → Type 0) (down rest : List ℕ)
    (heard : List Message) (attempt : AttemptNo) (outcome : Outcome)
    → AreBlank gives → IsStream down heard rest
    → IsAnswer (keys_put heard) heard (messages.Done attempt outcome)
    → Answers gives may_fail down attempt outcome
done_answers gives may_fail down rest heard attempt outcome blank came a =
    let t = a.task in
    let found = contents_put t.run heard in
    let job = task_job t found in
    let ended : outcome ≡ Success (blanks t.outputs) = let same = a.is in cc in
    let gave : given_by gives job ≡ blanks t.outputs =
    blank job.command job.env job.inputs (map (λ w. w.remote) t.outputs) ∙ blanks_named t.outputs in
    record {
      task = t;
      of_attempt = let same = a.is in cc;
      asked = came_carried down rest heard (messages.Task t) came a.there;
      contents = found;
      were_put = λ f is.
          let k = key_of t.run f in
          let has = inputs_have (keys_put heard) t.run t.inputs a.has f is in
          let put = picked_is k heard (contains_key k (keys_put heard)) refl has in
          (put.0, put.1, came_carried down rest heard (messages.Put k put.0) came put.2);
      ends_so = subst
          (λ (o : Outcome). IsHonest (given_by gives job) (may_fail job) o)
          (sym ended) (sym gave);
    }

-- all that is given has frames
pub all_framed : (total : Amounts) (cache : ℕ) (heard gave left : List Message)
    → IsFramed (hello total cache) → AreFramed heard
    → gave ++ left ≡ hello total cache ∷ answers [] heard → AreFramed (gave ++ left)
all_framed total cache heard gave left first all same =
    subst AreFramed (sym same) (first, answers_framed [] heard all)

-- what was given is the hello, or an answer
given_is : (total : Amounts) (cache : ℕ) (heard gave left : List Message) (up : List ℕ) (m : Message)
    → IsFramed (hello total cache) → AreFramed heard
    → gave ++ left ≡ hello total cache ∷ answers [] heard → up ≡ frames_of gave → Carries up m
    → IsAmong m (hello total cache ∷ answers [] heard)
given_is total cache heard gave left up m first all same gave_all carried =
    let framed_all = framed_left gave left (all_framed total cache heard gave left first all same) in
    let there : IsAmong m gave =
    (rows_carry_their_own gave m framed_all).0 (subst (λ (w : List ℕ). Carries w m) gave_all carried)
    in
    subst (λ (ms : List Message). IsAmong m ms) same (among_left m gave left there)

pub served_honest : (gives : Function) (may_fail : Job → Failure → Type 0)
    (total : Amounts) (cache : ℕ) (down up : List ℕ) (left : List Message)
    → AreBlank gives → IsFramed (hello total cache) → WasServed total cache down up left
    → IsHonestSoFar gives may_fail down up
served_honest gives may_fail total cache down up left blank first was attempt outcome carried ran =
    by (given_is total cache was.heard was.gave left up (messages.Done attempt outcome) first
    was.came.framed_all was.answered was.gave_all carried)
  where
    by : IsAmong (messages.Done attempt outcome) (hello total cache ∷ answers [] was.heard)
        → Answers gives may_fail down attempt outcome
    by (inl wrong) = absurd (let none : ⊥ = cc in none)
    by (inr there) =
        done_answers gives may_fail down was.rest was.heard attempt outcome blank was.came
        (answers_are [] was.heard (messages.Done attempt outcome) there)

-- ---- in order

-- the result of a task that came is within its bounds
done_good : (down rest : List ℕ) (heard : List Message) (m : Message) → IsStream down heard rest
    → IsAnswer (keys_put heard) heard m → IsGood down m
done_good down rest heard m came a =
    let t = a.task in
    subst (λ (x : Message). IsGood down x) (sym a.is) (
      t,
      refl,
      came_carried down rest heard (messages.Task t) came a.there,
      blanks_fit t.outputs,
      omega (arith, blanks_small t.outputs),
    )

all_good : (down : List ℕ) (ms : List Message) → ((m : Message) → IsAmong m ms → IsGood down m)
    → AreGood down ms
all_good down [] each = tt
all_good down (m ∷ ms) each =
    (each m (inl refl), all_good down ms (λ x there. each x (inr there)))

pub orderly : (total : Amounts) (cache : ℕ) (down up : List ℕ) (left : List Message)
    → IsFramed (hello total cache) → WasServed total cache down up left → IsOrderly down up
orderly total cache down up left first was =
    let good : AreGood down (answers [] was.heard) =
    all_good down (answers [] was.heard)
    (λ m there. done_good down was.rest was.heard m was.came (answers_are [] was.heard m there)) in
    record {
      messages_up = hello total cache ∷ answers [] was.heard;
      framed_all = (first, answers_framed [] was.heard was.came.framed_all);
      hello_first = good;
      begin = (
        frames_of left,
        ap frames_of (sym was.answered) ∙ frames_append was.gave left
            ∙ ap (λ (w : List ℕ). w ++ frames_of left) (sym was.gave_all),
      );
    }

-- ---- nothing owed

pub owes_nothing : (total : Amounts) (cache : ℕ) (down up rest : List ℕ) (heard : List Message)
    → IsFramed (hello total cache) → Comes down heard rest
    → up ≡ frames_of (hello total cache ∷ answers [] heard) → OwesNothing down up
owes_nothing total cache down up rest heard first came all =
    let ms = hello total cache ∷ answers [] heard in
    let framed_all : AreFramed ms = (first, answers_framed [] heard came.parts.framed_all) in
    let carried : (m : Message) → IsAmong m ms → Carries up m =
    λ m there. subst (λ (w : List ℕ). Carries w m) (sym all)
    ((rows_carry_their_own ms m framed_all).1 there) in
    record {
      hello = (total, total, cache, carried (hello total cache) (inl refl));
      done = λ t owed.
          let asked = owed.asked in
          let front = owed.before ++ messages.Task t ∷ [] in
          let more = first_of front heard asked.0 rest asked.1.framed_all came.parts.framed_all
          (sym asked.1.are ∙ came.parts.are) came.no_more in
          let has : contains_inputs (keys_put owed.before) t.run t.inputs ≡ true =
          have_inputs (keys_put owed.before) t.run t.inputs
          (λ f is. let put = owed.were_put f is in put_has (key_of t.run f) put.0 owed.before put.1)
          in
          let there : IsAmong (done_of t) (answers [] heard) =
          subst (λ (xs : List Message). IsAmong (done_of t) (answers [] xs)) (sym more.1)
          (task_answered [] owed.before t more.0 has) in
          (Success (blanks t.outputs), carried (done_of t) (inr there));
    }

-- ---- offers

pub offers_so : (least total : Amounts) (cache : ℕ) (down up : List ℕ) (left : List Message)
    → IsFramed (hello total cache) → WasServed total cache down up left → IsAtLeast least total
    → most_input_bytes ≤ cache
    → OffersAtLeast least up
offers_so least total cache down up left first was enough room = record {
  hello = λ a b c carried. by_hello a b c (given_is total cache was.heard was.gave left up
      (messages.Hello a b c) first was.came.framed_all was.answered was.gave_all carried);
  totals = λ a b c carried. by_totals a b c (given_is total cache was.heard was.gave left up
      (messages.Totals a b c) first was.came.framed_all was.answered was.gave_all carried);
}
  where
    no_answer : (m : Message) → ((t : Task) → m ≡ done_of t → ⊥)
        → IsAmong m (answers [] was.heard) → ⊥
    no_answer m none there = let a = answers_are [] was.heard m there in none a.task a.is

    by_hello : (a b : Amounts) (c : ℕ)
        → IsAmong (messages.Hello a b c) (hello total cache ∷ answers [] was.heard)
        → IsOfferOf least a b c
    by_hello a b c (inl same) =
        let one : a ≡ total = cc in
        let two : b ≡ total = cc in
        let three : c ≡ cache = cc in
        record {
          total_is = subst (λ (x : Amounts). IsAtLeast least x) (sym one) enough;
          largest_is = subst (λ (x : Amounts). IsAtLeast least x) (sym two) enough;
          cache_is = omega (arith, room, three);
        }
    by_hello a b c (inr there) =
        absurd (no_answer (messages.Hello a b c) (λ t same. let none : ⊥ = cc in none) there)

    by_totals : (a b : Amounts) (c : ℕ)
        → IsAmong (messages.Totals a b c) (hello total cache ∷ answers [] was.heard)
        → IsOfferOf least a b c
    by_totals a b c (inl same) = absurd (let none : ⊥ = cc in none)
    by_totals a b c (inr there) =
        absurd (no_answer (messages.Totals a b c) (λ t same. let none : ⊥ = cc in none) there)
