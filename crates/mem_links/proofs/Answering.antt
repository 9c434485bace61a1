-- What is answered to messages.
use Rattle.std.proofs.Common.{◌≡◌, ◌≤◌, ◌+◌, ◌*◌, ◌⊎◌, inl, inr, ℕ, suc, Bool, true, false, List, [], ◌∷◌, ◌++◌, length, map, refl, sym, ap, ◌∙◌, subst, append_assoc, append-nil, arith}
use Rattle.std.specs.Prelude.{replicate, sum_by, flat_map, if◌then◌else◌, nat_le}
use Rattle.std.specs.List.{AllByRecursion}
use Rattle.std.proofs.lemmas.Bool.{leb-true}
use Rattle.std.proofs.lemmas.List.{length-append}
use Rattle.std.proofs.lemmas.List.Sums.{sum_by-cons}
use Rattle.byteorder.specs.Endian.{big_bytes}
use Rattle.byteorder.specs.Numbers.{length-bytes_high_first}
use Rattle.byte_fields.specs.Spelling.{counted}
use Rattle.flow_types.specs.declared.job.Task.{Task}
use Rattle.flow_types.specs.declared.job.Want.{Want}
use Rattle.flow_types.specs.declared.job.Outcome.TheVariants.{Success}
use Rattle.flow_types.specs.declared.messages.Key.{Key}
use Rattle.flow_types.specs.declared.messages.Message.{Message}
use Rattle.flow_types.specs.declared.messages.Message.TheVariants as messages
use Rattle.links.proofs.Honesties.{stands_either}
use Rattle.message_forms.specs.Streams.{AreFramed, IsAmong, IsFramed}
use Rattle.message_forms.proofs.Parses.{framed_append}
use Rattle.outside.specs.Jobs.{AllFit}
use Rattle.wq_messages.specs.Spelling.{AreRows, IsContent, IsOutput, IsTask, most_body, most_outputs, outcome_bytes, spelling}
use Rattle.mem_links.specs.Servers.{answer, answers, blanks, contains_inputs, done_of, key_put, keys_put}
use Rattle.mem_links.proofs.Keys.{inputs_more}
use Rattle.mem_links.proofs.Rows.{among_left, among_right}

-- ---- empty contents

pub blanks_len : (wants : List Want) → length (blanks wants) ≡ length wants
blanks_len [] = refl
blanks_len (w ∷ ws) = ap (λ (n : ℕ). suc n) (blanks_len ws)

pub blanks_fit : (wants : List Want) → AllFit wants (blanks wants)
blanks_fit [] = tt
blanks_fit (w ∷ ws) = (omega arith, blanks_fit ws)

pub blanks_small : (wants : List Want) → sum_by (λ c. length c) (blanks wants) ≡ 0
blanks_small [] = refl
blanks_small (w ∷ ws) =
    omega (arith, sum_by-cons (λ (c : List ℕ). length c) [] (blanks ws), blanks_small ws)

-- the empty contents by the outputs' names
pub blanks_named : (wants : List Want)
    → map (λ name. let none : List ℕ = [] in none) (map (λ w. w.remote) wants) ≡ blanks wants
blanks_named [] = refl
blanks_named (w ∷ ws) = ap (λ (cs : List (List ℕ)). [] ∷ cs) (blanks_named ws)

-- so many empty contents
pub blanks_are : (wants : List Want)
    → replicate (length wants) (let none : List ℕ = [] in none) ≡ blanks wants
blanks_are [] = refl
blanks_are (w ∷ ws) = ap (λ (cs : List (List ℕ)). [] ∷ cs) (blanks_are ws)

blanks_written : (wants : List Want) → AllByRecursion IsContent (blanks wants)
blanks_written [] = tt
blanks_written (w ∷ ws) = (omega arith, blanks_written ws)

-- ---- the frame of a result

len : (n x : ℕ) → length (big_bytes n x) ≡ n
len n x = length-bytes_high_first n x

counted_len : (wants : List Want)
    → length (flat_map counted (blanks wants)) ≡ 4 * length wants
counted_len [] = refl
counted_len (w ∷ ws) =
    omega (
      arith,
      length-append (counted []) (flat_map counted (blanks ws)),
      length-append (big_bytes 4 0) [],
      len 4 0,
      counted_len ws,
    )

done_len : (t : Task) → length (spelling (done_of t)) ≡ 14 + 4 * length t.outputs
done_len t =
    let contents = blanks t.outputs in
    let rows = flat_map counted contents in
    let outcome = outcome_bytes (Success contents) in
    omega (
      arith,
      length-append (big_bytes 1 4) (big_bytes 8 t.attempt.0 ++ outcome),
      length-append (big_bytes 8 t.attempt.0) outcome,
      length-append (big_bytes 1 0) (big_bytes 4 (length contents) ++ rows),
      length-append (big_bytes 4 (length contents)) rows,
      len 1 4,
      len 8 t.attempt.0,
      len 1 0,
      len 4 (length contents),
      counted_len t.outputs,
    )

few_outputs : (wants : List Want) → AreRows most_outputs IsOutput wants → length wants ≤ most_outputs
few_outputs wants is = leb-true (length wants) most_outputs is.0.1

pub done_short : (t : Task) → IsTask t → length (spelling (done_of t)) ≤ most_body
done_short t is =
    omega (arith, done_len t, few_outputs t.outputs is.1.1.1.1.1.1)

pub done_framed : (t : Task) → IsTask t → IsFramed (done_of t)
done_framed t is =
    let rows = is.1.1.1.1.1.1 in
    let few = few_outputs t.outputs rows in
    let same = blanks_len t.outputs in (
      (
        is.0,
        (
          (omega (arith, same, few), subst (λ (n : ℕ). nat_le n most_outputs ≡ true) (sym same) rows.0.1),
          blanks_written t.outputs,
        ),
      ),
      done_short t is,
    )

-- ---- answers have frames

answer_framed : (keys : List Key) (m : Message) → IsFramed m → AreFramed (answer keys m)
answer_framed keys (messages.Task t) is = by (contains_inputs keys t.run t.inputs)
  where
    by : (b : Bool) → AreFramed (if b then done_of t ∷ [] else [])
    by true = (done_framed t is.0, tt)
    by false = tt
answer_framed keys (messages.Hello total largest cache) is = tt
answer_framed keys (messages.Put key content) is = tt
answer_framed keys (messages.Done attempt outcome) is = tt
answer_framed keys (messages.Missing attempt files) is = tt
answer_framed keys (messages.Cancel attempt) is = tt
answer_framed keys (messages.Unlink key) is = tt
answer_framed keys (messages.Totals total largest cache) is = tt
answer_framed keys messages.Bye is = tt

pub answers_framed : (keys : List Key) (ms : List Message) → AreFramed ms
    → AreFramed (answers keys ms)
answers_framed keys [] all = tt
answers_framed keys (m ∷ ms) all =
    framed_append (answer keys m) (answers (keys ++ key_put m) ms) (answer_framed keys m all.0)
    (answers_framed (keys ++ key_put m) ms all.1)

-- ---- answers one after the other

pub answers_append : (keys : List Key) (xs ys : List Message)
    → answers keys (xs ++ ys) ≡ answers keys xs ++ answers (keys ++ keys_put xs) ys
answers_append keys [] ys = ap (λ (ks : List Key). answers ks ys) (sym (append-nil keys))
answers_append keys (x ∷ xs) ys =
    let first = answer keys x in
    let more = keys ++ key_put x in
    ap (λ (ms : List Message). first ++ ms) (answers_append more xs ys)
    ∙ ap (λ (ks : List Key). first ++ (answers more xs ++ answers ks ys))
    (append_assoc keys (key_put x) (keys_put xs))
    ∙ sym (append_assoc first (answers more xs) (answers (keys ++ (key_put x ++ keys_put xs)) ys))

-- ---- what an answer is

-- The message is the result of a task among these that has its inputs among the keys.
pub record IsAnswer (keys : List Key) (ms : List Message) (m : Message) : Type 0 where
  pub task : Task
  pub is : m ≡ done_of task
  pub there : IsAmong (messages.Task task) ms
  pub has : contains_inputs keys task.run task.inputs ≡ true

answer_is : (keys : List Key) (x m : Message) → IsAmong m (answer keys x)
    → IsAnswer keys (x ∷ []) m
answer_is keys (messages.Task t) m there = by (contains_inputs keys t.run t.inputs) refl there
  where
    by : (b : Bool) → contains_inputs keys t.run t.inputs ≡ b
        → IsAmong m (if b then done_of t ∷ [] else []) → IsAnswer keys (messages.Task t ∷ []) m
    by true has (inl same) = record { task = t; is = same; there = inl refl; has = has }
    by true has (inr none) = absurd none
    by false has none = absurd none
answer_is keys (messages.Hello total largest cache) m there = absurd there
answer_is keys (messages.Put key content) m there = absurd there
answer_is keys (messages.Done attempt outcome) m there = absurd there
answer_is keys (messages.Missing attempt files) m there = absurd there
answer_is keys (messages.Cancel attempt) m there = absurd there
answer_is keys (messages.Unlink key) m there = absurd there
answer_is keys (messages.Totals total largest cache) m there = absurd there
answer_is keys messages.Bye m there = absurd there

pub answers_are : (keys : List Key) (ms : List Message) (m : Message)
    → IsAmong m (answers keys ms) → IsAnswer (keys ++ keys_put ms) ms m
answers_are keys [] m there = absurd there
answers_are keys (x ∷ xs) m there =
    by (λ later. answers_are (keys ++ key_put x) xs m later)
    (stands_either m (answer keys x) (answers (keys ++ key_put x) xs) there)
  where
    by : (IsAmong m (answers (keys ++ key_put x) xs)
        → IsAnswer ((keys ++ key_put x) ++ keys_put xs) xs m)
        → IsAmong m (answer keys x) ⊎ IsAmong m (answers (keys ++ key_put x) xs)
        → IsAnswer (keys ++ keys_put (x ∷ xs)) (x ∷ xs) m
    by rest (inl here) = let a = answer_is keys x m here in record {
      task = a.task;
      is = a.is;
      there = among_left (messages.Task a.task) (x ∷ []) xs a.there;
      has = inputs_more keys (keys_put (x ∷ xs)) a.task.run a.task.inputs a.has;
    }
    by rest (inr later) = let a = rest later in record {
      task = a.task;
      is = a.is;
      there = inr a.there;
      has = subst (λ (ks : List Key). contains_inputs ks a.task.run a.task.inputs ≡ true)
          (append_assoc keys (key_put x) (keys_put xs)) a.has;
    }

-- a task that has its inputs when it comes is answered
answered_now : (keys : List Key) (t : Task) → contains_inputs keys t.run t.inputs ≡ true
    → IsAmong (done_of t) (answers keys (messages.Task t ∷ []))
answered_now keys t has = by (contains_inputs keys t.run t.inputs) has
  where
    by : (b : Bool) → b ≡ true → IsAmong (done_of t) ((if b then done_of t ∷ [] else []) ++ [])
    by true is = inl refl
    by false is = absurd (let none : ⊥ = cc in none)

pub task_answered : (keys : List Key) (before : List Message) (t : Task) (more : List Message)
    → contains_inputs (keys ++ keys_put before) t.run t.inputs ≡ true
    → IsAmong (done_of t) (answers keys ((before ++ messages.Task t ∷ []) ++ more))
task_answered keys before t more has =
    let task = messages.Task t ∷ [] in
    let here = among_right (done_of t) (answers keys before) (answers (keys ++ keys_put before) task)
    (answered_now (keys ++ keys_put before) t has) in
    let first : IsAmong (done_of t) (answers keys (before ++ task)) =
    subst (λ (ms : List Message). IsAmong (done_of t) ms) (sym (answers_append keys before task))
    here in
    subst (λ (ms : List Message). IsAmong (done_of t) ms)
    (sym (answers_append keys (before ++ task) more))
    (among_left (done_of t) (answers keys (before ++ task))
    (answers (keys ++ keys_put (before ++ task)) more) first)
