-- What a foreman has to say can be written in one frame.
use Rattle.std.proofs.Common.{◌≡◌, ℕ, ◌+◌, List, [], ◌∷◌, ◌++◌, length, inl, inr, sym, subst, arith}
use Rattle.std.proofs.lemmas.List.{length-append}
use Rattle.byteorder.specs.Endian.{big_bytes}
use Rattle.flow_types.specs.declared.numbers.AttemptNo.{AttemptNo}
use Rattle.flow_types.specs.declared.job.Outcome.{Outcome}
use Rattle.flow_types.specs.declared.job.Outcome.TheVariants as outcomes
use Rattle.flow_types.specs.declared.job.Task.{Task}
use Rattle.flow_types.specs.declared.messages.Key.{Key}
use Rattle.flow_types.specs.declared.messages.Message.{Message}
use Rattle.flow_types.specs.declared.messages.Message.TheVariants as messages
use Rattle.message_forms.specs.Streams.{AreFramed, IsFramed}
use Rattle.byte_fields.specs.Spelling.{counted, rows}
use Rattle.wq_messages.specs.Spelling.{input_bytes, needs_bytes, output_bytes, pair_bytes, spelling}
use Rattle.foreman_core.specs.Foremen.{Foreman, totals, each_amount, total_by, largest_by}
use Rattle.foreman_core.specs.Members.{Stands}
use Rattle.foreman_core.specs.Steps.{renumbered}
use Rattle.peer_run.specs.Says.{CanBeTold}
use Rattle.peer_run.proofs.Sizes.{done_len, len, offer_len, spelled_len}
use Rattle.peer_run.proofs.Steps.{spelled_counts}

pub totals_told : (f : Foreman) → CanBeTold (totals f)
totals_told f =
    let total = each_amount (λ amount. total_by amount f.links) in
    let largest = each_amount (λ amount. largest_by amount f.links) in
    (tt, omega (arith, spelled_len (totals f), offer_len total largest f.cache.cap))

pub cancel_told : (attempt : AttemptNo) → CanBeTold (messages.Cancel attempt)
cancel_told attempt = (tt, omega (arith, spelled_len (messages.Cancel attempt), len 8 attempt.0))

pub unlink_told : (key : Key) → CanBeTold (messages.Unlink key)
unlink_told key = (tt, omega (arith, spelled_len (messages.Unlink key), length-append (big_bytes 8 key.run) (big_bytes 4 key.file.0), len 8 key.run, len 4 key.file.0))

pub bye_told : CanBeTold messages.Bye
bye_told = (tt, omega (arith, spelled_len messages.Bye))

-- a message that came in a frame can be told
pub framed_told : (m : Message) → IsFramed m → CanBeTold m
framed_told m is = (spelled_counts m is.0, is.1)

-- a result of another number
pub done_again : (a b : AttemptNo) (outcome : Outcome) → IsFramed (messages.Done a outcome) → CanBeTold (messages.Done b outcome)
done_again a b outcome is = (spelled_counts (messages.Done a outcome) is.0, omega (arith, is.1, done_len a outcome, done_len b outcome))

pub none_told : (a : AttemptNo) → CanBeTold (messages.Done a outcomes.NotRun)
none_told a = (tt, omega (arith, done_len a outcomes.NotRun, length-append (big_bytes 1 4) [], len 1 4))

-- the fields of a task behind its number
abbrev behind : Task → List ℕ
behind t =
    big_bytes 8 t.run ++ (counted t.command ++ (needs_bytes t.needs
    ++ (rows pair_bytes t.env ++ (rows input_bytes t.inputs ++ rows output_bytes t.outputs))))

task_len : (t : Task) → length (spelling (messages.Task t)) ≡ 9 + length (behind t)
task_len t = omega (arith, spelled_len (messages.Task t), length-append (big_bytes 8 t.attempt.0) (behind t), len 8 t.attempt.0)

again_len : (t : Task) (number : AttemptNo) → length (spelling (messages.Task (renumbered t number))) ≡ 9 + length (behind t)
again_len t number = omega (arith, spelled_len (messages.Task (renumbered t number)), length-append (big_bytes 8 number.0) (behind t), len 8 number.0)

-- a task under another number
pub task_again : (task : Task) (number : AttemptNo) → IsFramed (messages.Task task) → CanBeTold (messages.Task (renumbered task number))
task_again task number is = (spelled_counts (messages.Task task) is.0, omega (arith, is.1, task_len task, again_len task number))

-- one of framed messages is framed
pub one_framed : (ms : List Message) (m : Message) → AreFramed ms → Stands m ms → IsFramed m
one_framed [] m all there = absurd there
one_framed (x ∷ xs) m all (inl is) = subst IsFramed (sym is) all.0
one_framed (x ∷ xs) m all (inr there) = one_framed xs m all.1 there
