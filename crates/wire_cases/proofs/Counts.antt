-- What is read can be written again.
use Rattle.std.proofs.Common.{◌≡◌, ◌≤◌, ℕ, Bool, true, false, List, length, refl, sym, ap, ◌∙◌, arith}
use Rattle.std.specs.Prelude.{◌&&◌, nat_le, nat_lt, IsTrue}
use Rattle.std.proofs.lemmas.Bool.{leb-true}
use Rattle.flow_types.specs.declared.job.Outcome.{Outcome}
use Rattle.flow_types.specs.declared.job.Outcome.TheVariants as outcomes
use Rattle.flow_types.specs.declared.messages.Message.{Message}
use Rattle.flow_types.specs.declared.messages.Message.TheVariants as messages
use Rattle.wq_messages.specs.Spelling.{most_inputs, most_outputs, is_ascending_from, are_ascending, HasFewContents, HasCounts, IsOutcome, HasSpelling}

both : (a b : Bool) → a ≡ true → b ≡ true → a && b ≡ true
both true b e h = h
both false b e h = absurd cc

few : (outcome : Outcome) → IsOutcome outcome → HasFewContents outcome
few (outcomes.Success contents) h = leb-true (length contents) most_outputs h.0.1
few (outcomes.Failed why) h = tt
few outcomes.NotRun h = tt

pub has_counts : (m : Message) → HasSpelling m → HasCounts m
has_counts (messages.Hello total largest cache) h = tt
has_counts (messages.Put key content) h = tt
has_counts (messages.Task task) h =
    (leb-true (length task.inputs) most_inputs h.1.1.1.1.1.0.0.1, leb-true (length task.outputs) most_outputs h.1.1.1.1.1.1.0.1)
has_counts (messages.Done attempt outcome) h = few outcome h.1
has_counts (messages.Missing attempt files) h = both (nat_lt 0 (length files)) (is_ascending_from 0 files) h.1.0.1 h.1.1.1
has_counts (messages.Cancel attempt) h = tt
has_counts (messages.Unlink key) h = tt
has_counts (messages.Totals total largest cache) h = tt
has_counts messages.Bye h = tt
