-- The printed log: one line for each record of the part.
use Rattle.std.specs.Prelude.{ℕ, List, [], ◌∷◌, ◌++◌, length, codes, count_by}
use Rattle.std.specs.Fmt.{decimal}
use Rattle.flow_types.specs.declared.plan.Plan.{Plan}
use Rattle.flow_types.specs.declared.records.EndKind.{EndKind}
use Rattle.flow_types.specs.declared.records.EndKind.TheVariants as kinds
use Rattle.flow_types.specs.declared.records.Record.{Record}
use Rattle.flow_types.specs.declared.records.Record.TheVariants as records
use Rattle.flow_types.specs.Plans.{rule_numbers}
use Rattle.run_history.specs.History.{part}
use Rattle.run_history.specs.Storage.{has_failed, is_complete, is_running, is_waiting}
use Rattle.file_store.specs.Outputs.{file_name}
use Rattle.std.specs.Prelude.{if◌then◌else◌}

-- a number and a blank
abbrev pub field : ℕ → List ℕ
field n = decimal n ++ codes " "

-- how many rules wait, run, are complete, have failed and were given up, which none ever is, and how many there are
abbrev pub counts_of : Plan → List Record → List ℕ
counts_of P H = field (count_by (is_waiting H) (rule_numbers P)) ++ field (count_by (is_running H) (rule_numbers P)) ++ field (count_by (is_complete H) (rule_numbers P))
    ++ field (count_by (has_failed H) (rule_numbers P)) ++ field 0 ++ decimal (length P.rules)

-- the line of a rule that entered a state with an attempt
abbrev pub state_line : Plan → List Record → ℕ → ℕ → ℕ → ℕ → List ℕ
state_line P H moment rule state attempt = field moment ++ field rule ++ field state ++ field attempt ++ counts_of P H

-- what is said of the end of a run
abbrev pub end_word : EndKind → List ℕ
end_word kinds.Complete = codes "complete"
end_word kinds.CommandFailed = codes "failed"
end_word kinds.InputsTooLarge = codes "inputs too large"
end_word kinds.NoRoom = codes "no room"
end_word kinds.Waited = codes "waited"
end_word kinds.Cleaned = []

-- the line of a record, by the records of its part up to it
abbrev pub record_line : Plan → List Record → Record → List ℕ
record_line P H (records.Opened moment run retries limit plan sources) = codes "# opened run " ++ decimal run
record_line P H (records.Resumed moment run retries limit) = codes "# resumed run " ++ decimal run
record_line P H (records.Started moment rule attempt link) = state_line P H moment rule.0 1 attempt.0
record_line P H (records.Done moment rule attempt outs) = state_line P H moment rule.0 2 attempt.0
record_line P H (records.Failed moment rule attempt why) = state_line P H moment rule.0 (if has_failed H rule.0 then 3 else 0) attempt.0
record_line P H (records.Lost moment rule attempt) = state_line P H moment rule.0 0 attempt.0
record_line P H (records.Dropped moment f) = codes "# dropped " ++ file_name P f.0
record_line P H (records.Ended moment kind) = codes "# ended " ++ end_word kind

-- the lines of records that stand behind others of their part
abbrev pub lines_behind : Plan → List Record → List Record → List ℕ
lines_behind P before [] = []
lines_behind P before (x ∷ xs) = record_line P (before ++ (x ∷ [])) x ++ codes "\n" ++ lines_behind P (before ++ (x ∷ [])) xs

-- The printed log: the lines of the records of the part.
abbrev pub log_lines : Plan → List Record → List ℕ
log_lines P H = lines_behind P [] (part H)
