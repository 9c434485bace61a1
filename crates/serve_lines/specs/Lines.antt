-- The lines that answer requests.
use Rattle.std.specs.Prelude.{ℕ, ℤ, Bool, List, codes}
use Rattle.serde_json.specs.Data.{Data, boolean, number, string, object, unsigned, member, no_members}
use Rattle.serde_json.specs.Find.{of_integer}
use Rattle.serve_lines.specs.declared.fault.Part.{Part}
use Rattle.serve_lines.specs.declared.fault.Part.TheVariants as part
use Rattle.serve_lines.specs.declared.fault.Refusal.{Refusal}
use Rattle.serve_lines.specs.declared.fault.Refusal.TheVariants as refusal
use Rattle.serve_lines.specs.declared.answer.Rejection.{Rejection}
use Rattle.serve_lines.specs.declared.answer.Rejection.TheVariants as rejection
use Rattle.serve_lines.specs.declared.answer.Stop.{Stop}
use Rattle.serve_lines.specs.declared.answer.Stop.TheVariants as stop
use Rattle.serve_lines.specs.declared.answer.Answer.{Answer}
use Rattle.serve_lines.specs.declared.answer.Answer.TheVariants as answer

-- why a member is refused
abbrev pub bad_text : Part → List ℕ
bad_text part.Submit = codes "bad submit"
bad_text part.Inputs = codes "bad inputs"
bad_text part.Outputs = codes "bad outputs"
bad_text part.Env = codes "bad env"
bad_text part.Bound = codes "bad bound"
bad_text part.Cores = codes "bad cores"
bad_text part.Memory = codes "bad memory"
bad_text part.Disk = codes "bad disk"
bad_text part.Cancel = codes "bad cancel"

-- why a line is no request
abbrev pub refusal_text : Refusal → List ℕ
refusal_text refusal.TooLong = codes "too long"
refusal_text refusal.NotText = codes "not UTF-8"
refusal_text refusal.NotJson = codes "not JSON"
refusal_text refusal.NotObject = codes "not an object"
refusal_text refusal.Unknown = codes "unknown member"
refusal_text (refusal.Bad p) = bad_text p

-- why a request isn't done
abbrev pub rejection_text : Rejection → List ℕ
rejection_text (rejection.Line why) = refusal_text why
rejection_text rejection.InputMissing = codes "input missing"
rejection_text rejection.InputUnread = codes "input unreadable"
rejection_text rejection.InputTooLarge = codes "input too large"
rejection_text rejection.TooManyFiles = codes "too many files"
rejection_text rejection.TooManyTasks = codes "too many tasks"
rejection_text rejection.BadTask = codes "bad task"

-- why the program ends
abbrev pub stop_text : Stop → List ℕ
stop_text stop.Usage = codes "usage"
stop_text stop.Network = codes "network fault"
stop_text stop.Input = codes "input fault"
stop_text stop.Memory = codes "out of memory"

-- ---- objects

-- workers may come
abbrev pub listening : ℕ → Data
listening port = object (member (codes "listening") (number (unsigned port)) no_members)

-- a request that isn't done
abbrev pub refused : ℕ → List ℕ → Data
refused line why =
    object (member (codes "line") (number (unsigned line))
    (member (codes "refused") (string why) no_members))

-- a task that isn't taken for one of its inputs
abbrev pub of_input : ℕ → List ℕ → List ℕ → Data
of_input line input why =
    object (member (codes "input") (string input)
    (member (codes "line") (number (unsigned line))
    (member (codes "refused") (string why) no_members)))

-- whether a task was let go
abbrev pub cancelled : ℕ → ℕ → Bool → Data
cancelled line task held =
    object (member (codes "cancelled") (boolean held)
    (member (codes "line") (number (unsigned line))
    (member (codes "task") (number (unsigned task)) no_members)))

-- a command that ended
abbrev pub ended : ℕ → ℤ → Data
ended line status =
    object (member (codes "line") (number (unsigned line))
    (member (codes "status") (number (of_integer status)) no_members))

-- what is wrong with an output, by a key behind `line`
abbrev pub of_output : List ℕ → ℕ → List ℕ → Data
of_output wrong line output =
    object (member (codes "line") (number (unsigned line))
    (member wrong (string output) no_members))

-- an output that is larger than it may be
abbrev pub too_long : ℕ → List ℕ → ℕ → Data
too_long line output size =
    object (member (codes "line") (number (unsigned line))
    (member (codes "size") (number (unsigned size))
    (member (codes "too long") (string output) no_members)))

-- the tasks that are held where the requests end
abbrev pub left : ℕ → Data
left held = object (member (codes "held") (number (unsigned held)) no_members)

-- the program ends
abbrev pub stopped : List ℕ → Data
stopped why = object (member (codes "stopped") (string why) no_members)

-- the object of an answer
abbrev pub answer_data : Answer → Data
answer_data (answer.Listening port) = listening port
answer_data (answer.Refused line why) = refused line (rejection_text why)
answer_data (answer.InputRefused line input why) = of_input line input (rejection_text why)
answer_data (answer.Cancelled line task held) = cancelled line task held
answer_data (answer.Ended line status) = ended line status
answer_data (answer.Missing line output) = of_output (codes "missing") line output
answer_data (answer.TooLong line output size) = too_long line output size
answer_data (answer.Unwritten line output) = of_output (codes "unwritten") line output
answer_data (answer.Left held) = left held
answer_data (answer.Stopped why) = stopped (stop_text why)
