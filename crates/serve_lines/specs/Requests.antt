-- The request that a line is, or why it is none.
use Rattle.std.specs.Prelude.{ℕ, ◌==◌, ◌&&◌, ◌||◌, Bool, true, false, not, List, [], ◌∷◌, length, Option, Some, None, Result, Ok, Err, nat_le, nat_lt, codes, if◌then◌else◌, option_and_then, unwrap_or}
use Rattle.std.specs.List.{list_all}
use Rattle.std.specs.Str.{bytes_eq, is_utf8}
use Rattle.flow_types.specs.declared.flow.Pair.{Pair}
use Rattle.flow_types.specs.declared.numbers.Needs.{Needs}
use Rattle.flow_types.specs.declared.numbers.Needs.TheVariants as needs
use Rattle.flow_types.specs.Names.{name_of}
use Rattle.serde_json.specs.Data.{Data, Members, no_members, member}
use Rattle.serde_json.specs.Find.{get, as_str, as_number, as_u64, as_object}
use Rattle.serde_json.specs.Events.{members_len}
use Rattle.serde_json.specs.Read.{read}
use Rattle.serve_lines.specs.declared.fault.Part.{Part}
use Rattle.serve_lines.specs.declared.fault.Part.TheVariants as part
use Rattle.serve_lines.specs.declared.fault.Refusal.{Refusal}
use Rattle.serve_lines.specs.declared.fault.Refusal.TheVariants as refusal
use Rattle.serve_lines.specs.declared.request.Place.{Place}
use Rattle.serve_lines.specs.declared.request.Asked.{Asked}
use Rattle.serve_lines.specs.declared.request.Request.{Request}
use Rattle.serve_lines.specs.declared.request.Request.TheVariants as request

-- what was read, or why it isn't what it has to be
abbrev pub Found : Type 0 → Type 0
Found A = Result A Refusal

-- what follows what was read
abbrev pub and_then : {A B : Type 0} → Found A → (A → Found B) → Found B
and_then (Ok a) f = f a
and_then (Err e) f = Err e

-- the key of a member
abbrev pub name_of_part : Part → List ℕ
name_of_part part.Submit = codes "submit"
name_of_part part.Inputs = codes "inputs"
name_of_part part.Outputs = codes "outputs"
name_of_part part.Env = codes "env"
name_of_part part.Bound = codes "bound"
name_of_part part.Cores = codes "cores"
name_of_part part.Memory = codes "memory"
name_of_part part.Disk = codes "disk"
name_of_part part.Cancel = codes "cancel"

-- ---- what a member holds

-- what a member holds, which has to be there and of its kind
abbrev pub held : {A : Type 0} → Part → Option A → Found A
held p (Some a) = Ok a
held p None = Err (refusal.Bad p)

-- it has to hold
abbrev pub where_holds : {A : Type 0} → Part → Bool → Found A → Found A
where_holds p true found = found
where_holds p false found = Err (refusal.Bad p)

-- a byte of a text: not 0
abbrev pub is_plain_byte : ℕ → Bool
is_plain_byte byte = not (byte == 0)

-- a text of such bytes
abbrev pub is_plain : List ℕ → Bool
is_plain text = list_all is_plain_byte text

-- a text without a byte 0
abbrev pub text_of : Part → Data → Found (List ℕ)
text_of p d = and_then (held p (as_str d)) (λ text. where_holds p (is_plain text) (Ok text))

-- a number of 64 bits
abbrev pub number_of : Part → Data → Found ℕ
number_of p d = held p (option_and_then as_u64 (as_number d))

-- a number that isn't above the most
abbrev pub amount_of : Part → ℕ → Data → Found ℕ
amount_of p most d = and_then (number_of p d) (λ n. where_holds p (nat_le n most) (Ok n))

-- the members of an object
abbrev pub members_of : Part → Data → Found Members
members_of p d = held p (as_object d)

-- ---- members that may be left out

-- a number, where it is there
abbrev pub amount_by : Part → ℕ → Option Data → Found (Option ℕ)
amount_by p most None = Ok None
amount_by p most (Some d) = and_then (amount_of p most d) (λ n. Ok (Some n))

-- a number by its member
abbrev pub amount_in : Part → ℕ → Data → Found (Option ℕ)
amount_in p most whole = amount_by p most (get (name_of_part p) whole)

-- a byte of a variable's name: neither 0 nor `=`
abbrev pub is_name_byte : ℕ → Bool
is_name_byte byte = not (byte == 0) && not (byte == 61)

-- a text of such bytes
abbrev pub has_name_bytes : List ℕ → Bool
has_name_bytes name = list_all is_name_byte name

-- the name of a variable isn't empty
abbrev pub is_variable : List ℕ → Bool
is_variable name = not (length name == 0) && has_name_bytes name

-- a variable
abbrev pub variable_of : List ℕ → Data → Found Pair
variable_of key d =
    where_holds part.Env (is_variable key) (and_then (text_of part.Env d) (λ value.
    Ok (record { name = key; value = value })))

-- a variable for each member
abbrev pub variables_in : Members → Found (List Pair)
variables_in no_members = Ok []
variables_in (member key d more) =
    and_then (variable_of key d) (λ one. and_then (variables_in more) (λ rest. Ok (one ∷ rest)))

-- the environment, empty where it isn't there
abbrev pub variables_by : Option Data → Found (List Pair)
variables_by None = Ok []
variables_by (Some d) = and_then (members_of part.Env d) variables_in

-- the environment of a task
abbrev pub variables_of : Data → Found (List Pair)
variables_of whole = variables_by (get (codes "env") whole)

-- the name that a key gives
abbrev pub named : Part → List ℕ → Found (List ℕ)
named p key = held p (name_of key)

-- a file by its name where the command runs and its path here
abbrev pub place_of : Part → List ℕ → Data → Found Place
place_of p key d =
    and_then (named p key) (λ name. and_then (text_of p d) (λ path.
    Ok (record { name = name; path = path })))

-- a file for each member
abbrev pub places_in : Part → Members → Found (List Place)
places_in p no_members = Ok []
places_in p (member key d more) =
    and_then (place_of p key d) (λ one. and_then (places_in p more) (λ rest. Ok (one ∷ rest)))

-- the files, none where the member isn't there
abbrev pub files_by : Part → Option Data → Found (List Place)
files_by p None = Ok []
files_by p (Some d) = and_then (members_of p d) (places_in p)

-- the files of a member
abbrev pub files_in : Part → Data → Found (List Place)
files_in p whole = files_by p (get (name_of_part p) whole)

-- ---- a task

-- the command, which has to be there
abbrev pub command_by : Option Data → Found (List ℕ)
command_by None = Err (refusal.Bad part.Submit)
command_by (Some d) = text_of part.Submit d

-- the command of a task
abbrev pub command_in : Data → Found (List ℕ)
command_in whole = command_by (get (codes "submit") whole)

-- the most of an amount
abbrev pub most_amount : ℕ
most_amount = 1000000000

-- the most bytes of a task's outputs together
abbrev pub most_bound : ℕ
most_bound = 67108864

-- what is needed: a whole worker where nothing is stated, else a core and what is stated
abbrev pub needs_of : Option ℕ → Option ℕ → Option ℕ → Needs
needs_of None None None = needs.Whole
needs_of cores memory disk = needs.Stated (record {
  cores = unwrap_or cores 1;
  memory = unwrap_or memory 0;
  disk = unwrap_or disk 0;
})

-- what a task needs
abbrev pub needs_in : Data → Found Needs
needs_in whole =
    and_then (amount_in part.Cores most_amount whole) (λ cores.
    and_then (amount_in part.Memory most_amount whole) (λ memory.
    and_then (amount_in part.Disk most_amount whole) (λ disk.
    Ok (needs_of cores memory disk))))

-- a task
abbrev pub asked_in : Data → Found Asked
asked_in whole =
    and_then (command_in whole) (λ command.
    and_then (files_in part.Inputs whole) (λ inputs.
    and_then (files_in part.Outputs whole) (λ outputs.
    and_then (variables_of whole) (λ env.
    and_then (amount_in part.Bound most_bound whole) (λ bound.
    and_then (needs_in whole) (λ needs.
    Ok (record {
      command = command;
      inputs = inputs;
      outputs = outputs;
      env = env;
      bound = bound;
      needs = needs;
    })))))))

-- ---- a line

-- a key says what is to be done
abbrev pub is_work : List ℕ → Bool
is_work key =
    bytes_eq key (codes "submit") || bytes_eq key (codes "inputs") || bytes_eq key (codes "outputs")
    || bytes_eq key (codes "env")

-- a key says how much is taken
abbrev pub is_amount : List ℕ → Bool
is_amount key =
    bytes_eq key (codes "bound") || bytes_eq key (codes "cores") || bytes_eq key (codes "memory")
    || bytes_eq key (codes "disk")

-- a key is one of a task's members
abbrev pub is_known : List ℕ → Bool
is_known key = is_work key || is_amount key

-- each key is one of them
abbrev pub are_known : Members → Bool
are_known no_members = true
are_known (member key d more) = is_known key && are_known more

-- there is one member at most
abbrev pub is_alone : Members → Bool
is_alone ms = nat_le (members_len ms) 1

-- no member is there that may not be
abbrev pub where_known : {A : Type 0} → Bool → Found A → Found A
where_known true found = found
where_known false found = Err refusal.Unknown

-- a task, or a cancel, which has no other member
abbrev pub request_by : Data → Members → Option Data → Found Request
request_by whole ms None =
    where_known (are_known ms) (and_then (asked_in whole) (λ asked. Ok (request.Submit asked)))
request_by whole ms (Some d) =
    where_known (is_alone ms) (and_then (number_of part.Cancel d) (λ line.
    Ok (request.Cancel line)))

-- the request of an object
abbrev pub request_of_members : Data → Option Members → Found Request
request_of_members whole None = Err refusal.NotObject
request_of_members whole (Some ms) = request_by whole ms (get (codes "cancel") whole)

-- the request of a value
abbrev pub request_in : Data → Found Request
request_in whole = request_of_members whole (as_object whole)

-- the request of what was read of a text
abbrev pub request_read : Option Data → Found Request
request_read None = Err refusal.NotJson
request_read (Some d) = request_in d

-- the request that a line is
abbrev pub request_of : List ℕ → Found Request
request_of line =
    if nat_lt 16777216 (length line) then Err refusal.TooLong
    else if is_utf8 line then request_read (read line)
    else Err refusal.NotText
