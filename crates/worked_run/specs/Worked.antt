-- A flow of two rules over commands that make something of their inputs, and what its serial run makes.
use Rattle.std.specs.Prelude.{◌≡◌, ℕ, false, true, List, [], ◌∷◌, ◌++◌, codes, Option, Some, None, Ok}
use Rattle.flow_types.specs.declared.flow.RawFlow.{RawFlow}
use Rattle.flow_types.specs.declared.numbers.Needs.TheVariants.{Whole}
use Rattle.flow_types.specs.declared.plan.Plan.{Plan}
use Rattle.flow_types.specs.Examples.{copy_rule, made_row, source_row}
use Rattle.flow_types.specs.Serial.{Contents, Function, serial}
use Rattle.mf_rules.specs.Flow.{flow_of}
use Rattle.rule_graph.specs.Faults.{plan_of}
use Rattle.command_words.specs.declared.options.Flow.TheVariants.{File}
use Rattle.command_words.specs.declared.options.Language.TheVariants.{Make}
use Rattle.command_words.specs.declared.options.Mode.TheVariants.{Never}
use Rattle.command_words.specs.declared.options.Options.{Options}
use Rattle.command_words.specs.declared.options.Transport.TheVariants.{Local}
use Rattle.command_words.specs.declared.options.Work.TheVariants.{Run}
use Rattle.command_words.specs.Choices.{options_of}
use Rattle.outside.specs.Files.{Files}
use Rattle.file_store.specs.Outputs.{file_name}
use Rattle.mem_commands.specs.Joins.{outputs_of}
use Rattle.mem_outside.specs.Entries.{with_file}
use Rattle.mem_outside.specs.MemSite.{no_files}

-- the words of the call
abbrev pub call_words : List (List ℕ)
call_words = codes "makeflow" ∷ codes "flow" ∷ []

-- the text of the flow: b is made of a, and c of b
abbrev pub flow_bytes : List ℕ
flow_bytes = codes "b: a\n\tde\nc: b\n\tfg\n"

-- the files at the entry: the flow and its source
abbrev pub entry_files : Files
entry_files = with_file (codes "flow") (Some flow_bytes) (with_file (codes "a") (Some (codes "abc")) no_files)

-- what the text says
abbrev pub flow : RawFlow
flow = record {
  rules = record {
    place = 1;
    outputs = record { local = codes "b"; remote = None } ∷ [];
    inputs = record { local = codes "a"; remote = None } ∷ [];
    command = codes "de";
    local = false;
    needs = Whole;
    env = [];
  } ∷ record {
    place = 3;
    outputs = record { local = codes "c"; remote = None } ∷ [];
    inputs = record { local = codes "b"; remote = None } ∷ [];
    command = codes "fg";
    local = false;
    needs = Whole;
    env = [];
  } ∷ [];
  keep = [];
  bounds = [];
}

-- its plan
abbrev pub plan : Plan
plan = record {
  rules = copy_rule (codes "de") 0 (codes "a") 1 (codes "b") 67108864
      ∷ copy_rule (codes "fg") 1 (codes "b") 2 (codes "c") 67108864 ∷ [];
  files = source_row (codes "a") ∷ made_row (codes "b") 0 false 67108864 ∷ made_row (codes "c") 1 true 67108864 ∷ [];
}

-- the log's name
abbrev pub log_name : List ℕ
log_name = codes "flow.makeflowlog"

-- what the words choose
abbrev pub chosen_options : Options
chosen_options = record {
  service = record { transport = Local; port = 9123; jobs = 4 };
  limits = record { retries = 0; storage = None; idle = 1000000000 };
  local = record { cores = 64; memory = 1000000; disk = 1000000000 };
  mode = Never;
  work = Run;
  flow = File (codes "flow") Make;
  log = log_name;
}

-- what the commands make
abbrev pub joins : Function
joins command env inputs outputs = outputs_of command inputs outputs

-- the contents of the sources, as reads give them at the entry
abbrev pub sources : Contents
sources f = entry_files (file_name plan f)

-- The words, the text and its flow are read so.
pub record IsRead : Type 0 where
  pub words : options_of call_words ≡ Some chosen_options
  pub text : flow_of [] flow_bytes ≡ Ok flow
  pub planned : plan_of flow ≡ Ok plan

-- The serial run makes these of the source.
pub record MakesContents : Type 0 where
  pub source : serial plan joins sources 0 ≡ Some (codes "abc")
  pub first : serial plan joins sources 1 ≡ Some (codes "abcde")
  pub second : serial plan joins sources 2 ≡ Some (codes "abcdefg")
