-- The words, the text and the plan, by computing.
use Rattle.std.proofs.Common.{◌≡◌, [], Some, Ok, refl}
use Rattle.std.specs.Str.{is_utf8, chars}
use lib.Utf8.{encode}
use Rattle.clap.proofs.OnLiterals.{clap_on_literals}
use Rattle.command_words.specs.Choices.{flow_in, language_in, limits_in, local_amounts_in, log_in, mode_in, mode_named, options_in, chosen_by, options_of, service_in, transport_in, transport_named, work_in}
use Rattle.command_words.specs.Command.{amount_options, command, run_options, work_options}
use Rattle.command_words.specs.Numbers.{number_in}
use Rattle.command_words.specs.Values.{flag, has_value, number, optional_number}
use Rattle.mf_text.specs.Names.{begins_name, continues_name}
use Rattle.mf_text.specs.Lines.{joined}
use Rattle.mf_text.specs.Expansion.{pieces_from}
use Rattle.mf_rules.proofs.NameLemmas.{no_entries}
use Rattle.mf_rules.specs.Flow.{flow_of}
use Rattle.rule_graph.specs.Faults.{plan_of}
use Rattle.worked_run.specs.Worked.{call_words, chosen_options, flow, flow_bytes, plan}

pub words : options_of call_words ≡ Some chosen_options
unfolding is_utf8 clap_on_literals flow_in language_in limits_in local_amounts_in log_in mode_in mode_named options_in chosen_by options_of service_in transport_in transport_named work_in amount_options command run_options work_options number_in flag has_value number optional_number
words = refl

pub text : flow_of [] flow_bytes ≡ Ok flow
unfolding begins_name continues_name joined pieces_from is_utf8 chars encode
text = rw (no_entries, no_entries) refl

pub planned : plan_of flow ≡ Ok plan
unfolding is_utf8 chars encode
planned = refl
