use Rattle.std.proofs.Common.{refl}
use Rattle.std.specs.Str.{is_utf8}
use Rattle.clap.proofs.OnLiterals.{clap_on_literals}
use Rattle.command_words.specs.Choices.{flow_in, language_in, limits_in, local_amounts_in, log_in, mode_in, mode_named, options_in, chosen_by, options_of, service_in, transport_in, transport_named, work_in}
use Rattle.command_words.specs.Command.{amount_options, command, run_options, work_options}
use Rattle.command_words.specs.Numbers.{number_in}
use Rattle.command_words.specs.Peers.{foreman_command, foreman_options_in, foreman_options_of, peer_amounts_in, port_in, worker_command, worker_options_in, worker_options_of}
use Rattle.command_words.specs.Values.{flag, has_value, number, optional_number}
use Rattle.command_words.proofs.examples.peer_command_lines.Goals as goal

pub returns : goal.returns
unfolding is_utf8 clap_on_literals flow_in language_in limits_in local_amounts_in log_in mode_in mode_named options_in chosen_by options_of service_in transport_in transport_named work_in amount_options command run_options work_options number_in foreman_command foreman_options_in foreman_options_of peer_amounts_in port_in worker_command worker_options_in worker_options_of flag has_value number optional_number
returns c = (refl, refl, refl, refl, refl, refl, refl, refl)
