use Rattle.std.proofs.Common.{[], ◌∷◌, refl}
use Rattle.std.specs.Str.{is_utf8, chars}
use lib.Utf8.{encode}
use Rattle.flow_types.proofs.examples.example_plans_are_valid.Goals as goal

pub returns-clause-two_rules : goal.returns-clause-two_rules
unfolding is_utf8 chars encode
returns-clause-two_rules c = record {
  few_rules = refl;
  few_files = refl;
  within_limits = refl;
  ascending = refl;
  names = refl;
  not_nested = refl;
  ports_inside = refl;
  one_port = refl;
  made_by = refl;
  makers = refl;
  remotes = refl;
  kept = refl;
  sources_not_kept = refl;
  file_bounds = refl;
  rule_bounds = refl;
  orders = (1 ∷ 0 ∷ [], refl);
}

pub returns-clause-chain : goal.returns-clause-chain
unfolding is_utf8 chars encode
returns-clause-chain c = record {
  few_rules = refl;
  few_files = refl;
  within_limits = refl;
  ascending = refl;
  names = refl;
  not_nested = refl;
  ports_inside = refl;
  one_port = refl;
  made_by = refl;
  makers = refl;
  remotes = refl;
  kept = refl;
  sources_not_kept = refl;
  file_bounds = refl;
  rule_bounds = refl;
  orders = (0 ∷ 1 ∷ 2 ∷ [], refl);
}
