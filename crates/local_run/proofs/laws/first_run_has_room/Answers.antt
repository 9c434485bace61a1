use Rattle.std.proofs.Common.{[], length, arith}
use Rattle.std.specs.Prelude.{is_some, not}
use Rattle.std.proofs.lemmas.Bool.{leb-true}
use Rattle.std.proofs.lemmas.List.FromFn.{length-range_with_len}
use Rattle.std.proofs.lemmas.List.Sums.{count_by-le-length, length-filter}
use Rattle.flow_types.specs.Plans.{file_numbers, maker_of, rule_numbers}
use Rattle.run_history.specs.Storage.{is_complete}
use Rattle.local_run.proofs.laws.first_run_has_room.Goals as goal

pub returns : goal.returns
returns c P valid =
    let rules = count_by-le-length (λ r. not (is_complete [] r)) (rule_numbers P) in
    let files = count_by-le-length (λ f. is_some (maker_of P f)) (file_numbers P) in
    let made = length-filter (λ f. is_some (maker_of P f)) (file_numbers P) in
    let few_rules = leb-true (length P.rules) 20000 valid.few_rules in
    let few_files = leb-true (length P.files) 65536 valid.few_files in
    let many_rules = length-range_with_len 0 (length P.rules) in
    let many_files = length-range_with_len 0 (length P.files) in
    omega (arith, rules, files, made, few_rules, few_files, many_rules, many_files)
