use Rattle.std.proofs.Common.{◌≡◌, ◌∙◌, ◌-◌, ◌+◌, ◌<◌, ◌≤◌, ℕ, List, [], drop, get_or, length, ap, refl, subst, sym, arith}
use Rattle.std.proofs.lemmas.List.{length-set}
use Rattle.flow_types.specs.Plans.{makes, most_bytes}
use Rattle.flow_types.specs.declared.numbers.Content.{Content}
use Rattle.run_history.specs.States.{row_of}
use Rattle.storage_limit.specs.Holdings.{Holdings}
use Rattle.task_core.specs.Accounts.{size_of, state_in, stored_in}
use Rattle.task_core.specs.Stands.{made_or}
use Rattle.task_core.proofs.Outputs.{files-length, made-step, none-made, output-at, same-item, within-length, within-small}
use Rattle.task_core.proofs.Storing.{small-step, stored-holds, stored-most, stored-step}
use Rattle.rule_progress.specs.Progress.{Knows}
use Rattle.rule_progress.proofs.Coming.{same-after}
use Rattle.task_core.proofs.Progressing.{sizes-set}
use Rattle.task_core.proofs.present.put_outputs.Goals as goal

pub outputs-init : goal.outputs-init
outputs-init c = record {
  within = omega arith;
  made = λ f. none-made (makes c.args.plan.now c.args.rule.0) c.args.outs.now f (state_in c.args.files.now f);
  files = c.requires.files;
  small = c.requires.small;
  stored = ap (λ n. (let H : Holdings = record { limit = c.args.account.now.limit; stored = n; reserved = c.args.account.now.reserved } in H)) c.requires.stored;
  known = c.requires.known;
  rest = record { needs = refl; waits = refl; rest = refl };
}

pub bounds-ports-at : goal.bounds-ports-at
bounds-ports-at c =
    omega (arith, c.outputs-test.true, c.outputs.invariant.within, within-length c.args.plan.now (makes c.args.plan.now c.args.rule.0) c.args.outs.now c.requires.outputs, ap length c.outputs_of-ports.ensures.files, files-length c.outputs_of-ports.result.now)

pub bounds-ports-at-in-outputs : goal.bounds-ports-at-in-outputs
bounds-ports-at-in-outputs c =
    omega (arith, c.outputs-test.true, c.outputs.invariant.within, within-length c.args.plan.now (makes c.args.plan.now c.args.rule.0) c.args.outs.now c.requires.outputs, ap length c.outputs_of-ports.ensures.files, files-length c.outputs_of-ports.result.now)

pub put_file-requires-clause-inside : goal.put_file-requires-clause-inside
put_file-requires-clause-inside c =
    let output = output-at c.args.plan.now c.args.rule.0 (c.outputs.at - 1) c.outputs_of-ports.result.now c.index-ports-at.result c.args.outs.now c.requires.valid c.requires.rule c.requires.outputs
    c.outputs_of-ports.ensures.files (omega (arith, c.outputs-test.true, c.outputs.invariant.within)) c.index-ports-at.is c.outputs_of-ports.ensures.inside in
    omega (arith, output.inside, c.outputs.invariant.files)

pub put_file-requires-clause-stored : goal.put_file-requires-clause-stored
put_file-requires-clause-stored c =
    let output = output-at c.args.plan.now c.args.rule.0 (c.outputs.at - 1) c.outputs_of-ports.result.now c.index-ports-at.result c.args.outs.now c.requires.valid c.requires.rule c.requires.outputs
    c.outputs_of-ports.ensures.files (omega (arith, c.outputs-test.true, c.outputs.invariant.within)) c.index-ports-at.is c.outputs_of-ports.ensures.inside in
    let stored : c.outputs.account.stored ≡ stored_in c.args.plan.now c.outputs.files = ap (λ (H : Holdings). H.stored) c.outputs.invariant.stored in
    omega (arith, stored, stored-holds c.args.plan.now c.outputs.files _ output.made output.inside)

pub put_file-requires-clause-few : goal.put_file-requires-clause-few
put_file-requires-clause-few c =
    let none : Content = record { size = 0; digest = record { 0 = [] } } in
    let less : c.outputs.at - 1 < length c.args.outs.now = omega (arith, c.outputs-test.true, c.outputs.invariant.within) in
    let small = within-small c.args.plan.now (makes c.args.plan.now c.args.rule.0) c.args.outs.now (c.outputs.at - 1) none c.requires.valid c.requires.outputs less in
    let stored : c.outputs.account.stored ≡ stored_in c.args.plan.now c.outputs.files = ap (λ (H : Holdings). H.stored) c.outputs.invariant.stored in
    let reserved : c.outputs.account.reserved ≡ c.args.account.now.reserved = ap (λ (H : Holdings). H.reserved) c.outputs.invariant.stored in
    omega (arith, small, stored, reserved, c.requires.reserved, stored-most c.args.plan.now c.outputs.files c.requires.valid c.outputs.invariant.small)

pub outputs-preserved : goal.outputs-preserved
outputs-preserved c =
    let output = output-at c.args.plan.now c.args.rule.0 (c.outputs.at - 1) c.outputs_of-ports.result.now c.index-ports-at.result c.args.outs.now c.requires.valid c.requires.rule c.requires.outputs
    c.outputs_of-ports.ensures.files (omega (arith, c.outputs-test.true, c.outputs.invariant.within)) c.index-ports-at.is c.outputs_of-ports.ensures.inside in
    let P = c.args.plan.now in
    let at : ℕ = c.outputs.at - 1 in
    let fs : List ℕ = makes P c.args.rule.0 in
    let outs : List Content = c.args.outs.now in
    let none : Content = record { size = 0; digest = record { 0 = [] } } in
    let content : Content = get_or outs at none in
    let g : ℕ = (get_or c.outputs_of-ports.result.now at c.index-ports-at.result).file.0 in
    let less : at < length outs = omega (arith, c.outputs-test.true, c.outputs.invariant.within) in
    let within : g < length c.outputs.files = subst (λ n. g < n) (sym c.outputs.invariant.files) output.inside in
    let next : at + 1 ≡ c.outputs.at = omega (arith, c.outputs-test.true) in
    let small : content.size ≤ most_bytes = within-small P fs outs at none c.requires.valid c.requires.outputs less in
    let before = λ (f : ℕ). c.outputs.invariant.made f ∙ ap (λ n. made_or (row_of f (drop n fs) (drop n outs)) (state_in c.args.files.now f)) (sym next) in
    record {
      within = omega (arith, c.outputs.invariant.within);
      made = λ f. ap (λ xs. state_in xs f) c.put_file.ensures.files
          ∙ made-step fs outs at g content c.outputs.files (state_in c.args.files.now) output.within less output.here (same-item outs at content none less) within before f;
      files = ap length c.put_file.ensures.files ∙ length-set c.outputs.files g _ ∙ c.outputs.invariant.files;
      small = λ f. small-step c.outputs.files c.put_file.new.files g f content small within c.put_file.ensures.files c.outputs.invariant.small;
      stored = stored-step P c.outputs.files c.put_file.new.files g content c.args.account.now c.put_file.new.account c.outputs.account output.made output.inside within c.put_file.ensures.files
          c.outputs.invariant.stored c.put_file.ensures.stored c.put_file.ensures.rest;
      known = subst (λ xs. Knows P (size_of xs) c.set_file.new.self) (sym c.put_file.ensures.files) (subst (λ s. Knows P s c.set_file.new.self) (sizes-set c.outputs.files g _ within) c.set_file.ensures.known);
      rest = same-after c.args.progress.now c.outputs.progress c.set_file.new.self c.outputs.invariant.rest c.set_file.ensures.same;
    }

pub set_file-requires-clause-inside : goal.set_file-requires-clause-inside
set_file-requires-clause-inside c =
    let output = output-at c.args.plan.now c.args.rule.0 (c.outputs.at - 1) c.outputs_of-ports.result.now c.index-ports-at.result c.args.outs.now c.requires.valid c.requires.rule c.requires.outputs
    c.outputs_of-ports.ensures.files (omega (arith, c.outputs-test.true, c.outputs.invariant.within)) c.index-ports-at.is c.outputs_of-ports.ensures.inside in
    output.inside

pub set_file-requires-clause-few : goal.set_file-requires-clause-few
set_file-requires-clause-few c =
    let less : c.outputs.at - 1 < length c.args.outs.now = omega (arith, c.outputs-test.true, c.outputs.invariant.within) in
    within-small c.args.plan.now (makes c.args.plan.now c.args.rule.0) c.args.outs.now (c.outputs.at - 1) _ c.requires.valid c.requires.outputs less
