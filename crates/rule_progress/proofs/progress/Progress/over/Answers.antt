use Rattle.std.proofs.Common.{◌≤◌, length, refl, arith}
use Rattle.run_history.specs.declared.states.RuleState.TheVariants as rule
use Rattle.rule_progress.specs.Progress.{first_sizes, sizes_in}
use Rattle.rule_progress.proofs.Coming.{first-all, first-none, got, knows-same, same-after}
use Rattle.rule_progress.proofs.progress.Progress.over.Goals as goal

pub loop-file-init : goal.loop-file-init
loop-file-init c =
    let is = c.in_ok-progress.ensures (λ r. rule.Waiting) (first_sizes c.args.files.now 0) (λ r inside. refl) (λ f. first-none c.args.files.now f) in
    record {
      known = record { takers = is.takers; inputs = is.inputs; rules = is.rules.rules };
      same = record { needs = refl; waits = refl; rest = refl };
    }

pub loop-file-preserved : goal.loop-file-preserved
loop-file-preserved c = record {
  known = c.add_file.ensures.known;
  same = same-after c.in_ok-progress.progress c.loop-file.progress c.add_file.new.self c.loop-file.invariant.same c.add_file.ensures.same;
}

pub returns : goal.returns
returns c states waiting =
    let is = c.in_ok-progress.ensures states (first_sizes c.args.files.now 0) waiting (λ f. first-none c.args.files.now f) in
    let all : length c.args.files.now ≤ c.loop-file.file = omega (arith, c.loop-file-test.false, c.len-file-end.ensures, c.requires.files) in
    let known = knows-same c.args.plan.now (first_sizes c.args.files.now c.loop-file.file) (sizes_in c.args.files.now) c.loop-file.progress (λ f. first-all c.args.files.now c.loop-file.file f all) c.loop-file.invariant.known in
    got c.args.plan.now c.args.options states (first_sizes c.args.files.now 0) (sizes_in c.args.files.now) c.in_ok-progress.progress c.loop-file.progress known.inputs c.loop-file.invariant.same.needs
    c.loop-file.invariant.same.waits c.loop-file.invariant.same.rest is
