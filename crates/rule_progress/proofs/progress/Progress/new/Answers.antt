use Rattle.std.proofs.Common.{◌≡◌, ◌∙◌, ℕ, [], ap, length, false, refl, replicate, sym, arith}
use Rattle.std.proofs.lemmas.Bool.{leb-true}
use Rattle.std.proofs.lemmas.List.{length-replicate}
use Rattle.std.proofs.lemmas.List.FromFn.{length-map-range_with_len}
use Rattle.flow_types.specs.Plans.{most_rules}
use Rattle.ready_rules.specs.Lines.{Line}
use Rattle.ready_rules.specs.Pendings.{Pending}
use Rattle.rule_progress.specs.Progress.{need_of}
use Rattle.rule_progress.proofs.Coming.{first-progress}
use Rattle.rule_progress.proofs.progress.Progress.new.Goals as goal

pub new-requires-clause-few : goal.new-requires-clause-few
new-requires-clause-few c =
    let long : length c.in_ok-needs.needs.items ≡ length c.args.plan.now.rules = ap length c.in_ok-needs.ensures ∙ length-map-range_with_len (need_of c.args.plan.now c.args.options) 0 (length c.args.plan.now.rules) in
    omega (arith, long, leb-true (length c.args.plan.now.rules) most_rules c.requires.few_rules)

pub wait_all-requires : goal.wait_all-requires
wait_all-requires c =
    let long : length c.in_ok-needs.needs.items ≡ length c.args.plan.now.rules = ap length c.in_ok-needs.ensures ∙ length-map-range_with_len (need_of c.args.plan.now c.args.options) 0 (length c.args.plan.now.rules) in
    c.len-count.ensures ∙ sym long ∙ sym (ap (λ (W : Pending). length W.waits) c.in_ok-pending.ensures ∙ length-replicate (length c.in_ok-needs.needs.items) false)

pub returns : goal.returns
returns c states sizes waiting none =
    let n : ℕ = length c.args.plan.now.rules in
    let long : length c.in_ok-needs.needs.items ≡ length c.args.plan.now.rules = ap length c.in_ok-needs.ensures ∙ length-map-range_with_len (need_of c.args.plan.now c.args.options) 0 (length c.args.plan.now.rules) in
    let count : length c.in_ok-pending.pending.waits ≡ length c.args.plan.now.rules = ap (λ (W : Pending). length W.waits) c.in_ok-pending.ensures ∙ length-replicate (length c.in_ok-needs.needs.items) false ∙ long in
    first-progress c.args.plan.now c.args.options states sizes _ waiting none c.in_ok-takers.ensures
    (c.wait_all.ensures.needs ∙ ap (λ (W : Pending). W.needs) c.in_ok-pending.ensures ∙ c.in_ok-needs.ensures)
    (c.wait_all.ensures.lacks ∙ ap (λ (W : Pending). W.lacks) c.in_ok-pending.ensures ∙ c.in_ok-ports.ensures)
    (c.wait_all.ensures.bytes ∙ ap (λ (W : Pending). W.bytes) c.in_ok-pending.ensures ∙ ap (λ k. replicate k 0) long)
    (c.wait_all.ensures.same ∙ count)
    (λ r inside. c.wait_all.ensures.waits r (omega (arith, inside, c.len-count.ensures)))
    (c.in_ok-running.ensures ∙ ap line c.len-count.ensures) (c.in_ok-failed.ensures ∙ ap line c.len-count.ensures) refl
  where
    line : ℕ → Line
    line k = record { numbers = []; places = k }
