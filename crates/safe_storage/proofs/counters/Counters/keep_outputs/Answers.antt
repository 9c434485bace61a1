use Rattle.std.proofs.Common.{◌≡◌, ◌+◌, ◌-◌, ◌∙◌, ap, arith, length}
use Rattle.std.specs.Prelude.{min, sum_by}
use Rattle.flow_types.specs.declared.plan.Plan.{Plan}
use Rattle.flow_types.specs.Plans.{files_of}
use Rattle.run_history.specs.Storage.{rule_bound}
use Rattle.safe_walks.specs.Walk.{Standing}
use Rattle.safe_storage.specs.Counters.{bound_by, bounds_left, is_left_by, told}
use Rattle.safe_storage.proofs.Drops.{claim-in, loaded-small, outputs-loaded}
use Rattle.safe_storage.proofs.counters.Counters.keep_outputs.Goals as goal

pub bounds_of-rest-requires-clause-few : goal.bounds_of-rest-requires-clause-few
bounds_of-rest-requires-clause-few c =
    omega (arith, ap length c.as_slice.ensures, c.rule_of-row.ensures.few_outputs)

pub overflow_sub-self : goal.overflow_sub-self
overflow_sub-self c =
    let le = claim-in c.args.plan.now (told c.args.stand.now) c.args.self.now.over.items
    c.args.self.now.left.items c.args.self.now.rest.items c.args.self.now.load c.args.rule.0
    c.requires.inside c.requires.fresh c.requires.loaded in
    omega (arith, le, c.claim.ensures.share)

pub overflow_add-self : goal.overflow_add-self
overflow_add-self c =
    let small = loaded-small c.args.plan.now (told c.args.stand.now) c.args.self.now.over.items
    c.args.self.now.left.items c.args.self.now.rest.items c.args.self.now.load
    c.requires.valid c.requires.stand.small c.requires.loaded in
    omega (arith, small, c.min.ensures, c.rule_of-row.ensures.small)

pub returns-clause-loaded : goal.returns-clause-loaded
returns-clause-loaded c =
    let P : Plan = c.args.plan.now in
    let S : Standing = told c.args.stand.now in
    let le = claim-in P S c.args.self.now.over.items c.args.self.now.left.items
    c.args.self.now.rest.items c.args.self.now.load c.args.rule.0 c.requires.inside
    c.requires.fresh c.requires.loaded in
    let left = is_left_by P c.args.self.now.left.items in
    let files = ap files_of c.as_slice.ensures ∙ c.rule_of-row.ensures.makes in
    let rest : c.bounds_of-rest.result ≡ bounds_left P left c.args.rule.0 =
    c.bounds_of-rest.ensures
    ∙ ap (λ l. sum_by (bound_by P (is_left_by P l)) (files_of c.as_slice.result.now))
    c.deref.ensures.value
    ∙ ap (sum_by (bound_by P left)) files in
    let least : c.min.result ≡ min (rule_bound P c.args.rule.0) c.bounds_of-rest.result =
    c.min.ensures ∙ ap (λ k. min k c.bounds_of-rest.result) c.rule_of-row.ensures.bound in
    outputs-loaded P S c.args.self.now.over.items c.args.self.now.left.items
    c.args.self.now.rest.items c.args.self.now.load
    (c.args.self.now.load - c.claim.result + c.min.result) c.args.rule.0
    c.bounds_of-rest.result c.requires.inside c.requires.fresh c.requires.undone rest
    (omega (arith, least, c.claim.ensures.share, le)) c.requires.loaded
