use Rattle.std.proofs.Common.{◌≤◌, ◌∙◌, ap, subst, sym}
use Rattle.std.specs.Prelude.{slice_index_or}
use Rattle.flow_types.specs.Plans.{files_of}
use Rattle.gc_refcount.specs.Counting.{times}
use Rattle.safe_storage.specs.Counters.{told}
use Rattle.safe_storage.proofs.Drops.{passed-walk, ports-counted}
use Rattle.safe_storage.proofs.counters.Counters.pass.Goals as goal

pub take_off-requires-clause-counted : goal.take_off-requires-clause-counted
take_off-requires-clause-counted c f =
    let same = ap (λ l. slice_index_or l.items f 0) c.keep_outputs.ensures.left in
    subst (λ n. times f (files_of c.as_slice.result.now) ≤ n) (sym same)
    (ports-counted c.args.plan.now c.args.self.now.over.items c.args.self.now.left.items
    (files_of c.as_slice.result.now) c.args.rule.0 f c.requires.inside
    c.requires.walk.loaded.rules c.requires.fresh
    (ap files_of c.as_slice.ensures ∙ c.rule_of.ensures.takes) (c.requires.walk.counts f))

pub returns-clause-walk : goal.returns-clause-walk
returns-clause-walk c =
    passed-walk c.args.plan.now (told c.args.stand.now) c.args.self.now c.take_off.new.self
    (files_of c.as_slice.result.now) c.args.rule.0 c.requires.inside c.requires.fresh
    (ap files_of c.as_slice.ensures ∙ c.rule_of.ensures.takes) c.requires.walk
    (ap (λ o. o.items) c.take_off.ensures.over ∙ c.keep_outputs.ensures.over)
    (λ f. c.take_off.ensures.counts f
    ∙ ap (λ l. slice_index_or l.items f 0) c.keep_outputs.ensures.left)
    c.take_off.ensures.loaded
