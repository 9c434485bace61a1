use Rattle.std.proofs.Common.{◌+◌, ◌-◌, arith, sym, subst}
use Rattle.std.specs.Prelude.{slice_set}
use Rattle.flow_types.specs.declared.plan.Plan.{Plan}
use Rattle.safe_storage.specs.Counters.{IsLoaded, told}
use Rattle.safe_walks.specs.Walk.{Standing}
use Rattle.safe_storage.proofs.Loads.{maker-inside}
use Rattle.safe_storage.proofs.Drops.{IsCut, cut-load, is-cut, other-load, other-loaded}
use Rattle.safe_storage.proofs.Drops.{passed-loaded}
use Rattle.safe_storage.proofs.Drops.{source-loaded}
use Rattle.safe_storage.proofs.counters.Counters.let_go.Goals as goal

pub returns-in_default-clause-loaded : goal.returns-in_default-clause-loaded
returns-in_default-clause-loaded c =
    source-loaded c.args.plan.now (told c.args.stand.now) c.args.self.now.over.items
    c.args.self.now.left.items c.args.self.now.rest.items c.args.self.now.load c.args.file.0
    c.requires.valid c.requires.inside c.requires.last c.requires.unkept
    (c.maker_of.ensures.none c.in_default.is) c.requires.loaded

pub is_passed-requires-clause-over : goal.is_passed-requires-clause-over
is_passed-requires-clause-over c =
    let place = maker-inside c.args.plan.now c.args.file.0 c.in-Some.maker.0 c.requires.valid
    c.requires.inside (c.maker_of.ensures.some c.in-Some.maker c.in-Some.is) in
    omega (arith, place, c.requires.loaded.rules)

pub is_passed-requires-clause-phases : goal.is_passed-requires-clause-phases
is_passed-requires-clause-phases c =
    let place = maker-inside c.args.plan.now c.args.file.0 c.in-Some.maker.0 c.requires.valid
    c.requires.inside (c.maker_of.ensures.some c.in-Some.maker c.in-Some.is) in
    omega (arith, place, c.requires.stand.rules)

pub overflow_sub-self : goal.overflow_sub-self
overflow_sub-self c =
    let load = other-load c.args.plan.now (told c.args.stand.now) c.args.self.now.over.items
    c.args.self.now.left.items c.args.self.now.rest.items c.args.self.now.load c.args.file.0
    c.in-Some.maker.0 c.requires.valid c.requires.inside c.requires.last c.requires.unkept
    (c.maker_of.ensures.some c.in-Some.maker c.in-Some.is)
    (c.is_passed.ensures.other c.if-not-is_passed.true) c.requires.loaded in
    omega (arith, load, c.bytes_at-bytes.ensures)

pub returns-then-not-is_passed-clause-loaded : goal.returns-then-not-is_passed-clause-loaded
returns-then-not-is_passed-clause-loaded c =
    let S : Standing = told c.args.stand.now in
    subst (λ n. IsLoaded c.args.plan.now S c.args.self.now.over.items
    (slice_set c.args.self.now.left.items c.args.file.0 0) c.args.self.now.rest.items
    (c.args.self.now.load - n)) (sym c.bytes_at-bytes.ensures)
    (other-loaded c.args.plan.now S c.args.self.now.over.items c.args.self.now.left.items
    c.args.self.now.rest.items c.args.self.now.load c.args.file.0 c.in-Some.maker.0
    c.requires.valid c.requires.inside c.requires.last c.requires.unkept
    (c.maker_of.ensures.some c.in-Some.maker c.in-Some.is)
    (c.is_passed.ensures.other c.if-not-is_passed.true) c.requires.loaded)

pub overflow_sub-after : goal.overflow_sub-after
overflow_sub-after c =
    let P : Plan = c.args.plan.now in
    let cut = is-cut P (told c.args.stand.now) c.args.self.now.over.items
    c.args.self.now.left.items c.args.self.now.rest.items c.args.self.now.load c.args.file.0
    c.in-Some.maker.0 c.requires.valid c.requires.inside c.requires.last c.requires.unkept
    (c.maker_of.ensures.some c.in-Some.maker c.in-Some.is)
    (c.is_passed.ensures.passed c.if-not-is_passed.false)
    (c.is_passed.ensures.undone c.if-not-is_passed.false) c.requires.loaded in
    omega (arith, cut.bound, c.bound_at.ensures, c.rest_of-before.ensures)

pub overflow_sub-self-3 : goal.overflow_sub-self-3
overflow_sub-self-3 c =
    let P : Plan = c.args.plan.now in
    let S : Standing = told c.args.stand.now in
    let cut = is-cut P S c.args.self.now.over.items c.args.self.now.left.items
    c.args.self.now.rest.items c.args.self.now.load c.args.file.0 c.in-Some.maker.0
    c.requires.valid c.requires.inside c.requires.last c.requires.unkept
    (c.maker_of.ensures.some c.in-Some.maker c.in-Some.is)
    (c.is_passed.ensures.passed c.if-not-is_passed.false)
    (c.is_passed.ensures.undone c.if-not-is_passed.false) c.requires.loaded in
    let load = cut-load P S c.args.self.now.over.items c.args.self.now.left.items
    c.args.self.now.load c.args.file.0 c.in-Some.maker.0 c.rest_of-before.result
    c.bytes_at-bytes.result c.bound_at.result c.rule_of.result.now.bound c.min.result
    c.min-2.result
    (subst (IsCut P S c.args.self.now.over.items c.args.self.now.left.items
    c.args.self.now.load c.args.file.0 c.in-Some.maker.0)
    (sym c.rest_of-before.ensures) cut)
    c.bound_at.ensures c.rule_of.ensures.bound c.min.ensures c.min-2.ensures
    c.bytes_at-bytes.ensures in
    omega (arith, load)

pub returns-clause-loaded : goal.returns-clause-loaded
returns-clause-loaded c =
    let P : Plan = c.args.plan.now in
    let S : Standing = told c.args.stand.now in
    let made = c.maker_of.ensures.some c.in-Some.maker c.in-Some.is in
    let cut : IsCut P S c.args.self.now.over.items c.args.self.now.left.items
    c.args.self.now.load c.args.file.0 c.in-Some.maker.0 c.rest_of-before.result =
    subst (IsCut P S c.args.self.now.over.items c.args.self.now.left.items
    c.args.self.now.load c.args.file.0 c.in-Some.maker.0)
    (sym c.rest_of-before.ensures)
    (is-cut P S c.args.self.now.over.items c.args.self.now.left.items
    c.args.self.now.rest.items c.args.self.now.load c.args.file.0 c.in-Some.maker.0
    c.requires.valid c.requires.inside c.requires.last c.requires.unkept made
    (c.is_passed.ensures.passed c.if-not-is_passed.false)
    (c.is_passed.ensures.undone c.if-not-is_passed.false) c.requires.loaded) in
    let load = cut-load P S c.args.self.now.over.items c.args.self.now.left.items
    c.args.self.now.load c.args.file.0 c.in-Some.maker.0 c.rest_of-before.result
    c.bytes_at-bytes.result c.bound_at.result c.rule_of.result.now.bound c.min.result
    c.min-2.result cut c.bound_at.ensures c.rule_of.ensures.bound c.min.ensures
    c.min-2.ensures c.bytes_at-bytes.ensures in
    passed-loaded P S c.args.self.now.over.items c.args.self.now.left.items
    c.args.self.now.rest.items c.args.self.now.load c.args.file.0 c.in-Some.maker.0
    (c.rest_of-before.result - c.bound_at.result)
    (c.args.self.now.load - (c.bytes_at-bytes.result + (c.min.result - c.min-2.result)))
    c.requires.valid c.requires.inside c.requires.last c.requires.unkept made
    c.requires.loaded (omega (arith, cut.bound, c.bound_at.ensures)) (omega (arith, load))
