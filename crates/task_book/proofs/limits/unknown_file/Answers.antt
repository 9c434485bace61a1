use Rattle.std.proofs.Common.{◌∙◌, Bool, Some, ap, arith, cond, drop, ◌+◌, sym}
use Rattle.std.proofs.lemmas.Bool.{le-ltb, lt-ltb}
use Rattle.task_book.specs.Submissions.{unknown_file}
use Rattle.task_book.proofs.Sizes.{unknown_step}
use Rattle.task_book.proofs.limits.unknown_file.Goals as goal

pub returns-then-port-count : goal.returns-then-port-count
returns-then-port-count c =
    let p = c.port-item.result in
    let i = c.loop-port.port-index in
    let step = unknown_step c.args.count c.args.ports.now i p (omega arith) c.port-item.is in
    let past = le-ltb p.file.0 c.args.count (omega arith) in
    sym (sym c.loop-port.invariant ∙ step ∙ ap (λ (b : Bool). cond b (unknown_file c.args.count (drop (i + 1) c.args.ports.now)) (Some p.file)) past)

pub loop-port-preserved : goal.loop-port-preserved
loop-port-preserved c =
    let p = c.port-item.result in
    let i = c.loop-port.port-index in
    let step = unknown_step c.args.count c.args.ports.now i p (omega arith) c.port-item.is in
    let there = lt-ltb p.file.0 c.args.count (omega arith) in
    sym (step ∙ ap (λ (b : Bool). cond b (unknown_file c.args.count (drop (i + 1) c.args.ports.now)) (Some p.file)) there) ∙ c.loop-port.invariant
