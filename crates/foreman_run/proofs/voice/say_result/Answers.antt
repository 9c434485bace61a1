use Rattle.std.proofs.Common.{◌≡◌, List, ℕ, ◌++◌, length, Result, Err, refl, sym, ap, ◌∙◌, subst}
use Rattle.std.specs.Prelude.{flat_map}
use Rattle.std.proofs.lemmas.Result.{err_from_is_err_and}
use Rattle.byte_fields.specs.Spelling.{counted}
use Rattle.flow_types.specs.declared.job.Outcome.TheVariants as outcomes
use Rattle.flow_types.specs.declared.messages.Message.{Message}
use Rattle.flow_types.specs.declared.messages.Message.TheVariants as messages
use Rattle.links.specs.Passings.{sent_in}
use Rattle.message_forms.specs.Streams.{framed}
use Rattle.outside.specs.declared.fault.Fault.{Fault}
use Rattle.foreman_run.specs.Says.{SaysOne, result_head}
use Rattle.foreman_run.proofs.Telling.{result_framed, result_whole, saying_as, saying_first, says_one}
use Rattle.foreman_run.proofs.voice.say_result.Goals as goal

pub returns-in_err-head-clause-one : goal.returns-in_err-head-clause-one
returns-in_err-head-clause-one g c =
    let m : Message = messages.Done c.args.attempt (outcomes.Success c.args.contents) in
    let old = g.U.Link.history c.args.link.now in
    let p = err_from_is_err_and c.from_residual.result c.from_residual.ensures.1 in
    let r : Result (Unit {0}) Fault = Err p.0 in
    subst (λ (x : Result (Unit {0}) Fault). SaysOne g.F.Commands.gives g.F.Commands.may_fail g.U.Link.tells m old old x) (sym p.1)
    (says_one g.F.Commands.gives g.F.Commands.may_fail g.U.Link.tells m old old r (λ t. result_framed c.args.attempt c.args.contents c.result_head.ensures.fits c.requires.told) (λ t. (framed m, saying_first g.F.Commands.gives g.F.Commands.may_fail old (sent_in old ++ framed m) (framed m) refl)))

pub returns-clause-one : goal.returns-clause-one
returns-clause-one g c =
    let attempt = c.args.attempt in
    let contents = c.args.contents in
    let m : Message = messages.Done attempt (outcomes.Success contents) in
    let old = g.U.Link.history c.args.link.now in
    let whole = sent_in old ++ framed m in
    let all = flat_map counted contents in
    let head : c.in_ok-head.head.items ≡ result_head attempt (length contents) (length all) =
    c.in_ok-head.ensures.head ∙ ap (λ (n : ℕ). result_head attempt n c.size_of-size.result) c.len.ensures
    ∙ ap (λ (n : ℕ). result_head attempt (length contents) n) (c.size_of-size.ensures ∙ ap (λ (cs : List (List ℕ)). length (flat_map counted cs)) c.as_slice.ensures) in
    let same : framed m ≡ c.in_ok-head.head.items ++ all = sym (ap (λ (w : List ℕ). w ++ all) head ∙ result_whole attempt contents) in
    says_one g.F.Commands.gives g.F.Commands.may_fail g.U.Link.tells m old (g.U.Link.history c.say_contents.new.link) c.say_contents.result (λ t. result_framed attempt contents c.result_head.ensures.fits c.requires.told)
    (λ t. c.say_contents.ensures.saying old whole t (saying_as g.F.Commands.gives g.F.Commands.may_fail old whole (framed m) (c.in_ok-head.head.items ++ all) old same (saying_first g.F.Commands.gives g.F.Commands.may_fail old whole (framed m) refl)))
