use Rattle.std.proofs.Common.{◌≡◌, List, ℕ, [], ◌++◌, sym, ap, ◌∙◌, arith}
use Rattle.std.specs.Prelude.{flat_map}
use Rattle.std.proofs.lemmas.List.{nil_from_length}
use Rattle.byte_fields.specs.Spelling.{counted}
use Rattle.wq_messages.specs.Spelling.{most_body}
use Rattle.foreman_run.proofs.Telling.{next_content, others_short, saying_as, says_some}
use Rattle.foreman_run.proofs.voice.say_contents.Goals as goal

pub loop-content-preserved : goal.loop-content-preserved
loop-content-preserved g c =
    let left = c.loop-content.content-iterator.rest.items in
    let others = c.next.new.self.rest.items in
    let h = g.U.Link.history c.loop-content.link in
    record {
      saying = λ first whole t s. c.in-Ok.ensures.saying first whole (flat_map counted others) t
          (next_content g.F.Commands.gives g.F.Commands.may_fail first whole c.loop-content.piece.items c.in-Some.content left others h c.in-Some.ensures.steps.0 (c.loop-content.invariant.saying first whole t s));
      short = others_short c.in-Some.content left others most_body c.in-Some.ensures.steps.0 c.loop-content.invariant.short;
      closed = c.in-Ok.ensures.closed ∙ c.loop-content.invariant.closed;
      later = omega (arith, c.loop-content.invariant.later, c.in-Ok.ensures.cause.later);
    }

pub returns-in-Err-clause-saying : goal.returns-in-Err-clause-saying
returns-in-Err-clause-saying g c = λ first whole t s.
    let left = c.loop-content.content-iterator.rest.items in
    let others = c.next.new.self.rest.items in
    c.in-Err.ensures.saying first whole (flat_map counted others) t
    (next_content g.F.Commands.gives g.F.Commands.may_fail first whole c.loop-content.piece.items c.in-Some.content left others (g.U.Link.history c.loop-content.link) c.in-Some.ensures.steps.0 (c.loop-content.invariant.saying first whole t s))

pub returns-clause-saying : goal.returns-clause-saying
returns-clause-saying g c = λ first whole t s.
    let left = c.loop-content.content-iterator.rest.items in
    let piece = c.loop-content.piece.items in
    let h = g.U.Link.history c.loop-content.link in
    let none : left ≡ [] = nil_from_length left (sym c.loop-content.content-iterator.rest.ok.0 ∙ c.in-None.ensures.steps.0) in
    let same : piece ++ flat_map counted left ≡ c.from_vec.result ++ [] = ap (λ (l : List (List ℕ)). piece ++ flat_map counted l) none ∙ ap (λ (w : List ℕ). w ++ []) (sym c.from_vec.ensures) in
    says_some g.F.Commands.gives g.F.Commands.may_fail first whole c.hand.result c.from_vec.result [] h (g.U.Link.history c.hand.new.self) (c.hand.ensures.history t)
    (saying_as g.F.Commands.gives g.F.Commands.may_fail first whole (piece ++ flat_map counted left) (c.from_vec.result ++ []) h same (c.loop-content.invariant.saying first whole t s))
