use Rattle.std.proofs.Common.{ℕ, List, length, ap, ◌∙◌, arith}
use Rattle.std.specs.Str.{chars}
use Rattle.std.proofs.lemmas.Str.{length-le-encodes, encodes-chars}
use Rattle.std.proofs.lemmas.Iterator.{YieldsList-from_chars}
use Rattle.std.proofs.lemmas.Iterator.Consumers.{YieldsList-end}
use Rattle.jx_values.proofs.parts.char_count.Goals as goal

pub returns-clause-value : goal.returns-clause-value
returns-clause-value c =
    let t = YieldsList-end (YieldsList-from_chars c.args.text.now c.utf8.text cc) c.loop-c.yielded _ c.loop-c.yielded_by _ _ c.in-None.is c.next.ensures.steps in
    c.loop-c.invariant ∙ t.1

pub returns-clause-within : goal.returns-clause-within
returns-clause-within c =
    let t = YieldsList-end (YieldsList-from_chars c.args.text.now c.utf8.text cc) c.loop-c.yielded _ c.loop-c.yielded_by _ _ c.in-None.is c.next.ensures.steps in
    let text : List ℕ = c.args.text.now in
    omega (arith, c.loop-c.invariant ∙ t.1, length-le-encodes (chars text), ap (λ (l : List ℕ). length l) (encodes-chars text c.utf8.text))
