use Rattle.std.proofs.Common.{◌≡◌, length, Some, sym, ap, ◌∙◌, arith}
use Rattle.std.proofs.lemmas.Iterator.{YieldsList-from_chars}
use Rattle.std.proofs.lemmas.Iterator.Consumers.{YieldsList-turn, YieldsList-end}
use Rattle.std.proofs.lemmas.Option.{slice_get-get_or}
use Rattle.std.specs.Prelude.{slice_get}
use Rattle.std.specs.Str.{chars}
use Rattle.jx_values.proofs.Places.{get-past}
use Rattle.jx_values.proofs.parts.char_at.Goals as goal

pub returns-then-at-wanted : goal.returns-then-at-wanted
returns-then-at-wanted c =
    let cs = chars c.args.text.now in
    let t = YieldsList-turn (YieldsList-from_chars c.args.text.now c.utf8.text cc) c.loop-c.yielded _ c.loop-c.yielded_by _ _ c.in-Some.c c.in-Some.is c.next.ensures.steps in
    let n : length c.loop-c.yielded ≡ c.args.wanted = sym c.loop-c.invariant.counted ∙ c.if-at-wanted.true in
    ap Some t.1 ∙ sym (slice_get-get_or cs (length c.loop-c.yielded) c.in-Some.c t.0) ∙ ap (slice_get cs) n

pub returns : goal.returns
returns c =
    let cs = chars c.args.text.now in
    let t = YieldsList-end (YieldsList-from_chars c.args.text.now c.utf8.text cc) c.loop-c.yielded _ c.loop-c.yielded_by _ _ c.in-None.is c.next.ensures.steps in
    sym (get-past cs c.args.wanted (omega (arith, t.1, c.loop-c.invariant.counted, c.loop-c.invariant.ahead)))
