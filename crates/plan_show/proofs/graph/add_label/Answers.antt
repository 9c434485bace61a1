use Rattle.std.proofs.Common.{length, string_bytes, arith}
use Rattle.std.proofs.lemmas.Iterator.{YieldsList-from_chars}
use Rattle.std.proofs.lemmas.List.{length_push}
use Rattle.std.proofs.lemmas.Iterator.Consumers.{YieldsList-turn, YieldsList-end}
use Rattle.std.specs.Str.{chars}
use Rattle.plan_show.specs.Graph.{dot_char}
use Rattle.plan_show.proofs.Writing.{flat_map-more, flat_map-end}
use Rattle.plan_show.proofs.graph.add_label.Goals as goal

pub loop-c-preserved : goal.loop-c-preserved
loop-c-preserved c =
    let t = YieldsList-turn (YieldsList-from_chars c.args.text.now c.utf8.text cc) c.loop-c.yielded _ c.loop-c.yielded_by _ _ c.in-Some.c c.in-Some.is c.next.ensures.steps in
    let n = length_push c.loop-c.yielded c.in-Some.c in
    let cs = chars c.args.text.now in
    let at = length c.loop-c.yielded in
    rw n (flat_map-more dot_char (string_bytes c.loop-c.out) (string_bytes c.add_dot_char.new.out) _ cs at c.in-Some.c t.0 t.1 c.in_ok-add_dot_char.ensures c.loop-c.invariant)

pub returns : goal.returns
returns c =
    let t = YieldsList-end (YieldsList-from_chars c.args.text.now c.utf8.text cc) c.loop-c.yielded _ c.loop-c.yielded_by _ _ c.in-None.is c.next.ensures.steps in
    let cs = chars c.args.text.now in
    flat_map-end dot_char (string_bytes c.loop-c.out) _ cs (length c.loop-c.yielded) (omega (arith, t.1)) c.loop-c.invariant
