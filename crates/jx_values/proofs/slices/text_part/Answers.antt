use Rattle.std.proofs.Common.{◌≡◌, ◌+◌, ◌++◌, ◌∷◌, ℕ, List, length, take, drop, string_bytes, sym, ap, ◌∙◌, arith}
use Rattle.std.specs.Prelude.{flat_map}
use Rattle.std.specs.Char.{encode_utf8}
use Rattle.std.specs.Str.{chars}
use Rattle.std.proofs.lemmas.List.{drop_more, length_push}
use Rattle.std.proofs.lemmas.Iterator.{YieldsList-from_chars}
use Rattle.std.proofs.lemmas.Iterator.Consumers.{YieldsList-turn, YieldsList-end}
use Rattle.jx_values.proofs.Cuts.{all_kept}
use Rattle.jx_values.proofs.slices.text_part.Goals as goal

pub loop-c-preserved : goal.loop-c-preserved
loop-c-preserved c =
    let cs : List ℕ = chars c.args.text.now in
    let t = YieldsList-turn (YieldsList-from_chars c.args.text.now c.utf8.text cc) c.loop-c.yielded _ c.loop-c.yielded_by _ _ c.in-Some.c c.in-Some.is c.next.ensures.steps in
    let n = length c.loop-c.yielded in
    let more : drop n cs ≡ c.in-Some.c ∷ drop (n + 1) cs = drop_more cs n c.in-Some.c t.0 ∙ ap (λ (x : ℕ). x ∷ drop (n + 1) cs) (sym t.1) in
    ap (λ (k : ℕ). string_bytes c.keep.new.out ++ flat_map encode_utf8 (take c.keep.new.left (drop c.keep.new.skip (drop k cs)))) (length_push c.loop-c.yielded c.in-Some.c)
    ∙ c.in_ok-keep.ensures (drop (n + 1) cs)
    ∙ ap (λ (l : List ℕ). string_bytes c.loop-c.out ++ flat_map encode_utf8 (take c.loop-c.left (drop c.loop-c.skip l))) (sym more)
    ∙ c.loop-c.invariant

pub returns : goal.returns
returns c =
    let cs : List ℕ = chars c.args.text.now in
    let t = YieldsList-end (YieldsList-from_chars c.args.text.now c.utf8.text cc) c.loop-c.yielded _ c.loop-c.yielded_by _ _ c.in-None.is c.next.ensures.steps in
    c.from_string.ensures ∙ all_kept (string_bytes c.loop-c.out) (flat_map encode_utf8 (take c.args.len (drop c.args.from cs))) cs (length c.loop-c.yielded) c.loop-c.left c.loop-c.skip (omega (arith, t.1)) c.loop-c.invariant
