use Rattle.std.proofs.Common.{◌≡◌, ℕ, List, ◌∷◌, [], ◌++◌, length, Option, OnOk, ap, subst, ◌∙◌, arith}
use Rattle.std.proofs.lemmas.Iterator.{YieldsList-from_chars}
use Rattle.std.proofs.lemmas.List.{length_push}
use Rattle.std.proofs.lemmas.Iterator.Consumers.{YieldsList-turn, YieldsList-end}
use Rattle.std.specs.List.{flat_map}
use Rattle.std.specs.Str.{chars}
use Rattle.jx_syntax.specs.Written.{char_text}
use Rattle.jx_functions.specs.Drafts.{extended}
use Rattle.jx_functions.proofs.Drafting.{twice, one_char, no_char}
use Rattle.jx_functions.proofs.draft.Draft.add_quoted.Goals as goal

pub loop-c-preserved : goal.loop-c-preserved
loop-c-preserved c =
    let t = YieldsList-turn (YieldsList-from_chars c.args.text.now c.utf8.text cc) c.loop-c.yielded _ c.loop-c.yielded_by _ _ c.in-Some.c c.in-Some.is c.next.ensures.steps in
    let n = length_push c.loop-c.yielded c.in-Some.c in
    rw n (one_char char_text c.loop-c.self c.add_quoted_char.new.self _ (chars c.args.text.now) (34 ∷ []) (length c.loop-c.yielded) c.in-Some.c t.0 t.1 c.in_ok-add_quoted_char.ensures c.loop-c.invariant)

pub returns : goal.returns
returns c =
    let t = YieldsList-end (YieldsList-from_chars c.args.text.now c.utf8.text cc) c.loop-c.yielded _ c.loop-c.yielded_by _ _ c.in-None.is c.next.ensures.steps in
    let cs : List ℕ = chars c.args.text.now in
    let whole : List ℕ = flat_map char_text cs ++ 34 ∷ [] in
    subst (λ (o : Option (List ℕ)). OnOk c.add-2.result (c.add-2.new.self ≡ o))
    (no_char char_text c.loop-c.self _ cs (34 ∷ []) (length c.loop-c.yielded) (omega (arith, t.1)) c.loop-c.invariant
    ∙ ap (λ (o : Option (List ℕ)). extended o whole) c.in_ok-add.ensures ∙ twice c.args.self.now (34 ∷ []) whole)
    c.add-2.ensures
