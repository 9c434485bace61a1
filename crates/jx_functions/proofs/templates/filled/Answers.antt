use Rattle.std.proofs.Common.{ℕ, List, Option, length, string_bytes, ap, subst, arith, Result}
use Rattle.std.proofs.lemmas.Iterator.{YieldsList-from_chars}
use Rattle.std.proofs.lemmas.List.{length_push}
use Rattle.std.proofs.lemmas.Iterator.Consumers.{YieldsList-turn, YieldsList-end}
use Rattle.std.specs.Str.{chars}
use Rattle.jx_meaning.specs.declared.fault.EvalFault.{EvalFault}
use Rattle.jx_meaning.specs.Answers.{Gives}
use Rattle.jx_meaning.specs.Values.{Value, plain, find}
use Rattle.jx_functions.specs.declared.templates.Spot.{Spot}
use Rattle.jx_functions.specs.Spots.{spot_of}
use Rattle.jx_functions.proofs.Filling.{all_to_come, char_read, char_fails, ends_well, ends_within, elsewhere}
use Rattle.jx_functions.proofs.templates.filled.Goals as goal

pub loop-c-init : goal.loop-c-init
loop-c-init g c =
    let look : List ℕ → Option Value = λ x. find x (g.N.Names.names c.args.names.now) in
    all_to_come c.args.place look c.args.text.now c.new-draft.result c.utf8.text c.new-draft.ensures

pub loop-c-preserved : goal.loop-c-preserved
loop-c-preserved g c =
    let look : List ℕ → Option Value = λ x. find x (g.N.Names.names c.args.names.now) in
    let t = YieldsList-turn (YieldsList-from_chars c.args.text.now c.utf8.text cc) c.loop-c.yielded _ c.loop-c.yielded_by _ _ c.in-Some.c c.in-Some.is c.next.ensures.steps in
    let n = length_push c.loop-c.yielded c.in-Some.c in
    rw n (char_read c.args.place look c.loop-c.draft c.read.new.draft (spot_of c.loop-c.spot (string_bytes c.loop-c.name)) (spot_of c.in-Ok.next (string_bytes c.read.new.name)) _ (chars c.args.text.now)
    (length c.loop-c.yielded) c.in-Some.c t.0 t.1 c.in-Ok.ensures c.loop-c.invariant)

pub returns-in-Err : goal.returns-in-Err
returns-in-Err g c =
    let look : List ℕ → Option Value = λ x. find x (g.N.Names.names c.args.names.now) in
    let t = YieldsList-turn (YieldsList-from_chars c.args.text.now c.utf8.text cc) c.loop-c.yielded _ c.loop-c.yielded_by _ _ c.in-Some.c c.in-Some.is c.next.ensures.steps in
    char_fails c.args.place look c.loop-c.draft (spot_of c.loop-c.spot (string_bytes c.loop-c.name)) _ (chars c.args.text.now) (length c.loop-c.yielded) c.in-Some.c c.in-Err.fault t.0 t.1 c.in-Err.ensures c.loop-c.invariant

pub returns-in-Outside : goal.returns-in-Outside
returns-in-Outside g c =
    let look : List ℕ → Option Value = λ x. find x (g.N.Names.names c.args.names.now) in
    let t = YieldsList-end (YieldsList-from_chars c.args.text.now c.utf8.text cc) c.loop-c.yielded _ c.loop-c.yielded_by _ _ c.in-None.is c.next.ensures.steps in
    let name = string_bytes c.loop-c.name in
    subst (λ (a : Result Value EvalFault). Gives plain c.into_value.result a)
    (ends_well c.args.place look c.loop-c.draft (spot_of c.loop-c.spot name) _ (chars c.args.text.now) (length c.loop-c.yielded) (omega (arith, t.1)) (ap (λ (s : Spot). spot_of s name) c.in-Outside.is) c.loop-c.invariant)
    c.into_value.ensures

pub returns-in_default : goal.returns-in_default
returns-in_default g c =
    let look : List ℕ → Option Value = λ x. find x (g.N.Names.names c.args.names.now) in
    let t = YieldsList-end (YieldsList-from_chars c.args.text.now c.utf8.text cc) c.loop-c.yielded _ c.loop-c.yielded_by _ _ c.in-None.is c.next.ensures.steps in
    let name = string_bytes c.loop-c.name in
    ends_within c.args.place look c.loop-c.draft (spot_of c.loop-c.spot name) _ (chars c.args.text.now) (length c.loop-c.yielded) (omega (arith, t.1)) (elsewhere c.loop-c.spot name c.in_default.not-Outside) c.loop-c.invariant
