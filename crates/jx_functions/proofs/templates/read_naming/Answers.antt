use Rattle.std.proofs.Common.{List, ℕ, Option, string_bytes, subst, ◌∙◌, rules}
use Rattle.jx_meaning.specs.Numbers.{Answer}
use Rattle.jx_meaning.specs.Answers.{Fails}
use Rattle.jx_meaning.specs.Values.{Value, find}
use Rattle.jx_meaning.specs.Texts.{filled, outside}
use Rattle.jx_functions.proofs.Filling.{naming_close, naming_char}
use Rattle.jx_functions.proofs.templates.read_naming.Goals as goal

pub returns-in-Ok : goal.returns-in-Ok
returns-in-Ok g c = λ rest.
    let look : List ℕ → Option Value = λ x. find x (g.N.Names.names c.args.names.now) in
    c.in-Ok.ensures (filled c.args.place look outside rest) ∙ naming_close c.args.place look c.args.draft.now c.args.c (string_bytes c.args.name.now) c.as_str.result.now rest c.in-125.is c.as_str.ensures.value

pub returns-in-Err : goal.returns-in-Err
returns-in-Err g c = λ rest.
    let look : List ℕ → Option Value = λ x. find x (g.N.Names.names c.args.names.now) in
    subst (λ (a : Answer). Fails c.in-Err.fault a) (naming_close c.args.place look c.args.draft.now c.args.c (string_bytes c.args.name.now) c.as_str.result.now rest c.in-125.is c.as_str.ensures.value) (c.in-Err.ensures (filled c.args.place look outside rest))

pub returns-in_ok-push-in_default : goal.returns-in_ok-push-in_default
returns-in_ok-push-in_default g c = λ rest.
    let look : List ℕ → Option Value = λ x. find x (g.N.Names.names c.args.names.now) in
    naming_char c.args.place look c.args.draft.now c.args.c (string_bytes c.args.name.now) (string_bytes c.push.new.self) rest (λ e. search rules) (λ e. search rules) c.in_ok-push-in_default.ensures.bytes
