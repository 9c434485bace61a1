use Rattle.std.proofs.Common.{◌≡◌, ℕ, List, reverse, Option, None, option_map, ap, sym, ◌∙◌}
use Rattle.jx_meaning.specs.declared.fault.EvalFault.TheVariants.{UnknownName}
use Rattle.jx_meaning.specs.Meaning.{known}
use Rattle.jx_meaning.specs.Scopes.{names_of}
use Rattle.jx_meaning.specs.Values.{Value, plain, find}
use Rattle.jx_eval.specs.Machine.{bound_on, unwound}
use Rattle.jx_eval.proofs.Steps.{failed}
use Rattle.jx_eval.proofs.state.State.name.Goals as goal

pub returns-in-None-clause-kept : goal.returns-in-None-clause-kept
returns-in-None-clause-kept c = λ ts.
    let st = c.args.self.now in
    let s = names_of c.args.scope.now in
    let b = bound_on st.local.items s in
    let e : find c.args.name.now b ≡ None = ap (λ (x : List ℕ). find x b) (sym c.as_str.ensures.value) ∙ sym c.in_ok-operand.ensures ∙ ap (option_map plain) c.in-None.is in
    ap (λ (o : Option Value). unwound ts s st.local.items (reverse st.frames.items) (known c.args.place o st.count)) e
    ∙ failed ts s st.local.items (reverse st.frames.items) (UnknownName c.args.place)
