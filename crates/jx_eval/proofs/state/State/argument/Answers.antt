use Rattle.std.proofs.Common.{◌∷◌, [], List, map, reverse, ap, subst, ◌∙◌}
use Rattle.std.proofs.lemmas.List.{map-append}
use Rattle.jx_meaning.specs.Meaning.{Outcome}
use Rattle.jx_meaning.specs.Scopes.{names_of}
use Rattle.jx_meaning.specs.Values.{Value, plain}
use Rattle.jx_eval.specs.Machine.{Keeps, called, bound_on, after, unwound}
use Rattle.jx_eval.proofs.state.State.argument.Goals as goal

pub returns-clause-kept : goal.returns-clause-kept
unfolding after
returns-clause-kept c = λ ts.
    let st = c.args.self.now in
    let s = names_of c.args.scope.now in
    let k = c.args.call in
    subst (λ (o : Outcome Value). Keeps ts s c.next_argument.new.self c.next_argument.result o)
    (ap (λ (vs : List Value). unwound ts s st.local.items (reverse st.frames.items) (called ts (bound_on st.local.items s) k.place k.name.now k.rest.now vs st.count))
    (ap (map plain) c.in_ok-push.ensures.items ∙ map-append plain k.done.items (c.args.operand ∷ [])))
    (c.next_argument.ensures.kept ts)
