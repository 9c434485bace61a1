use Rattle.std.proofs.Common.{◌≡◌, ℕ, List, ap, ◌∙◌, sym, refl}
use Rattle.std.specs.Str.{bytes_eq}
use Rattle.jx_meaning.specs.Values.{find}
use Rattle.jx_eval.proofs.Names.{found-more, bound-nil}
use Rattle.jx_eval.proofs.state.last_of.Goals as goal
use Rattle.jx_eval.proofs.state.last_of.Goals.{then-eq, else-eq}

pub loop-binding-init : goal.loop-binding-init
loop-binding-init c = λ s. ap (find c.args.name.now) (bound-nil s)

pub loop-binding-preserved : goal.loop-binding-preserved
loop-binding-preserved c = λ s.
    let b = c.binding-item.result in
    let m = found-more c.args.name.now c.args.bindings.now c.loop-binding.binding-index b s c.loop-binding-test.true c.binding-item.is in
    let d : bytes_eq b.name.now c.args.name.now ≡ c.eq.result = ap (λ (x : List ℕ). bytes_eq x c.args.name.now) (sym c.as_str.ensures.value) ∙ sym c.eq.ensures in
    elim c.if-eq.branch [
      | then-eq w ↦ rw (m, d, w.if-eq.true, w.found-is) refl
      | else-eq w ↦ rw (m, d, w.if-eq.false, w.found-is) (c.loop-binding.invariant s)
    ]
