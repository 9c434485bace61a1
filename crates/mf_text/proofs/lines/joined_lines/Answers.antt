use Rattle.std.proofs.Common.{◌≡◌, ℕ, Option, None, ◌∷◌, ◌++◌, [], List, Ok, length, sym, ap, ◌∙◌, arith, string_bytes, Vec, Global, true, false}
use Rattle.std.specs.Str.Lines.{lines}
use Rattle.std.proofs.lemmas.List.{length_push, at_drop_all, append-nil}
use Rattle.std.proofs.lemmas.Iterator.Splits.{YieldsList-from_lines}
use Rattle.std.proofs.lemmas.Iterator.Consumers.{YieldsList-turn, YieldsList-end}
use Rattle.mf_text.specs.declared.lines.Line.{Line}
use Rattle.mf_text.specs.declared.lines.Open.{Open}
use Rattle.mf_text.specs.Lines.{continued, finished, joined, goes_on, body}
use Rattle.mf_text.proofs.Joining.{marked, ended}
use Rattle.mf_text.proofs.lines.joined_lines.Goals as goal
use Rattle.mf_text.proofs.lines.joined_lines.Goals.{then-goes_on, else-goes_on+in_ok-closed+in_ok-push, in-Some-pending+in_ok-closed-2+in_ok-push-2, in_default}

pub loop-line-preserved : goal.loop-line-preserved
loop-line-preserved c =
    let t = YieldsList-turn (YieldsList-from_lines c.args.source.now cc) c.loop-line.yielded _ c.loop-line.yielded_by _ _ c.in-Some.line c.in-Some.is c.next.ensures.steps in
    let n = length_push c.loop-line.yielded c.in-Some.line in
    let now : Open = c.in_ok-current.current in
    let step : (rest : List Line) → continued now.number (string_bytes now.text) rest ≡ finished c.loop-line.pending (continued c.loop-line.number (body c.in-Some.line.now) rest) = λ rest.
    c.in_ok-current.ensures.joined rest
    ∙ ap (λ (o : Option Open). finished o (continued c.loop-line.number c.split_mark-goes_on.result.0.now rest)) c.take.ensures.value
    ∙ ap (λ (b : List ℕ). finished c.loop-line.pending (continued c.loop-line.number b rest)) c.split_mark-goes_on.ensures.body in
    record {
      counted = omega arith;
      whole = elim c.if-goes_on.branch [
        | then-goes_on w ↦
            let mark : goes_on c.in-Some.line.now ≡ true = sym c.split_mark-goes_on.ensures.mark ∙ w.if-goes_on.true in
            rw (n, w.done-is, w.pending-is) (ap (λ (x : List Line). c.loop-line.done.items ++ x)
            (marked c.loop-line.pending c.loop-line.number (lines c.args.source.now) (length c.loop-line.yielded) c.in-Some.line.now now t.0 t.1 mark step) ∙ c.loop-line.invariant.whole)
        | else-goes_on+in_ok-closed+in_ok-push w ↦
            let mark : goes_on c.in-Some.line.now ≡ false = sym c.split_mark-goes_on.ensures.mark ∙ w.if-goes_on.false in
            let none : c.if-goes_on.pending ≡ None = w.pending-is ∙ c.take.ensures.after in
            let made : Line = record { number = now.number; text = string_bytes now.text } in
            let done : c.if-goes_on.done.items ≡ c.loop-line.done.items ++ made ∷ [] = ap (λ (v : Vec Line Global). v.items) w.done-is ∙ w.in_ok-push.ensures.items
            ∙ ap (λ (x : Line). c.loop-line.done.items ++ x ∷ []) w.in_ok-closed.ensures.line in
            rw (n, done, none) (ended c.loop-line.done.items c.loop-line.pending c.loop-line.number (lines c.args.source.now) (length c.loop-line.yielded) c.in-Some.line.now made t.0 t.1 mark step ∙ c.loop-line.invariant.whole)
      ];
    }

pub returns : goal.returns
unfolding joined
returns c =
    let t = YieldsList-end (YieldsList-from_lines c.args.source.now cc) c.loop-line.yielded _ c.loop-line.yielded_by _ _ c.in-None.is c.next.ensures.steps in
    let all : List Line = joined 1 (lines c.args.source.now) in
    let whole : c.loop-line.done.items ++ finished c.loop-line.pending [] ≡ all = rw (at_drop_all (joined c.loop-line.number) (lines c.args.source.now) (length c.loop-line.yielded) (omega (arith, t.1))) at c.loop-line.invariant.whole in
    let same : c.match-pending-5.done.items ≡ all = elim c.match-pending-5.branch [
      | in-Some-pending+in_ok-closed-2+in_ok-push-2 w ↦
          let o : Open = w.in-Some-pending.last in
          ap (λ (v : Vec Line Global). v.items) w.done-is ∙ w.in_ok-push-2.ensures.items
          ∙ ap (λ (x : Line). c.loop-line.done.items ++ x ∷ []) w.in_ok-closed-2.ensures.line
          ∙ ap (λ (p : Option Open). c.loop-line.done.items ++ finished p []) (sym w.in-Some-pending.is) ∙ whole
      | in_default w ↦
          ap (λ (v : Vec Line Global). v.items) w.done-is ∙ sym (append-nil c.loop-line.done.items)
          ∙ ap (λ (p : Option Open). c.loop-line.done.items ++ finished p []) (sym w.in_default.is) ∙ whole
    ] in
    ap (λ (x : List Line). Ok x) (sym same)
