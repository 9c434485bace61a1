use Rattle.std.proofs.Common.{◌≡◌, List, [], map, reverse, ap, subst, ◌∙◌, arith}
use Rattle.std.proofs.lemmas.List.{nil_from_length}
use Rattle.jx_syntax.specs.declared.value.JxValue.{JxValue}
use Rattle.jx_meaning.specs.Meaning.{Outcome}
use Rattle.jx_meaning.specs.Values.{Value, plain}
use Rattle.jx_eval.specs.declared.frame.Bound.{Bound}
use Rattle.jx_eval.specs.declared.frame.Turn.{Turn}
use Rattle.jx_eval.specs.Operands.{seen_value}
use Rattle.jx_eval.specs.Machine.{Keeps, bound_on, finished, unwound, around, outside_of, turns_of, turn_of}
use Rattle.jx_meaning.specs.Meaning.{and_then}
use Rattle.jx_eval.proofs.Loops.{loop-ends, loop-turns, loops-end}
use Rattle.jx_eval.proofs.state.State.next_turn.Goals as goal

pub returns-in-Some-2-clause-kept : goal.returns-in-Some-2-clause-kept
returns-in-Some-2-clause-kept c = λ ts s.
    let st = c.loops.self in
    let m = c.loops.making in
    let t = c.in-Some.turn in
    let l : List Bound = c.truncate.new.self.items in
    let xs : List Turn = c.pop.new.self.items in
    let done : List Value = map plain m.done in
    let v : JxValue = seen_value c.in-Some-2.value in
    let first = rw c.in-Some-2.is at c.in_ok-value.ensures in
    subst (λ (o : Outcome Value). Keeps ts s c.take_turn.new.self c.take_turn.result o)
    (ap (λ (b : List Bound). unwound ts s (outside_of m.depth b (reverse xs)) (reverse st.frames.items)
    (and_then (turn_of ts (bound_on b s) m.place m.body t (plain v) done st.count) (λ done n. and_then (turns_of ts (bound_on b s) m.place m.body (record t { left = c.next.new.self }) done n) (around ts s b m.place m.body m.depth m.rest.now (reverse xs))))) c.truncate.ensures.items
    ∙ loop-turns ts s (reverse st.frames.items) st.local.items m.place m.body m.depth m.rest.now xs m.loops.items t done st.count c.in-Some.ensures.items v c.next.new.self first
    ∙ c.loops.invariant.same ts s)
    (c.take_turn.ensures.kept ts s)

pub loops-preserved-in-None : goal.loops-preserved-in-None
loops-preserved-in-None c =
    let st = c.loops.self in
    let m = c.loops.making in
    let t = c.in-Some.turn in
    let xs : List Turn = c.pop.new.self.items in
    let done : List Value = map plain m.done in
    let none = rw c.in-None.is at c.in_ok-value.ensures in
    record {
      frames = c.loops.invariant.frames;
      count = c.loops.invariant.count;
      same = λ ts s.
          ap (λ (b : List Bound). unwound ts s (outside_of m.depth b (reverse xs)) (reverse st.frames.items) (around ts s b m.place m.body m.depth m.rest.now (reverse xs) done st.count)) c.truncate.ensures.items
          ∙ loop-ends ts s (reverse st.frames.items) st.local.items m.place m.body m.depth m.rest.now xs m.loops.items t done st.count c.in-Some.ensures.items none
          ∙ c.loops.invariant.same ts s;
    }

pub loops-preserved : goal.loops-preserved
loops-preserved c =
    let st = c.loops.self in
    let m = c.loops.making in
    let t = c.in-Some.turn in
    let xs : List Turn = c.pop.new.self.items in
    let done : List Value = map plain m.done in
    let none = rw c.in-None.is at c.in_ok-value.ensures in
    record {
      frames = c.loops.invariant.frames;
      count = c.loops.invariant.count;
      same = λ ts s.
          ap (λ (b : List Bound). unwound ts s (outside_of m.depth b (reverse xs)) (reverse st.frames.items) (around ts s b m.place m.body m.depth m.rest.now (reverse xs) done st.count)) c.truncate.ensures.items
          ∙ loop-ends ts s (reverse st.frames.items) st.local.items m.place m.body m.depth m.rest.now xs m.loops.items t done st.count c.in-Some.ensures.items none
          ∙ c.loops.invariant.same ts s;
    }

pub returns-clause-kept : goal.returns-clause-kept
returns-clause-kept c = λ ts s.
    let st = c.loops.self in
    let m = c.loops.making in
    let done : List Value = map plain m.done in
    let none : m.loops.items ≡ [] = nil_from_length m.loops.items (omega (arith, c.in_default.ensures.len, c.in_default.ensures.cases.0, m.loops.ok.0)) in
    subst (λ (o : Outcome Value). Keeps ts s c.next_item.new.self c.next_item.result o)
    (ap (λ (b : List Bound). unwound ts s b (reverse st.frames.items) (finished ts (bound_on b s) m.place m.rest.now done st.count)) c.truncate-2.ensures.items
    ∙ loops-end ts s (reverse st.frames.items) st.local.items m.place m.body m.depth m.rest.now m.loops.items done st.count none
    ∙ c.loops.invariant.same ts s)
    (c.next_item.ensures.kept ts s)
