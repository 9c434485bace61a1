use Rattle.std.proofs.Common.{List, drop, length, ap, subst, arith, Result, Bor}
use Rattle.std.proofs.lemmas.Iterator.{YieldsList-from_chars}
use Rattle.std.proofs.lemmas.List.{length_push, length-drop}
use Rattle.std.proofs.lemmas.Iterator.Consumers.{YieldsList-turn, YieldsList-end}
use Rattle.std.specs.Str.{chars}
use Rattle.jx_syntax.specs.declared.value.JxValue.{JxValue}
use Rattle.jx_meaning.specs.declared.fault.EvalFault.{EvalFault}
use Rattle.jx_meaning.specs.Answers.{Gives}
use Rattle.jx_meaning.specs.Values.{Value, plain}
use Rattle.jx_functions.proofs.Marks.{all_to_come, mark_read, mark_fails, mark_begun, char_kept, ends_lone, ends_spare, ends_well}
use Rattle.jx_functions.proofs.formats.formatted.Goals as goal

pub loop-c-init : goal.loop-c-init
loop-c-init c = record {
  within = omega arith;
  text = all_to_come c.args.place c.args.text.now c.args.values.now c.new-draft.result c.utf8.text c.new-draft.ensures;
}

pub returns-in-Err : goal.returns-in-Err
returns-in-Err c =
    let t = YieldsList-turn (YieldsList-from_chars c.args.text.now c.utf8.text cc) c.loop-c.yielded _ c.loop-c.yielded_by _ _ c.in-Some.c c.in-Some.is c.next.ensures.steps in
    mark_fails c.args.place c.loop-c.draft _ (chars c.args.text.now) (length c.loop-c.yielded) c.in-Some.c (drop c.loop-c.used c.args.values.now) c.split_at.result.1.now c.loop-c.behind_mark c.in-Err.fault t.0 t.1
    c.if-behind_mark.true c.split_at.ensures.back c.in-Err.ensures.text c.loop-c.invariant.text

pub loop-c-preserved-then-behind_mark : goal.loop-c-preserved-then-behind_mark
loop-c-preserved-then-behind_mark c =
    let t = YieldsList-turn (YieldsList-from_chars c.args.text.now c.utf8.text cc) c.loop-c.yielded _ c.loop-c.yielded_by _ _ c.in-Some.c c.in-Some.is c.next.ensures.steps in
    let n = length_push c.loop-c.yielded c.in-Some.c in
    record {
      within = omega (arith, c.loop-c.invariant.within, c.in-Ok.ensures.within, c.split_at.ensures.back_len, length-drop c.loop-c.used c.args.values.now, ap (λ (l : List (Bor JxValue)). length l) c.split_at.ensures.back);
      text = rw n (mark_read c.args.place c.loop-c.draft c.write_mark.new.draft _ (chars c.args.text.now) (length c.loop-c.yielded) c.in-Some.c c.loop-c.used c.in-Ok.taken c.args.values.now c.split_at.result.1.now c.loop-c.behind_mark t.0 t.1
          c.if-behind_mark.true c.split_at.ensures.back c.in-Ok.ensures.text c.loop-c.invariant.text);
    }

pub loop-c-preserved-then-c-eq37 : goal.loop-c-preserved-then-c-eq37
loop-c-preserved-then-c-eq37 c =
    let t = YieldsList-turn (YieldsList-from_chars c.args.text.now c.utf8.text cc) c.loop-c.yielded _ c.loop-c.yielded_by _ _ c.in-Some.c c.in-Some.is c.next.ensures.steps in
    let n = length_push c.loop-c.yielded c.in-Some.c in
    record {
      within = c.loop-c.invariant.within;
      text = rw n (mark_begun c.args.place c.loop-c.draft _ (chars c.args.text.now) (length c.loop-c.yielded) c.in-Some.c (drop c.loop-c.used c.args.values.now) c.loop-c.behind_mark t.0 t.1 c.if-behind_mark.false
          c.if-c-eq37.true c.loop-c.invariant.text);
    }

pub loop-c-preserved : goal.loop-c-preserved
loop-c-preserved c =
    let t = YieldsList-turn (YieldsList-from_chars c.args.text.now c.utf8.text cc) c.loop-c.yielded _ c.loop-c.yielded_by _ _ c.in-Some.c c.in-Some.is c.next.ensures.steps in
    let n = length_push c.loop-c.yielded c.in-Some.c in
    record {
      within = c.loop-c.invariant.within;
      text = rw n (char_kept c.args.place c.loop-c.draft c.add_char.new.self _ (chars c.args.text.now) (length c.loop-c.yielded) c.in-Some.c (drop c.loop-c.used c.args.values.now) c.loop-c.behind_mark t.0 t.1 c.if-behind_mark.false
          c.if-c-eq37.false c.in_ok-add_char.ensures c.loop-c.invariant.text);
    }

pub returns-then-behind_mark-2 : goal.returns-then-behind_mark-2
returns-then-behind_mark-2 c =
    let t = YieldsList-end (YieldsList-from_chars c.args.text.now c.utf8.text cc) c.loop-c.yielded _ c.loop-c.yielded_by _ _ c.in-None.is c.next.ensures.steps in
    ends_lone c.args.place c.loop-c.draft _ (chars c.args.text.now) (length c.loop-c.yielded) (drop c.loop-c.used c.args.values.now) c.loop-c.behind_mark (omega (arith, t.1)) c.if-behind_mark-2.true c.loop-c.invariant.text

pub returns-then-used-values : goal.returns-then-used-values
returns-then-used-values c =
    let t = YieldsList-end (YieldsList-from_chars c.args.text.now c.utf8.text cc) c.loop-c.yielded _ c.loop-c.yielded_by _ _ c.in-None.is c.next.ensures.steps in
    ends_spare c.args.place c.loop-c.draft _ (chars c.args.text.now) (length c.loop-c.yielded) (drop c.loop-c.used c.args.values.now) c.loop-c.behind_mark (omega (arith, t.1)) c.if-behind_mark-2.false
    (λ e. let lt = c.if-used-values.true in omega (arith, e, lt, length-drop c.loop-c.used c.args.values.now)) c.loop-c.invariant.text

pub returns : goal.returns
returns c =
    let t = YieldsList-end (YieldsList-from_chars c.args.text.now c.utf8.text cc) c.loop-c.yielded _ c.loop-c.yielded_by _ _ c.in-None.is c.next.ensures.steps in
    subst (λ (g : Result Value EvalFault). Gives plain c.into_value.result g)
    (ends_well c.args.place c.loop-c.draft _ (chars c.args.text.now) (length c.loop-c.yielded) (drop c.loop-c.used c.args.values.now) c.loop-c.behind_mark (omega (arith, t.1)) c.if-behind_mark-2.false
    (let le = c.if-used-values.false in omega (arith, le, length-drop c.loop-c.used c.args.values.now)) c.loop-c.invariant.text)
    c.into_value.ensures
