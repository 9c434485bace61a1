use lib.Utf8.{encodes, encode}
use Rattle.std.proofs.Common.{◌≡◌, Bool, ◌++◌, ◌+◌, [], ◌∷◌, length, drop, cond, string_bytes, sym, ap, ◌∙◌, arith}
use Rattle.std.proofs.lemmas.Iterator.{YieldsList-from_chars}
use Rattle.std.proofs.lemmas.Iterator.Consumers.{YieldsList-turn, YieldsList-end}
use Rattle.std.proofs.lemmas.List.{length_push, drop_all, append-nil}
use Rattle.std.proofs.lemmas.Str.{encodes-chars}
use Rattle.std.specs.Str.{chars}
use Rattle.mf_forms.specs.Quotes.{open_behind, placed, placed_behind, without_marks}
use Rattle.mf_forms.proofs.Quoting.{IsMark-behind, kept-step, dropped-step}
use Rattle.mf_forms.proofs.quotes.without_marks.Goals as goal
use Rattle.mf_forms.proofs.quotes.without_marks.Goals.{else-not-is_mark-via-then-not-is_mark+else-is_err, else-not-is_mark-via-else-not-is_mark}

pub loop-c-init : goal.loop-c-init
loop-c-init c = record {
  mark = tt;
  whole = rw c.new-kept.ensures.bytes (ap (λ bs. without_marks (placed bs)) (encodes-chars c.args.text.now c.utf8.text));
}

pub loop-c-preserved : goal.loop-c-preserved
loop-c-preserved c =
    let at = YieldsList-turn (YieldsList-from_chars c.args.text.now c.utf8.text cc) c.loop-c.yielded _ c.loop-c.yielded_by _ _ c.in-Some.c c.in-Some.is c.next.ensures.steps in
    let n : length (c.loop-c.yielded ++ c.in-Some.c ∷ []) ≡ length c.loop-c.yielded + 1 = length_push c.loop-c.yielded c.in-Some.c in
    let stepped : string_bytes c.else-not-is_mark.kept ++ without_marks (placed_behind (open_behind c.loop-c.mark c.in-Some.c) (encodes (drop (length c.loop-c.yielded + 1) (chars c.args.text.now)))) ≡ without_marks (placed c.args.text.now) =
    elim c.else-not-is_mark.branch [
      | else-not-is_mark-via-then-not-is_mark+else-is_err w ↦
          let pushed : string_bytes w.push.new.self ≡ string_bytes c.loop-c.kept ++ encode c.in-Some.c =
          w.push.ensures.bytes ∙ ap (λ (b : Bool). cond b (string_bytes c.loop-c.kept ++ encode c.in-Some.c) (string_bytes c.loop-c.kept)) w.if-is_err.ensures.negation in
          kept-step c.loop-c.mark (chars c.args.text.now) (string_bytes c.loop-c.kept) (string_bytes c.else-not-is_mark.kept) (without_marks (placed c.args.text.now)) (length c.loop-c.yielded) c.in-Some.c c.loop-c.invariant.mark at
          (sym c.is_mark.ensures ∙ w.if-not-is_mark.true) (ap string_bytes w.kept-is ∙ pushed) c.loop-c.invariant.whole
      | else-not-is_mark-via-else-not-is_mark w ↦
          rw w.kept-is (dropped-step c.loop-c.mark (chars c.args.text.now) (string_bytes c.loop-c.kept) (without_marks (placed c.args.text.now)) (length c.loop-c.yielded) c.in-Some.c c.loop-c.invariant.mark at
          (sym c.is_mark.ensures ∙ w.if-not-is_mark.false) c.loop-c.invariant.whole)
    ] in record {
      mark = rw c.open_behind-mark.ensures (IsMark-behind c.loop-c.mark c.in-Some.c c.loop-c.invariant.mark);
      whole = rw (c.open_behind-mark.ensures, n) stepped;
    }

pub returns : goal.returns
returns c =
    let all = YieldsList-end (YieldsList-from_chars c.args.text.now c.utf8.text cc) c.loop-c.yielded _ c.loop-c.yielded_by _ _ c.in-None.is c.next.ensures.steps in
    let none : drop (length c.loop-c.yielded) (chars c.args.text.now) ≡ [] = drop_all (length c.loop-c.yielded) (chars c.args.text.now) (omega (arith, all.1)) in
    sym (append-nil (string_bytes c.loop-c.kept))
    ∙ ap (λ cs. string_bytes c.loop-c.kept ++ without_marks (placed_behind c.loop-c.mark (encodes cs))) (sym none)
    ∙ c.loop-c.invariant.whole
