use Rattle.std.proofs.Common.{ℕ, List, Ok, Err, sym, ap, ◌∙◌}
use Rattle.std.proofs.lemmas.Bool.{le-ltb}
use Rattle.std.proofs.lemmas.Str.{is_utf8-from_IsUtf8, IsUtf8-from_is_utf8}
use Rattle.std.specs.Str.{is_utf8}
use Rattle.mf_text.specs.declared.fault.MakeFault.TheVariants.{NotUtf8}
use Rattle.mf_text.specs.declared.lines.Line.{Line}
use Rattle.mf_text.proofs.Joining.{not_true}
use Rattle.mf_text.proofs.lines.logical_lines.Goals as goal

pub returns-in_ok-joined_lines-in-Ok : goal.returns-in_ok-joined_lines-in-Ok
returns-in_ok-joined_lines-in-Ok c =
    let small = le-ltb _ _ c.if-text-gt-MAX_TEXT.false in
    let good = is_utf8-from_IsUtf8 _ c.in-Ok.ensures.cases.1 in
    rw (small, good, ← c.in-Ok.ensures.cases.0) (c.in_ok-joined_lines-in-Ok.ensures ∙ ap (λ (x : List Line). Ok x) (sym c.of.ensures))

pub returns-in-Err : goal.returns-in-Err
returns-in-Err c =
    let small = le-ltb _ _ c.if-text-gt-MAX_TEXT.false in
    let bad = not_true (is_utf8 c.args.text.now) (λ e. c.in-Err.ensures.cases.0 (IsUtf8-from_is_utf8 _ e)) in
    rw (small, bad) (ap (λ (n : ℕ). Err (NotUtf8 n)) (sym (c.valid_up_to.ensures ∙ c.in-Err.ensures.valid_len)))
