use lib.Utf8
use Rattle.std.proofs.Common.{◌≡◌, ℕ, List, [], ◌∷◌, drop, Some, sym, ap, lit<, ◌∙◌}
use Rattle.std.proofs.lemmas.Str.Pattern.{strip_prefix_char}
use Rattle.std.specs.List.{prefix_len}
use Rattle.mf_text.specs.Names.{continues_name}
use Rattle.mf_text.specs.Expansion.{Piece, named, between}
use Rattle.mf_text.proofs.Cutting.{Lacks-behind, Lacks-drop, after_dollar-name, after_dollar-other}
use Rattle.mf_text.proofs.parts.dollar_part.Goals as goal

pub returns-in-Some-strip_prefix-clause-missing : goal.returns-in-Some-strip_prefix-clause-missing
returns-in-Some-strip_prefix-clause-missing c =
    let begins : c.args.text.now ≡ 40 ∷ c.in-Some-strip_prefix.behind.now = strip_prefix_char 40 c.args.text.now (Some c.in-Some-strip_prefix.behind) c.in-Some-strip_prefix.ensures.cases (lit< tt) in (
      c.marked_part.ensures.lacks,
      Lacks-behind c.args.missing.now.brace 125 40 (between 41 c.in-Some-strip_prefix.behind.now).1 c.args.text.now c.in-Some-strip_prefix.behind.now c.marked_part.result.1.now begins c.marked_part.ensures.rest c.requires.1,
    )

pub returns-in-Some-strip_prefix-2-clause-missing : goal.returns-in-Some-strip_prefix-2-clause-missing
returns-in-Some-strip_prefix-2-clause-missing c =
    let begins : c.args.text.now ≡ 123 ∷ c.in-Some-strip_prefix-2.behind.now = strip_prefix_char 123 c.args.text.now (Some c.in-Some-strip_prefix-2.behind) c.in-Some-strip_prefix-2.ensures.cases (lit< tt) in (
      Lacks-behind c.args.missing.now.parenthesis 41 123 (between 125 c.in-Some-strip_prefix-2.behind.now).1 c.args.text.now c.in-Some-strip_prefix-2.behind.now c.marked_part-in-Some-strip_prefix-2.result.1.now begins c.marked_part-in-Some-strip_prefix-2.ensures.rest c.requires.0,
      c.marked_part-in-Some-strip_prefix-2.ensures.lacks,
    )

pub returns-in-Some-split_name-clause-part : goal.returns-in-Some-split_name-clause-part
unfolding lib.Utf8.encode
returns-in-Some-split_name-clause-part c =
    ap (λ (x : List ℕ). named x ∷ []) c.in-Some-split_name.ensures.name
    ∙ ap (λ (p : Piece × ℕ). p.0 ∷ []) (sym (after_dollar-name c.args.text.now c.in_default.ensures.cases c.in_default-strip_prefix.ensures.cases c.in_default-strip_prefix-2.ensures.cases c.in-Some-split_name.ensures.begins))

pub returns-in-Some-split_name-clause-rest : goal.returns-in-Some-split_name-clause-rest
unfolding lib.Utf8.encode
returns-in-Some-split_name-clause-rest c =
    c.in-Some-split_name.ensures.rest
    ∙ ap (λ (p : Piece × ℕ). drop p.1 c.args.text.now) (sym (after_dollar-name c.args.text.now c.in_default.ensures.cases c.in_default-strip_prefix.ensures.cases c.in_default-strip_prefix-2.ensures.cases c.in-Some-split_name.ensures.begins))

pub returns-in-Some-split_name-clause-missing : goal.returns-in-Some-split_name-clause-missing
returns-in-Some-split_name-clause-missing c = (
  Lacks-drop c.args.missing.now.parenthesis 41 (prefix_len continues_name c.args.text.now) c.args.text.now c.in-Some-split_name.rest.now c.in-Some-split_name.ensures.rest c.requires.0,
  Lacks-drop c.args.missing.now.brace 125 (prefix_len continues_name c.args.text.now) c.args.text.now c.in-Some-split_name.rest.now c.in-Some-split_name.ensures.rest c.requires.1,
)

pub returns-in-None-clause-part : goal.returns-in-None-clause-part
unfolding lib.Utf8.encode
returns-in-None-clause-part c =
    ap (λ (p : Piece × ℕ). p.0 ∷ []) (sym (after_dollar-other c.args.text.now c.in_default.ensures.cases c.in_default-strip_prefix.ensures.cases c.in_default-strip_prefix-2.ensures.cases c.in-None.ensures.begins))

pub returns-in-None-clause-rest : goal.returns-in-None-clause-rest
unfolding lib.Utf8.encode
returns-in-None-clause-rest c =
    ap (λ (p : Piece × ℕ). drop p.1 c.args.text.now) (sym (after_dollar-other c.args.text.now c.in_default.ensures.cases c.in_default-strip_prefix.ensures.cases c.in_default-strip_prefix-2.ensures.cases c.in-None.ensures.begins))
