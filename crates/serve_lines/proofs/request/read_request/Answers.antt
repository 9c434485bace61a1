use Rattle.std.proofs.Common.{◌≡◌, sym, ap, ◌∙◌, subst, true≢false}
use Rattle.std.proofs.lemmas.Bool.{le-ltb}
use Rattle.std.proofs.lemmas.Str.{is_utf8-from_IsUtf8}
use Rattle.flow_types.proofs.Joins.{is_utf8-none}
use Rattle.serde_json.specs.Read.{read}
use Rattle.serde_json.specs.View.{view}
use Rattle.serve_lines.specs.declared.request.Request.{Request}
use Rattle.serve_lines.specs.Answers.{Gives}
use Rattle.serve_lines.specs.Requests.{Found, request_in, request_of, request_read}
use Rattle.serve_lines.proofs.Whole.{of_text, no_text}
use Rattle.serve_lines.proofs.request.read_request.Goals as goal

pub returns-in_default : goal.returns-in_default
returns-in_default c = no_text c.args.line.now (le-ltb _ _ c.if-line-gt-MOST_LINE.false) (is_utf8-none c.args.line.now c.in_default.ensures.cases.0)

pub returns-in-Ok-from_str : goal.returns-in-Ok-from_str
returns-in-Ok-from_str c =
    let line = c.args.line.now in
    let short = le-ltb _ _ c.if-line-gt-MOST_LINE.false in
    let good = is_utf8-from_IsUtf8 _ c.in-Ok.ensures.cases.1 in
    let is : request_of line ≡ request_in (view c.in-Ok-from_str.object) =
    of_text line short good ∙ ap request_read (ap read (sym c.in-Ok.ensures.cases.0) ∙ c.in-Ok-from_str.ensures.ok) in
    subst (λ (given : Found Request). Gives (λ r. r) c.request_in.result given) (sym is) c.request_in.ensures

pub returns-else-is_memory : goal.returns-else-is_memory
returns-else-is_memory c =
    let line = c.args.line.now in
    let short = le-ltb _ _ c.if-line-gt-MOST_LINE.false in
    let good = is_utf8-from_IsUtf8 _ c.in-Ok.ensures.cases.1 in
    let none = c.in-Err.ensures.err (λ lack. true≢false (sym (c.if-is_memory.ensures.1 lack))) in
    of_text line short good ∙ ap request_read (ap read (sym c.in-Ok.ensures.cases.0) ∙ none)
