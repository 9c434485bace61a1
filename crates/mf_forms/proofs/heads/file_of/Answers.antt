use Rattle.std.proofs.Common.{sym, ◌∙◌}
use Rattle.mf_forms.specs.Quotes.{placed, without_marks}
use Rattle.mf_forms.proofs.Arrows.{file-alone, file-around}
use Rattle.mf_forms.proofs.heads.file_of.Goals as goal

pub returns-in-None : goal.returns-in-None
returns-in-None c =
    file-alone (without_marks (placed c.args.item.now)) c.deref.result.now c.in_ok-local-in-None.local (c.deref.ensures ∙ c.in_ok-item.ensures) (c.in_ok-local-in-None.ensures ∙ (c.deref-in-None.ensures ∙ sym c.deref.ensures)) c.in-None.ensures.cases

pub returns : goal.returns
returns c =
    file-around (without_marks (placed c.args.item.now)) c.deref.result.now c.in_ok-local-in-Some.local c.in-Some.local.now c.in-Some.remote.now c.in_ok-remote-in-Some.remote (c.deref.ensures ∙ c.in_ok-item.ensures) c.in-Some.ensures.cases c.in_ok-local-in-Some.ensures c.in_ok-remote-in-Some.ensures
