use Rattle.std.proofs.Common.{◌≡◌, ◌∙◌, ◌++◌, ap, sym, codes}
use Rattle.std.proofs.lemmas.Result.{IfOk-weaker}
use Rattle.flow_types.specs.Names.{name_of}
use Rattle.command_words.specs.Choices.{within_room}
use Rattle.command_words.proofs.LogNames.{log-ending, name_of-ended}
use Rattle.command_words.proofs.names.file_log.Goals as goal

pub returns : goal.returns
returns c =
    let text : c.deref.result.now ≡ c.args.name.now ++ codes ".makeflowlog" =
    c.deref.ensures.value ∙ (c.in_ok-extend_from_slice.ensures.items ∙ ap (λ front. front ++ codes ".makeflowlog") (c.in_ok-text.ensures.items ∙ c.as_bytes.ensures.value)) in
    let log : name_of c.deref.result.now ≡ within_room (c.args.name.now ++ codes ".makeflowlog") =
    ap name_of text ∙ name_of-ended c.args.name.now (codes ".makeflowlog") c.as_bytes.ensures.name log-ending in
    record {
      ok = IfOk-weaker c.name_of.result _ _ (λ name e. sym log ∙ e) c.name_of.ensures.ok;
      usage = λ wrong. sym log ∙ c.name_of.ensures.usage wrong;
    }
