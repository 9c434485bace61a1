use Rattle.std.proofs.Common.{sym, ◌∙◌}
use Rattle.mf_forms.proofs.Runs.{words-none, words-next}
use Rattle.mf_forms.proofs.blanks.next_word.Goals as goal

pub returns-then-is_empty-clause-words : goal.returns-then-is_empty-clause-words
returns-then-is_empty-clause-words c = words-none c.args.text.now c.split_word.result.0.now c.split_word.ensures.word (sym c.is_empty.ensures ∙ c.if-is_empty.true)

pub returns-then-is_empty-clause-shorter : goal.returns-then-is_empty-clause-shorter
returns-then-is_empty-clause-shorter c = words-none c.args.text.now c.split_word.result.0.now c.split_word.ensures.word (sym c.is_empty.ensures ∙ c.if-is_empty.true)

pub returns-else-is_empty-clause-words : goal.returns-else-is_empty-clause-words
returns-else-is_empty-clause-words c =
    words-next c.args.text.now c.split_word.result.0.now c.split_word.result.1.now c.split_word.ensures.word c.split_word.ensures.rest (sym c.is_empty.ensures ∙ c.if-is_empty.false)
