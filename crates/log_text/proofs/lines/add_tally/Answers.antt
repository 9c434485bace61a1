use Rattle.std.proofs.Common.{◌≡◌, ◌++◌, List, ℕ, OnOk, length, ap, subst, ◌∙◌}
use Rattle.log_text.specs.declared.counts.Counts.{Counts}
use Rattle.log_text.specs.Tallies.{counts_text}
use Rattle.log_text.proofs.Counting.{counts-told}
use Rattle.log_text.proofs.lines.add_tally.Goals as goal

pub returns : goal.returns
returns c H told =
    let counts : counts_text c.counts.result c.len.result ≡ counts_text c.args.tally.now.counts (length c.args.plan.now.rules) =
    ap (λ (n : Counts). counts_text n c.len.result) c.counts.ensures ∙ ap (counts_text c.args.tally.now.counts) c.len.ensures in
    subst (λ (text : List ℕ). OnOk c.add_counts.result (c.add_counts.new.out.items ≡ c.args.out.now.items ++ text))
    (counts ∙ counts-told c.args.plan.now H c.args.tally.now c.requires told) c.add_counts.ensures
