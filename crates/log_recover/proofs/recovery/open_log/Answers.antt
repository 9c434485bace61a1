use Rattle.std.proofs.Common.{◌∙◌, ap, sym, subst, Option, List, ℕ}
use Rattle.outside.specs.Files.{Files, content}
use Rattle.log_recover.specs.Recovery.{Resumes}
use Rattle.log_recover.proofs.Recoveries.{all_same, always_ok, recovers_long}
use Rattle.log_recover.proofs.recovery.open_log.Goals as goal

pub returns-in-Some-clause-answer : goal.returns-in-Some-clause-answer
returns-in-Some-clause-answer g c told =
    recovers_long (g.S.Site.files c.args.site.now c.args.name) c.in-Some.len c.resume.result (sym c.in-Some.is ∙ c.in_ok-size.ensures.size told) c.if-len-gt-MOST_UNBEGUN.true
    (subst (λ (e : Option (List ℕ)). Resumes (content e) c.resume.result) (c.in_ok-size.ensures.same told) (c.resume.ensures.answer told))

pub returns-in-Some-clause-same : goal.returns-in-Some-clause-same
returns-in-Some-clause-same g c =
    always_ok c.resume.result (λ told begun m. ap (λ (f : Files). f m) (c.resume.ensures.quiet told).same
    ∙ all_same (g.S.Site.files c.args.site.now) (g.S.Site.files c.settle.new.site) c.args.name (c.in_ok-size.ensures.same told) (c.settle.ensures.others told) m)
