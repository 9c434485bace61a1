use Rattle.std.proofs.Common.{rules, ◌≡◌, ◌∙◌, ◌++◌, length, take, drop, sym, ap}
use Rattle.std.proofs.lemmas.List.{take_at}
use Rattle.archive_run.proofs.Crews.{crew_all, crew_one}
use Rattle.archive_run.proofs.Moved.{moved, retold}
use Rattle.archive_run.proofs.over.call_over.Goals as goal

-- over the plain runners
pub returns-in_default-clause-ends : goal.returns-in_default-clause-ends
returns-in_default-clause-ends g c =
    retold _ (λ job. g.T.Trust.trusts) (λ job trusts. crew_all (λ r. g.R.Runner.tells r job) c.args.runners.items (c.requires.tells trusts job)) c.run_alone.ensures.ends

-- over those that ask the archive first
pub returns : goal.returns
returns g c =
    let ends = c.makeflow_top-ended.ensures.ends in
    let now = c.makeflow_top-ended.new.runners in
    let over = c.cover.new.over in
    let start : c.as_mut_slice.result.now ≡ c.args.runners.items = search rules in
    let long : length now ≡ over.len = search rules in
    let behind : c.uncover.new.runners.items ≡ now =
    c.uncover.ensures.runners ∙ ap (λ back. back ++ take over.len (now ++ drop (length now) over.items)) c.requires.empty ∙ take_at now (drop (length now) over.items) over.len long in
    record {
      ends = moved start (sym behind) (retold _ (λ job. g.T.Trust.trusts) (λ job trusts. crew_one g.T.Trust.trusts c.as_mut_slice.result.now trusts) ends);
      count = search rules;
    }
