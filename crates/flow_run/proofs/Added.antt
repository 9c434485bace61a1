-- What a run adds to the records of its log.
use Rattle.std.proofs.Common.{◌≡◌, ◌∙◌, inr, List, [], ◌∷◌, ◌++◌, Result, ap, subst}
use Rattle.flow_types.specs.declared.records.Record.{Record}
use Rattle.run_history.specs.declared.answers.Check.{Check}
use Rattle.run_history.specs.declared.options.Options.{Options}
use Rattle.run_history.specs.Links.{records_of}
use Rattle.desk.specs.State.{DeskState}
use Rattle.local_run.specs.declared.ended.Stopped.{Stopped}
use Rattle.local_run.specs.Added.{AddsBehind, AddsRun, RunAdds}
use Rattle.local_run.specs.Ends.{BeganOver, OpensBy}
use Rattle.local_run.proofs.Going.{records_more}

-- what the run of a desk adds, over the records before the one with which it began
pub adds_begun : {S : Type 0} (O : Options) (H all : List Record) (how : Result Check Stopped) (d : DeskState S) → BeganOver d H → OpensBy O (records_of d.moves) → RunAdds (records_of d.moves) all how → AddsRun O H all how
adds_begun {S} O H all how d began opens runs =
    let x : Record = began.1.0 in
    let these : records_of d.moves ≡ H ++ (x ∷ []) = ap records_of began.1.2 ∙ records_more [] (H ++ (x ∷ [])) in
    inr (record {
      opening = x;
      opens = began.1.1;
      like = subst (OpensBy O) these opens;
      kind = runs.kind;
      is = runs.is;
      adds = subst (λ (G : List Record). AddsBehind G all runs.kind) these runs.adds;
    })
