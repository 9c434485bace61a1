-- Runs in which no attempt fails and none is given up.
use Rattle.std.proofs.Common.{◌≡◌, ◌∙◌, Bool, true, false, List, [], ◌∷◌, ◌++◌, ap, append_assoc, true≢false}
use Rattle.std.specs.Prelude.{◌||◌}
use Rattle.std.specs.List.{list_any}
use Rattle.flow_types.specs.declared.records.Record.{Record}
use Rattle.local_run.specs.Ends.{is_failed}
use Rattle.local_run.specs.Losses.{is_lost}
use Rattle.wq_run.specs.Calm.{GoesWell, goes_wrong}

all_false : (a b c : Bool) → a ≡ false → b ≡ false → c ≡ false → ((a || b) || c) ≡ false
all_false true b c one two three = absurd (true≢false one)
all_false false true c one two three = absurd (true≢false two)
all_false false false c one two three = three

-- over the records before the one with which the run began
pub well_begun : (H mid all : List Record) (x : Record) → mid ≡ H ++ (x ∷ []) → is_failed x ≡ false → is_lost x ≡ false → GoesWell mid all → GoesWell H all
well_begun H mid all x begun unfailed unlost well = record {
  more = x ∷ well.more;
  are = well.are ∙ ap (λ (G : List Record). G ++ well.more) begun ∙ append_assoc H (x ∷ []) well.more;
  none = all_false (is_failed x) (is_lost x) (list_any goes_wrong well.more) unfailed unlost well.none;
}
