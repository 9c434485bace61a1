use Rattle.mem_outside.proofs.Copies.{all_same, copy_files}
use Rattle.mem_outside.proofs.entries.copy.Goals as goal

pub returns : goal.returns
returns c =
    copy_files c.clone.result c.args.entries.now _ _ _ (λ v w is. all_same _ (λ x y same. same) v.items w.items is.0) (λ v w is. all_same _ (λ x y same. same) v.items w.items is.0)
    c.clone.ensures.cases
