use Rattle.std.proofs.Common.{◌≡◌, ◌∙◌, ◌++◌, ℕ, List, length, ap, sym, arith}
use Rattle.std.specs.Prelude.{filter, slice_get}
use Rattle.flow_types.specs.declared.plan.Plan.{Plan}
use Rattle.flow_types.specs.Plans.{file_numbers, numbers}
use Rattle.cleaning.specs.Cleanings.{numbers_of}
use Rattle.cleaning.specs.Present.{is_there, put_where}
use Rattle.cleaning.proofs.Listed.{present_by, there_few, there_inside, there_more}
use Rattle.cleaning.proofs.present.present_made.Goals as goal

pub loop-file-preserved : goal.loop-file-preserved
loop-file-preserved c = record {
  these = c.in_ok-put_present.ensures ∙ ap (λ (l : List ℕ). l ++ put_where (is_there c.args.table.now c.loop-file.file) c.loop-file.file) c.loop-file.invariant.these ∙ sym (there_more c.args.table.now c.loop-file.file);
}

all_numbers : (c : goal.After-loop-file) → c.loop-file.file ≡ length c.args.table.now.plan.files
all_numbers c =
    let many = c.file_count-file-end.ensures.count in
    let same = ap (λ (P : Plan). length P.files) c.plan.ensures.plan in
    omega (arith, many, same, c.loop-file-test.false, c.loop-file.auto.file-end)

all_there : (c : goal.After-loop-file) → numbers_of c.loop-file.files ≡ filter (is_there c.args.table.now) (file_numbers c.args.table.now.plan)
all_there c = c.loop-file.invariant.these ∙ ap (λ (n : ℕ). filter (is_there c.args.table.now) (numbers n)) (all_numbers c)

pub returns-clause-these : goal.returns-clause-these
returns-clause-these c H stands = all_there c ∙ present_by c.args.table.now H stands

pub returns-clause-inside : goal.returns-clause-inside
returns-clause-inside c k f is = there_inside c.args.table.now k f (sym (ap (λ (l : List ℕ). slice_get l k) (all_there c)) ∙ is)

pub returns-clause-few : goal.returns-clause-few
returns-clause-few c =
    let le = there_few c.args.table.now c.loop-file.files (all_there c) in
    let few = c.file_count-file-end.ensures.few in
    let many = c.file_count-file-end.ensures.count in
    let same = ap (λ (P : Plan). length P.files) c.plan.ensures.plan in
    omega (arith, le, few, many, same)
