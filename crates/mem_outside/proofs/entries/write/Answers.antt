use Rattle.std.proofs.Common.{rules, ap, sym, ◌≡◌, ◌∙◌, List, ℕ, Option, Some}
use Rattle.std.proofs.lemmas.Result.{on_ok_weaker, on_err_weaker}
use Rattle.outside.specs.Files.{content, written}
use Rattle.mem_outside.specs.Entries.{files_in, with_file}
use Rattle.mem_outside.proofs.FilesByName.{updated_files, with_file-same}
use Rattle.mem_outside.proofs.entries.write.Goals as goal

pub returns-in-Some-clause-ok : goal.returns-in-Some-clause-ok
returns-in-Some-clause-ok c =
    let found : files_in c.args.entries.now c.args.name.now ≡ Some c.in-Some.file.now.items = search rules in
    let updated : files_in (c.get_mut.follows.lender c.overwrite.new.file) ≡ with_file c.args.name.now (Some c.overwrite.new.file.items) (files_in c.args.entries.now) =
    updated_files c.args.name.now c.args.entries.now (c.get_mut.follows.lender c.overwrite.new.file) (Some c.overwrite.new.file) ((c.get_mut.follows.holds c.overwrite.new.file).3 (search rules)) in
    on_ok_weaker c.overwrite.result
    (λ is. updated ∙ ap (λ (bytes : List ℕ). with_file c.args.name.now (Some bytes) (files_in c.args.entries.now))
    (is ∙ ap (λ (f : Option (List ℕ)). written c.args.at c.args.bytes.now (content f)) (sym found)))
    c.overwrite.ensures.ok

pub returns-in-Some-clause-err : goal.returns-in-Some-clause-err
returns-in-Some-clause-err c =
    let found : files_in c.args.entries.now c.args.name.now ≡ Some c.in-Some.file.now.items = search rules in
    let updated : files_in (c.get_mut.follows.lender c.overwrite.new.file) ≡ with_file c.args.name.now (Some c.overwrite.new.file.items) (files_in c.args.entries.now) =
    updated_files c.args.name.now c.args.entries.now (c.get_mut.follows.lender c.overwrite.new.file) (Some c.overwrite.new.file) ((c.get_mut.follows.holds c.overwrite.new.file).3 (search rules)) in
    on_err_weaker c.overwrite.result
    (λ is. updated ∙ with_file-same (files_in c.args.entries.now) c.args.name.now (Some c.overwrite.new.file.items) (found ∙ ap (λ (bytes : List ℕ). Some bytes) (sym is)))
    c.overwrite.ensures.err
