use Rattle.std.proofs.Common.{◌≡◌, subst, Some, List, ℕ}
use Rattle.mem_outside.specs.Entries.{files_in, with_file}
use Rattle.mem_outside.proofs.FilesByName.{updated_files}
use Rattle.mem_outside.proofs.entries.put.Goals as goal

pub returns-clause-ok : goal.returns-clause-ok
returns-clause-ok c =
    subst (λ (name : List ℕ). files_in c.insert.new.self ≡ with_file name (Some c.args.content.now) (files_in c.args.entries.now)) c.in_ok-key.ensures.items
    (subst (λ (bytes : List ℕ). files_in c.insert.new.self ≡ with_file c.in_ok-key.key.items (Some bytes) (files_in c.args.entries.now)) c.in_ok-copy.ensures.items
    (updated_files c.in_ok-key.key.items c.args.entries.now c.insert.new.self _ c.in_ok-insert.ensures.updates))
