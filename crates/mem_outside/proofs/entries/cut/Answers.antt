use Rattle.std.proofs.Common.{rules, ap, sym, ◌≡◌, ◌∙◌, List, ℕ, Option, Some, take, option_map}
use Rattle.mem_outside.specs.Entries.{files_in, with_file}
use Rattle.mem_outside.proofs.FilesByName.{updated_files}
use Rattle.mem_outside.proofs.entries.cut.Goals as goal

pub returns-in-Some : goal.returns-in-Some
returns-in-Some c =
    let found : files_in c.args.entries.now c.args.name.now ≡ Some c.in-Some.file.now.items = search rules in
    updated_files c.args.name.now c.args.entries.now (c.get_mut.follows.lender c.truncate.new.self) (Some c.truncate.new.self) ((c.get_mut.follows.holds c.truncate.new.self).3 (search rules))
    ∙ ap (λ (value : Option (List ℕ)). with_file c.args.name.now value (files_in c.args.entries.now))
    (ap (λ (bytes : List ℕ). Some bytes) c.truncate.ensures.items ∙ ap (λ (f : Option (List ℕ)). option_map (λ (bytes : List ℕ). take c.args.len bytes) f) (sym found))
