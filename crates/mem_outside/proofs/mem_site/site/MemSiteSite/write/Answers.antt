use Rattle.std.proofs.Common.{◌≡◌, subst, sym, ℕ, List, Some, length, OnOk}
use Rattle.outside.specs.Disk.{IsTorn}
use Rattle.outside.specs.Files.{Files, content, written}
use Rattle.outside.proofs.Moments.{torn_same}
use Rattle.mem_outside.specs.Entries.{with_file}
use Rattle.mem_outside.specs.MemSite.{files_of, start_of, steps_of}
use Rattle.mem_outside.specs.Steps.{reads}
use Rattle.mem_outside.specs.declared.step.Change.TheVariants.{Write}
use Rattle.mem_outside.proofs.FilesByName.{changed_sets}
use Rattle.mem_outside.proofs.Crashes.{kept_follows, torn_written}
use Rattle.mem_outside.proofs.mem_site.site.MemSiteSite.write.Goals as goal

pub returns-clause-files : goal.returns-clause-files
returns-clause-files c =
    let files = files_of c.args.self.now in
    let name = c.args.name.now in
    changed_sets c.keep.result name _ files (files_of c.keep.new.self)
    (subst (λ (bytes : List ℕ). OnOk c.keep.result (files_of c.keep.new.self ≡ with_file name (Some (written c.args.at bytes (content (files name)))) files)) c.in_ok-copy.ensures c.keep.ensures.files)
    c.keep.ensures.same

pub returns-clause-crash : goal.returns-clause-crash
returns-clause-crash c =
    let files = files_of c.args.self.now in
    let name = c.args.name.now in
    let n = length c.args.bytes.now in
    let before = reads (start_of c.args.self.now) (steps_of c.args.self.now) name in
    kept_follows c.keep.result (start_of c.args.self.now) _ (steps_of c.args.self.now) _ (record { call = c.made-call.result; name = name; change = Write c.args.at c.in_ok-copy.copy }) (IsTorn c.args.at n)
    c.keep.ensures.start c.keep.ensures.steps c.keep.ensures.undone
    (λ old new torn. subst (λ (l : List ℕ). IsTorn c.args.at (length l) old new) c.in_ok-copy.ensures torn)
    (subst (λ (l : List ℕ). IsTorn c.args.at n before (Some (written c.args.at l (content before)))) (sym c.in_ok-copy.ensures)
    (subst (λ (f : Files). IsTorn c.args.at n (f name) (Some (written c.args.at c.args.bytes.now (content (f name))))) c.args.self.now.agrees (torn_written c.args.at c.args.bytes.now (files name) c.requires)))
    (torn_same c.args.at n)
