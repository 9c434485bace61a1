use Rattle.std.proofs.Common.{◌≡◌, subst, Option, List, ℕ, OnOk}
use Rattle.outside.specs.Disk.{IsShortened}
use Rattle.outside.proofs.Moments.{shortened_same}
use Rattle.mem_outside.specs.Entries.{with_file}
use Rattle.mem_outside.specs.MemSite.{files_of, start_of, steps_of}
use Rattle.mem_outside.specs.Steps.{reads}
use Rattle.mem_outside.specs.declared.step.Change.TheVariants.{Cut}
use Rattle.mem_outside.proofs.FilesByName.{changed_sets}
use Rattle.mem_outside.proofs.Crashes.{kept_follows, shortened_cut, cut_there}
use Rattle.mem_outside.proofs.mem_site.site.MemSiteSite.cut.Goals as goal

pub returns-clause-files : goal.returns-clause-files
returns-clause-files c =
    let files = files_of c.args.self.now in
    let name = c.args.name.now in
    changed_sets c.keep.result name _ files (files_of c.keep.new.self)
    (subst (λ (value : Option (List ℕ)). OnOk c.keep.result (files_of c.keep.new.self ≡ with_file name value files)) (cut_there c.args.len (files name) c.requires.there) c.keep.ensures.files)
    c.keep.ensures.same

pub returns-clause-crash : goal.returns-clause-crash
returns-clause-crash c =
    kept_follows c.keep.result (start_of c.args.self.now) _ (steps_of c.args.self.now) _ (record { call = c.made-call.result; name = c.args.name.now; change = Cut c.args.len }) (IsShortened c.args.len)
    c.keep.ensures.start c.keep.ensures.steps c.keep.ensures.undone
    (λ old new short. short) (shortened_cut c.args.len (reads (start_of c.args.self.now) (steps_of c.args.self.now) c.args.name.now)) (shortened_same c.args.len)
