use Rattle.outside.specs.Disk.{IsRemoved}
use Rattle.outside.proofs.Moments.{removed_same}
use Rattle.mem_outside.specs.MemSite.{files_of, start_of, steps_of}
use Rattle.mem_outside.specs.Steps.{reads}
use Rattle.mem_outside.specs.declared.step.Change.TheVariants.{Remove}
use Rattle.mem_outside.proofs.FilesByName.{changed_sets}
use Rattle.mem_outside.proofs.Crashes.{kept_follows, removed_gone}
use Rattle.mem_outside.proofs.mem_site.site.MemSiteSite.remove.Goals as goal

pub returns-clause-files : goal.returns-clause-files
returns-clause-files c = changed_sets c.keep.result c.args.name.now _ (files_of c.args.self.now) (files_of c.keep.new.self) c.keep.ensures.files c.keep.ensures.same

pub returns-clause-crash : goal.returns-clause-crash
returns-clause-crash c =
    kept_follows c.keep.result (start_of c.args.self.now) _ (steps_of c.args.self.now) _ (record { call = c.made-call.result; name = c.args.name.now; change = Remove }) IsRemoved
    c.keep.ensures.start c.keep.ensures.steps c.keep.ensures.undone
    (λ old new removed. removed) (removed_gone (reads (start_of c.args.self.now) (steps_of c.args.self.now) c.args.name.now)) removed_same
