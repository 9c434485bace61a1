use Rattle.std.proofs.Common.{◌∙◌, refl}
use Rattle.mem_outside.specs.MemSite.{files_of, start_of, steps_of}
use Rattle.mem_outside.specs.declared.step.Change.TheVariants.{Sync}
use Rattle.mem_outside.proofs.FilesByName.{synced_same, same_keeps}
use Rattle.mem_outside.proofs.Crashes.{kept_settles}
use Rattle.mem_outside.proofs.mem_site.site.MemSiteSite.sync.Goals as goal

pub returns-clause-files : goal.returns-clause-files
returns-clause-files c =
    same_keeps c.keep.result c.args.name.now (files_of c.args.self.now) (files_of c.keep.new.self)
    (synced_same c.keep.result c.args.name.now (files_of c.args.self.now) (files_of c.keep.new.self) c.keep.ensures.files c.keep.ensures.same)

pub returns-clause-same : goal.returns-clause-same
returns-clause-same c = synced_same c.keep.result c.args.name.now (files_of c.args.self.now) (files_of c.keep.new.self) c.keep.ensures.files c.keep.ensures.same

pub returns-clause-crash : goal.returns-clause-crash
returns-clause-crash c =
    kept_settles c.keep.result (start_of c.args.self.now) _ (steps_of c.args.self.now) _ (record { call = c.made-call.result; name = c.args.name.now; change = Sync }) (files_of c.keep.new.self)
    c.keep.ensures.start c.keep.ensures.steps c.keep.ensures.undone
    (λ old new never. never) (λ entry. refl)
    (synced_same c.keep.result c.args.name.now (files_of c.args.self.now) (files_of c.keep.new.self) c.keep.ensures.files c.keep.ensures.same ∙ c.args.self.now.agrees)
