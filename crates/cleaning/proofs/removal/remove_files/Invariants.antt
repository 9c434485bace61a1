use Rattle.std.proofs.Common.{◌≡◌, ◌≤◌, ◌<◌, ℕ}
use Rattle.std.specs.Prelude.{None, Some, slice_get}
use Rattle.file_store.specs.Outputs.{IsOther, file_name}
use Rattle.local_run.specs.Course.{LeavesAlone}
use Rattle.cleaning.specs.Cleanings.{numbers_of}
use Rattle.cleaning.proofs.removal.remove_files.Given as goal

abbrev pub invariant-loop-file : goal.invariant-loop-file
invariant-loop-file g l = record {
  later : g.S.Site.count l.initial.site ≤ g.S.Site.count l.site;
  gone : g.S.Site.tells → (k f : ℕ) → k < l.file-index → slice_get (numbers_of l.files) k ≡ Some f → g.S.Site.files l.site (file_name l.plan f) ≡ None;
  others : g.S.Site.tells → LeavesAlone g.S.Site.files g.S.Site.may_leave g.S.Site.moment g.S.Site.images_since (IsOther l.plan (numbers_of l.files)) l.initial.site l.site;
}
