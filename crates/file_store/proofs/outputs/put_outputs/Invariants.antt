use Rattle.std.proofs.Common.{◌≤◌, ◌≡◌, ℕ, List}
use Rattle.flow_types.specs.Plans.{files_of}
use Rattle.outside.specs.Disk.{LeavesOnly}
use Rattle.file_store.specs.Outputs.{IsOther, Last, StayBeside, IsBeside}
use Rattle.file_store.proofs.outputs.put_outputs.Given as goal

abbrev pub invariant-loop-i : goal.invariant-loop-i
invariant-loop-i g l = record {
  later : g.S.Site.count l.initial.site ≤ g.S.Site.count l.site;
  ample : g.S.Site.ample l.initial.site → g.S.Site.ample l.site;
  durable : g.S.Site.tells → Last l.plan (files_of l.ports) l.outs l.i (g.S.Site.may_leave l.site);
  others : g.S.Site.tells → (m : List ℕ) → IsOther l.plan (files_of l.ports) m → g.S.Site.files l.site m ≡ g.S.Site.files l.initial.site m;
  crash : g.S.Site.tells → StayBeside l.plan (files_of l.ports) (g.S.Site.may_leave l.initial.site) (g.S.Site.may_leave l.site);
  any_moment : g.S.Site.tells → LeavesOnly g.S.Site.moment g.S.Site.images_since l.initial.site l.site (IsBeside l.plan (files_of l.ports) (g.S.Site.may_leave l.initial.site));
}
