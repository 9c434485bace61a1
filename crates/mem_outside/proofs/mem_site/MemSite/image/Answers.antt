use Rattle.std.proofs.Common.{rules, ◌≡◌}
use Rattle.mem_outside.specs.Entries.{files_in}
use Rattle.mem_outside.specs.MemSite.{start_of, steps_of, leaves_at, reads_at, synced_at}
use Rattle.mem_outside.specs.StepLaws.{reads_image}
use Rattle.mem_outside.specs.Steps.{up_to}
use Rattle.mem_outside.proofs.Replays.{has_image, has_image_since, synced_image}
use Rattle.mem_outside.proofs.mem_site.MemSite.image.Goals as goal

pub returns-then-is_least-clause-image : goal.returns-then-is_least-clause-image
returns-then-is_least-clause-image c =
    let is : files_in c.in-Ok.field-0.synced ≡ synced_at c.args.call c.args.self.now = search rules in
    has_image c.settled_site.result (leaves_at c.args.call c.args.self.now) (files_in c.in-Ok.field-0.synced)
    (synced_image (start_of c.args.self.now) (up_to c.args.call (steps_of c.args.self.now)) (files_in c.in-Ok.field-0.synced) is) c.settled_site.ensures.files

pub returns-then-is_least-clause-since : goal.returns-then-is_least-clause-since
returns-then-is_least-clause-since c =
    has_image_since c.settled_site.result (start_of c.args.self.now) (steps_of c.args.self.now) c.args.call (returns-then-is_least-clause-image c)

pub returns-clause-image : goal.returns-clause-image
returns-clause-image c =
    let is : files_in c.in-Ok.field-0.written ≡ reads_at c.args.call c.args.self.now = search rules in
    has_image c.settled_site-2.result (leaves_at c.args.call c.args.self.now) (files_in c.in-Ok.field-0.written)
    (reads_image (start_of c.args.self.now) (up_to c.args.call (steps_of c.args.self.now)) (files_in c.in-Ok.field-0.written) is) c.settled_site-2.ensures.files

pub returns-clause-since : goal.returns-clause-since
returns-clause-since c = has_image_since c.settled_site-2.result (start_of c.args.self.now) (steps_of c.args.self.now) c.args.call (returns-clause-image c)
