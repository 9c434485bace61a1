use Rattle.std.proofs.Common.{◌≡◌, ◌<◌, ◌∙◌, List, arith, subst, sym, true}
use Rattle.std.specs.List.{AllByRecursion}
use Rattle.wq_company.specs.Rounds.{IsIdleHall}
use Rattle.wq_submit.specs.Queues.{IsStaffed}
use Rattle.wq_company.proofs.Reading.{both_first, both_second}
use Rattle.wq_submit.proofs.Waiting.{trusted_work}
use Rattle.task_book.specs.Kept.{Kept, is_end}
use Rattle.wq_company.proofs.Knowing.{Within, known_on}
use Rattle.wq_submit.proofs.Staffing.{met_many}
use Rattle.wq_submit.proofs.queue.Queue.round.Goals as goal

pub returns-in-Ok-meet-clause-trusted : goal.returns-in-Ok-meet-clause-trusted
returns-in-Ok-meet-clause-trusted g c fair trusted =
    c.meet.ensures.trusted fair (trusted_work g.H.Way.Link.tells g.F.Commands.gives g.F.Commands.may_fail g.H.Way.Link.history g.H.Way.Link.honest c.args.self.now c.work.new.self
    c.work.ensures.right c.work.ensures.links c.work.ensures.files trusted)

pub returns-in-Err-meet-clause-trusted : goal.returns-in-Err-meet-clause-trusted
returns-in-Err-meet-clause-trusted g c fair trusted =
    c.meet.ensures.trusted fair (trusted_work g.H.Way.Link.tells g.F.Commands.gives g.F.Commands.may_fail g.H.Way.Link.history g.H.Way.Link.honest c.args.self.now c.work.new.self
    c.work.ensures.right c.work.ensures.links c.work.ensures.files trusted)

pub returns-in-Ok-meet-clause-idle : goal.returns-in-Ok-meet-clause-idle
returns-in-Ok-meet-clause-idle g c is =
    let both = sym c.with.ensures ∙ is in
    let links = c.in-Ok.ensures.idle (both_first c.in-Ok.read.was_idle c.in-Ok-meet.met.was_idle both) in
    let met = c.in-Ok-meet.ensures.idle (both_second c.in-Ok.read.was_idle c.in-Ok-meet.met.was_idle both) in
    record {
      links = subst (λ (ways : List g.row.H-Way.Denot). AllByRecursion (λ way. 0 < g.H.Way.Link.idle_count way) ways) (sym met.0) links;
      hall = subst (λ (ways : List g.row.H-Way.Denot). IsIdleHall (g.H.Hall.idle_count c.args.hall.now) (g.H.Hall.idle_count c.meet.new.hall) ways) (sym met.0) met.1;
    }

pub returns-in-Ok-meet-clause-staffed : goal.returns-in-Ok-meet-clause-staffed
returns-in-Ok-meet-clause-staffed g c least is =
    let work = c.in-Ok.ensures.staffed least is.links in
    let now : IsStaffed g.H.Way.Link.sure g.H.Way.Link.offers g.H.Hall.manned g.H.Hall.staffed least c.args.hall.now c.work.new.self = record {
      met = met_many g.H.Way.Link.sure g.H.Way.Link.offers g.H.Hall.manned g.H.Hall.staffed least c.args.hall.now c.args.self.now.live c.work.new.self.live work.1 is.met;
      links = work.0;
      tasks = known_on (Within least) c.args.self.now.kept c.work.new.self.kept c.work.ensures.work is.tasks;
    } in
    c.in-Ok-meet.ensures.staffed least now

pub returns-in-Err-meet-clause-staffed : goal.returns-in-Err-meet-clause-staffed
returns-in-Err-meet-clause-staffed g c least is =
    let work = c.in-Ok.ensures.staffed least is.links in
    let now : IsStaffed g.H.Way.Link.sure g.H.Way.Link.offers g.H.Hall.manned g.H.Hall.staffed least c.args.hall.now c.work.new.self = record {
      met = met_many g.H.Way.Link.sure g.H.Way.Link.offers g.H.Hall.manned g.H.Hall.staffed least c.args.hall.now c.args.self.now.live c.work.new.self.live work.1 is.met;
      links = work.0;
      tasks = known_on (Within least) c.args.self.now.kept c.work.new.self.kept c.work.ensures.work is.tasks;
    } in
    c.in-Err-meet.ensures.staffed least now

pub returns-in-Ok-meet-clause-manned : goal.returns-in-Ok-meet-clause-manned
returns-in-Ok-meet-clause-manned g c least is idle =
    let work = c.in-Ok.ensures.staffed least is.links in
    let now : IsStaffed g.H.Way.Link.sure g.H.Way.Link.offers g.H.Hall.manned g.H.Hall.staffed least c.args.hall.now c.work.new.self = record {
      met = met_many g.H.Way.Link.sure g.H.Way.Link.offers g.H.Hall.manned g.H.Hall.staffed least c.args.hall.now c.args.self.now.live c.work.new.self.live work.1 is.met;
      links = work.0;
      tasks = known_on (Within least) c.args.self.now.kept c.work.new.self.kept c.work.ensures.work is.tasks;
    } in
    let both = sym c.with.ensures ∙ idle in
    let some = c.in-Ok-meet.ensures.manned least now.met (both_second c.in-Ok.read.was_idle c.in-Ok-meet.met.was_idle both) in
    let many = work.1 in
    subst (λ (k : Kept). AllByRecursion (λ h. is_end h.stage ≡ true) k.held) (sym c.meet.ensures.kept)
    (c.in-Ok.ensures.manned least is.links is.tasks (omega (arith, some, many)) (both_first c.in-Ok.read.was_idle c.in-Ok-meet.met.was_idle both))
