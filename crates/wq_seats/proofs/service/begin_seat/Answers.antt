use Rattle.std.proofs.Common.{◌≡◌, ◌+◌, ◌∙◌, [], Option, Some, false, ap, arith, sym, subst, true≢false}
use Rattle.std.specs.Prelude.{IfSome, slice_get}
use Rattle.std.specs.Option.{option_copied}
use Rattle.peers.specs.declared.leave.Leave.TheVariants as leaves
use Rattle.peers.proofs.Serving.{at_ok}
use Rattle.task_book.specs.declared.task.Held.{Held}
use Rattle.task_book.specs.declared.task.Submission.{Submission}
use Rattle.task_book.specs.Stages.{Runs}
use Rattle.wq_seats.specs.Works.{IsKnown}
use Rattle.wq_seats.specs.Turns.{StaysSureAt}
use Rattle.wq_seats.proofs.Going.{goes_then, waits_goes}
use Rattle.wq_seats.proofs.Hearing.{where_ok}
use Rattle.wq_seats.proofs.Keeping.{begins_none, begins_not, begins_run, has_none, if_some, keeps_same, keeps_then, sure_on}
use Rattle.wq_seats.proofs.Speaking.{works_later}
use Rattle.wq_seats.proofs.service.begin_seat.Goals as goal

pub returns-in_default-clause-served : goal.returns-in_default-clause-served
returns-in_default-clause-served g c tells one was here =
    works_later g.F.Commands.gives g.F.Commands.may_fail g.L.Link.history c.args.files.now c.args.book.now.held c.args.attempt.0 (1 + c.args.attempt.0) c.args.seat.now (omega arith) (was here)

pub returns-in_default-clause-keeps : goal.returns-in_default-clause-keeps
returns-in_default-clause-keeps g c =
    begins_none (slice_get c.args.book.now.held c.args.at) c.args.attempt c.args.book.now.held c.args.seat.now (sym c.task.ensures.task ∙ ap option_copied c.in_default.is)

pub returns-in_default-clause-busy : goal.returns-in_default-clause-busy
returns-in_default-clause-busy g c =
    subst (λ (p : Option Held). IfSome p (λ h. c.args.seat.now.gone ≡ false → c.args.seat.now.runs ≡ [] → ⊥)) (sym (sym c.task.ensures.task ∙ ap option_copied c.in_default.is)) tt

pub returns-then-is_gone-clause-goes : goal.returns-then-is_gone-clause-goes
returns-then-is_gone-clause-goes g c = waits_goes c.args.book.now c.wait_again.new.self _ _ c.wait_again.ensures.held

pub returns-then-is_gone-clause-served : goal.returns-then-is_gone-clause-served
returns-then-is_gone-clause-served g c tells one was here = absurd (true≢false (sym c.if-is_gone.true ∙ c.is_gone.ensures ∙ here))

pub returns-then-is_gone-clause-keeps : goal.returns-then-is_gone-clause-keeps
returns-then-is_gone-clause-keeps g c =
    let there : slice_get c.args.book.now.held c.args.at ≡ Some c.in-Some.held.now = sym c.task.ensures.task ∙ ap option_copied c.in-Some.is in
    begins_not (slice_get c.args.book.now.held c.args.at) c.in-Some.held.now c.args.attempt c.args.book.now.held c.args.book.now.held c.wait_again.new.self.held c.args.seat.now c.args.seat.now there
    (keeps_same c.args.book.now.held c.args.seat.now) c.wait_again.ensures.stops

pub returns-then-is_gone-clause-busy : goal.returns-then-is_gone-clause-busy
returns-then-is_gone-clause-busy g c =
    if_some (slice_get c.args.book.now.held c.args.at) (λ h. c.args.seat.now.gone ≡ false → c.args.seat.now.runs ≡ [] → ⊥) (λ h lives none. true≢false (sym c.if-is_gone.true ∙ c.is_gone.ensures ∙ lives))

pub returns-in-Ok-clause-served : goal.returns-in-Ok-clause-served
returns-in-Ok-clause-served g c tells one was here =
    let held = c.args.book.now.held in
    let attempt = c.args.attempt in
    let there : slice_get c.args.book.now.held c.args.at ≡ Some c.in-Some.held.now = sym c.task.ensures.task ∙ ap option_copied c.in-Some.is in
    let own = subst (λ (p : Option Held). IfSome p (λ h. (s : Submission) → Runs held attempt s → s ≡ h.task)) there one in
    let lives : c.args.seat.now.gone ≡ false = sym c.is_gone.ensures ∙ c.if-is_gone.false in
    c.in-Ok.ensures.works held tells own (was lives)

pub returns-in-Ok-clause-keeps : goal.returns-in-Ok-clause-keeps
returns-in-Ok-clause-keeps g c =
    let there : slice_get c.args.book.now.held c.args.at ≡ Some c.in-Some.held.now = sym c.task.ensures.task ∙ ap option_copied c.in-Some.is in
    begins_run (slice_get c.args.book.now.held c.args.at) c.in-Some.held.now c.args.attempt c.args.book.now.held c.args.seat.now c.begin.new.self there c.begin.ensures.gone (sym c.is_gone.ensures ∙ c.if-is_gone.false)
    c.begin.ensures.keeps c.in-Ok.ensures.run

pub returns-in-Ok-clause-calm : goal.returns-in-Ok-clause-calm
returns-in-Ok-clause-calm g c least known served sure =
    let before = c.args.seat.now in
    let lives : before.gone ≡ false = sym c.is_gone.ensures ∙ c.if-is_gone.false in
    let link = sure lives in
    let tells = (c.honest_links_were_honest.ensures before.peer.way (c.sure_links_are_orderly.ensures before.peer.way link.surely).0).0 in
    record { surely = λ here. sure_on g.L.Link.honest g.L.Link.sure g.L.Link.offers least before.peer.way c.begin.new.self.peer.way c.begin.ensures.on link; gone = c.begin.ensures.gone }

pub returns-in-Ok-clause-busy : goal.returns-in-Ok-clause-busy
returns-in-Ok-clause-busy g c =
    if_some (slice_get c.args.book.now.held c.args.at) (λ h. c.begin.new.self.gone ≡ false → c.begin.new.self.runs ≡ [] → ⊥) (λ h lives none. has_none _ _ c.begin.new.self.runs c.in-Ok.ensures.run none)

pub returns-in-Err-clause-goes : goal.returns-in-Err-clause-goes
returns-in-Err-clause-goes g c = goes_then c.args.book.now c.leave.new.book c.wait_again-in-Err.new.self c.leave.ensures.goes (waits_goes c.leave.new.book c.wait_again-in-Err.new.self _ _ c.wait_again-in-Err.ensures.held)

pub returns-in-Err-clause-keeps : goal.returns-in-Err-clause-keeps
returns-in-Err-clause-keeps g c =
    let there : slice_get c.args.book.now.held c.args.at ≡ Some c.in-Some.held.now = sym c.task.ensures.task ∙ ap option_copied c.in-Some.is in
    begins_not (slice_get c.args.book.now.held c.args.at) c.in-Some.held.now c.args.attempt c.args.book.now.held c.leave.new.book.held c.wait_again-in-Err.new.self.held c.args.seat.now c.leave.new.self there
    (keeps_then c.args.book.now.held c.args.book.now.held c.leave.new.book.held c.args.seat.now c.begin.new.self c.leave.new.self
    (λ id attempt run. (run, λ here. (c.begin.ensures.gone ∙ here.0, c.begin.ensures.keeps id attempt here.1))) c.leave.ensures.keeps) c.wait_again-in-Err.ensures.stops

pub returns-in-Err-clause-calm : goal.returns-in-Err-clause-calm
returns-in-Err-clause-calm g c least known served sure =
    let before = c.args.seat.now in
    let lives : before.gone ≡ false = sym c.is_gone.ensures ∙ c.if-is_gone.false in
    let link = sure lives in
    let tells = (c.honest_links_were_honest.ensures before.peer.way (c.sure_links_are_orderly.ensures before.peer.way link.surely).0).0 in
    let there : slice_get c.args.book.now.held c.args.at ≡ Some c.in-Some.held.now = sym c.task.ensures.task ∙ ap option_copied c.in-Some.is in
    let files_are = subst (λ (p : Option Held). IfSome p (λ h. IsKnown c.args.files.now h.task)) there known in
    at_ok (c.in-Err.leave ≡ leaves.Memory → ⊥) (StaysSureAt g.L.Link.sure g.L.Link.offers least before c.leave.new.self) c.left_for.result
    (λ never. absurd (never (c.in-Err.ensures.calm c.args.book.now.held tells (served tells lives) link.surely files_are))) c.left_for.ensures

pub returns-in-Err-clause-busy : goal.returns-in-Err-clause-busy
returns-in-Err-clause-busy g c =
    where_ok c.left_for.result
    (if_some (slice_get c.args.book.now.held c.args.at) (λ h. c.leave.new.self.gone ≡ false → c.leave.new.self.runs ≡ [] → ⊥) (λ h lives none. true≢false (sym c.leave.ensures.gone ∙ lives)))
