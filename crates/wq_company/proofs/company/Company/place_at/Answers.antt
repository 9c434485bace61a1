use Rattle.std.proofs.Common.{◌≡◌, ◌≤◌, ◌∙◌, Some, ap, arith, sym}
use Rattle.std.specs.Prelude.{slice_get}
use Rattle.std.specs.Option.{option_copied}
use Rattle.flow_types.specs.Plans.{most_input_bytes}
use Rattle.task_book.specs.Lines.{waiting_in}
use Rattle.task_book.specs.Submissions.{input_bytes}
use Rattle.wq_company.proofs.Beginning.{busy_never, waiting_fact, waiting_known}
use Rattle.wq_company.proofs.Knowing.{Known, Within}
use Rattle.wq_company.proofs.company.Company.place_at.Goals as goal

pub returns-in_default-place_for-clause-placed : goal.returns-in_default-place_for-clause-placed
returns-in_default-place_for-clause-placed g c most before known within served sure some ready =
    let waits : waiting_in (slice_get c.args.book.now.held c.args.at) ≡ Some c.in-Some.task.now = sym c.waiting.ensures.waits ∙ ap option_copied c.in-Some.is in
    let task = waiting_fact (Known c.args.files.now) c.args.book.now.held c.args.at c.in-Some.task.now waits known in
    let fits = waiting_fact (Within most) c.args.book.now.held c.args.at c.in-Some.task.now waits within in
    let bytes = c.bytes_of-bytes.ensures in
    let small = task.1.small in
    let same = ap (input_bytes c.args.files.now) c.as_slice.ensures in
    let few : c.bytes_of-bytes.result ≤ most_input_bytes = omega (arith, bytes, same, small) in
    let none = c.in_default-place_for.ensures.room most sure ready fits.1 few in
    absurd (let wrong : ⊥ = omega (arith, none, some) in wrong)

pub returns-in-Ok-clause-calm : goal.returns-in-Ok-clause-calm
returns-in-Ok-clause-calm g c most before known served sure =
    c.in-Ok.ensures.calm most before (waiting_known c.args.files.now c.args.book.now.held c.args.at known) served sure

pub returns-in-Ok-clause-placed : goal.returns-in-Ok-clause-placed
returns-in-Ok-clause-placed g c most before known within served sure some ready =
    let stays = c.in-Ok.ensures.calm most before (waiting_known c.args.files.now c.args.book.now.held c.args.at known) served sure in
    let waits : waiting_in (slice_get c.args.book.now.held c.args.at) ≡ Some c.in-Some.task.now = sym c.waiting.ensures.waits ∙ ap option_copied c.in-Some.is in
    absurd (busy_never most c.args.book.now.held c.args.at c.in-Some.task.now waits c.args.self.now.seats c.begin_at.new.self.seats c.in-Some-place_for.place c.in-Some-place_for.ensures.within c.in-Some-place_for.ensures.live
    (c.in-Ok.ensures.busy most) stays.gone ready)
