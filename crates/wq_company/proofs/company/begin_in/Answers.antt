use Rattle.std.proofs.Common.{◌≡◌, ◌+◌, ◌∙◌, Some, ap, arith, sym}
use Rattle.std.specs.Prelude.{slice_get, slice_set}
use Rattle.std.proofs.lemmas.Option.{slice_get-get_or}
use Rattle.task_book.proofs.Positions.{all_at, all_set}
use Rattle.wq_seats.specs.Turns.{IsServed, IsSureAt, StaysSureAt}
use Rattle.wq_seats.specs.Seats.{SeatState}
use Rattle.wq_company.proofs.Reading.{honest_at, honest_set}
use Rattle.wq_company.proofs.Serving.{served_later, served_on}
use Rattle.peers.proofs.Serving.{at_ok}
use Rattle.wq_company.specs.Companies.{StaySure}
use Rattle.wq_company.proofs.Placing.{busy_at, run_begun, sure_set}
use Rattle.wq_company.proofs.company.begin_in.Goals as goal

pub returns-clause-served : goal.returns-clause-served
returns-clause-served g c tells own all =
    let seats = c.args.seats.now.items in
    let at = c.args.place in
    let n = c.args.attempt.0 in
    let x : SeatState g.row.L.Denot = c.index_mut.result.now in
    let there : slice_get seats at ≡ Some x = slice_get-get_or seats at x c.requires ∙ ap (λ (s : SeatState g.row.L.Denot). Some s) (sym c.index_mut.ensures.value) in
    let was = all_at (IsServed g.F.Commands.gives g.F.Commands.may_fail g.L.Link.history c.args.files.now c.args.book.now.held n) seats at x there all in
    all_set (IsServed g.F.Commands.gives g.F.Commands.may_fail g.L.Link.history c.args.files.now c.begin_seat.new.book.held (1 + n)) seats at c.begin_seat.new.seat (c.begin_seat.ensures.served tells own was)
    (served_later g.F.Commands.gives g.F.Commands.may_fail g.L.Link.history c.args.files.now c.begin_seat.new.book.held n (1 + n) seats (omega arith)
    (served_on g.F.Commands.gives g.F.Commands.may_fail g.L.Link.history c.args.files.now c.args.book.now.held c.begin_seat.new.book.held n seats c.begin_seat.ensures.goes.runs all))

pub returns-clause-honest : goal.returns-clause-honest
returns-clause-honest g c fair =
    let seats = c.args.seats.now.items in
    let at = c.args.place in
    let x : SeatState g.row.L.Denot = c.index_mut.result.now in
    let there : slice_get seats at ≡ Some x = slice_get-get_or seats at x c.requires ∙ ap (λ (s : SeatState g.row.L.Denot). Some s) (sym c.index_mut.ensures.value) in
    honest_set g.L.Link.honest seats at c.begin_seat.new.seat (c.begin_seat.ensures.honest (honest_at g.L.Link.honest seats at x there fair)) fair

pub returns-clause-run : goal.returns-clause-run
returns-clause-run g c are =
    let seats = c.args.seats.now.items in
    let at = c.args.place in
    let x : SeatState g.row.L.Denot = c.index_mut.result.now in
    let there : slice_get seats at ≡ Some x = slice_get-get_or seats at x c.requires ∙ ap (λ (s : SeatState g.row.L.Denot). Some s) (sym c.index_mut.ensures.value) in
    run_begun (slice_get c.args.book.now.held c.args.at) c.args.attempt c.args.book.now.held c.begin_seat.new.book.held seats at x c.begin_seat.new.seat there c.begin_seat.ensures.keeps are

pub returns-clause-calm : goal.returns-clause-calm
returns-clause-calm g c least known served sure =
    let seats = c.args.seats.now.items in
    let at = c.args.place in
    let x : SeatState g.row.L.Denot = c.index_mut.result.now in
    let there : slice_get seats at ≡ Some x = slice_get-get_or seats at x c.requires ∙ ap (λ (s : SeatState g.row.L.Denot). Some s) (sym c.index_mut.ensures.value) in
    at_ok (StaysSureAt g.L.Link.sure g.L.Link.offers least x c.begin_seat.new.seat) (StaySure g.L.Link.sure g.L.Link.offers least seats (slice_set seats at c.begin_seat.new.seat)) c.begin_seat.result
    (λ stays. sure_set g.L.Link.sure g.L.Link.offers least seats at x c.begin_seat.new.seat there stays sure)
    (c.begin_seat.ensures.calm least known (λ tells. all_at (IsServed g.F.Commands.gives g.F.Commands.may_fail g.L.Link.history c.args.files.now c.args.book.now.held c.args.attempt.0) seats at x there (served tells))
    (all_at (IsSureAt g.L.Link.sure g.L.Link.offers least) seats at x there sure))

pub returns-clause-busy : goal.returns-clause-busy
returns-clause-busy g c least =
    let seats = c.args.seats.now.items in
    let at = c.args.place in
    let x : SeatState g.row.L.Denot = c.index_mut.result.now in
    let there : slice_get seats at ≡ Some x = slice_get-get_or seats at x c.requires ∙ ap (λ (s : SeatState g.row.L.Denot). Some s) (sym c.index_mut.ensures.value) in
    busy_at least seats at x c.begin_seat.new.seat (slice_get c.args.book.now.held c.args.at) c.begin_seat.result there c.begin_seat.ensures.busy
