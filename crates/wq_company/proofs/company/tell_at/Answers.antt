use Rattle.std.proofs.Common.{◌≡◌, ◌∙◌, Some, ap, sym}
use Rattle.std.specs.Prelude.{slice_get, slice_set}
use Rattle.std.proofs.lemmas.Option.{slice_get-get_or}
use Rattle.task_book.proofs.Positions.{all_at, all_set, as_long}
use Rattle.wq_seats.specs.Turns.{IsServed, IsSureAt, StaysSureAt}
use Rattle.wq_seats.specs.Seats.{SeatState}
use Rattle.wq_company.proofs.Reading.{honest_at, honest_set}
use Rattle.wq_company.proofs.Serving.{served_on}
use Rattle.peers.proofs.Serving.{at_ok}
use Rattle.wq_company.specs.Companies.{StaySure}
use Rattle.wq_company.proofs.Placing.{run_set, sure_set}
use Rattle.wq_company.proofs.company.tell_at.Goals as goal

pub returns-clause-served : goal.returns-clause-served
returns-clause-served g c next tells all =
    let seats = c.args.seats.now.items in
    let at = c.args.at in
    let x : SeatState g.row.L.Denot = c.index_mut.result.now in
    let there : slice_get seats at ≡ Some x = slice_get-get_or seats at x c.requires ∙ ap (λ (s : SeatState g.row.L.Denot). Some s) (sym c.index_mut.ensures.value) in
    let was = all_at (IsServed g.F.Commands.gives g.F.Commands.may_fail g.L.Link.history c.args.files.now c.args.book.now.held next) seats at x there all in
    all_set (IsServed g.F.Commands.gives g.F.Commands.may_fail g.L.Link.history c.args.files.now c.tell_seat.new.book.held next) seats at c.tell_seat.new.seat (c.tell_seat.ensures.served next tells was)
    (served_on g.F.Commands.gives g.F.Commands.may_fail g.L.Link.history c.args.files.now c.args.book.now.held c.tell_seat.new.book.held next seats c.tell_seat.ensures.goes.runs all)

pub returns-clause-honest : goal.returns-clause-honest
returns-clause-honest g c fair =
    let seats = c.args.seats.now.items in
    let at = c.args.at in
    let x : SeatState g.row.L.Denot = c.index_mut.result.now in
    let there : slice_get seats at ≡ Some x = slice_get-get_or seats at x c.requires ∙ ap (λ (s : SeatState g.row.L.Denot). Some s) (sym c.index_mut.ensures.value) in
    honest_set g.L.Link.honest seats at c.tell_seat.new.seat (c.tell_seat.ensures.honest (honest_at g.L.Link.honest seats at x there fair)) fair

pub returns-clause-many : goal.returns-clause-many
returns-clause-many g c = as_long c.args.seats.now.items c.args.at c.tell_seat.new.seat

pub returns-clause-run : goal.returns-clause-run
returns-clause-run g c are =
    let seats = c.args.seats.now.items in
    let at = c.args.at in
    let x : SeatState g.row.L.Denot = c.index_mut.result.now in
    let there : slice_get seats at ≡ Some x = slice_get-get_or seats at x c.requires ∙ ap (λ (s : SeatState g.row.L.Denot). Some s) (sym c.index_mut.ensures.value) in
    run_set c.args.book.now.held c.tell_seat.new.book.held seats at x c.tell_seat.new.seat there c.tell_seat.ensures.keeps are

pub returns-clause-calm : goal.returns-clause-calm
returns-clause-calm g c next least served sure =
    let seats = c.args.seats.now.items in
    let at = c.args.at in
    let x : SeatState g.row.L.Denot = c.index_mut.result.now in
    let there : slice_get seats at ≡ Some x = slice_get-get_or seats at x c.requires ∙ ap (λ (s : SeatState g.row.L.Denot). Some s) (sym c.index_mut.ensures.value) in
    at_ok (StaysSureAt g.L.Link.sure g.L.Link.offers least x c.tell_seat.new.seat) (StaySure g.L.Link.sure g.L.Link.offers least seats (slice_set seats at c.tell_seat.new.seat)) c.tell_seat.result
    (λ stays. sure_set g.L.Link.sure g.L.Link.offers least seats at x c.tell_seat.new.seat there stays sure)
    (c.tell_seat.ensures.calm next least (λ tells. all_at (IsServed g.F.Commands.gives g.F.Commands.may_fail g.L.Link.history c.args.files.now c.args.book.now.held next) seats at x there (served tells))
    (all_at (IsSureAt g.L.Link.sure g.L.Link.offers least) seats at x there sure))
