use Rattle.std.proofs.Common.{◌≡◌, ◌∙◌, Option, Some, false, ap, refl, subst, sym}
use Rattle.std.proofs.lemmas.Option.{slice_get-get_or}
use Rattle.wq_seats.specs.Seats.{SeatState}
use Rattle.std.specs.Prelude.{IfSome, slice_get, slice_set}
use Rattle.peers.proofs.Serving.{at_ok}
use Rattle.task_book.proofs.Positions.{all_at}
use Rattle.wq_seats.specs.Turns.{IsReady, IsServed, IsSureAt, StaysSureAt}
use Rattle.wq_company.specs.Companies.{StaySure}
use Rattle.wq_company.proofs.Placing.{sure_set}
use Rattle.wq_company.proofs.company.read_at.Goals as goal

pub returns-clause-reads : goal.returns-clause-reads
returns-clause-reads g c =
    let x : SeatState g.row.L.Denot = c.index_mut.result.now in
    record {
      was = x;
      is = c.read_seat.new.seat;
      there = slice_get-get_or c.args.seats.now.items c.args.at x c.requires ∙ ap (λ (s : SeatState g.row.L.Denot). Some s) (sym c.index_mut.ensures.value);
      set = refl;
      reads = c.read_seat.ensures.reads;
      right = c.read_seat.ensures.right;
      honestly = c.read_seat.ensures.honest;
      quiet = c.read_seat.ensures.quiet;
      runs = c.read_seat.ensures.keeps;
    }

pub returns-clause-calm : goal.returns-clause-calm
returns-clause-calm g c files next least served sure =
    let seats = c.args.seats.now.items in
    let at = c.args.at in
    let x : SeatState g.row.L.Denot = c.index_mut.result.now in
    let there : slice_get seats at ≡ Some x = slice_get-get_or seats at x c.requires ∙ ap (λ (s : SeatState g.row.L.Denot). Some s) (sym c.index_mut.ensures.value) in
    at_ok (StaysSureAt g.L.Link.sure g.L.Link.offers least x c.read_seat.new.seat) (StaySure g.L.Link.sure g.L.Link.offers least seats (slice_set seats at c.read_seat.new.seat)) c.read_seat.result
    (λ stays. sure_set g.L.Link.sure g.L.Link.offers least seats at x c.read_seat.new.seat there stays sure)
    (c.read_seat.ensures.calm files next least (λ tells. all_at (IsServed g.F.Commands.gives g.F.Commands.may_fail g.L.Link.history files c.args.book.now.held next) seats at x there (served tells))
    (all_at (IsSureAt g.L.Link.sure g.L.Link.offers least) seats at x there sure))

pub returns-clause-ready : goal.returns-clause-ready
returns-clause-ready g c files next least served sure idle =
    let seats = c.args.seats.now.items in
    let at = c.args.at in
    let x : SeatState g.row.L.Denot = c.index_mut.result.now in
    let there : slice_get seats at ≡ Some x = slice_get-get_or seats at x c.requires ∙ ap (λ (s : SeatState g.row.L.Denot). Some s) (sym c.index_mut.ensures.value) in
    let is = c.read_seat.ensures.ready files next least (λ tells. all_at (IsServed g.F.Commands.gives g.F.Commands.may_fail g.L.Link.history files c.args.book.now.held next) seats at x there (served tells))
    (all_at (IsSureAt g.L.Link.sure g.L.Link.offers least) seats at x there sure) idle in
    (subst (λ (p : Option (SeatState g.row.L.Denot)). IfSome p (λ s. s.gone ≡ false → IsReady least s)) (sym there) is.0, is.1)
