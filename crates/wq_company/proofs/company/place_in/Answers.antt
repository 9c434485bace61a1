use Rattle.std.proofs.Common.{◌≡◌, ◌∙◌, ℕ, Option, Some, true, false, ap, arith, refl, sym, subst, true≢false}
use Rattle.std.specs.Prelude.{IfSome, slice_get}
use Rattle.std.proofs.lemmas.Option.{slice_get-get_or}
use Rattle.task_book.proofs.Positions.{all_at}
use Rattle.wq_seats.specs.Turns.{IsReady, IsSureAt}
use Rattle.wq_seats.specs.Seats.{SeatState}
use Rattle.wq_company.proofs.Placing.{gone_or, none_live, taken_next}
use Rattle.wq_company.proofs.Reading.{all_taken}
use Rattle.wq_company.proofs.company.place_in.Goals as goal

pub loop-seat-init : goal.loop-seat-init
loop-seat-init g c = record { place = refl; room = λ least sure ready within few. tt }

pub loop-seat-preserved : goal.loop-seat-preserved
loop-seat-preserved g c =
    let seats = c.args.seats.now in
    let at = c.loop-seat.seat-index in
    let s : SeatState g.row.L.Denot = c.seat-item.result in
    let there : slice_get seats at ≡ Some s = slice_get-get_or seats at s (omega arith) ∙ ap (λ (x : SeatState g.row.L.Denot). Some x) (sym c.seat-item.is) in
    record {
      place = omega (arith, c.loop-seat.invariant.place);
      room = λ least sure ready within few.
          taken_next (λ (x : SeatState g.row.L.Denot). x.gone ≡ true) seats at s there (c.loop-seat.invariant.room least sure ready within few)
          (gone_or s.gone (λ lives. true≢false (sym (c.fits.ensures.room least ((all_at (IsSureAt g.L.Link.sure g.L.Link.offers least) seats at s there sure) lives).surely lives
          (all_at (λ (x : SeatState g.row.L.Denot). x.gone ≡ false → IsReady least x) seats at s there ready lives) within few) ∙ c.if-fits.false)));
    }

pub returns-then-fits-clause-live : goal.returns-then-fits-clause-live
returns-then-fits-clause-live g c =
    let seats = c.args.seats.now in
    let at = c.loop-seat.seat-index in
    let s : SeatState g.row.L.Denot = c.seat-item.result in
    let there : slice_get seats c.loop-seat.place ≡ Some s = ap (λ (k : ℕ). slice_get seats k) c.loop-seat.invariant.place ∙ slice_get-get_or seats at s (omega arith) ∙ ap (λ (x : SeatState g.row.L.Denot). Some x) (sym c.seat-item.is) in
    subst (λ (p : Option (SeatState g.row.L.Denot)). IfSome p (λ (x : SeatState g.row.L.Denot). x.gone ≡ false)) (sym there) (c.fits.ensures.live c.if-fits.true)

pub returns-clause-room : goal.returns-clause-room
returns-clause-room g c least sure ready within few =
    none_live c.args.seats.now (all_taken (λ (x : SeatState g.row.L.Denot). x.gone ≡ true) c.args.seats.now c.loop-seat.seat-index (omega (arith, c.loop-seat-test.false)) (c.loop-seat.invariant.room least sure ready within few))
