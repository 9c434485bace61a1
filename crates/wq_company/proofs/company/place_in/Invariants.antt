use Rattle.std.proofs.Common.{◌≡◌, ◌≤◌, take, true}
use Rattle.std.specs.List.{AllByRecursion}
use Rattle.flow_types.specs.declared.numbers.Amounts.{Amounts}
use Rattle.flow_types.specs.Plans.{most_input_bytes}
use Rattle.wq_seats.specs.Works.{IsWithin}
use Rattle.wq_company.specs.Companies.{AreReady, AreSure}
use Rattle.wq_seats.specs.Seats.{SeatState}
use Rattle.wq_company.proofs.company.place_in.Given as goal

-- each peer before this one is gone, where all that aren't are ready
abbrev pub invariant-loop-seat : goal.invariant-loop-seat
invariant-loop-seat g l = record {
  place : l.place ≡ l.seat-index;
  room : (least : Amounts) → AreSure g.L.Link.sure g.L.Link.offers least l.seats → AreReady least l.seats → IsWithin least l.needs → l.bytes ≤ most_input_bytes
      → AllByRecursion (λ (s : SeatState g.row.L.Denot). s.gone ≡ true) (take l.seat-index l.seats);
}
