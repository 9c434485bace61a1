use Rattle.std.proofs.Common.{◌≡◌, ◌<◌, ◌+◌, ◌∷◌, ◌∙◌, ℕ, List, ap, arith, drop, get_or, length, refl, subst, suc}
use Rattle.std.proofs.Math.Seq.{drop-cons}
use Rattle.std.specs.List.{AllByRecursion}
use Rattle.flow_types.specs.declared.numbers.FileNo.{FileNo}
use Rattle.peers.specs.Provides.{keys_of}
use Rattle.wq_seats.specs.Seats.{MayAsk, SeatState, own_run}
use Rattle.wq_seats.proofs.Keeping.{drop_none, goes_on_same, goes_on_then}
use Rattle.wq_seats.proofs.seat.Seat.put_all.Goals as goal

pub loop-file-init : goal.loop-file-init
loop-file-init g c = record {
  only = refl;
  asks = λ held next task tells m. m;
  works = λ held next again tells w. w;
  on = goes_on_same g.L.Link.honest g.L.Link.sure g.L.Link.offers c.args.self.now.peer.way;
  calm = λ all. all;
}

pub loop-file-preserved : goal.loop-file-preserved
loop-file-preserved g c =
    let i = c.loop-file.file-index in
    let wanted = c.args.wanted.now in
    let file = get_or wanted i (record { 0 = 0 }) in
    let next : suc i ≡ i + 1 = omega arith in
    let left : drop i wanted ≡ file ∷ drop (i + 1) wanted = drop-cons wanted i (record { 0 = 0 }) (omega arith) ∙ ap (λ (n : ℕ). file ∷ drop n wanted) next in
    record {
      only = c.put.ensures.only ∙ ap (λ (x : SeatState g.row.L.Denot). record x { peer = c.put.new.self.peer }) c.loop-file.invariant.only;
      asks = λ held next task tells m. c.in-Ok.ensures.asks held next task (keys_of own_run (drop (c.loop-file.file-index + 1) c.args.wanted.now)) tells
          (subst (λ (fs : List FileNo). MayAsk g.F.Commands.gives g.F.Commands.may_fail g.L.Link.history c.args.files.now held next c.loop-file.self task (keys_of own_run fs)) left (c.loop-file.invariant.asks held next task tells m));
      works = λ held next again tells w. c.in-Ok.ensures.works held next again tells (c.loop-file.invariant.works held next again tells w);
      on = goes_on_then g.L.Link.honest g.L.Link.sure g.L.Link.offers c.args.self.now.peer.way c.loop-file.self.peer.way c.put.new.self.peer.way c.loop-file.invariant.on c.put.ensures.on;
      calm = λ all. (subst (λ (fs : List FileNo). AllByRecursion (λ (x : FileNo). x.0 < length c.args.files.now) fs) left (c.loop-file.invariant.calm all)).1;
    }

pub returns-clause-asks : goal.returns-clause-asks
returns-clause-asks g c held next task tells m =
    subst (λ (fs : List FileNo). MayAsk g.F.Commands.gives g.F.Commands.may_fail g.L.Link.history c.args.files.now held next c.loop-file.self task (keys_of own_run fs)) (drop_none c.args.wanted.now c.loop-file.file-index (omega arith)) (c.loop-file.invariant.asks held next task tells m)
