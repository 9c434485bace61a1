use Rattle.std.proofs.Common.{◌≡◌, ◌<◌, ◌∙◌, List, None, ap, length, subst, sym}
use Rattle.std.specs.List.{AllByRecursion}
use Rattle.flow_types.specs.declared.job.Task.{Task}
use Rattle.flow_types.specs.declared.messages.Key.{Key}
use Rattle.flow_types.specs.declared.numbers.FileNo.{FileNo}
use Rattle.peers.specs.Provides.{keys_of}
use Rattle.task_book.specs.Submissions.{unknown_file}
use Rattle.wq_seats.specs.Seats.{HasRun, MayAsk, SeatState, own_run}
use Rattle.wq_seats.proofs.Calls.{own_of}
use Rattle.wq_seats.proofs.seat.Seat.begin.Goals as goal

pub returns-in-Err-clause-calm : goal.returns-in-Err-clause-calm
returns-in-Err-clause-calm g c held tells w sure known =
    c.in-Err.ensures.calm c.args.files.now held c.args.attempt.0 tells (ap (λ (t : Task). t.attempt.0) c.in-Ok.ensures.of) w

pub returns-in-Ok-put_all-clause-works : goal.returns-in-Ok-put_all-clause-works
returns-in-Ok-put_all-clause-works g c held tells mine w =
    let files = c.args.files.now in
    let next = c.args.attempt.0 in
    let sent : Task = c.in-Ok.sent in
    let of = c.in-Ok.ensures.of in
    let is : sent.attempt.0 ≡ next = ap (λ (t : Task). t.attempt.0) of in
    let asks = c.in-Ok-open.ensures.asks files held next tells is w in
    let keys : keys_of sent.run c.in-Ok-open.wanted ≡ keys_of own_run c.as_slice.result.now =
    ap (λ (t : Task). keys_of t.run c.in-Ok-open.wanted) of ∙ ap (λ (fs : List FileNo). keys_of own_run fs) (sym c.as_slice.ensures) in
    let puts = c.in-Ok-put_all.ensures.asks held next sent tells (subst (λ (ks : List Key). MayAsk g.F.Commands.gives g.F.Commands.may_fail g.L.Link.history files held next c.open.new.self sent ks) keys asks) in
    c.ask.ensures.asked files held next tells is (own_of held sent c.args.attempt c.args.task.now of mine) puts

pub returns-in-Ok-put_all-clause-keeps : goal.returns-in-Ok-put_all-clause-keeps
returns-in-Ok-put_all-clause-keeps g c other number has =
    subst (HasRun other number) (sym (ap (λ (x : SeatState g.row.L.Denot). x.runs) c.ask.ensures.only ∙ ap (λ (x : SeatState g.row.L.Denot). x.runs) c.put_all.ensures.only)) (c.open.ensures.keeps other number has)

pub returns-in-Err-put_all-clause-keeps : goal.returns-in-Err-put_all-clause-keeps
returns-in-Err-put_all-clause-keeps g c other number has =
    subst (HasRun other number) (sym (ap (λ (x : SeatState g.row.L.Denot). x.runs) c.put_all.ensures.only)) (c.open.ensures.keeps other number has)

pub returns-in-Err-put_all-clause-calm : goal.returns-in-Err-put_all-clause-calm
returns-in-Err-put_all-clause-calm g c held tells w sure known =
    let there : unknown_file (length c.args.files.now) c.in-Ok.sent.inputs ≡ None = ap (λ (t : Task). unknown_file (length c.args.files.now) t.inputs) c.in-Ok.ensures.of ∙ known.there in
    c.in-Err-put_all.ensures.calm (c.open.ensures.on.surely sure)
    (subst (λ (fs : List FileNo). AllByRecursion (λ (file : FileNo). file.0 < length c.args.files.now) fs) (sym c.as_slice.ensures) (c.in-Ok-open.ensures.known (length c.args.files.now) there))
