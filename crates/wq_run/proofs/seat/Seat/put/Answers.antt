use Rattle.std.proofs.Common.{◌≡◌, ◌∙◌, ℕ, List, None, Some, Result, ap, refl, rules, sym}
use Rattle.run_history.specs.Links.{records_of}
use Rattle.flow_types.specs.declared.lists.Bytes.{Bytes}
use Rattle.local_run.specs.declared.halt.Halt.{Halt}
use Rattle.local_run.specs.declared.halt.Halt.TheVariants as halts
use Rattle.local_run.specs.Underway.{HeldState, IsSurePool, halt_after}
use Rattle.wq_frames.specs.Streams.{Stream}
use Rattle.wq_run.proofs.Asks.{keeps_still, keeps_want}
use Rattle.wq_run.proofs.Steps.{after_kept, at_then, goes_by, none_of}
use Rattle.wq_run.proofs.Trusts.{read_due}
use Rattle.desk.specs.State.{DeskState}
use Rattle.wq_run.proofs.Shares.{keeps_then}
use Rattle.wq_run.proofs.Fares.{fares_same, fares_still, fares_stopped_same, send_leaves, halted_never}
use Rattle.wq_run.proofs.Calm.{fares_halted, fares_quiet, not_going, stays_wide, well_same}
use Rattle.wq_run.proofs.Heards.{heard_fed, ok_with}
use Rattle.wq_run.proofs.seat.Seat.put.Goals as goal

pub returns-else-as_slice-gt-MOST_BYTES-clause-keeps : goal.returns-else-as_slice-gt-MOST_BYTES-clause-keeps
returns-else-as_slice-gt-MOST_BYTES-clause-keeps g c =
    let none = none_of c.args.held.now.halt (sym c.if-not-is_going.ensures) in
    after_kept g.T.Terms.trust g.F.Commands.gives g.F.Commands.may_fail g.T.Terms.sources g.S.Site.tells g.T.Terms.kept (IsSurePool g.B.Terms.fits) g.S.Site.files g.S.Site.may_leave g.S.Site.moment g.S.Site.images_since c.args.desk.now c.read_away.new.desk c.args.held.now c.args.held.now c.args.self.now c.send.new.self c.send.result
    (keeps_still g.T.Terms.trust g.F.Commands.gives g.F.Commands.may_fail g.T.Terms.sources g.S.Site.tells g.T.Terms.kept (IsSurePool g.B.Terms.fits) g.S.Site.files g.S.Site.may_leave g.S.Site.moment g.S.Site.images_since c.args.desk.now c.read_away.new.desk c.args.held.now c.args.held.now c.args.self.now c.send.new.self c.send.ensures.link c.send.ensures.attempts c.send.ensures.session (λ was. ap (λ (x : Stream). x.stop) c.send.ensures.feed ∙ was)
    (goes_by g.T.Terms.trust g.F.Commands.gives g.F.Commands.may_fail g.T.Terms.sources g.S.Site.tells g.T.Terms.kept (IsSurePool g.B.Terms.fits) g.S.Site.files g.S.Site.may_leave g.S.Site.moment g.S.Site.images_since c.args.desk.now c.read_away.new.desk c.args.held.now c.args.held.now c.read_away.result none refl (none ∙ sym (ap (λ (r : Result Bytes Halt). halt_after r None) c.in-Ok.is))
    (λ away first xs waiting heard u. c.read_away.ensures.underway away first xs waiting None heard u)) c.requires.at)

pub returns-in-Err-clause-keeps : goal.returns-in-Err-clause-keeps
returns-in-Err-clause-keeps g c =
    let none = none_of c.args.held.now.halt (sym c.if-not-is_going.ensures) in
    keeps_still g.T.Terms.trust g.F.Commands.gives g.F.Commands.may_fail g.T.Terms.sources g.S.Site.tells g.T.Terms.kept (IsSurePool g.B.Terms.fits) g.S.Site.files g.S.Site.may_leave g.S.Site.moment g.S.Site.images_since c.args.desk.now c.read_away.new.desk c.args.held.now c.stop-in-Err.new.self c.args.self.now c.args.self.now refl refl refl (λ was. was)
    (goes_by g.T.Terms.trust g.F.Commands.gives g.F.Commands.may_fail g.T.Terms.sources g.S.Site.tells g.T.Terms.kept (IsSurePool g.B.Terms.fits) g.S.Site.files g.S.Site.may_leave g.S.Site.moment g.S.Site.images_since c.args.desk.now c.read_away.new.desk c.args.held.now c.stop-in-Err.new.self c.read_away.result none (ap (λ (h : HeldState). h.attempts) c.stop-in-Err.ensures)
    (ap (λ (h : HeldState). h.halt) c.stop-in-Err.ensures ∙ sym (ap (λ (r : Result Bytes Halt). halt_after r None) c.in-Err.is))
    (λ away first xs waiting heard u. c.read_away.ensures.underway away first xs waiting None heard u)) c.requires.at

pub send-requires-clause-due : goal.send-requires-clause-due
send-requires-clause-due g c κs within held =
    read_due c.args.desk.now.plan c.args.desk.now.options (records_of c.args.desk.now.moves) c.args.file.0 c.in-Ok.content c.requires.of c.in-Ok.ensures.due held

pub returns-then-not-is_going-clause-fares : goal.returns-then-not-is_going-clause-fares
returns-then-not-is_going-clause-fares g c limit tells = fares_same

pub returns-then-not-present-clause-keeps : goal.returns-then-not-present-clause-keeps
returns-then-not-present-clause-keeps g c = keeps_want g.T.Terms.trust g.F.Commands.gives g.F.Commands.may_fail g.T.Terms.sources g.S.Site.tells g.T.Terms.kept (IsSurePool g.B.Terms.fits) g.S.Site.files g.S.Site.may_leave g.S.Site.moment g.S.Site.images_since c.args.desk.now c.args.held.now c.stop.new.self c.args.self.now c.stop.ensures c.requires.at

pub returns-then-not-present-clause-fares : goal.returns-then-not-present-clause-fares
returns-then-not-present-clause-fares g c limit tells = fares_stopped_same halts.Memory (ap (λ (h : HeldState). h.halt) c.stop.ensures)

pub returns-then-as_slice-gt-MOST_BYTES-clause-keeps : goal.returns-then-as_slice-gt-MOST_BYTES-clause-keeps
returns-then-as_slice-gt-MOST_BYTES-clause-keeps g c =
    let none = none_of c.args.held.now.halt (sym c.if-not-is_going.ensures) in
    let read = keeps_still g.T.Terms.trust g.F.Commands.gives g.F.Commands.may_fail g.T.Terms.sources g.S.Site.tells g.T.Terms.kept (IsSurePool g.B.Terms.fits) g.S.Site.files g.S.Site.may_leave g.S.Site.moment g.S.Site.images_since c.args.desk.now c.read_away.new.desk c.args.held.now c.args.held.now c.args.self.now c.args.self.now refl refl refl (λ was. was)
    (goes_by g.T.Terms.trust g.F.Commands.gives g.F.Commands.may_fail g.T.Terms.sources g.S.Site.tells g.T.Terms.kept (IsSurePool g.B.Terms.fits) g.S.Site.files g.S.Site.may_leave g.S.Site.moment g.S.Site.images_since c.args.desk.now c.read_away.new.desk c.args.held.now c.args.held.now c.read_away.result none refl (none ∙ sym (ap (λ (r : Result Bytes Halt). halt_after r None) c.in-Ok.is))
    (λ away first xs waiting heard u. c.read_away.ensures.underway away first xs waiting None heard u)) c.requires.at in
    keeps_then g.T.Terms.trust g.F.Commands.gives g.F.Commands.may_fail g.T.Terms.sources g.S.Site.tells g.T.Terms.kept (IsSurePool g.B.Terms.fits) g.S.Site.files g.S.Site.may_leave g.S.Site.moment g.S.Site.images_since c.args.desk.now c.read_away.new.desk c.read_away.new.desk c.args.held.now c.args.held.now c.stop-then-as_slice-gt-MOST_BYTES.new.self c.args.self.now c.args.self.now c.args.self.now read
    (keeps_want g.T.Terms.trust g.F.Commands.gives g.F.Commands.may_fail g.T.Terms.sources g.S.Site.tells g.T.Terms.kept (IsSurePool g.B.Terms.fits) g.S.Site.files g.S.Site.may_leave g.S.Site.moment g.S.Site.images_since c.read_away.new.desk c.args.held.now c.stop-then-as_slice-gt-MOST_BYTES.new.self c.args.self.now c.stop-then-as_slice-gt-MOST_BYTES.ensures
    (at_then g.T.Terms.trust g.F.Commands.gives g.F.Commands.may_fail g.T.Terms.sources g.S.Site.tells g.T.Terms.kept (IsSurePool g.B.Terms.fits) g.S.Site.files g.S.Site.may_leave g.S.Site.moment g.S.Site.images_since c.args.desk.now c.read_away.new.desk c.args.held.now c.args.held.now c.args.self.now c.args.self.now c.requires.at read))

pub returns-then-as_slice-gt-MOST_BYTES-clause-fares : goal.returns-then-as_slice-gt-MOST_BYTES-clause-fares
returns-then-as_slice-gt-MOST_BYTES-clause-fares g c limit tells = fares_stopped_same halts.Memory (ap (λ (h : HeldState). h.halt) c.stop-then-as_slice-gt-MOST_BYTES.ensures)

pub returns-else-as_slice-gt-MOST_BYTES-clause-fares : goal.returns-else-as_slice-gt-MOST_BYTES-clause-fares
returns-else-as_slice-gt-MOST_BYTES-clause-fares g c limit tells =
    fares_still c.send.ensures.link (c.send.ensures.comes tells) refl (ap (λ (b : DeskState g.row.S.Denot). b.moves) c.in-Ok.ensures.same)
    (send_leaves g.F.Commands.gives g.F.Commands.may_fail g.L.Link.history g.L.Link.count g.L.Link.idle_count g.L.Link.is_closed limit c.read_away.new.desk.moves (g.L.Link.count c.args.self.now.peer.way) c.send.new.self c.send.result c.send.ensures.cause)
    (ok_with c.send.result _ (heard_fed g.L.Link.history c.args.self.now.peer c.send.new.self.peer (c.send.ensures.comes tells) c.send.ensures.feed))

pub returns-in-Err-clause-fares : goal.returns-in-Err-clause-fares
returns-in-Err-clause-fares g c limit tells = fares_stopped_same c.in-Err.why (ap (λ (h : HeldState). h.halt) c.stop-in-Err.ensures)

pub returns-then-not-is_going-clause-calm : goal.returns-then-not-is_going-clause-calm
returns-then-not-is_going-clause-calm g c asked task left tells was none = absurd (not_going c.args.held.now.halt (sym c.if-not-is_going.ensures) none)

pub returns-then-not-present-clause-calm : goal.returns-then-not-present-clause-calm
returns-then-not-present-clause-calm g c asked task left tells was = fares_halted halts.Memory (ap (λ (h : HeldState). h.halt) c.stop.ensures)

pub returns-then-as_slice-gt-MOST_BYTES-clause-calm : goal.returns-then-as_slice-gt-MOST_BYTES-clause-calm
returns-then-as_slice-gt-MOST_BYTES-clause-calm g c asked task left tells was = fares_halted halts.Memory (ap (λ (h : HeldState). h.halt) c.stop-then-as_slice-gt-MOST_BYTES.ensures)

pub returns-else-as_slice-gt-MOST_BYTES-clause-calm : goal.returns-else-as_slice-gt-MOST_BYTES-clause-calm
returns-else-as_slice-gt-MOST_BYTES-clause-calm g c asked task left tells was =
    fares_quiet (ap (λ (b : DeskState g.row.S.Denot). b.moves) c.in-Ok.ensures.same) (stays_wide c.send.result (c.send.ensures.calm asked task left tells was))

pub returns-in-Err-clause-calm : goal.returns-in-Err-clause-calm
returns-in-Err-clause-calm g c asked task left tells was = fares_halted c.in-Err.why (ap (λ (h : HeldState). h.halt) c.stop-in-Err.ensures)

pub returns-then-not-is_going-clause-wants : goal.returns-then-not-is_going-clause-wants
returns-then-not-is_going-clause-wants g c on none = absurd (not_going c.args.held.now.halt (sym c.if-not-is_going.ensures) none)

pub returns-then-not-present-clause-wants : goal.returns-then-not-present-clause-wants
returns-then-not-present-clause-wants g c on none = absurd (halted_never halts.Memory c.stop.new.self.halt (ap (λ (h : HeldState). h.halt) c.stop.ensures) none)

pub returns-then-as_slice-gt-MOST_BYTES-clause-wants : goal.returns-then-as_slice-gt-MOST_BYTES-clause-wants
returns-then-as_slice-gt-MOST_BYTES-clause-wants g c on none = absurd (halted_never halts.Memory c.stop-then-as_slice-gt-MOST_BYTES.new.self.halt (ap (λ (h : HeldState). h.halt) c.stop-then-as_slice-gt-MOST_BYTES.ensures) none)

pub returns-else-as_slice-gt-MOST_BYTES-clause-wants : goal.returns-else-as_slice-gt-MOST_BYTES-clause-wants
returns-else-as_slice-gt-MOST_BYTES-clause-wants g c on none = (well_same _ _ (ap (λ (b : DeskState g.row.S.Denot). b.moves) c.in-Ok.ensures.same), c.send.ensures.wants on)

pub returns-in-Err-clause-wants : goal.returns-in-Err-clause-wants
returns-in-Err-clause-wants g c on none = absurd (halted_never c.in-Err.why c.stop-in-Err.new.self.halt (ap (λ (h : HeldState). h.halt) c.stop-in-Err.ensures) none)

pub returns-then-not-is_going-clause-asks : goal.returns-then-not-is_going-clause-asks
returns-then-not-is_going-clause-asks g c task left none held may = absurd (not_going c.args.held.now.halt (sym c.if-not-is_going.ensures) none)

pub returns-then-not-present-clause-asks : goal.returns-then-not-present-clause-asks
returns-then-not-present-clause-asks g c task left none held may = absurd (halted_never halts.Memory c.stop.new.self.halt (ap (λ (h : HeldState). h.halt) c.stop.ensures) none)

pub returns-then-as_slice-gt-MOST_BYTES-clause-asks : goal.returns-then-as_slice-gt-MOST_BYTES-clause-asks
returns-then-as_slice-gt-MOST_BYTES-clause-asks g c task left none held may = absurd (halted_never halts.Memory c.stop-then-as_slice-gt-MOST_BYTES.new.self.halt (ap (λ (h : HeldState). h.halt) c.stop-then-as_slice-gt-MOST_BYTES.ensures) none)

pub returns-else-as_slice-gt-MOST_BYTES-clause-asks : goal.returns-else-as_slice-gt-MOST_BYTES-clause-asks
returns-else-as_slice-gt-MOST_BYTES-clause-asks g c task left none held may = c.send.ensures.asks task left held may

pub returns-in-Err-clause-asks : goal.returns-in-Err-clause-asks
returns-in-Err-clause-asks g c task left none held may = absurd (halted_never c.in-Err.why c.stop-in-Err.new.self.halt (ap (λ (h : HeldState). h.halt) c.stop-in-Err.ensures) none)
