use Rattle.std.proofs.Common.{List, Option, Result, ap, refl, subst, sym, ℕ, ◌∙◌, ◌≡◌, None, ◌++◌, ◌∷◌}
use Rattle.std.specs.List.{AllByRecursion}
use Rattle.flow_types.specs.Serial.{serial}
use Rattle.desk.specs.declared.attempt.Attempt.{Attempt}
use Rattle.local_run.specs.declared.halt.Halt.{Halt}
use Rattle.local_run.specs.Underway.{HeldState, IsSurePool, halt_after, Underway}
use Rattle.wq_run.specs.Seats.{AreOn, MayEndAs, SeatState}
use Rattle.wq_run.specs.Trusted.{EndsDue}
use Rattle.wq_run.proofs.Closes.{away_from, close_keeps, close_unlinked, placed, runs}
use Rattle.wq_run.proofs.Places.{all_at, on_at, split_in}
use Rattle.std.specs.Prelude.{OnOk}
use Rattle.flow_types.specs.declared.numbers.AttemptNo.{AttemptNo}
use Rattle.links.specs.Passings.{received_in}
use Rattle.peers.specs.States.{PeerState}
use Rattle.wq_run.specs.Dues.{AddsSo, EndsWith, IsShownOn, ShowsOutcome}
use Rattle.wq_run.proofs.Earned.{states_none}
use Rattle.wq_run.proofs.Fares.{ends_heard, ends_so, fares_stopped, same_way}
use Rattle.wq_run.specs.Calm.{AddsWell, IsSureOf}
use Rattle.wq_run.proofs.Calm.{fares_halted, stays_ok, sure_as}
use Rattle.wq_run.proofs.seat.Seat.close.Goals as goal

pub end_away-requires-clause-runs : goal.end_away-requires-clause-runs
end_away-requires-clause-runs g c κs within =
    let is = c.requires.at in
    let split = c.take-attempt.ensures.split in
    runs g.T.Terms.trust g.F.Commands.gives g.F.Commands.may_fail g.T.Terms.sources g.S.Site.tells g.T.Terms.kept (IsSurePool g.B.Terms.fits) g.S.Site.files g.S.Site.may_leave g.S.Site.moment g.S.Site.images_since is.front is.back is.first c.args.desk.now c.args.held.now is.waiting is.heard c.args.self.now split.0 c.take-attempt.result split.1 split.2
    (placed g.T.Terms.trust g.F.Commands.gives g.F.Commands.may_fail g.T.Terms.sources g.S.Site.tells g.T.Terms.kept (IsSurePool g.B.Terms.fits) g.S.Site.files g.S.Site.may_leave g.S.Site.moment g.S.Site.images_since is.front is.back is.first c.args.desk.now c.args.held.now is.waiting is.heard c.args.self.now is.at)

pub end_away-requires-clause-beyond : goal.end_away-requires-clause-beyond
end_away-requires-clause-beyond g c κs within =
    let is = c.requires.at in
    let split = c.take-attempt.ensures.split in
    away_from g.T.Terms.trust g.F.Commands.gives g.F.Commands.may_fail g.T.Terms.sources g.S.Site.tells g.T.Terms.kept (IsSurePool g.B.Terms.fits) g.S.Site.files g.S.Site.may_leave g.S.Site.moment g.S.Site.images_since is.front is.back is.first c.args.desk.now c.args.held.now is.waiting is.heard c.args.self.now split.0 c.take-attempt.result split.1 split.2
    (placed g.T.Terms.trust g.F.Commands.gives g.F.Commands.may_fail g.T.Terms.sources g.S.Site.tells g.T.Terms.kept (IsSurePool g.B.Terms.fits) g.S.Site.files g.S.Site.may_leave g.S.Site.moment g.S.Site.images_since is.front is.back is.first c.args.desk.now c.args.held.now is.waiting is.heard c.args.self.now is.at)

pub end_away-requires-clause-fits : goal.end_away-requires-clause-fits
end_away-requires-clause-fits g c κs within =
    let split = c.take-attempt.ensures.split in
    all_at (MayEndAs c.args.desk.now.plan c.args.number c.args.outcome) split.0 c.take-attempt.result split.1
    (subst (AllByRecursion (MayEndAs c.args.desk.now.plan c.args.number c.args.outcome)) split.2 c.requires.fits) c.take-attempt.ensures.number

pub end_away-requires-clause-honest : goal.end_away-requires-clause-honest
end_away-requires-clause-honest g c κs within trusted =
    let split = c.take-attempt.ensures.split in
    let Due : Attempt → Type 0 = EndsDue c.args.desk.now.plan g.F.Commands.gives g.F.Commands.may_fail (serial c.args.desk.now.plan g.F.Commands.gives g.T.Terms.sources) c.args.number c.args.outcome in
    all_at Due split.0 c.take-attempt.result split.1 (subst (AllByRecursion Due) split.2 (c.requires.honest trusted)) c.take-attempt.ensures.number

pub returns-in-Err-clause-keeps : goal.returns-in-Err-clause-keeps
returns-in-Err-clause-keeps g c =
    let split = c.take-attempt.ensures.split in
    close_keeps g.T.Terms.trust g.F.Commands.gives g.F.Commands.may_fail g.T.Terms.sources g.S.Site.tells g.T.Terms.kept (IsSurePool g.B.Terms.fits) g.S.Site.files g.S.Site.may_leave g.S.Site.moment g.S.Site.images_since c.args.desk.now c.end_away.new.desk c.args.held.now c.stop.new.self c.args.self.now c.take-attempt.new.self c.args.number c.take-attempt.result split.0 split.1 (halt_after c.end_away.result)
    split.2 c.take-attempt.ensures.number split.3 c.requires.gone (ap (λ (h : HeldState). h.attempts) c.stop.ensures)
    (ap (λ (h : HeldState). h.halt) c.stop.ensures ∙ sym (ap (λ (r : Result (Unit {0}) Halt). halt_after r c.args.held.now.halt) c.in-Err.is)) c.end_away.ensures.underway c.requires.at

pub returns-in_default-clause-keeps : goal.returns-in_default-clause-keeps
returns-in_default-clause-keeps g c =
    let split = c.take-attempt.ensures.split in
    close_keeps g.T.Terms.trust g.F.Commands.gives g.F.Commands.may_fail g.T.Terms.sources g.S.Site.tells g.T.Terms.kept (IsSurePool g.B.Terms.fits) g.S.Site.files g.S.Site.may_leave g.S.Site.moment g.S.Site.images_since c.args.desk.now c.end_away.new.desk c.args.held.now c.args.held.now c.args.self.now c.take-attempt.new.self c.args.number c.take-attempt.result split.0 split.1 (halt_after c.end_away.result)
    split.2 c.take-attempt.ensures.number split.3 c.requires.gone refl
    (sym (ap (λ (r : Result (Unit {0}) Halt). halt_after r c.args.held.now.halt) c.in_default.is)) c.end_away.ensures.underway c.requires.at

pub returns-in-Err-clause-fares : goal.returns-in-Err-clause-fares
returns-in-Err-clause-fares g c limit tells =
    let split = c.take-attempt.ensures.split in
    fares_stopped c.in-Err.why (ap (λ (s : SeatState g.row.L.Denot). s.link) split.3) (same_way g.L.Link.history c.args.self.now c.take-attempt.new.self (ap (λ (s : SeatState g.row.L.Denot). s.peer.way) split.3)) (ap (λ (h : HeldState). h.halt) c.stop.ensures)

pub returns-in_default-clause-fares : goal.returns-in_default-clause-fares
returns-in_default-clause-fares g c limit tells =
    let is = c.requires.at in
    let split = c.take-attempt.ensures.split in
    let a = c.take-attempt.result in
    let peer = ap (λ (s : SeatState g.row.L.Denot). s.peer) split.3 in
    let on : a.link.0 ≡ c.args.self.now.link.0 = on_at c.args.self.now.link.0 split.0 a split.1 (subst (AreOn c.args.self.now.link.0) split.2 is.at.seat.placed.there) in
    let up = received_in (g.L.Link.history c.take-attempt.new.self.peer.way) in
    let ends : EndsWith c.args.desk.now.moves a c.args.outcome c.end_away.new.desk.moves = subst (λ (r : Result (Unit {0}) Halt). OnOk r (EndsWith c.args.desk.now.moves a c.args.outcome c.end_away.new.desk.moves)) c.in_default.is c.end_away.ensures.adds in
    let past = g.L.Link.history c.take-attempt.new.self.peer.way in
    let back : ShowsOutcome past a.number c.args.outcome = subst (λ (n : AttemptNo). ShowsOutcome past n c.args.outcome) (sym c.take-attempt.ensures.number)
    (subst (λ (p : PeerState g.row.L.Denot). ShowsOutcome (g.L.Link.history p.way) c.args.number c.args.outcome) (sym peer) (c.requires.back tells)) in
    record {
      link = ap (λ (s : SeatState g.row.L.Denot). s.link) split.3;
      comes = same_way g.L.Link.history c.args.self.now c.take-attempt.new.self (ap (λ (p : PeerState g.row.L.Denot). p.way) peer);
      going = λ none. none;
      loses = λ none. subst (λ (k : ℕ). AddsSo (IsShownOn past k) c.args.desk.now.moves c.end_away.new.desk.moves) on
          (ends_so past c.args.desk.now.moves c.end_away.new.desk.moves a c.args.outcome ends back);
      states = λ none. states_none up c.args.self.now.link.0 c.args.desk.now.moves c.end_away.new.desk.moves
          (close_unlinked g.T.Terms.trust g.F.Commands.gives g.F.Commands.may_fail g.T.Terms.sources g.S.Site.tells g.T.Terms.kept (IsSurePool g.B.Terms.fits) g.S.Site.files g.S.Site.may_leave g.S.Site.moment g.S.Site.images_since c.args.desk.now c.end_away.new.desk c.args.held.now c.args.self.now a split.0 split.1 (halt_after c.end_away.result) split.2 c.end_away.ensures.underway is);
      leaves = λ none. tt;
      counts = λ none. ends_heard g.L.Link.history c.args.self.now.peer c.take-attempt.new.self.peer c.args.desk.now.moves c.end_away.new.desk.moves a c.args.outcome (subst (λ (r : Result (Unit {0}) Halt). OnOk r (EndsWith c.args.desk.now.moves a c.args.outcome c.end_away.new.desk.moves)) c.in_default.is c.end_away.ensures.adds) (same_way g.L.Link.history c.args.self.now c.take-attempt.new.self (ap (λ (p : PeerState g.row.L.Denot). p.way) peer)) peer;
    }

pub returns-in-Err-clause-peer : goal.returns-in-Err-clause-peer
returns-in-Err-clause-peer g c = ap (λ (s : SeatState g.row.L.Denot). s.peer) c.take-attempt.ensures.split.3

pub returns-in_default-clause-peer : goal.returns-in_default-clause-peer
returns-in_default-clause-peer g c = ap (λ (s : SeatState g.row.L.Denot). s.peer) c.take-attempt.ensures.split.3

pub returns-in-Err-clause-calm : goal.returns-in-Err-clause-calm
returns-in-Err-clause-calm g c asked outs is was = fares_halted c.in-Err.why (ap (λ (h : HeldState). h.halt) c.stop.ensures)

pub returns-in_default-clause-calm : goal.returns-in_default-clause-calm
returns-in_default-clause-calm g c asked outs success was none =
    let is = c.requires.at in
    let split = c.take-attempt.ensures.split in
    let a = c.take-attempt.result in
    let are : is.at.away.attempts ≡ (is.front ++ split.0) ++ (a ∷ (split.1 ++ is.back)) = is.at.are ∙ ap (λ (xs : List Attempt). is.front ++ (xs ++ is.back)) split.2 ∙ split_in is.front split.0 a split.1 is.back in
    let under = subst (λ (h : Option Halt). Underway g.T.Terms.trust g.F.Commands.gives g.F.Commands.may_fail g.T.Terms.sources g.S.Site.tells g.T.Terms.kept (IsSurePool g.B.Terms.fits) g.S.Site.files g.S.Site.may_leave g.S.Site.moment g.S.Site.images_since is.at.away is.first c.args.desk.now c.args.held.now.attempts is.waiting None is.heard h) none is.at.under in (
      subst (λ (r : Result (Unit {0}) Halt). OnOk r (AddsWell c.args.desk.now.moves c.end_away.new.desk.moves)) c.in_default.is (c.end_away.ensures.calm outs is.at.away (is.front ++ split.0) (split.1 ++ is.back) is.first c.args.held.now.attempts is.waiting is.heard success are under),
      stays_ok (sure_as g.F.Commands.gives g.F.Commands.may_fail g.L.Link.history (IsSureOf g.L.Link.sure g.L.Link.offers asked) c.args.self.now c.take-attempt.new.self (ap (λ (s : SeatState g.row.L.Denot). s.peer) split.3) (ap (λ (s : SeatState g.row.L.Denot). s.newest) split.3) was),
    )
