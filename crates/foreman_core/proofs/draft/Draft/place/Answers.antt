use Rattle.std.proofs.Common.{ap}
use Rattle.std.proofs.lemmas.Option.{get_or_from_slice_get}
use Rattle.foreman_core.proofs.Undoing.{placed_back}
use Rattle.foreman_core.proofs.draft.Draft.place.Goals as goal

pub returns-clause-back : goal.returns-clause-back
returns-clause-back c = λ u got free. placed_back c.args.attempts.now c.args.links.now c.exchange-session.new.links c.args.at c.args.on u _ _ c.exchange-session.result got free
    (ap (λ w. w.task) (get_or_from_slice_get c.args.attempts.now c.args.at u c.index-attempts-at-2.result got)) c.requires.worker c.exchange-session.ensures.links c.exchange-session.ensures.own
