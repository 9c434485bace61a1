use Rattle.std.proofs.Common.{[], ◌∷◌, ◌++◌, ap, ◌∙◌}
use Rattle.foreman_core.specs.Drafts.{Places}
use Rattle.foreman_core.proofs.Undoing.{more_back}
use Rattle.foreman_core.proofs.draft.Draft.place_more.Goals as goal

pub returns-clause-back : goal.returns-clause-back
returns-clause-back c =
    let old : Places = record { attempts = c.args.attempts.now; links = c.args.links.now } in
    let now : Places = record { attempts = c.place.new.attempts; links = c.place.new.links } in
    more_back c.args.attempts.now c.args.at c.args.placed.now.items c.push_reserved.new.self.items c.in_ok-one.one old now c.requires.attempt c.requires.kept c.in_ok-one.ensures.back
    (c.push_reserved.ensures.items ∙ ap (λ placed. placed ++ c.in_ok-one.one ∷ []) c.reserve.ensures.items)
