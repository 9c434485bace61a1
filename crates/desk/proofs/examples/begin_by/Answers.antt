use Rattle.std.proofs.Common.{⊎_elim, inl, inr, ap}
use Rattle.desk.specs.Kept.{Fits}
use Rattle.desk.specs.State.{DeskState}
use Rattle.desk.proofs.KeepingMore.{desk_more, if_some, opening_more}
use Rattle.desk.proofs.examples.begin_by.Goals as goal

pub returns-in-Ok : goal.returns-in-Ok
returns-in-Ok g c =
    let is = c.in-Ok.ensures.reply.2.2 in
    if_some c.site_of.result (λ left held told kept image since. ⊎_elim (λ was. inl was)
    (λ was. inr (desk_more (Fits g.T.Terms.trust g.F.Commands.gives g.T.Terms.sources) c.args.plan c.args.log.name c.args.history c.in-Ok.desk _ _ image
    (ap (λ (d : DeskState g.row.S.Denot). d.plan) is) (ap (λ (d : DeskState g.row.S.Denot). d.log) is) (ap (λ (d : DeskState g.row.S.Denot). d.base) is) was))
    (held told kept image since)) c.site_of.ensures

pub returns-in-Err : goal.returns-in-Err
returns-in-Err g c told kept image left =
    ⊎_elim (λ was. inl (c.requires.before told kept image was))
    (λ now. inr (opening_more (Fits g.T.Terms.trust g.F.Commands.gives g.T.Terms.sources) c.args.plan c.args.options c.args.log.name c.args.history _ g.S.Site.tells (g.S.Site.files c.args.site) image now))
    ((c.in-Err.ensures.any_moment told kept).before g.T.Terms.born image (c.requires.later told kept) left)
