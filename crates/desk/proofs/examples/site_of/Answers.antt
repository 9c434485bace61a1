use Rattle.std.proofs.Common.{subst}
use Rattle.desk.proofs.examples.site_of.Goals as goal

pub returns : goal.returns
returns g c told kept image left =
    c.works-works.ensures.kept told kept image (subst (λ (s : g.row.S.Denot). g.S.Site.images_since s g.T.Terms.born image) c.into_parts-site.ensures.site left)
