use Rattle.std.proofs.Common.{List, Err, subst}
use Rattle.flow_types.specs.declared.records.Record.{Record}
use Rattle.cleaning.specs.declared.answers.CleanFault.TheVariants as cleans
use Rattle.cleaning.specs.Looks.{IsLookFault}
use Rattle.cleaning.proofs.Ending.{look_still, still_over}
use Rattle.cleaning.proofs.sweeping.clean_read.Goals as goal

pub returns-in-Err : goal.returns-in-Err
returns-in-Err g c =
    still_over g.S.Site.tells g.S.Site.files g.S.Site.may_leave g.S.Site.moment g.S.Site.images_since g.S.Site.count c.args.plan.now c.args.log.name c.args.records c.args.moment c.args.site.now
    (Err (record { why = cleans.Look c.in-Err.why; records = c.args.records }))
    ((λ told image. (g.met.S.Site g.world.𝓛 g.world.𝓜 g.world.𝓡 ((λ s x. x), (λ x. x), (λ x. x), λ x. x)).only_now told c.args.site.now image))
    (look_still c.args.plan.now c.args.records c.args.moment c.in-Err.why c.in-Err.ensures.0 (subst (λ (K : List Record). IsLookFault c.args.plan.now K c.in-Err.why) c.as_slice.ensures c.in-Err.ensures.1))
