use Rattle.std.proofs.Common.{◌∷◌, []}
use Rattle.file_store.specs.Outputs.{IsOther}
use Rattle.file_store.proofs.Beside.{first_call}
use Rattle.desk.proofs.Others.{beside_files}
use Rattle.desk.proofs.Removing.{other-name}
use Rattle.cleaning.proofs.removal.remove_file.Goals as goal

pub returns-clause-others : goal.returns-clause-others
returns-clause-others g c told =
    let P = c.args.plan.now in
    let fs = c.args.file.0 ∷ [] in
    record {
      crash = beside_files g.S.Site.may_leave g.S.Site.moment g.S.Site.images_since P fs c.args.site.now c.remove.new.self
          (λ m file other left. (c.remove.ensures.crash told).others m file (other-name P c.args.file.0 c.name_of.result.now m c.name_of.ensures other) left)
          (first_call g.S.Site.may_leave g.S.Site.moment g.S.Site.images_since (IsOther P fs) c.args.site.now c.remove.new.self ((g.met.S.Site g.world.𝓛 g.world.𝓜 g.world.𝓡 ((λ s x. x), (λ x. x), (λ x. x), λ x. x)).only_now told c.args.site.now)
          (λ m file other. (c.remove.ensures.crash told).others m file (other-name P c.args.file.0 c.name_of.result.now m c.name_of.ensures other)) (c.remove.ensures.time told));
      reads = λ m other. (c.remove.ensures.files told).others m (other-name P c.args.file.0 c.name_of.result.now m c.name_of.ensures other);
    }
