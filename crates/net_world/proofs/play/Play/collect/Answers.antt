use Rattle.std.proofs.Common.{sym, subst}
use Rattle.std.proofs.lemmas.Result.{on_ok_weaker}
use Rattle.net_world.specs.Drops.{Drops}
use Rattle.net_world.specs.Plays.{IsShown}
use Rattle.net_world.proofs.play.Play.collect.Goals as goal

pub returns-in-Some : goal.returns-in-Some
returns-in-Some c = on_ok_weaker c.unlink.result (λ turns P O w shown.
    let drops = subst (λ file. Drops file c.args.self.now c.drop_wanted.new.self) c.in-Some.is c.in_ok-file.ensures in
    let did = drops P O w shown in
    subst (λ v. IsShown P O v c.unlink.new.self) (sym did.0.0) (turns P O _ did.1))
    c.unlink.ensures

pub returns-in-None : goal.returns-in-None
returns-in-None c P O w shown =
    let drops = subst (λ file. Drops file c.args.self.now c.drop_wanted.new.self) c.in-None.is c.in_ok-file.ensures in
    let did = drops P O w shown in
    subst (λ v. IsShown P O v c.drop_wanted.new.self) (sym did.0.0) did.1
