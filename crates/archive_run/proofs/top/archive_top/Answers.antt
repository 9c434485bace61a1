use Rattle.std.proofs.Common.{rules, ◌≡◌, ◌∙◌, ℕ, List, [], Option, Some, None, ap, drop, subst, sym, take}
use Rattle.worker_pool.specs.Crews.{AllTell}
use Rattle.archive_run.specs.Archives.{CanTrust, folder_of}
use Rattle.archive_run.proofs.Early.{early}
use Rattle.archive_run.proofs.Moved.{retold, reworded}
use Rattle.archive_run.proofs.top.archive_top.Goals as goal

value_of : Option (List ℕ) → List ℕ
value_of (Some value) = value
value_of None = []

-- the folder that was found is the one that is named
pub returns-in-Ok-Some-clause-ends : goal.returns-in-Ok-Some-clause-ends
unfolding value_of
returns-in-Ok-Some-clause-ends g c folder named =
    let found : Some c.in-Ok-Some.folder ≡ folder_of c.args.words.now = search rules in
    let same : c.in-Ok-Some.folder ≡ folder = ap value_of (found ∙ named) in
    retold _ (λ job. CanTrust g.A.Site.tells g.A.Site.may_leave g.F.Commands.gives g.R.Runner.tells folder c.args.store c.args.runners.items)
    (λ job can. subst (λ name. CanTrust g.A.Site.tells g.A.Site.may_leave g.F.Commands.gives g.R.Runner.tells name c.args.store c.args.runners.items) (sym same) can)
    (reworded c.flow_words.ensures c.run_with.ensures.ends)

-- nothing was done
pub returns-in-Err-clause-ends : goal.returns-in-Err-clause-ends
returns-in-Err-clause-ends g c folder named =
    early _ _ _ _ _ (λ job. CanTrust g.A.Site.tells g.A.Site.may_leave g.F.Commands.gives g.R.Runner.tells folder c.args.store c.args.runners.items) (drop 1 c.args.words.now) _ c.args.site _ _ _ (λ t image left. (g.met.S.Site g.world.𝓛 g.world.𝓜 g.world.𝓡 ((λ s x. x), (λ x. x), (λ x. x), λ x. x)).only_now t c.args.site image left)
    c.unbegun.result.ended.site c.unbegun.result.runners.items c.unbegun.result.ended.status c.unbegun.result.ended.cause c.unbegun.result.ended.records
    c.unbegun.ensures.site c.unbegun.ensures.runners c.unbegun.ensures.status c.unbegun.ensures.cause c.unbegun.ensures.records

pub returns-in-Err-clause-no_folder : goal.returns-in-Err-clause-no_folder
returns-in-Err-clause-no_folder g c none =
    early _ _ _ _ _ (AllTell g.R.Runner.tells c.args.runners.items) (take 1 c.args.words.now) _ c.args.site _ _ _ (λ t image left. (g.met.S.Site g.world.𝓛 g.world.𝓜 g.world.𝓡 ((λ s x. x), (λ x. x), (λ x. x), λ x. x)).only_now t c.args.site image left)
    c.unbegun.result.ended.site c.unbegun.result.runners.items c.unbegun.result.ended.status c.unbegun.result.ended.cause c.unbegun.result.ended.records
    c.unbegun.ensures.site c.unbegun.ensures.runners c.unbegun.ensures.status c.unbegun.ensures.cause c.unbegun.ensures.records

pub returns-in-Err-clause-faithful : goal.returns-in-Err-clause-faithful
returns-in-Err-clause-faithful g c folder named can image left =
    can.faithful image ((g.met.A.Site g.world.𝓛 g.world.𝓜 g.world.𝓡 ((λ s x. x), (λ x. x), (λ x. x), λ x. x)).only_now can.store_tells c.args.store image
    (subst (λ store. g.A.Site.images_since store (g.A.Site.moment c.args.store) image) c.unbegun.ensures.store left))
