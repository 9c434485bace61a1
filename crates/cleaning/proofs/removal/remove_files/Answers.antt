use Rattle.std.proofs.Common.{◌∷◌, [], get_or, arith}
use Rattle.file_store.specs.Outputs.{IsOther}
use Rattle.local_run.proofs.Alone.{alone_less, alone_same, alone_then}
use Rattle.cleaning.specs.Cleanings.{numbers_of}
use Rattle.cleaning.proofs.Gone.{next_gone, not_one, number_inside, number_is}
use Rattle.cleaning.proofs.removal.remove_files.Goals as goal

pub remove_file-requires-clause-inside : goal.remove_file-requires-clause-inside
remove_file-requires-clause-inside g c κs within = number_inside c.args.plan.now c.args.files.now c.loop-file.file-index (record { 0 = 0 }) c.requires.inside (omega arith)

pub loop-file-init : goal.loop-file-init
loop-file-init g c = record {
  later = omega arith;
  gone = λ told k f lt is. absurd (omega (arith, lt));
  others = λ told. alone_same g.S.Site.files g.S.Site.may_leave g.S.Site.moment g.S.Site.images_since (IsOther c.args.plan.now (numbers_of c.args.files.now)) c.args.site.now (λ image. (g.met.S.Site g.world.𝓛 g.world.𝓜 g.world.𝓡 ((λ s x. x), (λ x. x), (λ x. x), λ x. x)).only_now told c.args.site.now image);
}

pub loop-file-preserved : goal.loop-file-preserved
loop-file-preserved g c =
    let P = c.args.plan.now in
    let fs = numbers_of c.args.files.now in
    let i = c.loop-file.file-index in
    let f = (get_or c.args.files.now i (record { 0 = 0 })).0 in
    let at = number_is c.args.files.now i (record { 0 = 0 }) (omega arith) in
    record {
      later = omega (arith, c.loop-file.invariant.later, c.remove_file.ensures.cause.later);
      gone = λ told. next_gone P fs i f (g.S.Site.files c.loop-file.site) (g.S.Site.files c.remove_file.new.site) at (c.in_ok-remove_file.ensures.removed told)
          (λ m other. (c.remove_file.ensures.others told).reads m other) (c.loop-file.invariant.gone told);
      others = λ told. alone_then g.S.Site.files g.S.Site.may_leave g.S.Site.moment g.S.Site.images_since (IsOther P fs) c.args.site.now c.loop-file.site c.remove_file.new.site (c.loop-file.invariant.others told)
          (alone_less g.S.Site.files g.S.Site.may_leave g.S.Site.moment g.S.Site.images_since (IsOther P (f ∷ [])) (IsOther P fs) c.loop-file.site c.remove_file.new.site (not_one P fs i f at) (c.remove_file.ensures.others told).crash (c.remove_file.ensures.others told).reads);
    }

pub returns-in_err-remove_file-clause-others : goal.returns-in_err-remove_file-clause-others
returns-in_err-remove_file-clause-others g c told =
    let P = c.args.plan.now in
    let fs = numbers_of c.args.files.now in
    let i = c.loop-file.file-index in
    let f = (get_or c.args.files.now i (record { 0 = 0 })).0 in
    let at = number_is c.args.files.now i (record { 0 = 0 }) (omega arith) in
    alone_then g.S.Site.files g.S.Site.may_leave g.S.Site.moment g.S.Site.images_since (IsOther P fs) c.args.site.now c.loop-file.site c.remove_file.new.site (c.loop-file.invariant.others told)
    (alone_less g.S.Site.files g.S.Site.may_leave g.S.Site.moment g.S.Site.images_since (IsOther P (f ∷ [])) (IsOther P fs) c.loop-file.site c.remove_file.new.site (not_one P fs i f at) (c.remove_file.ensures.others told).crash (c.remove_file.ensures.others told).reads)
