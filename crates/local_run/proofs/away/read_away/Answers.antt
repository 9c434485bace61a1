use Rattle.std.proofs.Common.{ℕ, List, Err, Ok, Some, subst, sym}
use Rattle.run_history.specs.Links.{records_of}
use Rattle.local_run.specs.declared.halt.Halt.{Halt}
use Rattle.local_run.specs.Underway.{IsSurePool}
use Rattle.local_run.proofs.GivenBegun.{reads_on, refused_on, refused_stops}
use Rattle.local_run.proofs.Logging.{look_damage, refused_whole}
use Rattle.local_run.proofs.Reading.{logged_of, looks_over}
use Rattle.local_run.proofs.StandsBegun.{Under}
use Rattle.local_run.proofs.away.read_away.Goals as goal

pub returns-in-Ok-clause-same : goal.returns-in-Ok-clause-same
returns-in-Ok-clause-same g c =
    let d = c.args.desk.now in
    let p = logged_of d.plan (records_of d.moves) c.args.file.0 c.requires.present in
    looks_over g.S.Site.count d c.args.file p.0 (Ok c.in-Ok.bytes) c.read_input.new.self c.requires.fine (c.in-Ok.ensures.reply p.0 p.1)

pub returns-in-Ok-clause-underway : goal.returns-in-Ok-clause-underway
returns-in-Ok-clause-underway g c away first held waiting loose heard u =
    let d = c.args.desk.now in
    let p = logged_of d.plan (records_of d.moves) c.args.file.0 c.requires.present in
    reads_on g.T.Terms.trust g.F.Commands.gives g.F.Commands.may_fail g.T.Terms.sources g.S.Site.tells g.T.Terms.kept (IsSurePool g.B.Terms.fits) g.S.Site.files g.S.Site.may_leave g.S.Site.moment g.S.Site.images_since away first d c.read_input.new.self held waiting loose heard c.requires.fine
    (looks_over g.S.Site.count d c.args.file p.0 (Ok c.in-Ok.bytes) c.read_input.new.self c.requires.fine (c.in-Ok.ensures.reply p.0 p.1))
    (λ told. record { crash = c.read_input.ensures.others told; reads = c.read_input.ensures.reads told }) u

pub returns-in-Err-clause-underway : goal.returns-in-Err-clause-underway
returns-in-Err-clause-underway g c away first held waiting loose heard u =
    let d = c.args.desk.now in
    let p = logged_of d.plan (records_of d.moves) c.args.file.0 c.requires.present in
    let over = looks_over g.S.Site.count d c.args.file p.0 (Err c.in-Err.why) c.read_input.new.self c.requires.fine (c.in-Err.ensures.reply p.0 p.1) in
    let stops = refused_stops g.T.Terms.trust g.F.Commands.gives g.F.Commands.may_fail g.T.Terms.sources g.S.Site.tells g.T.Terms.kept (IsSurePool g.B.Terms.fits) g.S.Site.files g.S.Site.may_leave g.S.Site.moment g.S.Site.images_since away (List ℕ) d c.read_input.new.self heard c.in-Err.why c.requires.fine over
    (λ told. look_damage g.S.Site.count g.S.Site.files d c.args.file p.0 c.in-Err.why c.read_input.new.self (c.in-Err.ensures.reply p.0 p.1) p.1 (c.in-Err.ensures.told p.0 p.1 told c.requires.fine) (λ m. c.read_input.ensures.reads told m tt))
    (λ told kept. refused_whole c.in-Err.why (c.in-Err.ensures.whole told kept)) in
    subst (λ (why : Halt). Under g.T.Terms.trust g.F.Commands.gives g.F.Commands.may_fail g.T.Terms.sources g.S.Site.tells g.T.Terms.kept (IsSurePool g.B.Terms.fits) g.S.Site.files g.S.Site.may_leave g.S.Site.moment g.S.Site.images_since away first c.read_input.new.self held waiting loose heard (Some why)) (sym c.halt_by.ensures)
    (refused_on g.T.Terms.trust g.F.Commands.gives g.F.Commands.may_fail g.T.Terms.sources g.S.Site.tells g.T.Terms.kept (IsSurePool g.B.Terms.fits) g.S.Site.files g.S.Site.may_leave g.S.Site.moment g.S.Site.images_since away (List ℕ) first d c.read_input.new.self held waiting loose heard c.in-Err.why c.requires.fine over
    (λ told. record { crash = c.read_input.ensures.others told; reads = c.read_input.ensures.reads told }) stops u)
