use Rattle.std.proofs.Common.{◌≡◌, ◌∙◌, ◌++◌, ◌∷◌, [], List, None, Result, Ok, Err, length, map, ap, refl, sym, subst, arith}
use Rattle.flow_types.specs.declared.plan.Plan.{Plan}
use Rattle.flow_types.specs.declared.records.Record.{Record}
use Rattle.run_history.specs.declared.moves.Move.TheVariants as moves
use Rattle.run_history.specs.declared.options.Options.{Options}
use Rattle.outside.specs.Disk.{IsImage, LeavesOnly, Within}
use Rattle.outside.proofs.Moments.{started}
use Rattle.task_core.specs.States.{TableState}
use Rattle.task_core.specs.Stands.{Stands}
use Rattle.desk.specs.declared.answers.StartFault.{StartFault}
use Rattle.desk.specs.Begins.{Admits, IsRefusal, Prepares}
use Rattle.desk.specs.Openings.{AreDurable, IsNoSource, early_fault}
use Rattle.desk.proofs.Beginning.{Found, Given, few_listed, may_start, prepared, refused-early, refused-late}
use Rattle.desk.proofs.Readying.{gate_within, ready_view}
use Rattle.desk.proofs.Starting.{early_room}
use Rattle.desk.proofs.desk.Desk.ready.Goals.{In-Ok-prepare}
use Rattle.desk.proofs.desk.Desk.ready.Given.{Over}
use Rattle.desk.proofs.desk.Desk.ready.Goals as goal

module _ (g : Over) (c : In-Ok-prepare g) where
  -- the site that keeps contents is the site
  is_site : c.new-site.result ≡ c.args.site
  is_site = c.new-site.ensures

  within : g.S.Site.tells → Within (g.S.Site.may_leave c.args.site) (g.S.Site.may_leave c.prepare.new.site)
  within t = subst (λ (s : g.row.S.Denot). Within (g.S.Site.may_leave s) (g.S.Site.may_leave c.prepare.new.site)) is_site (c.prepare.ensures.within t)

  early : early_fault c.args.plan c.args.options c.args.history ≡ None
  early = subst (λ (l : List Record). early_fault c.args.plan c.args.options l ≡ None) c.as_slice.ensures c.in-Ok.ensures.0

  found : Found g.T.Terms.trust g.F.Commands.gives g.T.Terms.sources g.S.Site.tells g.T.Terms.kept g.S.Site.files g.S.Site.may_leave g.S.Site.moment g.S.Site.images_since g.T.Terms.born g.T.Terms.before c.args.plan c.args.options c.args.log.name c.args.history c.args.moment c.args.site
  found = record {
    valid = c.requires.valid;
    apart = c.requires.apart;
    early = early;
    reads = λ t name. (g.met.S.Site g.world.𝓛 g.world.𝓜 g.world.𝓡 ((λ s x. x), (λ x. x), (λ x. x), λ x. x)).reads_image t c.args.site name;
    only_now = λ t image left. (g.met.S.Site g.world.𝓛 g.world.𝓜 g.world.𝓡 ((λ s x. x), (λ x. x), (λ x. x), λ x. x)).only_now t c.args.site image left;
    later = c.requires.later;
    since = c.requires.before;
    kept = c.requires.kept;
    honest = c.requires.sources;
  }

  given : Given g.T.Terms.trust g.F.Commands.gives g.T.Terms.sources g.S.Site.tells g.T.Terms.kept g.S.Site.files g.S.Site.may_leave g.S.Site.moment g.S.Site.images_since g.T.Terms.born g.T.Terms.before c.args.plan c.args.options c.args.log.name c.args.history c.args.moment
      c.args.site c.prepare.new.site c.in-Ok.table c.prepare.new.table c.as_slice-2.result.now c.in-Ok-prepare.entry (g.S.Site.count c.args.site) (g.S.Site.count c.prepare.new.site)
  given = record {
    plan = c.in-Ok.ensures.1;
    options = c.in-Ok.ensures.2;
    same = c.as_slice-2.ensures;
    reply = let answer : Result Record StartFault = Ok c.in-Ok-prepare.entry in
        subst (λ (s : g.row.S.Denot). Prepares c.in-Ok.table.plan c.in-Ok.table.options c.as_slice-2.result.now c.args.moment (g.S.Site.count s) (g.S.Site.count c.prepare.new.site) g.S.Site.tells (g.S.Site.files s) answer) is_site c.in-Ok-prepare.ensures.reply;
    run = c.in-Ok-prepare.ensures.run.0;
    durable = λ t empty. subst (λ (s : g.row.S.Denot). AreDurable c.in-Ok.table.plan (g.S.Site.files s) (length c.in-Ok.table.plan.files) (g.S.Site.may_leave c.prepare.new.site)) is_site (c.in-Ok-prepare.ensures.durable t empty);
    within = within;
    moments = λ t. subst (λ (s : g.row.S.Denot). LeavesOnly g.S.Site.moment g.S.Site.images_since s c.prepare.new.site (IsImage (g.S.Site.may_leave s))) is_site (c.prepare.ensures.any_moment t);
  }

pub invariant_of-result : goal.invariant_of-result
invariant_of-result g c =
    let at = (goal.at.invariant_of-result g c).In-Ok-prepare in record {
      few = few_listed g.T.Terms.trust g.F.Commands.gives g.T.Terms.sources g.S.Site.tells g.T.Terms.kept g.S.Site.files g.S.Site.may_leave g.S.Site.moment g.S.Site.images_since g.T.Terms.born g.T.Terms.before c.args.plan c.args.options c.args.log.name c.args.history c.args.moment
          c.args.site c.prepare.new.site c.in-Ok.table c.prepare.new.table c.as_slice-2.result.now c.in-Ok-prepare.entry (g.S.Site.count c.args.site) (g.S.Site.count c.prepare.new.site) (found g at) (given g at);
      takes = c.requires.takes;
      place = let room = early_room c.args.plan c.args.options c.args.history (early g at) in omega (arith, room);
      gate = λ t. gate_within c.args.history c.args.log.gate c.args.log.name (g.S.Site.may_leave c.args.site) (g.S.Site.may_leave c.prepare.new.site) (within g at t) (c.requires.gate t);
      rises = let was = c.faults-faults.ensures in let same = ap g.S.Site.count (is_site g at) in let later = c.prepare.ensures.later in omega (arith, was, same, later);
      stands = subst (λ (l : List Record). Stands c.prepare.new.table (map moves.Logged l ++ (moves.Logged c.in-Ok-prepare.entry ∷ []))) c.as_slice-2.ensures c.in-Ok-prepare.ensures.run.1;
      no_stop = c.in-Ok-prepare.ensures.run.0.2 ∙ c.in-Ok.ensures.3;
      runs = c.in-Ok-prepare.ensures.run.2;
      may = may_start g.T.Terms.trust g.F.Commands.gives g.T.Terms.sources g.S.Site.tells g.T.Terms.kept g.S.Site.files g.S.Site.may_leave g.S.Site.moment g.S.Site.images_since g.T.Terms.born g.T.Terms.before c.args.plan c.args.options c.args.log.name c.args.history c.args.moment
          c.args.site c.prepare.new.site c.in-Ok.table c.prepare.new.table c.as_slice-2.result.now c.in-Ok-prepare.entry (g.S.Site.count c.args.site) (g.S.Site.count c.prepare.new.site) (found g at) (given g at);
    }

pub returns-in-Ok-prepare-clause-reply : goal.returns-in-Ok-prepare-clause-reply
returns-in-Ok-prepare-clause-reply g c =
    let at = (goal.at.returns-in-Ok-prepare-clause-reply g c).In-Ok-prepare in
    let is = prepared g.T.Terms.trust g.F.Commands.gives g.T.Terms.sources g.S.Site.tells g.T.Terms.kept g.S.Site.files g.S.Site.may_leave g.S.Site.moment g.S.Site.images_since g.T.Terms.born g.T.Terms.before c.args.plan c.args.options c.args.log.name c.args.history c.args.moment
    c.args.site c.prepare.new.site c.in-Ok.table c.prepare.new.table c.as_slice-2.result.now c.in-Ok-prepare.entry (g.S.Site.count c.args.site) (g.S.Site.count c.prepare.new.site) (given g at) in (
      early g at,
      is.1,
      is.0,
      ready_view c.prepare.new.table.plan c.args.plan c.prepare.new.table.options c.args.options c.args.log.name c.faults-faults.result (g.S.Site.count c.args.site) c.args.history c.in-Ok-prepare.entry c.prepare.new.site
          (c.in-Ok-prepare.ensures.run.0.0 ∙ c.in-Ok.ensures.1) (c.in-Ok-prepare.ensures.run.0.1 ∙ c.in-Ok.ensures.2) c.faults-faults.ensures,
    )

pub returns-in-Err-clause-reply : goal.returns-in-Err-clause-reply
returns-in-Err-clause-reply g c = (
  refl,
  refused-early g.S.Site.count c.args.plan c.args.options c.args.history g.S.Site.tells (g.S.Site.files c.args.site) c.args.site c.in-Err.why
      (subst (λ (l : List Record). Admits c.args.plan c.args.options l (let refusal : Result TableState StartFault = Err c.in-Err.why in refusal)) c.as_slice.ensures c.in-Err.ensures),
)

pub returns-in-Err-prepare-clause-reply : goal.returns-in-Err-prepare-clause-reply
returns-in-Err-prepare-clause-reply g c =
    let refused : Result Record StartFault = Err c.in-Err-prepare.why in (
      refl,
      subst (λ (s : g.row.S.Denot). IsRefusal g.S.Site.count c.args.plan c.args.options c.args.history g.S.Site.tells (g.S.Site.files c.args.site) c.args.site s c.in-Err-prepare.why) (sym c.into_site.ensures)
          (refused-late g.S.Site.count c.args.plan c.args.options c.args.history c.args.moment g.S.Site.tells (g.S.Site.files c.args.site) c.args.site c.prepare.new.site c.in-Err-prepare.why (subst (λ (l : List Record). early_fault c.args.plan c.args.options l ≡ None) c.as_slice.ensures c.in-Ok.ensures.0)
          (subst (λ (Q : Plan). Prepares Q c.args.options c.args.history c.args.moment (g.S.Site.count c.args.site) (g.S.Site.count c.prepare.new.site) g.S.Site.tells (g.S.Site.files c.args.site) refused) c.in-Ok.ensures.1
          (subst (λ (Q : Options). Prepares c.in-Ok.table.plan Q c.args.history c.args.moment (g.S.Site.count c.args.site) (g.S.Site.count c.prepare.new.site) g.S.Site.tells (g.S.Site.files c.args.site) refused) c.in-Ok.ensures.2
          (subst (λ (l : List Record). Prepares c.in-Ok.table.plan c.in-Ok.table.options l c.args.moment (g.S.Site.count c.args.site) (g.S.Site.count c.prepare.new.site) g.S.Site.tells (g.S.Site.files c.args.site) refused) c.as_slice-2.ensures
          (subst (λ (s : g.row.S.Denot). Prepares c.in-Ok.table.plan c.in-Ok.table.options c.as_slice-2.result.now c.args.moment (g.S.Site.count s) (g.S.Site.count c.prepare.new.site) g.S.Site.tells (g.S.Site.files s) refused) c.new-site.ensures c.in-Err-prepare.ensures.reply))))),
    )

pub returns-in-Err-clause-any_moment : goal.returns-in-Err-clause-any_moment
returns-in-Err-clause-any_moment g c told =
    started g.S.Site.moment g.S.Site.images_since c.args.site (IsImage (g.S.Site.may_leave c.args.site))
    (λ image left. (g.met.S.Site g.world.𝓛 g.world.𝓜 g.world.𝓡 ((λ s x. x), (λ x. x), (λ x. x), λ x. x)).only_now told c.args.site image left)

pub returns-in-Err-prepare-clause-reads : goal.returns-in-Err-prepare-clause-reads
returns-in-Err-prepare-clause-reads g c told m apart =
    ap (λ (s : g.row.S.Denot). g.S.Site.files s m) c.into_site.ensures
    ∙ (c.in-Err-prepare.ensures.reads told m (λ cut. subst (λ (Q : Plan). IsNoSource Q m) (sym c.in-Ok.ensures.1) (apart cut))
    ∙ ap (λ (s : g.row.S.Denot). g.S.Site.files s m) c.new-site.ensures)

pub returns-in-Ok-prepare-clause-reads : goal.returns-in-Ok-prepare-clause-reads
returns-in-Ok-prepare-clause-reads g c told m apart =
    c.in-Ok-prepare.ensures.reads told m (λ cut. absurd cut) ∙ ap (λ (s : g.row.S.Denot). g.S.Site.files s m) c.new-site.ensures

pub returns-in-Ok-prepare-clause-within : goal.returns-in-Ok-prepare-clause-within
returns-in-Ok-prepare-clause-within g c told =
    subst (λ (s : g.row.S.Denot). Within (g.S.Site.may_leave s) (g.S.Site.may_leave c.prepare.new.site)) c.new-site.ensures (c.prepare.ensures.within told)

pub returns-in-Err-prepare-clause-within : goal.returns-in-Err-prepare-clause-within
returns-in-Err-prepare-clause-within g c told =
    subst (λ (s : g.row.S.Denot). Within (g.S.Site.may_leave c.args.site) (g.S.Site.may_leave s)) (sym c.into_site.ensures)
    (subst (λ (s : g.row.S.Denot). Within (g.S.Site.may_leave s) (g.S.Site.may_leave c.prepare.new.site)) c.new-site.ensures (c.prepare.ensures.within told))

pub prepare-requires-clause-early : goal.prepare-requires-clause-early
prepare-requires-clause-early g c κs within =
    subst (λ (Q : Plan). early_fault Q c.in-Ok.table.options c.as_slice-2.result.now ≡ None) (sym c.in-Ok.ensures.1)
    (subst (λ (Q : Options). early_fault c.args.plan Q c.as_slice-2.result.now ≡ None) (sym c.in-Ok.ensures.2)
    (subst (λ (l : List Record). early_fault c.args.plan c.args.options l ≡ None) (c.as_slice.ensures ∙ sym c.as_slice-2.ensures) c.in-Ok.ensures.0))
