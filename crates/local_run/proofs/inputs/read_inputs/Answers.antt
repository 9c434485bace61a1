use Rattle.std.proofs.Common.{◌≡◌, ◌<◌, ◌∙◌, List, [], ◌∷◌, ◌++◌, length, map, take, ap, arith, refl, sym}
use Rattle.std.proofs.lemmas.List.{map_more}
use Rattle.flow_types.specs.declared.job.Given.{Given}
use Rattle.flow_types.specs.Serial.{serial}
use Rattle.desk.specs.State.{DeskState}
use Rattle.local_run.specs.Jobs.{given_at}
use Rattle.local_run.proofs.Alone.{alone_same, alone_then}
use Rattle.local_run.proofs.Reading.{ok_over}
use Rattle.local_run.proofs.inputs.read_inputs.Goals as goal

pub loop-port-init : goal.loop-port-init
loop-port-init g c = record {
  same = refl;
  given = λ told kept trust. c.new-inputs.ensures.items;
  others = λ told. alone_same g.S.Site.files g.S.Site.may_leave g.S.Site.moment g.S.Site.images_since (λ m. Unit {0}) c.args.desk.now.site (λ image. (g.met.S.Site g.world.𝓛 g.world.𝓜 g.world.𝓡 ((λ s x. x), (λ x. x), (λ x. x), λ x. x)).only_now told c.args.desk.now.site image);
}

pub loop-port-preserved : goal.loop-port-preserved
loop-port-preserved g c =
    let given = given_at (serial c.args.desk.now.plan g.F.Commands.gives g.T.Terms.sources) in
    let lt : c.loop-port.port-index < length c.args.ports.now = omega arith in
    record {
      same = ok_over c.args.desk.now c.loop-port.desk c.read_port.new.desk c.loop-port.invariant.same c.in-Ok.ensures.reply;
      given = λ told kept trust.
          let due : c.in-Ok.given ≡ given c.port-item.result =
          c.in-Ok.ensures.due told kept trust ∙ ap (λ (v : DeskState g.row.S.Denot). given_at (serial v.plan g.F.Commands.gives g.T.Terms.sources) c.port-item.result) c.loop-port.invariant.same in
          c.in-Ok-push.ensures.items
          ∙ ap (λ (xs : List Given). xs ++ (c.in-Ok.given ∷ [])) (c.loop-port.invariant.given told kept trust)
          ∙ ap (λ (x : Given). map given (take c.loop-port.port-index c.args.ports.now) ++ (x ∷ [])) (due ∙ ap given c.port-item.is)
          ∙ sym (map_more given c.args.ports.now c.loop-port.port-index c.port-item.result lt);
      others = λ told. alone_then g.S.Site.files g.S.Site.may_leave g.S.Site.moment g.S.Site.images_since (λ m. Unit {0}) c.args.desk.now.site c.loop-port.desk.site c.read_port.new.desk.site (c.loop-port.invariant.others told) (c.read_port.ensures.others told);
    }

pub returns-in-Err-clause-others : goal.returns-in-Err-clause-others
returns-in-Err-clause-others g c told =
    alone_then g.S.Site.files g.S.Site.may_leave g.S.Site.moment g.S.Site.images_since (λ m. Unit {0}) c.args.desk.now.site c.loop-port.desk.site c.read_port.new.desk.site
    (c.loop-port.invariant.others told) (c.read_port.ensures.others told)
