use Rattle.std.proofs.Common.{◌≡◌, ◌∙◌, Ok, ap, subst, sym}
use Rattle.link_session.specs.declared.word.Word.TheVariants as words
use Rattle.link_session.specs.Sessions.{Comes, told}
use Rattle.foreman_core.specs.Answers.{Leads}
use Rattle.foreman_core.specs.Steps.{greeted, new_session}
use Rattle.foreman_core.proofs.Hearing.{greets_by}
use Rattle.foreman_core.proofs.foreman.ForemanCore.greet.Goals as goal

pub returns-in-Ok-Joined : goal.returns-in-Ok-Joined
returns-in-Ok-Joined c =
    let f = c.args.self.now in
    let m = c.args.message.now in
    let session = c.on_message.new.self in
    let comes : Comes (told new_session m) new_session c.on_message.result session = subst (λ s. Comes (told s m) s c.on_message.result session) c.new-session.ensures c.on_message.ensures.told in
    let is : c.on_message.result ≡ Ok (words.Joined c.in-Ok-Joined.total c.in-Ok-Joined.largest c.in-Ok-Joined.cache) = c.in-Ok-Joined.is ∙ ap (λ word. Ok word) c.in-Ok-Joined.field-0-is in
    greets_by f c.args.link (told new_session m) new_session session c.on_message.result c.join.result c.join.new.self comes (λ wants. cc)
    (subst (λ a. Leads (greeted f c.args.link session a) f c.join.result c.join.new.self) (sym is) c.join.ensures)
