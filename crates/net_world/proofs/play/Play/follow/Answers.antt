use Rattle.std.proofs.Common.{sym, ap, ◌∙◌, subst}
use Rattle.std.proofs.lemmas.Result.{on_ok_weaker}
use Rattle.link_session.specs.declared.word.Word.TheVariants as words
use Rattle.net_world.specs.Hearings.{Follows}
use Rattle.net_world.proofs.play.Play.follow.Goals as goal

pub returns-in-PutAgain : goal.returns-in-PutAgain
returns-in-PutAgain c = on_ok_weaker c.put_again.result (λ follows.
    subst (λ word. Follows c.args.link.0 c.args.peer word c.args.self.now c.put_again.new.self) (ap (words.PutAgain c.in-PutAgain.attempt) c.as_slice.ensures ∙ sym c.in-PutAgain.is) (follows c.args.link.0))
    c.put_again.ensures
