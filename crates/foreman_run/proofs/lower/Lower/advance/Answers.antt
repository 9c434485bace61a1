use Rattle.std.proofs.Common.{rules, ◌≡◌, ◌∙◌, Bool, false, Result, Ok, Err, sym, ap, subst}
use Rattle.peer_run.specs.Ends.{Advanced}
use Rattle.wq_frames.specs.declared.feeder.FeedFault.{FeedFault}
use Rattle.foreman_run.specs.Lost.{seen_of}
use Rattle.foreman_run.specs.Lowers.{IsHeld, LowerState}
use Rattle.foreman_run.proofs.Lowering.{broken_held, late_or, waits_held}
use Rattle.foreman_run.proofs.lower.Lower.advance.Goals as goal

pub returns-in-Ok-false-clause-held : goal.returns-in-Ok-false-clause-held
returns-in-Ok-false-clause-held g c = λ none roll heard held.
    let old : LowerState _ = record { link = c.self.inside.link; way = c.self.inside.way; ear = c.self.inside.ear; care = c.self.inside.care; gone = c.self.inside.gone; starved = c.self.inside.starved } in
    let before : c.self.inside.gone ≡ false = search rules in
    let took = subst (λ (b : Bool). let r : Result Bool FeedFault = Ok b in Advanced c.self.inside.ear r c.advance.new.self) c.in-Ok-false.field-0-test c.in-Ok-false.ensures in
    waits_held g.L.Link.tells (seen_of g.L.Link.history g.L.Link.is_closed g.L.Link.count g.L.Link.idle_count) roll heard old c.wait_on.new.self (search rules) (search rules) (ap (λ (l : LowerState _). l.ear.rest) c.wait_on.ensures.same ∙ took.1) (search rules) before took.0
    (λ gone. late_or c.self.inside.gone _ before (c.wait_on.ensures.left gone)) (subst (IsHeld g.L.Link.tells (seen_of g.L.Link.history g.L.Link.is_closed g.L.Link.count g.L.Link.idle_count) roll heard) (sym c.self.view_is) held)

pub returns-in-Err-TooLong-clause-held : goal.returns-in-Err-TooLong-clause-held
returns-in-Err-TooLong-clause-held g c = λ none roll heard held.
    let old : LowerState _ = record { link = c.self.inside.link; way = c.self.inside.way; ear = c.self.inside.ear; care = c.self.inside.care; gone = c.self.inside.gone; starved = c.self.inside.starved } in
    let before : c.self.inside.gone ≡ false = search rules in
    let broken = subst (λ (f : FeedFault). let r : Result Bool FeedFault = Err f in Advanced c.self.inside.ear r c.advance.new.self) c.in-Err-TooLong.field-0-is c.in-Err-TooLong.ensures in
    broken_held g.L.Link.tells (seen_of g.L.Link.history g.L.Link.is_closed g.L.Link.count g.L.Link.idle_count) roll heard old _ (search rules) (search rules) before (search rules) broken (subst (IsHeld g.L.Link.tells (seen_of g.L.Link.history g.L.Link.is_closed g.L.Link.count g.L.Link.idle_count) roll heard) (sym c.self.view_is) held)

pub returns-in-Err-Bad-clause-held : goal.returns-in-Err-Bad-clause-held
returns-in-Err-Bad-clause-held g c = λ none roll heard held.
    let old : LowerState _ = record { link = c.self.inside.link; way = c.self.inside.way; ear = c.self.inside.ear; care = c.self.inside.care; gone = c.self.inside.gone; starved = c.self.inside.starved } in
    let before : c.self.inside.gone ≡ false = search rules in
    let broken = subst (λ (f : FeedFault). let r : Result Bool FeedFault = Err f in Advanced c.self.inside.ear r c.advance.new.self) c.in-Err-Bad.field-0-is c.in-Err-Bad.ensures in
    broken_held g.L.Link.tells (seen_of g.L.Link.history g.L.Link.is_closed g.L.Link.count g.L.Link.idle_count) roll heard old _ (search rules) (search rules) before (search rules) broken (subst (IsHeld g.L.Link.tells (seen_of g.L.Link.history g.L.Link.is_closed g.L.Link.count g.L.Link.idle_count) roll heard) (sym c.self.view_is) held)
