use Rattle.std.proofs.Common.{rules, ◌≡◌, false, length, sym, ap, subst, arith}
use Rattle.foreman_run.specs.Lost.{seen_of}
use Rattle.foreman_run.specs.Lowers.{CareState, IsHeld, LowerState}
use Rattle.foreman_run.proofs.Lowering.{piece_held, starved_held}
use Rattle.foreman_run.proofs.lower.Lower.listen.Goals.{then-is_err, else-is_err}
use Rattle.foreman_run.proofs.lower.Lower.listen.Goals as goal

pub returns-after-is_err-clause-held : goal.returns-after-is_err-clause-held
returns-after-is_err-clause-held g c = λ roll heard held.
    let old : LowerState _ = record { link = c.self.inside.link; way = c.self.inside.way; ear = c.self.inside.ear; care = c.self.inside.care; gone = c.self.inside.gone; starved = c.self.inside.starved } in
    let before : c.self.inside.gone ≡ false = search rules in
    let bytes = c.in-Ok-Piece.piece in
    let fed : c.as_slice.result.now ≡ bytes = search rules in
    elim c.if-is_err.branch [
      | then-is_err w ↦ starved_held g.L.Link.tells (seen_of g.L.Link.history g.L.Link.is_closed g.L.Link.count g.L.Link.idle_count) roll heard c.if-is_err.self (search rules) (search rules)
      | else-is_err w ↦
          let care : c.if-is_err.self.care ≡ c.take.new.self = search rules in
          piece_held g.L.Link.tells (seen_of g.L.Link.history g.L.Link.is_closed g.L.Link.count g.L.Link.idle_count) roll heard old c.if-is_err.self bytes (search rules) (search rules) (search rules) (search rules)
          (omega (arith, c.take.ensures.early, ap (λ (k : CareState). k.early) care, ap length fed)) before (search rules)
          (λ t. search rules) (subst (IsHeld g.L.Link.tells (seen_of g.L.Link.history g.L.Link.is_closed g.L.Link.count g.L.Link.idle_count) roll heard) (sym c.self.view_is) held)
    ]
