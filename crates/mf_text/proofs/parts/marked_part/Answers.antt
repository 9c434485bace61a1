use Rattle.std.proofs.Common.{◌≡◌, ℕ, [], ◌∷◌, drop, false, sym, ap}
use Rattle.std.proofs.lemmas.Str.Pattern.{split_once_first}
use Rattle.std.proofs.Common.{None}
use Rattle.mf_text.specs.Expansion.{Piece, holds}
use Rattle.mf_text.proofs.Cutting.{lacks_without_place, between-lacking}
use Rattle.mf_text.proofs.parts.marked_part.Goals as goal

pub returns-in-None-clause-part : goal.returns-in-None-clause-part
returns-in-None-clause-part c =
    let none : holds c.args.close c.args.text.now ≡ false = lacks_without_place _ _ (split_once_first c.args.close c.args.text.now None c.in-None.ensures.cases c.requires.ascii) in
    ap (λ (p : Piece × ℕ). p.0 ∷ []) (sym (between-lacking c.args.close c.args.text.now none))

pub returns-in-None-clause-rest : goal.returns-in-None-clause-rest
returns-in-None-clause-rest c =
    let none : holds c.args.close c.args.text.now ≡ false = lacks_without_place _ _ (split_once_first c.args.close c.args.text.now None c.in-None.ensures.cases c.requires.ascii) in
    ap (λ (p : Piece × ℕ). drop p.1 c.args.text.now) (sym (between-lacking c.args.close c.args.text.now none))

pub returns-in-None-clause-lacks : goal.returns-in-None-clause-lacks
returns-in-None-clause-lacks c = λ _.
    lacks_without_place _ _ (split_once_first c.args.close c.args.text.now None c.in-None.ensures.cases c.requires.ascii)
