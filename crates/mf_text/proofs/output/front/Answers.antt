use Rattle.std.proofs.Common.{ℕ, take, sym, ap, ◌∙◌}
use Rattle.mf_text.proofs.Fronts.{last_boundary}
use Rattle.mf_text.proofs.output.front.Goals as goal

pub returns : goal.returns
returns c =
    c.split_at.ensures.front
    ∙ ap (λ (n : ℕ). take n c.args.text.now) (sym (last_boundary c.args.text.now c.args.room c.floor_char_boundary.result c.requires (c.floor_char_boundary.ensures.bound, c.floor_char_boundary.ensures.boundary, c.floor_char_boundary.ensures.nearest)))
