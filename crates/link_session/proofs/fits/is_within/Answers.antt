use Rattle.std.proofs.Common.{rules, ◌≡◌, ◌+◌, ◌&&◌, Bool, length, drop, get_or, refl, sym, ap, ◌∙◌}
use Rattle.wq_messages.specs.Views.{contents_of}
use Rattle.link_session.specs.Fits.{are_within}
use Rattle.link_session.proofs.Contents.{other_length, step_within}
use Rattle.link_session.proofs.fits.is_within.Goals as goal

pub returns-then-bounds-count : goal.returns-then-bounds-count
returns-then-bounds-count c =
    let differ = c.if-bounds-count.true in
    other_length c.args.bounds.now (contents_of c.args.message.now) (λ same. absurd (let h : ⊥ = search rules in h))

pub returns-then-not-is_content_within : goal.returns-then-not-is_content_within
returns-then-not-is_content_within c =
    let bounds = c.args.bounds.now in
    let contents = contents_of c.args.message.now in
    let i = c.loop-at.at in
    let same : length bounds ≡ length contents = search rules in
    let step = step_within bounds contents i (get_or bounds i 0) c.is_content_within.result same c.loop-at-test.true refl c.is_content_within.ensures in
    sym (c.loop-at.invariant ∙ step ∙ ap (λ (b : Bool). b && are_within (drop (i + 1) bounds) (drop (i + 1) contents)) c.if-not-is_content_within.true)

pub loop-at-preserved : goal.loop-at-preserved
loop-at-preserved c =
    let bounds = c.args.bounds.now in
    let contents = contents_of c.args.message.now in
    let i = c.loop-at.at in
    let same : length bounds ≡ length contents = search rules in
    let step = step_within bounds contents i (get_or bounds i 0) c.is_content_within.result same c.loop-at-test.true refl c.is_content_within.ensures in
    c.loop-at.invariant ∙ step ∙ ap (λ (b : Bool). b && are_within (drop (i + 1) bounds) (drop (i + 1) contents)) c.if-not-is_content_within.false
