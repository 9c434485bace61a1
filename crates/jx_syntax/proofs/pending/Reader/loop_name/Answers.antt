use Rattle.std.proofs.Common.{refl, ap, ◌∙◌}
use Rattle.jx_tokens.specs.declared.token.Kind.{Kind}
use Rattle.jx_syntax.specs.Reading.{State, wants_name, wants_in, step}
use Rattle.jx_syntax.proofs.pending.Reader.loop_name.Goals as goal

pub returns-in-Name : goal.returns-in-Name
returns-in-Name c = record {
  shown = λ st h. (
    wants_in h.0 c.args.at h.1 h.2 c.args.start c.args.place c.in-Name.name,
    ap (λ (s : State). step 128 s (record { place = c.args.place; kind = c.args.kind })) h.3
        ∙ ap (λ (k : Kind). step 128 (wants_name h.0 c.args.at h.1 h.2 c.args.start) (record { place = c.args.place; kind = k })) c.in-Name.is,
    (h.0, h.1, h.2, c.args.place, refl, h.4, h.5, h.6, h.7),
  );
}
