use Rattle.std.proofs.Common.{refl, ap, ◌∙◌}
use Rattle.jx_tokens.specs.declared.token.Kind.{Kind}
use Rattle.jx_syntax.specs.Reading.{State, wants_key, wants_colon, step}
use Rattle.jx_syntax.proofs.pending.Reader.key.Goals as goal

pub returns-in-Text : goal.returns-in-Text
returns-in-Text c = record {
  shown = λ st h. (
    wants_colon h.0 c.args.at h.1 c.args.place c.in-Text.key,
    ap (λ (s : State). step 128 s (record { place = c.args.place; kind = c.args.kind })) h.2
        ∙ ap (λ (k : Kind). step 128 (wants_key h.0 c.args.at h.1) (record { place = c.args.place; kind = k })) c.in-Text.is,
    (h.0, h.1, c.args.place, refl, h.3, h.4, h.5),
  );
}
