-- An expression that nests too deep is refused for that alone.
use Rattle.std.proofs.Common.{◌≡◌, ℕ, ◌<◌, ◌≤◌, [], ◌∷◌, ◌++◌, None, Result, Ok, Err, sym, ap, subst, ◌∙◌, append_assoc, arith, inl, inr}
use Rattle.jx_tokens.specs.declared.fault.JxFault.{JxFault}
use Rattle.jx_tokens.specs.declared.fault.JxFault.TheVariants.{NotUtf8, Unexpected, OpenText, FloatUnsupported, IntTooWide, TooDeep, TooLarge, Memory}
use Rattle.jx_tokens.specs.declared.token.Token.{Token}
use Rattle.jx_syntax.specs.Grammar.{Derivation, nests, spells, IsSentence, IsViable, StopsAt, IsRefused}
use Rattle.jx_syntax.specs.Reading.{State, wants, then_on, run, finished}
use Rattle.jx_syntax.proofs.Complete.{sentence_is_read}
use Rattle.jx_syntax.proofs.Decided.{Explained, IsStopped, Means, explained, begins, means_finished}
use Rattle.jx_syntax.proofs.Unique.{goes_on}

-- all tokens up to this one begin a whole expression
begins_it : (limit : ℕ) (d : Derivation) (t : Token) → IsSentence limit d → (s : StopsAt (spells d []) t) → IsViable limit (s.before ++ t ∷ [])
begins_it limit d t h s = (d, s.behind, h, s.split ∙ sym (append_assoc s.before (t ∷ []) s.behind))

by_fault : (limit len : ℕ) (d : Derivation) (e : JxFault) → IsSentence limit d → IsStopped (spells d []) e → (place : ℕ) × IsRefused len (spells d []) (TooDeep place)
by_fault limit len d (TooDeep place) h stop = (place, stop.1 len)
by_fault limit len d (Unexpected place) h stop = pick (stop.1 len)
  where
    pick : IsRefused len (spells d []) (Unexpected place) → (place : ℕ) × IsRefused len (spells d []) (TooDeep place)
    pick (inl r) = absurd (r.4 limit (begins_it limit d r.0 h r.1))
    pick (inr r) = absurd (goes_on (spells d []) stop.0.0 stop.0.1 r.1)
by_fault limit len d (IntTooWide place) h stop = let r = stop.1 len in absurd (r.4 limit (begins_it limit d r.0 h r.1))
by_fault limit len d (NotUtf8 place) h stop = absurd (stop.1 len)
by_fault limit len d (OpenText place) h stop = absurd (stop.1 len)
by_fault limit len d (FloatUnsupported place) h stop = absurd (stop.1 len)
by_fault limit len d TooLarge h stop = absurd (stop.1 len)
by_fault limit len d Memory h stop = absurd (stop.1 len)

by_run : (limit len : ℕ) (d : Derivation) (r : Result State JxFault) → 128 ≤ limit → IsSentence limit d → 128 < nests d → Explained (spells d []) r
    → (place : ℕ) × IsRefused len (spells d []) (TooDeep place)
unfolding run
by_run limit len d (Ok st) le h deep x =
    let reached : run limit (wants []) (spells d []) ≡ Ok st = ap (run limit (wants [])) (sym x.1) ∙ x.0.along limit [] le in
    let read : finished len st ≡ Ok d = ap (λ (r : Result State JxFault). then_on r (finished len)) (sym reached) ∙ sentence_is_read limit len d h in
    let means = subst (Means len (spells d []) None) read (means_finished len st (spells d []) x.0 x.1) in
    absurd (omega (arith, deep, means.0.0.nesting))
by_run limit len d (Err e) le h deep x = by_fault limit len d e h x

pub deep_is_refused : (limit len : ℕ) (d : Derivation) → IsSentence limit d → 128 < nests d → (place : ℕ) × IsRefused len (spells d []) (TooDeep place)
deep_is_refused limit len d h deep = by_run limit len d (run 128 (wants []) (spells d [])) (omega (arith, h.nesting)) h deep (explained (spells d []) (wants []) begins)
