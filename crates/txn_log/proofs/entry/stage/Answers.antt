use Rattle.std.proofs.Common.{rules, ◌≡◌, ◌≤◌, ◌-◌, ◌+◌, ◌++◌, [], ◌∷◌, length, ℕ, List, arith, ap, sym, ◌∙◌}
use Rattle.byteorder.specs.Endian.{big_bytes}
use Rattle.log_records.specs.Spelling.{spelling}
use Rattle.txn_log.proofs.Entries.{staged_is}
use Rattle.txn_log.proofs.entry.stage.Goals as goal

pub returns-clause-text : goal.returns-clause-text
returns-clause-text c =
    let long : length c.write_record_at.new.into ≡ c.record_len-len.result = ap length c.write_record_at.ensures.text ∙ sym c.record_len-len.ensures.len in
    let fits : 4 + c.record_len-len.result ≤ length c.place_u32-at.new.into = search rules in
    let all : length c.place_u8-end.new.into ≤ c.place_u8-end.result = search rules in
    staged_is c.place_u32-at.new.into c.write_record_at.new.into c.place_u8-end.new.into (big_bytes 4 c.record_len-len.result) c.record_len-len.result (4 + c.record_len-len.result - 4) c.place_u8-end.result
    (search rules) (omega arith) long fits c.place_u8-end.ensures.text all
    ∙ ap (λ (n : ℕ). big_bytes 4 n ++ (c.write_record_at.new.into ++ 0 ∷ [])) c.record_len-len.ensures.len
    ∙ ap (λ (t : List ℕ). big_bytes 4 (length (spelling c.args.entry.now)) ++ (t ++ 0 ∷ [])) c.write_record_at.ensures.text
