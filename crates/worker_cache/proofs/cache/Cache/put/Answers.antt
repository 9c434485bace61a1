use Rattle.std.proofs.Common.{◌≡◌, ◌+◌, ◌-◌, ℕ, true, false, length, Ok, Err, List, sym, ap, subst, ◌∙◌, arith}
use Rattle.std.proofs.lemmas.Bool.{lt-ltb, le-ltb}
use Rattle.worker_cache.specs.declared.fault.PutRefused.TheVariants as refused
use Rattle.worker_cache.specs.Answers.{Puts}
use Rattle.worker_cache.specs.Caches.{Cached, is_full, pinned_bytes, placed, put_in, bytes_of, all_pinned, content_of}
use Rattle.worker_cache.proofs.Counts.{room_pins}
use Rattle.worker_cache.proofs.Puts.{is_put, kept_is, total_is, pins_are, some_le, puts_full, puts_memory, puts_done, made_is, put_fits, of_err, of_ok, found_put}
use Rattle.worker_cache.proofs.cache.Cache.put.Goals as goal

pub returns-then-kept-bytes-clause-step : goal.returns-then-kept-bytes-clause-step
returns-then-kept-bytes-clause-step c =
    let rows = c.self.inside.rows in
    let cap = c.self.inside.cap in
    let key = c.args.key in
    let content = c.args.content in
    let len : length c.as_slice.result.now ≡ length content = ap (λ (b : List ℕ). length b) c.as_slice.ensures in
    let put = is_put key content rows c.look-old.ensures.distinct in
    let kept = kept_is key content rows c.self.inside.pinned c.look-old.result.0 c.saturating_sub-kept.result c.if_pinned.result c.look-old.result.1 put
    c.look-old.ensures.bytes c.look-old.ensures.pinned c.if_pinned.ensures c.self.invariant.pins c.saturating_sub-kept.ensures in
    let full : is_full key (length content) cap rows ≡ true = lt-ltb cap (pinned_bytes key rows + length content) (omega (arith, c.if-kept-bytes.true, kept, len)) in
    subst (λ (s : Cached). Puts (is_full key (length content) s.cap s.rows) key content s (Err (refused.Full (length c.as_slice.result.now) cap)) s) c.self.view_is
    (puts_full key content cap (length c.as_slice.result.now) rows full len)

pub returns-then-is_err-clause-step : goal.returns-then-is_err-clause-step
returns-then-is_err-clause-step c =
    let rows = c.self.inside.rows in
    let made = c.place.new.rows in
    let cap = c.self.inside.cap in
    let key = c.args.key in
    let content = c.args.content in
    let len : length c.as_slice.result.now ≡ length content = ap (λ (b : List ℕ). length b) c.as_slice.ensures in
    let put = is_put key content rows c.look-old.ensures.distinct in
    let kept = kept_is key content rows c.self.inside.pinned c.look-old.result.0 c.saturating_sub-kept.result c.if_pinned.result c.look-old.result.1 put
    c.look-old.ensures.bytes c.look-old.ensures.pinned c.if_pinned.ensures c.self.invariant.pins c.saturating_sub-kept.ensures in
    let room : is_full key (length content) cap rows ≡ false = le-ltb cap (pinned_bytes key rows + length content) (omega (arith, c.if-kept-bytes.false, kept, len)) in
    let same : made ≡ rows = of_err c.place.result (made ≡ rows) (sym c.is_err.ensures.value ∙ c.if-is_err.true) c.place.ensures.err in
    subst (λ (s : Cached). Puts (is_full key (length content) s.cap s.rows) key content s (Err refused.Memory) (record { cap = cap; rows = made })) c.self.view_is
    (puts_memory key content cap rows made room same)

pub fit-self-inside-requires-clause-total : goal.fit-self-inside-requires-clause-total
fit-self-inside-requires-clause-total c =
    let rows = c.self.inside.rows in
    let made = c.place.new.rows in
    let key = c.args.key in
    let content = c.args.content in
    let put = is_put key content rows c.look-old.ensures.distinct in
    let is : made ≡ placed key content rows = of_ok c.place.result (made ≡ placed key content rows) (sym c.is_err.ensures.value ∙ c.if-is_err.false) c.place.ensures.ok in
    total_is key content rows made c.self.inside.bytes c.look-old.result.0 c.saturating_sub.result (length c.as_slice.result.now) put
    c.look-old.ensures.bytes c.self.invariant.all c.saturating_sub.ensures (ap (λ (b : List ℕ). length b) c.as_slice.ensures) is

pub fit-self-inside-requires-clause-fits : goal.fit-self-inside-requires-clause-fits
fit-self-inside-requires-clause-fits c =
    let rows = c.self.inside.rows in
    let made = c.place.new.rows in
    let cap = c.self.inside.cap in
    let key = c.args.key in
    let content = c.args.content in
    let n = length c.as_slice.result.now in
    let len : n ≡ length content = ap (λ (b : List ℕ). length b) c.as_slice.ensures in
    let put = is_put key content rows c.look-old.ensures.distinct in
    let kept = kept_is key content rows c.self.inside.pinned c.look-old.result.0 c.saturating_sub-kept.result c.if_pinned.result c.look-old.result.1 put
    c.look-old.ensures.bytes c.look-old.ensures.pinned c.if_pinned.ensures c.self.invariant.pins c.saturating_sub-kept.ensures in
    let room : is_full key (length content) cap rows ≡ false = le-ltb cap (pinned_bytes key rows + length content) (omega (arith, c.if-kept-bytes.false, kept, len)) in
    let is : made ≡ placed key content rows = of_ok c.place.result (made ≡ placed key content rows) (sym c.is_err.ensures.value ∙ c.if-is_err.false) c.place.ensures.ok in
    let total = c.saturating_sub.result + n in
    let sum : total ≡ bytes_of made = total_is key content rows made c.self.inside.bytes c.look-old.result.0 c.saturating_sub.result n put
    c.look-old.ensures.bytes c.self.invariant.all c.saturating_sub.ensures len is in
    let left = made_is cap total key content rows made is sum in
    omega (arith, ap bytes_of left, put_fits cap key content rows put room)

pub invariant_of-self-2 : goal.invariant_of-self-2
invariant_of-self-2 c =
    let rows = c.self.inside.rows in
    let made = c.place.new.rows in
    let new = c.fit-self-inside.new.rows in
    let cap = c.self.inside.cap in
    let key = c.args.key in
    let content = c.args.content in
    let n = length c.as_slice.result.now in
    let len : n ≡ length content = ap (λ (b : List ℕ). length b) c.as_slice.ensures in
    let put = is_put key content rows c.look-old.ensures.distinct in
    let kept = kept_is key content rows c.self.inside.pinned c.look-old.result.0 c.saturating_sub-kept.result c.if_pinned.result c.look-old.result.1 put
    c.look-old.ensures.bytes c.look-old.ensures.pinned c.if_pinned.ensures c.self.invariant.pins c.saturating_sub-kept.ensures in
    let room : is_full key (length content) cap rows ≡ false = le-ltb cap (pinned_bytes key rows + length content) (omega (arith, c.if-kept-bytes.false, kept, len)) in
    let is : made ≡ placed key content rows = of_ok c.place.result (made ≡ placed key content rows) (sym c.is_err.ensures.value ∙ c.if-is_err.false) c.place.ensures.ok in
    let total = c.saturating_sub.result + n in
    let sum : total ≡ bytes_of made = total_is key content rows made c.self.inside.bytes c.look-old.result.0 c.saturating_sub.result n put
    c.look-old.ensures.bytes c.self.invariant.all c.saturating_sub.ensures len is in
    let left : new ≡ put_in cap key content rows = c.fit-self-inside.ensures.rows
    ∙ made_is cap total key content rows made is sum in
    let pins = pins_are key content rows made c.saturating_sub-kept.result n c.if_pinned-2.result c.look-old.result.1 put c.look-old.ensures.pinned kept len c.if_pinned-2.ensures is in
    let stay : all_pinned new ≡ all_pinned made = ap all_pinned left ∙ room_pins (bytes_of (placed key content rows) - cap) (placed key content rows) ∙ sym (ap all_pinned is) in
    record {
      all = c.fit-self-inside.ensures.bytes;
      pins = omega (arith, c.saturating_add-self-inside.ensures, c.self.ranges, stay, pins, some_le c.look-old.result.1 n c.if_pinned-2.result c.if_pinned-2.ensures, c.if-kept-bytes.false);
      fits = c.fit-self-inside.ensures.fits;
    }

pub returns-clause-step : goal.returns-clause-step
returns-clause-step c =
    let rows = c.self.inside.rows in
    let made = c.place.new.rows in
    let new = c.fit-self-inside.new.rows in
    let cap = c.self.inside.cap in
    let key = c.args.key in
    let content = c.args.content in
    let n = length c.as_slice.result.now in
    let len : n ≡ length content = ap (λ (b : List ℕ). length b) c.as_slice.ensures in
    let put = is_put key content rows c.look-old.ensures.distinct in
    let kept = kept_is key content rows c.self.inside.pinned c.look-old.result.0 c.saturating_sub-kept.result c.if_pinned.result c.look-old.result.1 put
    c.look-old.ensures.bytes c.look-old.ensures.pinned c.if_pinned.ensures c.self.invariant.pins c.saturating_sub-kept.ensures in
    let room : is_full key (length content) cap rows ≡ false = le-ltb cap (pinned_bytes key rows + length content) (omega (arith, c.if-kept-bytes.false, kept, len)) in
    let is : made ≡ placed key content rows = of_ok c.place.result (made ≡ placed key content rows) (sym c.is_err.ensures.value ∙ c.if-is_err.false) c.place.ensures.ok in
    let total = c.saturating_sub.result + n in
    let sum : total ≡ bytes_of made = total_is key content rows made c.self.inside.bytes c.look-old.result.0 c.saturating_sub.result n put
    c.look-old.ensures.bytes c.self.invariant.all c.saturating_sub.ensures len is in
    let left : new ≡ put_in cap key content rows = c.fit-self-inside.ensures.rows
    ∙ made_is cap total key content rows made is sum in
    subst (λ (s : Cached). Puts (is_full key (length content) s.cap s.rows) key content s (Ok tt) (record { cap = cap; rows = new })) c.self.view_is
    (puts_done key content cap rows new room left)

pub returns-clause-found : goal.returns-clause-found
returns-clause-found c =
    let rows = c.self.inside.rows in
    let made = c.place.new.rows in
    let new = c.fit-self-inside.new.rows in
    let cap = c.self.inside.cap in
    let key = c.args.key in
    let content = c.args.content in
    let n = length c.as_slice.result.now in
    let len : n ≡ length content = ap (λ (b : List ℕ). length b) c.as_slice.ensures in
    let put = is_put key content rows c.look-old.ensures.distinct in
    let kept = kept_is key content rows c.self.inside.pinned c.look-old.result.0 c.saturating_sub-kept.result c.if_pinned.result c.look-old.result.1 put
    c.look-old.ensures.bytes c.look-old.ensures.pinned c.if_pinned.ensures c.self.invariant.pins c.saturating_sub-kept.ensures in
    let room : is_full key (length content) cap rows ≡ false = le-ltb cap (pinned_bytes key rows + length content) (omega (arith, c.if-kept-bytes.false, kept, len)) in
    let is : made ≡ placed key content rows = of_ok c.place.result (made ≡ placed key content rows) (sym c.is_err.ensures.value ∙ c.if-is_err.false) c.place.ensures.ok in
    let total = c.saturating_sub.result + n in
    let sum : total ≡ bytes_of made = total_is key content rows made c.self.inside.bytes c.look-old.result.0 c.saturating_sub.result n put
    c.look-old.ensures.bytes c.self.invariant.all c.saturating_sub.ensures len is in
    let left : new ≡ put_in cap key content rows = c.fit-self-inside.ensures.rows
    ∙ made_is cap total key content rows made is sum in
    ap (content_of key) left ∙ found_put cap key content rows put room
