use Rattle.std.proofs.Common.{◌≡◌, ℕ, ◌+◌, ◌-◌, ◌<◌, ◌≤◌, ◌++◌, Ok, Option, Some, None, length, take, drop, get_or, string_bytes, sym, ap, ◌∙◌, subst, arith}
use Rattle.std.proofs.lemmas.List.{append-nil, length-drop, get_or-drop}
use Rattle.std.proofs.lemmas.Str.{IsCharBoundary-start, IsCharBoundary-after_ascii}
use Rattle.std.specs.List.{prefix_len}
use Rattle.std.specs.Char.{encode_utf8}
use Rattle.std.specs.Str.{IsCharBoundary}
use Rattle.jx_tokens.specs.Bytes.{is_plain}
use Rattle.jx_tokens.specs.Texts.{content, before, escape}
use Rattle.jx_tokens.proofs.Held.{before-nil, before-before, boundary_at_stop, content-stop, content-control, content-no_escape, content-escape, content-end, from_here}
use Rattle.jx_tokens.proofs.content.content.Goals as goal

pub loop-done-init : goal.loop-done-init
loop-done-init c =
    let z : c.args.at + 0 ≡ c.args.at = omega arith in
    record {
      read = ap (λ h. before h (content 0 (c.args.at + 0) c.args.body.now)) c.new-held.ensures.bytes ∙ before-nil _ ∙ ap (λ n. content 0 n c.args.body.now) z;
      within = omega arith;
      boundary = IsCharBoundary-start _ c.utf8.body;
    }

pub range-requires-clause-end_boundary : goal.range-requires-clause-end_boundary
range-requires-clause-end_boundary c =
    let d = c.args.body.now in
    let same = c.as_bytes-bytes.ensures.value in
    let is : c.plain_end-stop.result ≡ c.loop-done.done + prefix_len is_plain (drop c.loop-done.done d) = rw (← same) c.plain_end-stop.ensures.run in
    boundary_at_stop d c.loop-done.done c.plain_end-stop.result is (omega arith)

pub returns-then-bytes-stop-ne92 : goal.returns-then-bytes-stop-ne92
returns-then-bytes-stop-ne92 c =
    let d = c.args.body.now in
    let l = c.loop-done in
    let stop = c.plain_end-stop.result in
    let same = c.as_bytes-bytes.ensures.value in
    let is : stop ≡ l.done + prefix_len is_plain (drop l.done d) = rw (← same) c.plain_end-stop.ensures.run in
    let within : stop < length d = omega arith in
    let far = content-stop d l.done stop is c.args.at (string_bytes l.held) _ l.invariant.read in
    let ne : get_or d stop 0 ≡ 92 → ⊥ = λ e. c.if-bytes-stop-ne92.true (ap (λ b. get_or b stop 0) same ∙ e) in
    sym far ∙ ap (before (string_bytes l.held ++ take (stop - l.done) (drop l.done d))) (content-control d l.done stop is c.args.at within ne)

pub returns-in-None : goal.returns-in-None
returns-in-None c =
    let d = c.args.body.now in
    let l = c.loop-done in
    let stop = c.plain_end-stop.result in
    let b = c.as_bytes-bytes.result.now in
    let same = c.as_bytes-bytes.ensures.value in
    let is : stop ≡ l.done + prefix_len is_plain (drop l.done d) = rw (← same) c.plain_end-stop.ensures.run in
    let within : stop < length d = omega arith in
    let far = content-stop d l.done stop is c.args.at (string_bytes l.held) _ l.invariant.read in
    let eq : get_or d stop 0 ≡ 92 = ap (λ b. get_or b stop 0) (sym same) ∙ c.if-bytes-stop-ne92.false in
    let nothing : Option (ℕ × ℕ) = None in
    let none : nothing ≡ escape (take (length b - (stop + 1)) (drop (stop + 1) b)) = c.in-None.ensures.value in
    sym far ∙ ap (before (string_bytes l.held ++ take (stop - l.done) (drop l.done d))) (content-no_escape d c.args.at stop within eq (sym (none ∙ ap escape (from_here b d (stop + 1) same))))

pub loop-done-preserved-in-Some : goal.loop-done-preserved-in-Some
loop-done-preserved-in-Some c =
    let d = c.args.body.now in
    let l = c.loop-done in
    let stop = c.plain_end-stop.result in
    let b = c.as_bytes-bytes.result.now in
    let same = c.as_bytes-bytes.ensures.value in
    let n = c.in-Some.len in
    let is : stop ≡ l.done + prefix_len is_plain (drop l.done d) = rw (← same) c.plain_end-stop.ensures.run in
    let within : stop < length d = omega arith in
    let far = content-stop d l.done stop is c.args.at (string_bytes l.held) _ l.invariant.read in
    let run = take (stop - l.done) (drop l.done d) in
    let eq : get_or d stop 0 ≡ 92 = ap (λ b. get_or b stop 0) (sym same) ∙ c.if-bytes-stop-ne92.false in
    let rest : take (length b - (stop + 1)) (drop (stop + 1) b) ≡ drop (stop + 1) d = from_here b d (stop + 1) same in
    let some : Some (c.in-Some.c, n) ≡ escape (take (length b - (stop + 1)) (drop (stop + 1) b)) = c.in-Some.ensures.value in
    let there : (0 < n) × (n ≤ length (take (length b - (stop + 1)) (drop (stop + 1) b))) × (get_or (take (length b - (stop + 1)) (drop (stop + 1) b)) (n - 1) 0 < 128) = c.in-Some.ensures.within in
    let short : n ≤ length (drop (stop + 1) d) = rw rest at there.1 in
    let ascii : get_or (drop (stop + 1) d) (n - 1) 0 < 128 = rw rest at there.2 in
    let ends : stop + 1 + n ≤ length d = omega (arith, length-drop (stop + 1) d) in
    let last : stop + n ≡ stop + 1 + (n - 1) = omega arith in
    let next : stop + n + 1 ≡ stop + 1 + n = omega arith in
    let low : get_or d (stop + n) 0 < 128 = rw (last, ← get_or-drop (stop + 1) d (n - 1) 0) ascii in
    let held : string_bytes c.push.new.self ≡ (string_bytes l.held ++ run) ++ encode_utf8 c.in-Some.c =
    c.in_ok-push-in-Some.ensures.bytes ∙ ap (λ h. h ++ encode_utf8 c.in-Some.c) (c.in_ok-push_str.ensures.bytes ∙ ap (λ r. string_bytes l.held ++ r) c.range.ensures.value) in
    record {
      read = ap (λ h. before h (content 0 (c.args.at + (stop + 1 + n)) (drop (stop + 1 + n) d))) held
          ∙ sym (before-before (string_bytes l.held ++ run) (encode_utf8 c.in-Some.c) _)
          ∙ ap (before (string_bytes l.held ++ run)) (sym (content-escape d c.args.at stop c.in-Some.c n within eq (sym (some ∙ ap escape rest)))) ∙ far;
      within = ends;
      boundary = subst (IsCharBoundary d) next (IsCharBoundary-after_ascii d (stop + n) c.utf8.body (omega arith) low);
    }

pub loop-done-preserved : goal.loop-done-preserved
loop-done-preserved c =
    let d = c.args.body.now in
    let l = c.loop-done in
    let stop = c.plain_end-stop.result in
    let same = c.as_bytes-bytes.ensures.value in
    let is : stop ≡ l.done + prefix_len is_plain (drop l.done d) = rw (← same) c.plain_end-stop.ensures.run in
    let held : string_bytes c.push_str.new.self ≡ string_bytes l.held ++ take (stop - l.done) (drop l.done d) = c.in_ok-push_str.ensures.bytes ∙ ap (λ r. string_bytes l.held ++ r) c.range.ensures.value in
    record {
      read = ap (λ h. before h (content 0 (c.args.at + stop) (drop stop d))) held ∙ content-stop d l.done stop is c.args.at (string_bytes l.held) _ l.invariant.read;
      within = omega arith;
      boundary = boundary_at_stop d l.done stop is (omega arith);
    }

pub returns : goal.returns
returns c =
    let l = c.loop-done in
    sym (sym (ap (before (string_bytes l.held)) (content-end c.args.body.now c.args.at l.done (omega arith))) ∙ l.invariant.read) ∙ ap Ok (append-nil (string_bytes l.held))
