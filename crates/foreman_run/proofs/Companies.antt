-- What holds of the links to the workers, one by one.
use Rattle.std.proofs.Common.{◌≡◌, ◌<◌, ℕ, ◌+◌, Bool, true, false, List, [], ◌∷◌, ◌++◌, length, get_or, Some, inl, inr, refl, sym, ap, ◌∙◌, subst, append-nil, arith}
use Rattle.std.specs.Prelude.{◌==◌, nat_lt, position, slice_get, slice_set}
use Rattle.std.proofs.lemmas.Bool.{eqb-true, ltb-true}
use Rattle.std.proofs.lemmas.Option.{get_or_from_slice_get, slice_get-get_or}
use Rattle.std.proofs.lemmas.List.{length-set}
use Rattle.std.proofs.lemmas.List.Quantifiers.{position-Some}
use Rattle.flow_types.specs.declared.messages.Message.{Message}
use Rattle.flow_types.specs.declared.numbers.LinkNo.{LinkNo}
use Rattle.links.specs.Passings.{received_in, sent_in}
use Rattle.message_forms.proofs.Parses.{frames_append, framed_append}
use Rattle.message_forms.specs.Streams.{IsFramed, framed, frames_of}
use Rattle.foreman_core.specs.declared.acts.Down.{Down}
use Rattle.foreman_core.specs.Members.{Every, Stands}
use Rattle.foreman_core.proofs.Members.{every_append, every_nil, every_one, every_set, get_stands}
use Rattle.peer_run.specs.Works.{EarState}
use Rattle.message_forms.specs.Streams.{BeginsWith}
use Rattle.foreman_run.specs.Lost.{Seen}
use Rattle.foreman_run.specs.Met.{Roll}
use Rattle.foreman_run.proofs.Lowering.{still_held}
use Rattle.foreman_run.specs.Lowers.{AreBegun, AreHeld, CareState, HearsOn, IsHeld, IsPlaced, Joins, Keeps, KeepsWith, LowerState, Went, from_link, new_lower, over}
use Rattle.foreman_run.proofs.Tying.{begins_on, held_set}
use Rattle.foreman_run.specs.Says.{Adds}

-- the one at a place stands in the list
pub stands_at : {A : Type 0} (xs : List A) (i : ℕ) (d : A) → i < length xs → Stands (get_or xs i d) xs
stands_at xs i d lt = get_stands xs i (get_or xs i d) (slice_get-get_or xs i d lt)

-- what a read at a place found, in equal lists
pub got_there : {X : Type 0} (xs ys : List X) (at : ℕ) (x : X) → xs ≡ ys → true ≡ nat_lt at (length xs) → x ≡ get_or xs at x → slice_get ys at ≡ Some x
got_there {X} xs ys at x are within is =
    subst (λ (zs : List X). slice_get zs at ≡ Some x) are (slice_get-get_or xs at x (ltb-true at (length xs) (sym within)) ∙ ap (λ (y : X). Some y) (sym is))

module _ {L : Type 0} (tells : Type 0) (seen : L → Seen) (honest : L → Type 0) where
  -- the link at the place of a number has that number
  link_at : (lowers : List (LowerState L)) (k : LinkNo) (at : ℕ) (old : LowerState L) → position (λ (l : LowerState L). l.link.0 == k.0) lowers ≡ Some at → slice_get lowers at ≡ Some old → old.link ≡ k
  link_at lowers k at old found got =
      let test : LowerState L → Bool = λ l. l.link.0 == k.0 in
      let is : test old ≡ true = sym (ap test (get_or_from_slice_get lowers at old old got)) ∙ (position-Some test lowers at old found).1 in
      ap (λ n. let number : LinkNo = record { 0 = n } in number) (eqb-true old.link.0 k.0 is)

  -- A message more was sent over a link, whole.
  pub sent_one : (roll : Roll) (heard : List Message) (old new : LowerState L) (m : Message) → new.link ≡ old.link → new.ear ≡ old.ear → new.care ≡ old.care → old.gone ≡ false → new.gone ≡ false → IsFramed m
      → (tells → Adds (framed m) (seen old.way).history (seen new.way).history) → Went roll.down old.link m → IsHeld tells seen roll heard old → IsHeld tells seen roll heard new
  sent_one roll heard old new m link ear care before stays fits is there held = still_held tells seen roll heard new stays (subst (λ (k : LinkNo). IsPlaced roll k heard) (sym link) (held.placed before)) (λ t.
      let p = held.passes before t in
      let now = is t in
      record {
        said = p.said ++ m ∷ [];
        said_framed = framed_append p.said (m ∷ []) p.said_framed (fits, tt);
        are_sent = now.0 ∙ ap (λ (b : List ℕ). b ++ framed m) p.are_sent ∙ ap (λ (w : List ℕ). frames_of p.said ++ w) (sym (append-nil (framed m))) ∙ sym (frames_append p.said (m ∷ []));
        went = subst (λ (k : LinkNo). Every (Went roll.down k) (p.said ++ m ∷ [])) (sym link)
            (every_append (Went roll.down old.link) p.said (m ∷ []) p.went (every_one (Went roll.down old.link) m there));
        came = record { framed_all = p.came.framed_all; are = now.1 ∙ p.came.are ∙ ap (λ (e : EarState). frames_of heard ++ e.rest) (sym ear) };
        unheard = λ g. p.unheard (ap (λ (c : CareState). c.greeted) (sym care) ∙ g);
        early = λ g. let le = p.early (ap (λ (c : CareState). c.greeted) (sym care) ∙ g) in omega (arith, le, ap (λ (c : CareState). c.early) care, ap (λ (e : EarState). length e.rest) ear);
        refused = let le = p.refused in omega (arith, le, ap (λ (c : CareState). c.refused) care);
      })

  -- Nothing went down yet.
  pub keeps_first : (down : List Down) (lowers : List (LowerState L)) → KeepsWith tells seen honest down lowers lowers
  keeps_first down lowers = record { held = λ roll told all h. h; begun = λ told b. b; honestly = λ h. h; many = refl; under = λ k. refl }

  -- One message more went down.
  pub keeps_next : (down : List Down) (d : Down) (a b c : List (LowerState L)) → Stands d down → KeepsWith tells seen honest down a b → KeepsWith tells seen honest (d ∷ []) b c → KeepsWith tells seen honest down a c
  keeps_next down d a b c there x y = record {
    held = λ roll told all h. y.held roll told (every_one (λ one. Stands one roll.down) d (all d there)) (x.held roll told all h);
    begun = λ told b. y.begun told (x.begun told b);
    honestly = λ h. y.honestly (x.honestly h);
    many = y.many ∙ x.many;
    under = λ k. y.under k ∙ x.under k;
  }

  -- what holds of a link by its number holds of what it has become
  by_number : (told : List Down) (old new : LowerState L) → new.link ≡ old.link → (P : List Message → Type 0) → P (from_link old.link.0 told) → P (from_link new.link.0 told)
  by_number told old new link P is = subst (λ (k : LinkNo). P (from_link k.0 told)) (sym link) is

  -- The link at a place changed: what holds of each holds of it again.
  pub set_held : (roll : Roll) (told : List Down) (lowers : List (LowerState L)) (at : ℕ) (old new : LowerState L) → slice_get lowers at ≡ Some old → new.link ≡ old.link
      → ((heard : List Message) → IsHeld tells seen roll heard old → IsHeld tells seen roll heard new) → AreHeld tells seen roll told lowers → AreHeld tells seen roll told (slice_set lowers at new)
  set_held roll told lowers at old new got link held h =
      every_set (λ l. IsHeld tells seen roll (from_link l.link.0 told) l) lowers at new
      (by_number told old new link (λ heard. IsHeld tells seen roll heard new) (held (from_link old.link.0 told) (h old (get_stands lowers at old got)))) h

  pub set_begun : (told : List Down) (lowers : List (LowerState L)) (at : ℕ) (old new : LowerState L) → slice_get lowers at ≡ Some old → new.link ≡ old.link
      → (tells → HearsOn (seen old.way).history (seen new.way).history) → AreBegun tells seen told lowers → AreBegun tells seen told (slice_set lowers at new)
  set_begun told lowers at old new got link comes b t =
      every_set (λ l. BeginsWith (received_in (seen l.way).history) (from_link l.link.0 told)) lowers at new
      (by_number told old new link (λ heard. BeginsWith (received_in (seen new.way).history) heard)
      (begins_on (seen old.way).history (seen new.way).history (from_link old.link.0 told) (comes t) (b t old (get_stands lowers at old got)))) (b t)

  -- A message went down to the link at a place.
  pub sent_at : (lowers : List (LowerState L)) (down : Down) (at : ℕ) (old new : LowerState L) → position (λ (l : LowerState L). l.link.0 == down.link.0) lowers ≡ Some at → slice_get lowers at ≡ Some old → new.link ≡ old.link
      → ((roll : Roll) (heard : List Message) → Went roll.down old.link down.message → IsHeld tells seen roll heard old → IsHeld tells seen roll heard new) → (tells → HearsOn (seen old.way).history (seen new.way).history) → (honest old.way → honest new.way)
      → KeepsWith tells seen honest (down ∷ []) lowers (slice_set lowers at new)
  sent_at lowers down at old new found got same held comes keeps =
      let there = get_stands lowers at old got in
      let link : old.link ≡ down.link = link_at lowers down.link at old found got in
      record {
        held = λ roll told all h. set_held roll told lowers at old new got same
            (λ heard. held roll heard (inr (subst (λ (k : LinkNo). Stands (over k down.message) roll.down) (sym link) (all down (inl_first down))))) h;
        begun = λ told b. set_begun told lowers at old new got same comes b;
        honestly = λ h. every_set (λ l. honest l.way) lowers at new (keeps (h old there)) h;
        many = length-set lowers at new;
        under = λ k. held_set k lowers at old new got same;
      }
    where
      inl_first : (d : Down) → Stands d (d ∷ [])
      inl_first d = inl refl

  -- There is no such link.
  pub sent_nowhere : (lowers : List (LowerState L)) (down : List Down) → KeepsWith tells seen honest down lowers lowers
  sent_nowhere lowers down = keeps_first down lowers

  -- The link at a place changed, and what holds of it stays so.
  pub kept_at : (lowers : List (LowerState L)) (at : ℕ) (old new : LowerState L) → slice_get lowers at ≡ Some old → new.link ≡ old.link
      → ((roll : Roll) (heard : List Message) → IsHeld tells seen roll heard old → IsHeld tells seen roll heard new) → (tells → HearsOn (seen old.way).history (seen new.way).history) → (honest old.way → honest new.way)
      → Keeps tells seen honest lowers (slice_set lowers at new)
  kept_at lowers at old new got same held comes keeps =
      let there = get_stands lowers at old got in
      record {
        held = λ roll told h. set_held roll told lowers at old new got same (held roll) h;
        begun = λ told b. set_begun told lowers at old new got same comes b;
        honestly = λ h. every_set (λ l. honest l.way) lowers at new (keeps (h old there)) h;
        many = length-set lowers at new;
        under = λ k. held_set k lowers at old new got same;
      }

  -- nothing more was received
  pub hears_same : (old new : L) → new ≡ old → HearsOn (seen old).history (seen new).history
  hears_same old new same = ([], ap (λ w. received_in (seen w).history) same ∙ sym (append-nil (received_in (seen old).history)))

  -- The same in equal lists.
  pub kept_there : (inside lowers : List (LowerState L)) (at : ℕ) (old new : LowerState L) → inside ≡ lowers → slice_get lowers at ≡ Some old → new.link ≡ old.link
      → ((roll : Roll) (heard : List Message) → IsHeld tells seen roll heard old → IsHeld tells seen roll heard new) → (tells → HearsOn (seen old.way).history (seen new.way).history) → (honest old.way → honest new.way)
      → Keeps tells seen honest lowers (slice_set inside at new)
  kept_there inside lowers at old new are got same held comes keeps =
      subst (λ (xs : List (LowerState L)). Keeps tells seen honest lowers (slice_set xs at new)) (sym are) (kept_at lowers at old new got same held comes keeps)

  -- One change and then another.
  pub kept_then : (a b c : List (LowerState L)) → Keeps tells seen honest a b → Keeps tells seen honest b c → Keeps tells seen honest a c
  kept_then a b c x y = record {
    held = λ roll told h. y.held roll told (x.held roll told h);
    begun = λ told h. y.begun told (x.begun told h);
    honestly = λ h. y.honestly (x.honestly h);
    many = y.many ∙ x.many;
    under = λ k. y.under k ∙ x.under k;
  }

  pub sent_there : (inside lowers : List (LowerState L)) (down : Down) (at : ℕ) (old new : LowerState L) → inside ≡ lowers → position (λ (l : LowerState L). l.link.0 == down.link.0) lowers ≡ Some at → slice_get lowers at ≡ Some old → new.link ≡ old.link
      → ((roll : Roll) (heard : List Message) → Went roll.down old.link down.message → IsHeld tells seen roll heard old → IsHeld tells seen roll heard new) → (tells → HearsOn (seen old.way).history (seen new.way).history) → (honest old.way → honest new.way)
      → KeepsWith tells seen honest (down ∷ []) lowers (slice_set inside at new)
  sent_there inside lowers down at old new are found got same held comes keeps =
      subst (λ (xs : List (LowerState L)). KeepsWith tells seen honest (down ∷ []) lowers (slice_set xs at new)) (sym are) (sent_at lowers down at old new found got same held comes keeps)

  pub kept_same : (lowers : List (LowerState L)) → Keeps tells seen honest lowers lowers
  kept_same lowers = record { held = λ roll told h. h; begun = λ told b. b; honestly = λ h. h; many = refl; under = λ k. refl }

  -- One has come under the next number.
  pub joined : (is : Type 0) (number : ℕ) (lowers now : List (LowerState L)) (link : LinkNo) (way : L) (lower : LowerState L) → link.0 ≡ number + 1 → (seen way).history ≡ [] → (is → honest way) → lower ≡ new_lower link way → now ≡ lowers ++ lower ∷ []
      → Joins seen honest is number lowers now
  joined is number lowers now link way lower next nothing honestly same are = record {
    link = link;
    way = way;
    next = next;
    nothing = nothing;
    honestly = honestly;
    among = are ∙ ap (λ (l : LowerState L). lowers ++ l ∷ []) same;
  }

  -- what holds of each link holds of one more over which nothing has passed
  pub held_joined : (is : Type 0) (number : ℕ) (roll : Roll) (told : List Down) (lowers now : List (LowerState L)) → (j : Joins seen honest is number lowers now) → from_link j.link.0 told ≡ [] → AreHeld tells seen roll told lowers → AreHeld tells seen roll told now
  held_joined is number roll told lowers now j none h =
      subst (AreHeld tells seen roll told) (sym j.among)
      (every_append (λ l. IsHeld tells seen roll (from_link l.link.0 told) l) lowers (new_lower j.link j.way ∷ []) h
      (every_one (λ l. IsHeld tells seen roll (from_link l.link.0 told) l) (new_lower j.link j.way) (still_held tells seen roll (from_link j.link.0 told) (new_lower j.link j.way) refl (inl none) (λ t. record {
        said = [];
        said_framed = tt;
        are_sent = ap sent_in j.nothing;
        went = every_nil (Went roll.down j.link);
        came = subst (λ heard. Rattle.message_forms.specs.Streams.IsStream (received_in (seen j.way).history) heard []) (sym none) (record { framed_all = tt; are = ap received_in j.nothing });
        unheard = λ g. none;
        early = λ g. omega arith;
        refused = omega arith;
      }))))

  pub honest_joined : (is : Type 0) (number : ℕ) (lowers now : List (LowerState L)) → Joins seen honest is number lowers now → is → Every (λ (l : LowerState L). honest l.way) lowers → Every (λ (l : LowerState L). honest l.way) now
  honest_joined is number lowers now j so all =
      subst (Every (λ (l : LowerState L). honest l.way)) (sym j.among)
      (every_append (λ (l : LowerState L). honest l.way) lowers (new_lower j.link j.way ∷ []) all (every_one (λ (l : LowerState L). honest l.way) (new_lower j.link j.way) (j.honestly so)))
