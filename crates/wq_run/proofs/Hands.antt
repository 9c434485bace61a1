-- Links that are handed back one after another.
use Rattle.std.proofs.Common.{◌≡◌, ◌+◌, ◌∙◌, ℕ, List, [], ◌∷◌, ◌++◌, Option, Some, length, length-append, sym, ap, subst, arith, append_assoc}
use Rattle.std.specs.List.{AllByRecursion}
use Rattle.std.proofs.lemmas.List.{append-nil}
use Rattle.flow_types.specs.declared.numbers.LinkNo.{LinkNo}
use Rattle.links.specs.declared.passing.Passed.{Passed}
use Rattle.links.specs.Passings.{received_in}
use Rattle.peers.specs.States.{PassesOn}
use Rattle.wq_run.specs.Seats.{SeatState}
use Rattle.wq_run.specs.Vain.{HandsBack, IsOfSeat}

all_more : {X : Type 0} (Q : X → Type 0) (xs : List X) (x : X) → AllByRecursion Q xs → Q x → AllByRecursion Q (xs ++ (x ∷ []))
all_more Q [] x all is = (is, tt)
all_more Q (y ∷ xs) x all is = (all.0, all_more Q xs x all.1 is)

module _ {L : Type 0} (history : L → List Passed) where
  -- Those of the seats that aren't left were handed back.
  pub record HandsOn (seats seats_now : List (SeatState L)) (got got_now : List (Option LinkNo × L)) : Type 0 where
    pub links : List (Option LinkNo × L)
    pub are : got_now ≡ got ++ links
    pub each : AllByRecursion (IsOfSeat history seats) links
    pub many : length links + length seats_now ≡ length seats
    pub behind : List (SeatState L)
    pub split : seats ≡ seats_now ++ behind

  pub hands_none : (seats : List (SeatState L)) (got : List (Option LinkNo × L)) → HandsOn seats seats got got
  hands_none seats got = record { links = []; are = sym (append-nil got); each = tt; many = omega arith; behind = []; split = sym (append-nil seats) }

  -- The last seat's link is handed back.
  pub hands_last : (seats seats_mid seats_now : List (SeatState L)) (s : SeatState L) (link : LinkNo) (way : L) (got got_mid got_now : List (Option LinkNo × L)) → HandsOn seats seats_mid got got_mid → seats_mid ≡ seats_now ++ (s ∷ []) → link ≡ s.link
      → PassesOn (history s.peer.way) (history way) → got_now ≡ got_mid ++ ((Some link, way) ∷ []) → HandsOn seats seats_now got got_now
  hands_last seats seats_mid seats_now s link way got got_mid got_now hands are same on back =
      let many = ap length are in
      let both = length-append seats_now (s ∷ []) in
      let all = length-append hands.links ((Some link, way) ∷ []) in
      let was = hands.many in
      let split : seats ≡ seats_now ++ (s ∷ hands.behind) = hands.split ∙ ap (λ (xs : List (SeatState L)). xs ++ hands.behind) are ∙ append_assoc seats_now (s ∷ []) hands.behind in
      record {
        links = hands.links ++ ((Some link, way) ∷ []);
        are = back ∙ ap (λ (xs : List (Option LinkNo × L)). xs ++ ((Some link, way) ∷ [])) hands.are ∙ append_assoc got hands.links ((Some link, way) ∷ []);
        each = all_more (IsOfSeat history seats) hands.links (Some link, way) hands.each (record { earlier = seats_now; seat = s; later = hands.behind; among = split; number = ap (λ (l : LinkNo). Some l) same; comes = on });
        many = omega (arith, many, both, all, was);
        behind = s ∷ hands.behind;
        split = split;
      }

  -- None is left.
  pub hands_whole : (seats seats_now : List (SeatState L)) (got got_now : List (Option LinkNo × L)) → seats_now ≡ [] → HandsOn seats seats_now got got_now → HandsBack history seats got got_now
  hands_whole seats seats_now got got_now none hands = let no_more = ap length none in let was = hands.many in record { links = hands.links; are = hands.are; each = hands.each; many = omega (arith, no_more, was) }

  -- what is so of one among the seats
  all_at : (Q : SeatState L → Type 0) (f : List (SeatState L)) (s : SeatState L) (b : List (SeatState L)) → AllByRecursion Q (f ++ (s ∷ b)) → Q s
  all_at Q [] s b all = all.0
  all_at Q (x ∷ f) s b all = all_at Q f s b all.1

  -- What is so of the number and the bytes of each seat, and stays so, is so of each link that is one of theirs.
  pub hands_so : (so : Option LinkNo → List ℕ → Type 0) → ((number : Option LinkNo) (up more : List ℕ) → so number up → so number (up ++ more)) → (seats : List (SeatState L)) → AllByRecursion (λ (s : SeatState L). so (Some s.link) (received_in (history s.peer.way))) seats
      → (links : List (Option LinkNo × L)) → AllByRecursion (IsOfSeat history seats) links → AllByRecursion (λ (x : Option LinkNo × L). so x.0 (received_in (history x.1))) links
  hands_so so later seats all [] each = tt
  hands_so so later seats all (x ∷ links) each =
      let one = each.0 in
      let here : so (Some one.seat.link) (received_in (history one.seat.peer.way)) = all_at (λ (s : SeatState L). so (Some s.link) (received_in (history s.peer.way))) one.earlier one.seat one.later (subst (AllByRecursion (λ (s : SeatState L). so (Some s.link) (received_in (history s.peer.way)))) one.among all) in
      let now : so (Some one.seat.link) (received_in (history x.1)) = subst (so (Some one.seat.link)) (sym one.comes.1) (later (Some one.seat.link) (received_in (history one.seat.peer.way)) one.comes.0 here) in (
        subst (λ (n : Option LinkNo). so n (received_in (history x.1))) (sym one.number) now,
        hands_so so later seats all links each.1,
      )
