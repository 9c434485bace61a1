-- Rows of messages, and the streams that they make.
use Rattle.std.proofs.Common.{◌≡◌, inl, inr, ℕ, List, [], ◌∷◌, ◌++◌, refl, sym, ap, ◌∙◌, append_assoc, append-nil}
use Rattle.flow_types.specs.declared.messages.Message.{Message}
use Rattle.message_forms.specs.Streams.{AreFramed, IsAmong, framed, frames_of}
use Rattle.message_forms.proofs.Parses.{begin_together, framed_append, frames_append}
use Rattle.wq_messages.proofs.Shown.{spelled_apart}
use Rattle.mem_links.specs.declared.mem_link.LinkStep.{LinkStep}
use Rattle.mem_links.specs.Servers.{BeginsNone, Comes, given}

-- ---- what is among them

pub among_left : (m : Message) (xs ys : List Message) → IsAmong m xs → IsAmong m (xs ++ ys)
among_left m [] ys there = absurd there
among_left m (x ∷ xs) ys (inl same) = inl same
among_left m (x ∷ xs) ys (inr later) = inr (among_left m xs ys later)

pub among_right : (m : Message) (xs ys : List Message) → IsAmong m ys → IsAmong m (xs ++ ys)
among_right m [] ys there = there
among_right m (x ∷ xs) ys there = inr (among_right m xs ys there)

-- ---- frames

pub framed_left : (xs ys : List Message) → AreFramed (xs ++ ys) → AreFramed xs
framed_left [] ys all = tt
framed_left (x ∷ xs) ys all = (all.0, framed_left xs ys all.1)

-- a frame more
pub frames_more : (xs : List Message) (m : Message)
    → frames_of xs ++ framed m ≡ frames_of (xs ++ m ∷ [])
frames_more xs m =
    ap (λ (w : List ℕ). frames_of xs ++ w) (sym (append-nil (framed m)))
    ∙ sym (frames_append xs (m ∷ []))

-- bytes that begin no message have no frame in front
no_frame : (x : Message) (xs : List Message) (r s : List ℕ) → AreFramed (x ∷ xs)
    → frames_of (x ∷ xs) ++ r ≡ s → BeginsNone s → ⊥
no_frame x xs r s all same none =
    none x (
      frames_of xs ++ r,
      record {
        framed_all = (all.0, tt);
        are = sym same ∙ append_assoc (framed x) (frames_of xs) r
            ∙ ap (λ (w : List ℕ). w ++ (frames_of xs ++ r)) (sym (append-nil (framed x)));
      },
    )

-- What stands whole in front of some bytes are the first of all the messages that came.
pub first_of : (xs ys : List Message) (r s : List ℕ) → AreFramed xs → AreFramed ys
    → frames_of xs ++ r ≡ frames_of ys ++ s → BeginsNone s
    → (more : List Message) × (ys ≡ xs ++ more)
first_of [] ys r s all_x all_y same none = (ys, refl)
first_of (x ∷ xs) [] r s all_x all_y same none = absurd (no_frame x xs r s all_x same none)
first_of (x ∷ xs) (y ∷ ys) r s all_x all_y same none =
    let step = begin_together spelled_apart x y (frames_of xs ++ r) (frames_of ys ++ s) all_x.0
    all_y.0
    (sym (append_assoc (framed x) (frames_of xs) r) ∙ same
    ∙ append_assoc (framed y) (frames_of ys) s) in
    let rest = first_of xs ys r s all_x.1 all_y.1 step.1 none in (
      rest.0,
      ap (λ (m : Message). m ∷ ys) (sym step.0) ∙ ap (λ (ms : List Message). x ∷ ms) rest.1,
    )

-- Bytes more, and what comes of them.
pub comes_on : (down bytes rest left : List ℕ) (heard ms : List Message)
    → Comes down heard rest → Comes (rest ++ bytes) ms left → Comes (down ++ bytes) (heard ++ ms) left
comes_on down bytes rest left heard ms one two = record {
  parts = record {
    framed_all = framed_append heard ms one.parts.framed_all two.parts.framed_all;
    are = ap (λ (w : List ℕ). w ++ bytes) one.parts.are ∙ append_assoc (frames_of heard) rest bytes
        ∙ ap (λ (w : List ℕ). frames_of heard ++ w) two.parts.are
        ∙ sym (append_assoc (frames_of heard) (frames_of ms) left)
        ∙ ap (λ (w : List ℕ). w ++ left) (sym (frames_append heard ms));
  };
  no_more = two.no_more;
}

-- ---- steps

pub given_append : (xs ys : List Message) → given (xs ++ ys) ≡ given xs ++ given ys
given_append [] ys = refl
given_append (x ∷ xs) ys = ap (λ (ss : List LinkStep). given_one x ∷ ss) (given_append xs ys)
  where
    given_one : Message → LinkStep
    given_one m = Rattle.mem_links.specs.declared.mem_link.LinkStep.TheVariants.Give (framed m)

pub given_none : (ms : List Message) → given ms ≡ [] → ms ≡ []
given_none [] same = refl
given_none (m ∷ ms) same = absurd cc
