-- Messages that were said and heard.
use Rattle.std.proofs.Common.{◌≡◌, ◌⊎◌, inl, inr, List, [], ◌∷◌, ◌++◌, refl}
use Rattle.flow_types.specs.declared.messages.Message.{Message}
use Rattle.message_forms.specs.Streams.{IsAmong}

pub among_left : (x : Message) (xs ys : List Message) → IsAmong x xs → IsAmong x (xs ++ ys)
among_left x [] ys is = absurd is
among_left x (y ∷ xs) ys (inl same) = inl same
among_left x (y ∷ xs) ys (inr later) = inr (among_left x xs ys later)

pub among_last : (x : Message) (xs : List Message) → IsAmong x (xs ++ x ∷ [])
among_last x [] = inl refl
among_last x (y ∷ xs) = inr (among_last x xs)

pub among_or : (x m : Message) (xs : List Message) → IsAmong x (xs ++ m ∷ []) → IsAmong x xs ⊎ (x ≡ m)
among_or x m [] (inl same) = inr same
among_or x m [] (inr none) = absurd none
among_or x m (y ∷ xs) (inl same) = inl (inl same)
among_or x m (y ∷ xs) (inr later) = by_later (among_or x m xs later)
  where
    by_later : IsAmong x xs ⊎ (x ≡ m) → IsAmong x (y ∷ xs) ⊎ (x ≡ m)
    by_later (inl is) = inl (inr is)
    by_later (inr same) = inr same
