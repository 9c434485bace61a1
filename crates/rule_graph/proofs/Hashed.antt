-- What a hasher takes in piece by piece.
use Rattle.std.proofs.Common.{◌≡◌, ℕ, List, ◌++◌, subst, append_assoc}
use Rattle.sha2.specs.declared.Sha256.{Sha256}
use Rattle.sha2.specs.Hashers.{Holds256}
use Rattle.rule_graph.specs.Hashing.{Adds}

-- two pieces one after the other
pub adds_more : (a b c : Sha256) (xs ys : List ℕ) → Adds a b xs → Adds b c ys → Adds a c (xs ++ ys)
adds_more a b c xs ys first second message held =
    let P : List ℕ → Type 0 = λ bytes. Holds256 c bytes in
    subst P (append_assoc message xs ys) (second (message ++ xs) (first message held))
