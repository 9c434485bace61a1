-- Members that are read one after the other.
use Rattle.std.proofs.Common.{◌≡◌, ℕ, List, [], ◌∷◌, ◌++◌, length, nat_le, Ok, Err, refl, sym, ap, ◌∙◌, append_assoc}
use Rattle.serde_json.specs.Data.{Data, Members, member}
use Rattle.serde_json.specs.View.{members_view}
use Rattle.serde_json.proofs.Views.{Entry, members_len-members_view}
use Rattle.serve_lines.specs.Requests.{Found, and_then, is_alone, place_of, places_in}
use Rattle.serve_lines.specs.declared.fault.Part.{Part}
use Rattle.serve_lines.specs.declared.request.Place.{Place}

-- what was read so far, and then what is left
abbrev pub behind : {B : Type 0} → List B → Found (List B) → Found (List B)
behind done (Ok more) = Ok (done ++ more)
behind done (Err e) = Err e

pub one_more : {B : Type 0} (done : List B) (y : B) (rest : Found (List B)) → behind done (and_then rest (λ ys. Ok (y ∷ ys))) ≡ behind (done ++ y ∷ []) rest
one_more done y (Ok ys) = ap (λ l. Ok l) (sym (append_assoc done (y ∷ []) ys))
one_more done y (Err e) = refl

-- how many members there are is how many entries there are
pub alone : (es : List Entry) → is_alone (members_view es) ≡ nat_le (length es) 1
alone es = ap (λ n. nat_le n 1) (members_len-members_view es)

-- a file that was read stands behind those before it
pub place_read : (done : List Place) (p : Part) (key : List ℕ) (d : Data) (ms : Members) (one : Place) (all : Found (List Place))
    → place_of p key d ≡ Ok one → behind done (places_in p (member key d ms)) ≡ all → behind (done ++ one ∷ []) (places_in p ms) ≡ all
place_read done p key d ms one all read e =
    sym (one_more done one (places_in p ms)) ∙ sym (ap (λ f. behind done (and_then f (λ one. and_then (places_in p ms) (λ rest. Ok (one ∷ rest))))) read) ∙ e
