-- Files that are written one after another.
use Rattle.std.proofs.Common.{◌≡◌, ◌≢◌, ◌<◌, ◌+◌, ℕ, zero, suc, Bool, true, false, List, [], ◌∷◌, length, Option, Some, refl, sym, ap, subst, ◌∙◌, true≢false, arith, get_or}
use Rattle.std.specs.Prelude.{slice_get, unwrap_or, nat_lt, is_some}
use Rattle.std.specs.Option.{option_map_or}
use Rattle.std.proofs.lemmas.Bool.{ltb-true, ltb-false}
use Rattle.std.proofs.lemmas.Option.{slice_get_read}
use Rattle.flow_types.specs.declared.plan.Plan.{Plan}
use Rattle.flow_types.specs.declared.plan.FileRow.{FileRow}
use Rattle.flow_types.specs.declared.plan.Port.{Port}
use Rattle.flow_types.specs.Plans.{files_of}
use Rattle.outside.specs.Disk.{Outcomes}
use Rattle.file_store.specs.Outputs.{file_name, AreInside, DifferByName, IsOther, Last}

some_is : {A : Type 0} (x y : A) → Some x ≡ Some y → x ≡ y
some_is x y is = ap (λ o. unwrap_or o x) is

-- the file at a place of the ports
file_at : (ports : List Port) (i : ℕ) (port : Port) → slice_get ports i ≡ Some port → slice_get (files_of ports) i ≡ Some port.file.0
file_at [] i port is = absurd (true≢false (sym (ap is_some is)))
file_at (p ∷ ports) zero port is = ap (λ (q : Port). Some q.file.0) (some_is p port is)
file_at (p ∷ ports) (suc i) port is = file_at ports i port is

-- the name that stands in a file's row
name_at : (P : Plan) (f : ℕ) (row : FileRow) → slice_get P.files f ≡ Some row → file_name P f ≡ row.name
name_at P f row is = ap (λ (found : Option FileRow). option_map_or (λ (r : FileRow). r.name) found []) is

-- the file of a port, and its name in the row that was read
pub record AtPort (P : Plan) (ports : List Port) (i : ℕ) (port : Port) (name : List ℕ) : Type 0 where
  pub file : slice_get (files_of ports) i ≡ Some port.file.0
  pub named : file_name P port.file.0 ≡ name

pub port_inside : (P : Plan) (ports : List Port) (i : ℕ) (port : Port) → AreInside P (files_of ports) → i < length ports → port ≡ get_or ports i port → port.file.0 < length P.files
port_inside P ports i port inside lt is = inside i port.file.0 (file_at ports i port (slice_get_read ports (length ports) i port refl lt is))

pub at_port : (P : Plan) (ports : List Port) (i : ℕ) (port : Port) (rows : List FileRow) (row : FileRow) → AreInside P (files_of ports) → i < length ports → port ≡ get_or ports i port
    → rows ≡ P.files → row ≡ get_or rows port.file.0 row → AtPort P ports i port row.name
at_port P ports i port rows row inside lt is same row_is = record {
  file = file_at ports i port (slice_get_read ports (length ports) i port refl lt is);
  named = name_at P port.file.0 row (slice_get_read P.files (length P.files) port.file.0 row refl (port_inside P ports i port inside lt is)
      (row_is ∙ ap (λ (l : List FileRow). get_or l port.file.0 row) same));
}

-- one file more has its content
pub next_lasts : (P : Plan) (fs : List ℕ) (contents : List (List ℕ)) (at f : ℕ) (bytes name : List ℕ) (old new : Outcomes) → DifferByName P fs
    → slice_get fs at ≡ Some f → slice_get contents at ≡ Some bytes → file_name P f ≡ name → Last P fs contents at old
    → ((file : Option (List ℕ)) → new name file → file ≡ Some bytes)
    → ((m : List ℕ) (file : Option (List ℕ)) → m ≢ name → new m file → old m file) → Last P fs contents (at + 1) new
next_lasts P fs contents at f bytes name old new differ is_f is_bytes named lasts durable crash k g others lt is_g is_others file left = by_place (nat_lt k at) refl
  where
    by_place : (t : Bool) → nat_lt k at ≡ t → file ≡ Some others
    by_place true before =
        let lower = ltb-true k at before in
        lasts k g others lower is_g is_others file (crash (file_name P g) file (λ same. differ at k f g is_f is_g lower (same ∙ sym named)) left)
    by_place false behind =
        let le = ltb-false k at behind in
        let here : k ≡ at = omega (arith, le, lt) in
        let one : g ≡ f = some_is g f (sym is_g ∙ ap (slice_get fs) here ∙ is_f) in
        let two : others ≡ bytes = some_is others bytes (sym is_others ∙ ap (slice_get contents) here ∙ is_bytes) in
        durable file (subst (λ (n : List ℕ). new n file) (ap (file_name P) one ∙ named) left) ∙ ap Some (sym two)

-- a name of none of the files isn't that of one
pub not_this : (P : Plan) (fs : List ℕ) (at f : ℕ) (name m : List ℕ) → slice_get fs at ≡ Some f → file_name P f ≡ name → IsOther P fs m → m ≢ name
not_this P fs at f name m is_f named other same = other at f is_f (same ∙ sym named)
