-- Files with remote names of their own each: no two are one port.
use Rattle.std.proofs.Common.{◌≡◌, Bool, true, false, cond, not, ◌&&◌, List, [], ◌∷◌, ◌++◌, refl, ap, sym, ◌∙◌, All}
use Rattle.std.specs.Prelude.{Option, Some, None, map, filter, is_none}
use Rattle.std.specs.Str.{bytes_eq}
use Rattle.std.proofs.lemmas.Bool.{true≢false}
use Rattle.std.proofs.lemmas.List.{map-append}
use Rattle.std.proofs.lemmas.List.Elements.{All-head, All-tail}
use Rattle.flow_types.specs.declared.flow.RawFile.{RawFile}
use Rattle.flow_types.specs.declared.flow.RawRule.{RawRule}
use Rattle.flow_types.specs.Names.{form_of}
use Rattle.rule_graph.specs.declared.raw.RawPort.{RawPort}
use Rattle.rule_graph.specs.Flows.{remote_text, raw_port, raw_outputs, raw_inputs, each_once, is_same_port}
use Rattle.rule_graph.specs.Faults.{first_repeat, remotes, remote_names}
use Rattle.rule_graph.proofs.Unfaulted.{AllPairs, no_repeat, pairs_split}

and_no : (b : Bool) → (b && false) ≡ false
and_no true = refl
and_no false = refl

all_kept : (port : RawPort) (ports : List RawPort) → All (λ b. bytes_eq port.remote b ≡ false) (remotes ports)
    → filter (λ other. not (is_same_port port other)) ports ≡ ports
all_kept port [] all = refl
all_kept port (x ∷ xs) all =
    let differ : is_same_port port x ≡ false =
    ap (λ b. bytes_eq port.local x.local && b) (All-head (λ b. bytes_eq port.remote b ≡ false) x.remote (remotes xs) all) ∙ and_no (bytes_eq port.local x.local) in
    let rest : List RawPort = filter (λ other. not (is_same_port port other)) xs in
    ap (λ b. cond (not b) (x ∷ rest) rest) differ
    ∙ ap (λ ports. x ∷ ports) (all_kept port xs (All-tail (λ b. bytes_eq port.remote b ≡ false) x.remote (remotes xs) all))

own_once : (ports : List RawPort) → AllPairs (λ a b. bytes_eq a b ≡ false) (remotes ports) → each_once ports ≡ ports
own_once [] all = refl
own_once (port ∷ ports) all =
    ap (λ rest. port ∷ filter (λ other. not (is_same_port port other)) rest) (own_once ports all.1)
    ∙ ap (λ rest. port ∷ rest) (all_kept port ports all.0)

mapped : (files : List RawFile) → map (λ file. form_of (remote_text file)) files ≡ remotes (map raw_port files)
mapped [] = refl
mapped (file ∷ files) = ap (λ rest. form_of (remote_text file) ∷ rest) (mapped files)

none_is : {A : Type 0} (a : Option A) → true ≡ is_none a → a ≡ None
none_is None is = refl
none_is (Some x) is = absurd (true≢false is)

-- a rule whose files have remote names of their own has no two ports of one remote name
pub own_remotes : (rule : RawRule)
    → true ≡ is_none (first_repeat [] (map (λ file. form_of (remote_text file)) rule.outputs ++ map (λ file. form_of (remote_text file)) rule.inputs))
    → first_repeat [] (remote_names rule) ≡ None
own_remotes rule is =
    let ins : List RawPort = map raw_port rule.inputs in
    let all : map (λ file. form_of (remote_text file)) rule.outputs ++ map (λ file. form_of (remote_text file)) rule.inputs ≡ remotes (raw_outputs rule) ++ remotes ins =
    ap (λ names. names ++ map (λ file. form_of (remote_text file)) rule.inputs) (mapped rule.outputs) ∙ ap (λ names. remotes (raw_outputs rule) ++ names) (mapped rule.inputs) in
    let none : first_repeat [] (remotes (raw_outputs rule) ++ remotes ins) ≡ None =
    ap (first_repeat []) (sym all) ∙ none_is (first_repeat [] (map (λ file. form_of (remote_text file)) rule.outputs ++ map (λ file. form_of (remote_text file)) rule.inputs)) is in
    let pairs = (no_repeat [] (remotes (raw_outputs rule) ++ remotes ins) none).1 in
    let once : raw_inputs rule ≡ ins = own_once ins (pairs_split (λ a b. bytes_eq a b ≡ false) (remotes (raw_outputs rule)) (remotes ins) pairs).1 in
    ap (λ ports. first_repeat [] (remotes (raw_outputs rule ++ ports))) once
    ∙ ap (first_repeat []) (map-append (λ port. port.remote) (raw_outputs rule) ins) ∙ none
