-- What the texts of a rule's files say before its ports are told apart.
use Rattle.std.specs.Prelude.{◌≡◌, ◌&&◌, ℕ, Bool, true, List, None, is_none}
use Rattle.std.specs.List.{list_all, list_any}
use Rattle.std.specs.Str.{bytes_eq}
use Rattle.flow_types.specs.declared.flow.RawFile.{RawFile}
use Rattle.flow_types.specs.declared.flow.RawRule.{RawRule}
use Rattle.flow_types.specs.Names.{form_of}
use Rattle.rule_graph.specs.Faults.{nested_in, remote_names}
use Rattle.rule_graph.specs.Checked.{HasNames}

-- one of the files has this name
abbrev pub has_file : List ℕ → List RawFile → Bool
has_file name files = list_any (λ file. bytes_eq name (form_of file.local)) files

-- no file of the rule has a remote text
abbrev pub has_no_remote : RawRule → Bool
has_no_remote rule = list_all (λ file. is_none file.remote) rule.outputs && list_all (λ file. is_none file.remote) rule.inputs

-- a rule with names, of which one remote name is a folder of another only where it has remote texts
pub record IsNestedByRemotes (rule : RawRule) : Type 0 where
  pub named : HasNames rule
  pub plain : has_no_remote rule ≡ true → nested_in (remote_names rule) ≡ None
