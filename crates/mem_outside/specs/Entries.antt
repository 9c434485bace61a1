-- Entries by name, as files.
use Rattle.std.specs.Prelude.{ℕ, List, Option, option_map, if◌then◌else◌, Vec}
use Rattle.std.specs.Str.{bytes_eq}
use Rattle.std.specs.Ordering.{nat_cmp}
use Rattle.std.specs.Cmp.Lexicographic.{slice_cmp}
use Rattle.std.specs.BTreeMap.{BTreeMap, get_by}
use Rattle.std.specs.declared.alloc.Global.{Global}
use Rattle.outside.specs.Files.{Files}

-- what stands under each name
abbrev pub files_in : BTreeMap (Vec ℕ Global) (Vec ℕ Global) → Files
files_in entries name = option_map (λ bytes. bytes.items) (get_by (λ key. slice_cmp nat_cmp name key.items) entries)

-- these files, but for what stands under one name
abbrev pub with_file : List ℕ → Option (List ℕ) → Files → Files
with_file name value files other = if bytes_eq name other then value else files other
