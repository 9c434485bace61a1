-- Worked command lines.
use Rattle.std.specs.Prelude.{◌≡◌, List, [], ◌∷◌, Option, Some, None, option_map, codes}
use Rattle.clap.specs.Walk.{Text}
use Rattle.command_words.specs.declared.options.Language.{Language}
use Rattle.command_words.specs.declared.options.Language.TheVariants.{Make, Jx}
use Rattle.show_words.specs.declared.options.Part.{Part}
use Rattle.show_words.specs.declared.options.Part.TheVariants.{Rules, Files, Graph}
use Rattle.show_words.specs.Words.{options_of, rule_of}

-- what is shown by these words behind the program's name
abbrev part : List Text → Option Part
part words = option_map (λ o. o.part) (options_of (codes "makeflow_show" ∷ words))

-- the language of the flow's text
abbrev language : List Text → Option Language
language words = option_map (λ o. o.language) (options_of (codes "makeflow_show" ∷ words))

-- words that are a command line
abbrev pub CommandLines : Type 0
CommandLines =
    (part (codes "flow" ∷ []) ≡ Some Rules)
    × (part (codes "flow" ∷ codes "7" ∷ []) ≡ Some (rule_of 7))
    × (part (codes "flow" ∷ codes "4294967295" ∷ []) ≡ Some (rule_of 4294967295))
    × (part (codes "--files" ∷ codes "flow" ∷ []) ≡ Some Files)
    × (part (codes "flow" ∷ codes "--dot" ∷ []) ≡ Some Graph)
    × (language (codes "flow" ∷ []) ≡ Some Make)
    × (language (codes "--jx" ∷ codes "--dot" ∷ codes "--" ∷ codes "flow" ∷ []) ≡ Some Jx)

-- words that are none
abbrev pub NoCommandLines : Type 0
NoCommandLines =
    (part [] ≡ None)
    × (part (codes "flow" ∷ codes "07" ∷ []) ≡ None)
    × (part (codes "flow" ∷ codes "4294967296" ∷ []) ≡ None)
    × (part (codes "flow" ∷ codes "x" ∷ []) ≡ None)
    × (part (codes "flow" ∷ codes "7" ∷ codes "8" ∷ []) ≡ None)
    × (part (codes "--files" ∷ codes "--dot" ∷ codes "flow" ∷ []) ≡ None)
    × (part (codes "--files" ∷ codes "flow" ∷ codes "7" ∷ []) ≡ None)
    × (part (codes "../flow" ∷ []) ≡ None)
    × (part (codes "--help" ∷ []) ≡ None)
