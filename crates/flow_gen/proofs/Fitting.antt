-- The flow keeps its limits.
use Rattle.std.proofs.Common.{◌≡◌, ◌+◌, ◌/◌, ◌<◌, ◌≤◌, ◌==◌, ◌^◌, ℕ, zero, suc, Bool, true, false, List, [], ◌∷◌, ◌++◌, IsTrue, All, codes, length, map, nat_le, if◌then◌else◌, refl, sym, subst, arith, length-append}
use Rattle.std.proofs.lemmas.Bool.{le-leb}
use Rattle.std.proofs.lemmas.Fmt.{length-decimal-le}
use Rattle.std.proofs.lemmas.List.Elements.{All-nil, All-cons}
use Rattle.std.specs.Fmt.{decimal}
use Rattle.std.specs.List.{range_with_len}
use Rattle.flow_types.specs.declared.flow.RawRule.{RawRule}
use Rattle.flow_types.specs.declared.flow.SizeBound.{SizeBound}
use Rattle.flow_types.specs.Flows.{FitsLimits}
use Rattle.flow_types.specs.Plans.{most_bytes, most_command_bytes, env_bytes, fits_amounts, numbers}
use Rattle.flow_gen.specs.Generated.{command, generated, made_name, made_rule, makers, read_name, reading}

name_short : (r : ℕ) → r < 2 ^ 32 → length (made_name r) ≤ 11
name_short r small = let digits = length-decimal-le 10 r (omega arith) (omega arith) (omega arith) in omega (arith, digits)

tail_short : (r : ℕ) → r < 2 ^ 32 → length (codes " > " ++ made_name r) ≤ 14
tail_short r small =
    let more : length (codes " > " ++ made_name r) ≡ suc (suc (suc (length (made_name r)))) = refl in
    omega (arith, more, name_short r small)

reads_one : (a : ℕ) → a < 2 ^ 32 → length (reading (a ∷ [])) ≤ 15
reads_one a small =
    let more : length (reading (a ∷ [])) ≡ suc (suc (suc (suc (length (made_name a ++ []))))) = refl in
    omega (arith, more, length-append (made_name a) [], name_short a small)

reads_two : (a b : ℕ) → a < 2 ^ 32 → b < 2 ^ 32 → length (reading (a ∷ b ∷ [])) ≤ 27
reads_two a b small low =
    let more : length (reading (a ∷ b ∷ [])) ≡ suc (suc (suc (suc (length (made_name a ++ (read_name b ++ [])))))) = refl in
    let last : length (read_name b ++ []) ≡ suc (length (made_name b ++ [])) = refl in
    omega (arith, more, last, length-append (made_name a) (read_name b ++ []), length-append (made_name b) [], name_short a small, name_short b low)

reads_few : (a b : ℕ) (same : Bool) → a < 2 ^ 32 → b < 2 ^ 32 → length (reading (a ∷ (if same then [] else b ∷ []))) ≤ 27
reads_few a b true small low = let one = reads_one a small in omega (arith, one)
reads_few a b false small low = reads_two a b small low

makers_short : (r : ℕ) → r < 2 ^ 32 → length (reading (makers r)) ≤ 27
makers_short zero small = omega arith
makers_short (suc n) small = reads_few (n / 2) (suc n / 3) (suc n / 3 == n / 2) (omega (arith, small)) (omega (arith, small))

command_short : (r : ℕ) → r < 2 ^ 32 → length (command r) ≤ most_command_bytes
command_short r small =
    omega (arith, length-append (reading (makers r)) (codes " > " ++ made_name r), makers_short r small, tail_short r small)

abbrev FitsCommand : RawRule → Type 0
FitsCommand rule = IsTrue (nat_le (length rule.command) most_command_bytes)

abbrev FitsEnv : RawRule → Type 0
FitsEnv rule = IsTrue (nat_le (env_bytes rule.env) most_command_bytes)

abbrev FitsNeeds : RawRule → Type 0
FitsNeeds rule = IsTrue (fits_amounts rule.needs)

commands_fit : (a n : ℕ) → a + n ≤ 2 ^ 32 → All FitsCommand (map made_rule (range_with_len a n))
commands_fit a zero h = All-nil FitsCommand
commands_fit a (suc n) h =
    All-cons FitsCommand (made_rule a) (map made_rule (range_with_len (a + 1) n))
    (le-leb (length (command a)) most_command_bytes (command_short a (omega (arith, h))))
    (commands_fit (a + 1) n (omega (arith, h)))

envs_fit : (a n : ℕ) → All FitsEnv (map made_rule (range_with_len a n))
envs_fit a zero = All-nil FitsEnv
envs_fit a (suc n) = All-cons FitsEnv (made_rule a) (map made_rule (range_with_len (a + 1) n)) refl (envs_fit (a + 1) n)

needs_fit : (a n : ℕ) → All FitsNeeds (map made_rule (range_with_len a n))
needs_fit a zero = All-nil FitsNeeds
needs_fit a (suc n) = All-cons FitsNeeds (made_rule a) (map made_rule (range_with_len (a + 1) n)) refl (needs_fit (a + 1) n)

pub flow_fits : (n : ℕ) → n < 2 ^ 32 → FitsLimits (generated n)
flow_fits n small = record {
  commands = commands_fit 0 n (omega (arith, small));
  envs = envs_fit 0 n;
  amounts = needs_fit 0 n;
  bounds = All-nil (λ (line : SizeBound). IsTrue (nat_le line.bytes most_bytes));
}

-- the same of the flow in its parts
pub parts_fit : (n : ℕ) (rules : List RawRule) (keep : List (List ℕ)) (bounds : List SizeBound) → n < 2 ^ 32 → rules ≡ map made_rule (numbers n) → bounds ≡ []
    → FitsLimits (record { rules = rules; keep = keep; bounds = bounds })
parts_fit n rules keep bounds small these none =
    let fits : FitsLimits (generated n) = flow_fits n small in record {
      commands = subst (All FitsCommand) (sym these) fits.commands;
      envs = subst (All FitsEnv) (sym these) fits.envs;
      amounts = subst (All FitsNeeds) (sym these) fits.amounts;
      bounds = subst (All (λ (line : SizeBound). IsTrue (nat_le line.bytes most_bytes))) (sym none) fits.bounds;
    }
