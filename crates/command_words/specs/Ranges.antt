-- The ranges of what a command line chooses.
use Rattle.std.specs.Prelude.{◌≤◌, ◌^◌, IfSome}
use Rattle.flow_types.specs.declared.numbers.Amounts.{Amounts}
use Rattle.command_words.specs.declared.options.Flow.{Flow}
use Rattle.command_words.specs.declared.options.Flow.TheVariants.{File, Generated}
use Rattle.command_words.specs.declared.options.Limits.{Limits}
use Rattle.command_words.specs.declared.options.Options.{Options}
use Rattle.command_words.specs.declared.options.Service.{Service}

-- a port is from 1, and jobs are 1 to 16
abbrev pub IsServiceInRange : Service → Type 0
IsServiceInRange s = (1 ≤ s.port) × (s.port ≤ 65535) × (1 ≤ s.jobs) × (s.jobs ≤ 16)

-- retries are up to 1,000, the storage up to 2^60, and waits 1 to 1,000,000,000
abbrev pub AreLimitsInRange : Limits → Type 0
AreLimitsInRange l = (l.retries ≤ 1000) × IfSome l.storage (λ n. n ≤ 2 ^ 60) × (1 ≤ l.idle) × (l.idle ≤ 1000000000)

-- each amount is up to 1,000,000,000
abbrev pub AreAmountsInRange : Amounts → Type 0
AreAmountsInRange a = (a.cores ≤ 1000000000) × (a.memory ≤ 1000000000) × (a.disk ≤ 1000000000)

-- a generated flow has 1 to 5,000 rules
abbrev pub IsFlowInRange : Flow → Type 0
IsFlowInRange (File name language) = Unit {0}
IsFlowInRange (Generated rules) = (1 ≤ rules) × (rules ≤ 5000)

-- each part is in its range
abbrev pub IsInRange : Options → Type 0
IsInRange o = IsServiceInRange o.service × AreLimitsInRange o.limits × AreAmountsInRange o.local × IsFlowInRange o.flow
