-- A log in want of memory.
use Rattle.std.proofs.Common.{◌∙◌, ap, sym, true≢false}
use Rattle.std.specs.Prelude.{is_some}
use Rattle.outside.specs.declared.fault.Fault.{Fault}
use Rattle.txn_log.specs.Logs.{IsFine, LogState, Troubles}

-- a log that came into trouble takes no record
pub not_fine : (log after : LogState) (fault : Fault) → Troubles log fault after → IsFine after → ⊥
not_fine log after fault troubles fine = true≢false (ap is_some (sym (ap (λ (l : LogState). l.trouble) troubles.then) ∙ fine))
