-- Why an opening is refused.
use Rattle.std.specs.Prelude.{ℕ, ◌+◌, cond, ◌&&◌, List, length, Some, None, Option, ◌==◌, nat_le}
use Rattle.pauli.specs.declared.fault.Fault.{Fault}
use Rattle.pauli.specs.declared.fault.Fault.TheVariants.{BadSize, BadWidth, BadRows}
use Rattle.pauli.specs.declared.row.Row.{Row}
use Rattle.pauli.specs.Labels.{size_ok}
use Rattle.tableau_laws.specs.Patterns.{rows_ok}
use Rattle.tableau_rows.specs.Parts.{row_in}

abbrev pub opening_fault : ℕ → ℕ → Option Fault
opening_fault n w = cond (size_ok n) (cond (nat_le w n) None (Some BadWidth)) (Some BadSize)

-- given rows must be 2n+1 of the pattern
abbrev pub given_fault : ℕ → ℕ → List Row → Option Fault
given_fault n w rs =
    cond (size_ok n) (cond (nat_le w n) (cond (length rs == n + n + 1 && rows_ok n w (row_in rs)) None (Some BadRows)) (Some BadWidth)) (Some BadSize)
