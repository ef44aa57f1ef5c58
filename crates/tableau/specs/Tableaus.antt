-- What a tableau holds, and when it refuses a label.
use Rattle.std.specs.Prelude.{ℕ, cond, Some, None, Option}
use Rattle.pauli.specs.declared.fault.Fault.{Fault}
use Rattle.pauli.specs.declared.fault.Fault.TheVariants.{BadLabel}
use Rattle.pauli.specs.declared.label.Label.{Label}
use Rattle.pauli.specs.Labels.{fits}
use Rattle.tableau_laws.specs.Rules.{Rows}
use Rattle.tableau_rows.specs.Held as H
use Rattle.tableau.specs.declared.tableau.Tableau.{Tableau}

abbrev pub rows_of : Tableau → Rows
rows_of t = H.rows_of t.rows

abbrev pub size_of : Tableau → ℕ
size_of t = H.size_of t.rows

-- a label with a letter beyond qubit n is refused
abbrev pub label_fault : ℕ → Label → Option Fault
label_fault n b = cond (fits n b) None (Some BadLabel)
