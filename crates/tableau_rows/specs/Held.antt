-- The rows that a store holds, by place, and what they mean.
use Rattle.std.specs.Prelude.{ℕ, ◌-◌, Bool}
use Rattle.pauli.specs.declared.label.Label.{Label}
use Rattle.pauli.specs.declared.row.Row.{Row}
use Rattle.phase.specs.Sheets.{Sheet}
use Rattle.tableau_laws.specs.Patterns.{pattern_ok}
use Rattle.tableau_laws.specs.Rules.{Rows, sheet_of}
use Rattle.tableau_rows.specs.declared.store.RowStore.{RowStore}
use Rattle.tableau_rows.specs.Parts.{row_in, pair_in}

abbrev pub D_of : RowStore → ℕ → Label
D_of s i = (pair_in s.pairs i).destabilizer

abbrev pub E_of : RowStore → ℕ → Row
E_of s i = (pair_in s.pairs i).stabilizer

abbrev pub J_of : RowStore → ℕ → Row
J_of s i = row_in s.jordan_wigner i

abbrev pub rows_of : RowStore → Rows
rows_of s = record { m = s.size - s.width; w = s.width; D = D_of s; E = E_of s; J = J_of s }

-- how many qubits there are
abbrev pub size_of : RowStore → ℕ
size_of s = s.size

-- the value sheet that the rows mean
abbrev pub sheet_in : RowStore → Sheet
sheet_in s = sheet_of s.size (rows_of s)

-- whether the rows are of the pattern
abbrev pub pattern_in : RowStore → Bool
pattern_in s = pattern_ok s.size s.width (D_of s) (E_of s) (J_of s)
