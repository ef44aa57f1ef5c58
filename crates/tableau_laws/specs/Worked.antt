-- Runs worked out: the rows after each step.
use Rattle.std.specs.Prelude.{false, [], ◌∷◌}
use Rattle.pauli.specs.declared.gate.Gate.TheVariants.{One}
use Rattle.pauli.specs.declared.gate.OneQubit.TheVariants as Turn
use Rattle.pauli.specs.declared.label.Label.{Label}
use Rattle.pauli.specs.declared.letter.Letter.TheVariants.{I, X, Z}
use Rattle.pauli_laws.specs.Words.{word}
use Rattle.tableau_laws.specs.Opening.{opening}
use Rattle.tableau_laws.specs.Rules.{Rows, gate_rows, measured_rows}

abbrev pub ZI : Label
ZI = word (Z ∷ I ∷ [])

abbrev pub XI : Label
XI = word (X ∷ I ∷ [])

abbrev pub IZ : Label
IZ = word (I ∷ Z ∷ [])

abbrev pub ZX : Label
ZX = word (Z ∷ X ∷ [])

abbrev pub ZIZ : Label
ZIZ = word (Z ∷ I ∷ Z ∷ [])

-- two qubits of width 2: +ZI, +XI and +IZ measured with coins 1, 0 and 1
abbrev pub after_one : Rows
after_one = measured_rows ZI false 1 (opening 2 2)

abbrev pub after_two : Rows
after_two = measured_rows XI false 0 after_one

abbrev pub after_three : Rows
after_three = measured_rows IZ false 1 after_two

-- three qubits of width 2: the gate X on qubit 1, and then +ZIZ measured with coin 0
abbrev pub turned_three : Rows
turned_three = gate_rows (One Turn.X 1) (opening 3 2)

abbrev pub after_ZIZ : Rows
after_ZIZ = measured_rows ZIZ false 0 turned_three

-- two qubits of width 0: +ZX measured with coin 0
abbrev pub after_ZX : Rows
after_ZX = measured_rows ZX false 0 (opening 2 0)
