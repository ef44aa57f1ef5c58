-- The values of a point of one qubit and width 1, and what a gate and a coin make of them.
use Rattle.std.specs.Prelude.{ℕ, Bool, false, cond, not, Some, None}
use Rattle.pauli.specs.declared.case.Case.{Case}
use Rattle.pauli.specs.declared.case.Case.TheVariants.{One, Two}
use Rattle.pauli.specs.declared.gate.OneQubit.{OneQubit}
use Rattle.pauli.specs.declared.gate.OneQubit.TheVariants as G
use Rattle.pauli.specs.declared.label.Label.{Label}
use Rattle.pauli.specs.declared.letter.Letter.{Letter}
use Rattle.pauli.specs.declared.letter.Letter.TheVariants.{I, X, Y, Z}
use Rattle.pauli.specs.Bits.{xorb, odd}
use Rattle.pauli.specs.Labels.{at, fits, pairing}
use Rattle.phase.specs.Sheets.{Sheet}
use Rattle.qubit.specs.declared.point.Qubit.{Qubit}

abbrev pub sign_of : Qubit → Letter → Bool
sign_of q I = false
sign_of q X = q.x
sign_of q Y = q.y
sign_of q Z = q.z

-- the zero label is the centre, and each other label is a ray
abbrev pub case_of : Letter → Case
case_of I = One
case_of X = Two
case_of Y = Two
case_of Z = Two

abbrev pub coins_of : Letter → ℕ
coins_of I = 0
coins_of X = 1
coins_of Y = 1
coins_of Z = 1

-- every label of one qubit has its letter's value
abbrev pub sheet_of : Qubit → Sheet
sheet_of q = record { n = 1; width = 1; value = λ a. cond (fits 1 a) (Some (sign_of q (at a 0))) None }

abbrev qubit : Bool → Bool → Bool → Qubit
qubit p r s = record { x = p; y = r; z = s }

-- the values after a gate
abbrev pub turned_by : OneQubit → Qubit → Qubit
turned_by G.H q = qubit q.z (not q.y) q.x
turned_by G.S q = qubit (not q.y) q.x q.z
turned_by G.X q = qubit q.x (not q.y) (not q.z)
turned_by G.Y q = qubit (not q.x) q.y (not q.z)
turned_by G.Z q = qubit (not q.x) (not q.y) q.z

-- the label of a letter
abbrev pub label_of : Letter → Label
label_of I = record { x = 0; z = 0 }
label_of X = record { x = 1; z = 0 }
label_of Y = record { x = 1; z = 1 }
label_of Z = record { x = 0; z = 1 }

-- the values with [b,a] added to the value of each a
abbrev pub flipped_by : Label → Qubit → Qubit
flipped_by b q = qubit (xorb q.x (odd (pairing b (label_of X)))) (xorb q.y (odd (pairing b (label_of Y)))) (xorb q.z (odd (pairing b (label_of Z))))
