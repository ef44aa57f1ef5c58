-- The gates: the table of letter images, CX, which calls are refused, and what a gate does to a row.
use Rattle.std.specs.Prelude.{ℕ, ◌-◌, Bool, true, false, cond, not, ◌&&◌, Some, None, Option, ◌==◌}
use Rattle.std.specs.Bool.{beq}
use Rattle.pauli.specs.declared.fault.Fault.{Fault}
use Rattle.pauli.specs.declared.fault.Fault.TheVariants.{BadSize, BadQubit, SameQubit}
use Rattle.pauli.specs.declared.label.Label.{Label}
use Rattle.pauli.specs.declared.row.Row.{Row}
use Rattle.pauli.specs.declared.letter.Letter.{Letter}
use Rattle.pauli.specs.declared.letter.Letter.TheVariants as L
use Rattle.pauli.specs.declared.gate.OneQubit.{OneQubit}
use Rattle.pauli.specs.declared.gate.OneQubit.TheVariants as G
use Rattle.pauli.specs.declared.gate.Gate.{Gate}
use Rattle.pauli.specs.declared.gate.Gate.TheVariants.{One, Cx}
use Rattle.pauli.specs.declared.gate.Image.{Image}
use Rattle.pauli.specs.Bits.{xorb, bit_of, with_bit}
use Rattle.pauli.specs.Labels.{at, put, size_ok, on_board}
use Rattle.pauli.specs.Rows.{row}

-- the name of a one-qubit gate, one letter in ASCII
abbrev pub gate_byte : OneQubit → ℕ
gate_byte G.H = 72
gate_byte G.S = 83
gate_byte G.X = 88
gate_byte G.Y = 89
gate_byte G.Z = 90

abbrev plain : Letter → Image
plain l = record { letter = l; sign = false }

abbrev minus : Letter → Image
minus l = record { letter = l; sign = true }

-- the image of each letter under each one-qubit gate
abbrev pub image_of : OneQubit → Letter → Image
image_of G.H L.I = plain L.I
image_of G.H L.X = plain L.Z
image_of G.H L.Y = minus L.Y
image_of G.H L.Z = plain L.X
image_of G.S L.I = plain L.I
image_of G.S L.X = plain L.Y
image_of G.S L.Y = minus L.X
image_of G.S L.Z = plain L.Z
image_of G.X L.I = plain L.I
image_of G.X L.X = plain L.X
image_of G.X L.Y = minus L.Y
image_of G.X L.Z = minus L.Z
image_of G.Y L.I = plain L.I
image_of G.Y L.X = minus L.X
image_of G.Y L.Y = plain L.Y
image_of G.Y L.Z = minus L.Z
image_of G.Z L.I = plain L.I
image_of G.Z L.X = minus L.X
image_of G.Z L.Y = minus L.Y
image_of G.Z L.Z = plain L.Z

-- a one-qubit gate at qubit i+1: where it takes a label, and whether it flips the sign
abbrev pub turned : OneQubit → ℕ → Label → Label
turned g i a = put a i (image_of g (at a i)).letter

abbrev pub turn_flips : OneQubit → ℕ → Label → Bool
turn_flips g i a = (image_of g (at a i)).sign

-- CX from qubit c+1 to qubit t+1: x of c is added to x of t, and z of t to z of c
abbrev pub crossed : ℕ → ℕ → Label → Label
crossed c t a = record {
  x = with_bit a.x t (xorb (bit_of a.x t) (bit_of a.x c));
  z = with_bit a.z c (xorb (bit_of a.z c) (bit_of a.z t));
}

-- it flips the sign when x of c and z of t are 1 and x of t equals z of c
abbrev pub cross_flips : ℕ → ℕ → Label → Bool
cross_flips c t a = (bit_of a.x c && bit_of a.z t) && beq (bit_of a.x t) (bit_of a.z c)

-- any gate. Qubits count from 1
unfoldable pub moved : Gate → Label → Label
moved (One g q) a = turned g (q - 1) a
moved (Cx c t) a = crossed (c - 1) (t - 1) a

unfoldable pub flips : Gate → Label → Bool
flips (One g q) a = turn_flips g (q - 1) a
flips (Cx c t) a = cross_flips (c - 1) (t - 1) a

-- what a gate makes of a row
abbrev pub carry : Gate → Row → Row
carry g r = row (moved g r.label) (xorb r.sign (flips g r.label))

-- ---- refusals

-- every qubit of the gate is one of the n
abbrev pub in_range : ℕ → Gate → Bool
in_range n (One g q) = on_board n q
in_range n (Cx c t) = on_board n c && on_board n t

abbrev pub named_twice : Gate → Bool
named_twice (One g q) = false
named_twice (Cx c t) = c == t

-- why n qubits refuse a gate, if they do
abbrev pub gate_fault : ℕ → Gate → Option Fault
gate_fault n g = cond (in_range n g) (cond (named_twice g) (Some SameQubit) None) (Some BadQubit)

-- the same where n comes from outside
abbrev pub placing_fault : ℕ → Gate → Option Fault
placing_fault n g = cond (size_ok n) (gate_fault n g) (Some BadSize)

-- a gate that some number of qubits takes
abbrev pub placeable : Gate → Bool
placeable g = in_range 64 g && not (named_twice g)
