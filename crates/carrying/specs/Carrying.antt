-- What a text of a row and gates comes to.
use Rattle.std.specs.Prelude.{◌≡◌, ℕ, ◌+◌, ◌<◌, ◌≤◌, Bool, true, ◌≢◌, List, [], ◌∷◌, ◌++◌, length, Some, None, Ok, Err, Result}
use Rattle.pauli.specs.declared.fault.Fault.{Fault}
use Rattle.pauli.specs.declared.fault.Fault.TheVariants.{BadForm, TextEnded, BadSize}
use Rattle.pauli.specs.declared.gate.Gate.{Gate}
use Rattle.pauli.specs.declared.row.Row.{Row}
use Rattle.pauli.specs.Gates.{carry, gate_fault}
use Rattle.pauli.specs.Labels.{Within, label_text, size_ok}
use Rattle.text.specs.Texts.{sign_byte, gate_text, Gated, Letters}
use Rattle.text.specs.declared.stop.Stop.{Stop}
use Rattle.text.specs.Stops.{stop}

-- a first line, a sign and letters as `+,XZ`, and after it the rest of the text
abbrev pub first_line : Bool → List ℕ → List ℕ → List ℕ
first_line s letters rest = sign_byte s ∷ 44 ∷ (letters ++ 10 ∷ rest)

-- the line of a row of n qubits, and the rest
abbrev pub row_line : ℕ → Row → List ℕ → List ℕ
row_line n r rest = first_line r.sign (label_text n r.label) rest

-- a gate's line, as `G,H,1` or `G,CX,1,2`, and the rest
abbrev pub gate_line : Gate → List ℕ → List ℕ
gate_line g rest = 71 ∷ 44 ∷ (gate_text g ++ 10 ∷ rest)

-- no gate's line begins the text
abbrev pub NoGate : List ℕ → Type 0
NoGate t = (g : Gate) (rest : List ℕ) → Gated g → t ≢ gate_line g rest

-- no first line begins the text
abbrev pub NoRow : List ℕ → Type 0
NoRow t = (s : Bool) (l rest : List ℕ) → Letters l → t ≢ first_line s l rest

-- the gates in a text, from a row r of n qubits on, where the next line is line k: the row after each, and how it ends
pub data Gates (n : ℕ) : Row → ℕ → List ℕ → List Row → Result Unit Stop → Type 0 where
  end : (r : Row) (k : ℕ) → Gates n r k [] [] (Ok tt)
  next : (r : Row) (k : ℕ) (g : Gate) (rest : List ℕ) (rows : List Row) (e : Result Unit Stop) → Gated g → gate_fault n g ≡ None → Gates n (carry g r) (k + 1) rest rows e
      → Gates n r k (gate_line g rest) (carry g r ∷ rows) e
  not_a_gate : (r : Row) (k : ℕ) (t : List ℕ) → t ≢ [] → NoGate t → Gates n r k t [] (Err (stop k BadForm))
  refused : (r : Row) (k : ℕ) (g : Gate) (rest : List ℕ) (f : Fault) → Gated g → gate_fault n g ≡ Some f → Gates n r k (gate_line g rest) [] (Err (stop k f))

-- a whole text: the qubits of its row, the row after each gate, and how it ends
pub data Carried : List ℕ → ℕ → List Row → Result Unit Stop → Type 0 where
  too_long : (t : List ℕ) → 32768 < length t → Carried t 0 [] (Err (stop 0 BadForm))
  empty : Carried [] 0 [] (Err (stop 0 TextEnded))
  not_a_row : (t : List ℕ) → length t ≤ 32768 → t ≢ [] → NoRow t → Carried t 0 [] (Err (stop 1 BadForm))
  too_many : (s : Bool) (l rest : List ℕ) → length (first_line s l rest) ≤ 32768 → Letters l → 64 < length l → Carried (first_line s l rest) 0 [] (Err (stop 1 BadSize))
  row : (n : ℕ) (r : Row) (rest : List ℕ) (rows : List Row) (e : Result Unit Stop) → length (row_line n r rest) ≤ 32768 → size_ok n ≡ true → Within n r.label
      → Gates n r 2 rest rows e → Carried (row_line n r rest) n rows e
