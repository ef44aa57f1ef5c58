-- What the readers of single lines answer.
use Rattle.std.specs.Prelude.{◌≡◌, ℕ, ◌<◌, ◌≤◌, Bool, true, ◌⊎◌, List, [], ◌∷◌, length, drop, Some, None, Ok, Err, Result}
use Rattle.std.specs.Borrow.{Bor}
use Rattle.pauli.specs.declared.fault.Fault.{Fault}
use Rattle.pauli.specs.declared.fault.Fault.TheVariants.{BadForm, BadSize}
use Rattle.pauli.specs.declared.gate.Gate.{Gate}
use Rattle.pauli.specs.declared.row.Row.{Row}
use Rattle.pauli.specs.Gates.{carry, gate_fault}
use Rattle.pauli.specs.Labels.{Within, size_ok}
use Rattle.text.specs.Texts.{gate_text, Gated, Letters}
use Rattle.text.specs.declared.stop.Stop.{Stop}
use Rattle.carrying.specs.declared.carry.Carrier.{Carrier}
use Rattle.carrying.specs.Carrying.{first_line, row_line, gate_line, NoRow, NoGate, Carried}

-- a gate's line up to the line feed
abbrev pub gate_mark : Gate → List ℕ
gate_mark g = 71 ∷ 44 ∷ gate_text g

-- a first line begins the text, with more letters than there can be qubits
pub record WideRow (t : List ℕ) : Type 0 where
  pub s : Bool
  pub l : List ℕ
  pub rest : List ℕ
  pub letters : Letters l
  pub is : t ≡ first_line s l rest
  pub wide : 64 < length l

pub record RowRead (t : List ℕ) (n : ℕ) (r : Row) (to : ℕ) : Type 0 where
  pub size : size_ok n ≡ true
  pub within : Within n r.label
  pub inside : to ≤ length t
  pub is : t ≡ row_line n r (drop to t)

-- the first line is looked for, and then the lines after it are left
abbrev pub Opens : Bor (List ℕ) → Result Carrier Fault → Type 0
Opens x (Ok c) = (c.lines.text ≡ x) × RowRead x.now c.size c.row c.lines.at
Opens x (Err f) = ((f ≡ BadForm) × NoRow x.now) ⊎ ((f ≡ BadSize) × WideRow x.now)

-- the same of any text: one that gives no row is carried to its end at once
abbrev pub Starts : Bor (List ℕ) → Result Carrier Stop → Type 0
Starts x (Ok c) = (length x.now ≤ 32768) × (c.lines.text ≡ x) × RowRead x.now c.size c.row c.lines.at
Starts x (Err e) = Carried x.now 0 [] (Err e)

-- a gate's line stands at the place, and the row is carried through the gate
pub record GateTaken (n : ℕ) (r : Row) (t : List ℕ) (at to : ℕ) (r' : Row) : Type 0 where
  pub gate : Gate
  pub form : Gated gate
  pub is : drop at t ≡ gate_line gate (drop to t)
  pub inside : to ≤ length t
  pub taken : gate_fault n gate ≡ None
  pub row : r' ≡ carry gate r

pub record GateRefused (n : ℕ) (t : List ℕ) (at : ℕ) (f : Fault) : Type 0 where
  pub gate : Gate
  pub rest : List ℕ
  pub form : Gated gate
  pub is : drop at t ≡ gate_line gate rest
  pub refused : gate_fault n gate ≡ Some f

abbrev pub Steps : (old : Carrier) → Result Unit Fault → (new : Carrier) → Type 0
Steps old (Ok done) new =
    (new.size ≡ old.size) × (new.lines.text ≡ old.lines.text) × GateTaken old.size old.row old.lines.text.now old.lines.at new.lines.at new.row
Steps old (Err f) new =
    ((f ≡ BadForm) × NoGate (drop old.lines.at old.lines.text.now)) ⊎ GateRefused old.size old.lines.text.now old.lines.at f
