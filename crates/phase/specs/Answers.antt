-- The answers of value sheets and phase points, refusals among them. They refuse a gate's qubits and a label beyond n qubits, and nothing else.
use Rattle.std.specs.Prelude.{◌≡◌, ℕ, Bool, true, false, cond, Some, None, Ok, Err, Option, Result}
use Rattle.pauli.specs.declared.case.Case.{Case}
use Rattle.pauli.specs.declared.fault.Fault.{Fault}
use Rattle.pauli.specs.declared.fault.Fault.TheVariants.{BadLabel}
use Rattle.pauli.specs.declared.gate.Gate.{Gate}
use Rattle.pauli.specs.declared.label.Label.{Label}
use Rattle.pauli.specs.Gates.{gate_fault}
use Rattle.pauli.specs.Labels.{fits}
use Rattle.phase.specs.Effects.{Gated, Measured}
use Rattle.phase.specs.LabelCases.{Looked}
use Rattle.phase.specs.Sheets.{Sheet}

abbrev pub value_answer : Sheet → Label → Result (Option Bool) Fault
value_answer s a = cond (fits s.n a) (Ok (s.value a)) (Err BadLabel)

abbrev pub GateAnswer : Sheet → Gate → Result Unit Fault → Sheet → Type 0
GateAnswer s g (Ok done) s' = (gate_fault s.n g ≡ None) × Gated s g s'
GateAnswer s g (Err e) s' = gate_fault s.n g ≡ Some e

abbrev pub LookAnswer : Sheet → Label → Result (Case × ℕ) Fault → Type 0
LookAnswer s b (Ok told) = (fits s.n b ≡ true) × Looked s b told.0 told.1
LookAnswer s b (Err e) = (fits s.n b ≡ false) × (e ≡ BadLabel)

abbrev pub MeasureAnswer : Sheet → Label → Bool → ℕ → Result Bool Fault → Sheet → Type 0
MeasureAnswer s b sign word (Ok outcome) s' = (fits s.n b ≡ true) × Measured s b sign word outcome s'
MeasureAnswer s b sign word (Err e) s' = (fits s.n b ≡ false) × (e ≡ BadLabel)
