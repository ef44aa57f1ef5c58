-- The laws of gates on rows.
use Rattle.pauli_laws.proofs.Gates.{gate_times, gate_carries}
use Rattle.pauli_laws.proofs.gate.gates_carry_rows.Goals as goal

pub returns : goal.returns
returns c = record { products = λ n g e r s h. cc (gate_times n g e r s h); carries = gate_carries }
