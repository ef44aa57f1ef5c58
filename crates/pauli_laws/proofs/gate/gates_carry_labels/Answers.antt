-- The laws of gates on labels. Each gate undoes itself there, so that a label comes from its own image.
use Rattle.std.proofs.Common.{sym, ◌∙◌, arith}
use Rattle.pauli.specs.Gates.{moved}
use Rattle.pauli_laws.proofs.Gates.{gate_sums, gate_pairings, gate_within, gate_again, gate_inj, gate_zero, flips_zero}
use Rattle.pauli_laws.proofs.gate.gates_carry_labels.Goals as goal

pub returns : goal.returns
returns c = record {
  sums = λ n g e a b. cc (gate_sums n g e a b);
  pairings = λ n g e a b. omega (arith, gate_pairings n g e a b);
  within = gate_within;
  from_one = λ n g e a h. (moved g a, gate_within n g e a h, gate_again n g e a, λ d p. gate_inj n g e d (moved g a) (p ∙ sym (gate_again n g e a)));
  zero = λ n g e. (gate_zero n g e, flips_zero n g e);
}
