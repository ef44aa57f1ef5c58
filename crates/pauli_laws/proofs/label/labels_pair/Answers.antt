-- The laws of the pairing, from the algebra of labels.
use Rattle.std.proofs.Common.{arith}
use Rattle.pauli_laws.proofs.Algebra.{pairing_comm, pairing_l, pairing_r, pairing_self}
use Rattle.pauli_laws.proofs.label.labels_pair.Goals as goal

pub returns : goal.returns
returns c = record {
  either_way = λ a b. omega (arith, pairing_comm a b);
  left = λ a b d. omega (arith, pairing_l a b d);
  right = λ a b d. omega (arith, pairing_r a b d);
  alone = λ a. omega (arith, pairing_self a);
}
