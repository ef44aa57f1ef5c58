-- The laws of the product of rows.
use Rattle.pauli_laws.proofs.Products.{times_comm, times_assoc, times_self, times_zero, zero_times}
use Rattle.pauli_laws.proofs.row.commuting_rows_multiply.Goals as goal

pub returns : goal.returns
returns c = record {
  either_way = λ r s h. cc (times_comm r s h);
  grouped = λ r s t hrs hrt hst. cc (times_assoc r s t hrs hrt hst);
  squared = λ r. cc (times_self r);
  neutral_left = λ r. cc (zero_times r);
  neutral_right = λ r. cc (times_zero r);
}
