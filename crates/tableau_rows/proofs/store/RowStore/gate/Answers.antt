use Rattle.std.proofs.Common.{refl, arith, rules}
use Rattle.pauli.specs.Rows.{zero_row}
use Rattle.tableau_rows.specs.Parts.{zero_pair}
use Rattle.tableau_rows.proofs.store.RowStore.gate.Goals as goal

pub returns-clause-rows : goal.returns-clause-rows
returns-clause-rows c = record {
  m_is = refl;
  w_is = refl;
  D_is = λ i lt. let h = c.each.ensures zero_pair i (omega arith) in search rules;
  E_is = λ i lt. let h = c.each.ensures zero_pair i (omega arith) in search rules;
  J_is = λ i lt. let h = c.each-2.ensures zero_row i (omega arith) in search rules;
}
