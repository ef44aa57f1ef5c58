use Rattle.std.proofs.Common.{refl, arith, rules}
use Rattle.pauli.specs.Rows.{zero_row}
use Rattle.tableau_rows.proofs.store.RowStore.flip.Goals as goal

pub returns : goal.returns
returns c = record {
  m_is = refl;
  w_is = refl;
  D_is = λ i lt. refl;
  E_is = λ i lt. refl;
  J_is = λ i lt. let h = c.each.ensures zero_row i (omega arith) in search rules;
}
