use Rattle.std.proofs.Common.{◌≡◌, ◌+◌}
use Rattle.tableau_laws.specs.Places.{total}
use Rattle.tableau_rows.specs.Parts.{row_in}
use Rattle.tableau_rows.proofs.store.pattern.sum_ok.Given as goal

abbrev pub invariant-loop-row : goal.invariant-loop-row
invariant-loop-row l = l.sum ≡ total (λ i. (row_in l.fn.rows (l.fn.pairs + l.fn.pairs + i)).label) l.row-index
