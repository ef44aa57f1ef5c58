use Rattle.std.proofs.Common.{◌≡◌}
use Rattle.phase.specs.LabelCases.{against}
use Rattle.tableau_laws.specs.Tableaux.{labels}
use Rattle.tableau_rows.specs.Held.{J_of}
use Rattle.tableau_rows.proofs.store.RowStore.jordan_wigner_against.Given as goal

abbrev pub invariant-loop-row : goal.invariant-loop-row
invariant-loop-row l = l.count ≡ against (labels (J_of l.self)) l.b l.row-index
