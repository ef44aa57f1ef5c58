use Rattle.std.proofs.Common.{◌≡◌}
use Rattle.phase.specs.LabelCases.{against}
use Rattle.tableau_laws.specs.Tableaux.{labels}
use Rattle.tableau_rows.specs.Held.{E_of}
use Rattle.tableau_rows.proofs.store.RowStore.stabilizers_against.Given as goal

abbrev pub invariant-loop-pair : goal.invariant-loop-pair
invariant-loop-pair l = l.count ≡ against (labels (E_of l.self)) l.b l.pair-index
