use Rattle.std.proofs.Common.{◌≡◌}
use Rattle.tableau_laws.specs.Tableaux.{picked}
use Rattle.tableau_rows.specs.Held.{D_of, E_of}
use Rattle.tableau_rows.proofs.store.RowStore.picked.Given as goal

abbrev pub invariant-loop-pair : goal.invariant-loop-pair
invariant-loop-pair l = l.product ≡ picked (D_of l.self) (E_of l.self) l.b l.pair-index
