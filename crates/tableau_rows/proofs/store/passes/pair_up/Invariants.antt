use Rattle.std.proofs.Common.{◌≡◌, ◌+◌}
use Rattle.tableau_laws.specs.Places.{total}
use Rattle.tableau_rows.specs.Parts.{label_in, Paired}
use Rattle.tableau_rows.proofs.store.passes.pair_up.Given as goal

abbrev pub invariant-loop-k : goal.invariant-loop-k
invariant-loop-k l = (l.sum ≡ total (label_in l.labels) (l.k + l.k)) × Paired (label_in l.labels) l.g l.coins l.pairs l.k
