use Rattle.std.proofs.Common.{◌≡◌, ◌+◌}
use Rattle.tableau_rows.specs.Parts.{Parted}
use Rattle.tableau_rows.proofs.store.passes.part.Given as goal

abbrev pub invariant-loop-row : goal.invariant-loop-row
invariant-loop-row l = Parted l.b l.g l.rows l.rest l.turned l.row-index l.found × (l.found + l.others ≡ l.row-index)
