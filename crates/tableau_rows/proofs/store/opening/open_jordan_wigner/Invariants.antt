use Rattle.std.proofs.Common.{◌≡◌, ℕ, ◌+◌, ◌^◌, ◌<◌, length}
use Rattle.tableau_laws.specs.Opening.{open_J}
use Rattle.tableau_rows.specs.Parts.{row_in}
use Rattle.tableau_rows.proofs.store.opening.open_jordan_wigner.Given as goal

abbrev pub invariant-loop-i : goal.invariant-loop-i
invariant-loop-i l =
    (l.ys + 2 ^ l.h ≡ 2 ^ (l.h + l.i)) × ((q : ℕ) → q < l.i + l.i → row_in l.rows q ≡ open_J l.h l.w q) × (length l.rows ≡ 129)
