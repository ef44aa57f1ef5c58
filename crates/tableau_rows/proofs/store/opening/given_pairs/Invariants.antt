use Rattle.std.proofs.Common.{◌≡◌, ℕ, ◌<◌}
use Rattle.tableau_rows.specs.Parts.{row_in, pair_in}
use Rattle.tableau_rows.proofs.store.opening.given_pairs.Given as goal

abbrev pub invariant-loop-j : goal.invariant-loop-j
invariant-loop-j l =
    ((i : ℕ) → i < l.j → (pair_in l.pair-items i).destabilizer ≡ (row_in l.destabilizers i).label)
    × ((i : ℕ) → i < l.j → (pair_in l.pair-items i).stabilizer ≡ row_in l.stabilizers i)
