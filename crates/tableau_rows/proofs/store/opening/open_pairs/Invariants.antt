use Rattle.std.proofs.Common.{◌≡◌, ℕ, ◌<◌, length}
use Rattle.tableau_laws.specs.Opening.{open_D, open_E}
use Rattle.tableau_rows.specs.Parts.{pair_in}
use Rattle.tableau_rows.proofs.store.opening.open_pairs.Given as goal

abbrev pub invariant-loop-j : goal.invariant-loop-j
invariant-loop-j l = record {
  destabilizers : (i : ℕ) → i < l.j → (pair_in l.pair-items i).destabilizer ≡ open_D i;
  stabilizers : (i : ℕ) → i < l.j → (pair_in l.pair-items i).stabilizer ≡ open_E i;
  len : length l.pair-items ≡ 64;
}
