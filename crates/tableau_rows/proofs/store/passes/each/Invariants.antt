use Rattle.std.proofs.Common.{◌≡◌, ℕ, ◌<◌, ◌≤◌, slice_index_or}
use Rattle.tableau_rows.specs.Parts.{Changes}
use Rattle.tableau_rows.proofs.store.passes.each.Given as goal

abbrev pub invariant-loop-place : goal.invariant-loop-place
invariant-loop-place g l =
    ((d : _) (i : ℕ) → i < l.place-index → Changes (goal.F-post g l.change) (slice_index_or l.initial.place-items i d) (slice_index_or l.place-items i d))
    × ((d : _) (i : ℕ) → l.place-index ≤ i → slice_index_or l.place-items i d ≡ slice_index_or l.initial.place-items i d)
