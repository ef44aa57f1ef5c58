-- The lines still to be added complete the text.
use Rattle.std.proofs.Common.{◌≡◌, ◌++◌, ◌-◌, ◌≤◌, drop, vec_items}
use Rattle.runs.specs.Readings.{readings}
use Rattle.circuit_run.specs.Output.{joined}
use Rattle.circuit_run.proofs.output.add_journal.Given as goal

abbrev pub invariant-loop-number : goal.invariant-loop-number
invariant-loop-number l =
    (1 ≤ l.number) × (vec_items l.out ++ joined (drop (l.number - 1) (readings l.journal)) ≡ vec_items l.initial.out ++ joined (readings l.journal))
