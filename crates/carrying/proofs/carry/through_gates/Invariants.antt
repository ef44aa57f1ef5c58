use Rattle.std.proofs.Common.{◌≡◌, ◌+◌, ◌-◌, ◌≤◌, length, vec_items}
use Rattle.carrying.proofs.Steps.{SoFar}
use Rattle.carrying.proofs.carry.through_gates.Given as goal

abbrev pub invariant-loop-carrier : goal.invariant-loop-carrier
invariant-loop-carrier l =
    (l.carrier.size ≡ l.initial.start.size)
    × (l.carrier.lines.text ≡ l.initial.start.lines.text)
    × SoFar l.initial.start l.carrier l.line (vec_items l.rows)
    × (l.line ≤ l.carrier.lines.at + 2)

abbrev pub decreases-loop-carrier : goal.decreases-loop-carrier
decreases-loop-carrier l = length l.carrier.lines.text.now - l.carrier.lines.at
