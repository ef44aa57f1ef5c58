use Rattle.std.proofs.Common.{◌≡◌, ◌+◌, ◌-◌, ◌≤◌, length, drop}
use Rattle.session.specs.Seen.{seen}
use Rattle.circuit.proofs.Chains.{SoFar}
use Rattle.circuit.proofs.play.play.Given as goal

abbrev pub invariant-loop-next : goal.invariant-loop-next
invariant-loop-next g l =
    (l.reader.fields.text ≡ l.initial.reader.fields.text)
    × SoFar (seen g.P.ValueSheet.sheet g.S.CoinSource.coins l.initial.session) (drop l.initial.reader.fields.at l.initial.reader.fields.text.now)
    (seen g.P.ValueSheet.sheet g.S.CoinSource.coins l.session) l.line (drop l.reader.fields.at l.reader.fields.text.now)
    × (l.line + l.line ≤ l.reader.fields.at + 6)

abbrev pub decreases-loop-next : goal.decreases-loop-next
decreases-loop-next g l = length l.reader.fields.text.now - l.reader.fields.at
