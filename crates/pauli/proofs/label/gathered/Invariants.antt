use Rattle.std.proofs.Common.{◌-◌, length}
use Rattle.pauli.proofs.Texts.{Gathered}
use Rattle.pauli.proofs.label.gathered.Given as goal

-- from the end on
abbrev pub invariant-loop-byte : goal.invariant-loop-byte
invariant-loop-byte l = Gathered l.text (length l.text - length l.yielded) l.label
