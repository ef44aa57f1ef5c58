use Rattle.std.proofs.Common.{drop}
use Rattle.pauli.specs.Labels.{label_text}
use Rattle.text.proofs.Writing.{Partly}
use Rattle.text.proofs.write.Writer.put_letters.Given as goal

abbrev pub invariant-loop-i : goal.invariant-loop-i
invariant-loop-i l = Partly l.initial.self (label_text l.size l.label) (drop l.i (label_text l.size l.label)) l.self
