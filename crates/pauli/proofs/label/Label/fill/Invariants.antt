use Rattle.std.proofs.Common.{◌≡◌, length, take}
use Rattle.pauli.specs.Labels.{label_text}
use Rattle.pauli.proofs.label.Label.fill.Given as goal

abbrev pub invariant-loop-i : goal.invariant-loop-i
invariant-loop-i l = take l.i l.text ≡ take l.i (label_text (length l.initial.text) l.self)
