use Rattle.std.proofs.Common.{drop}
use Rattle.std.specs.Fmt.{IsPlainFormatter}
use Rattle.pauli.specs.Labels.{label_text}
use Rattle.journal.proofs.Printing.{Left}
use Rattle.journal.proofs.words.LettersDisplay.fmt.Given as goal

-- the letters left complete the label's
abbrev pub invariant-loop-i : goal.invariant-loop-i
invariant-loop-i g l =
    let text = label_text l.self.0.now.size l.self.0.now.label in
    IsPlainFormatter l.fn.f → Left g.W.Write.write_str_gives l.fn.f l.f (drop l.i text) text
