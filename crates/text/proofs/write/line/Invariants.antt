use Rattle.std.proofs.Common.{drop}
use Rattle.text.specs.Lines.{line_of}
use Rattle.text.proofs.Writing.{Partly}
use Rattle.text.proofs.write.line.Given as goal

abbrev pub invariant-loop-i : goal.invariant-loop-i
invariant-loop-i l = Partly l.initial.writer (line_of l.fields) (line_of (drop l.i l.fields)) l.writer
