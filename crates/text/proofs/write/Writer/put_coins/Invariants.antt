use Rattle.std.proofs.Common.{drop}
use Rattle.text.specs.Texts.{coins}
use Rattle.text.proofs.Writing.{Partly}
use Rattle.text.proofs.write.Writer.put_coins.Given as goal

abbrev pub invariant-loop-i : goal.invariant-loop-i
invariant-loop-i l = Partly l.initial.self (coins l.count l.word) (drop l.i (coins l.count l.word)) l.self
