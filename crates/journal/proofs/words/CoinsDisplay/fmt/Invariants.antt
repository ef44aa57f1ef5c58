use Rattle.std.proofs.Common.{drop}
use Rattle.std.specs.Fmt.{IsPlainFormatter}
use Rattle.text.specs.Texts.{coins}
use Rattle.journal.proofs.Printing.{Left}
use Rattle.journal.proofs.words.CoinsDisplay.fmt.Given as goal

-- the coins left complete the coins drawn
abbrev pub invariant-loop-i : goal.invariant-loop-i
invariant-loop-i g l =
    let text = coins l.self.0.now.count l.self.0.now.coins in
    IsPlainFormatter l.fn.f → Left g.W.Write.write_str_gives l.fn.f l.f (drop l.i text) text
