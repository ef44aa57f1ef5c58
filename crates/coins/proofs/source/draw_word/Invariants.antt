use Rattle.coins.proofs.Words.{Read}
use Rattle.coins.proofs.source.draw_word.Given as goal

abbrev pub invariant-loop-i : goal.invariant-loop-i
invariant-loop-i g l = Read (g.S.CoinSource.coins l.initial.source) l.i l.word (g.S.CoinSource.coins l.source)
