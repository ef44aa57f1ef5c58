use Rattle.std.proofs.Common.{◌<◌, ◌≤◌, length, arith}
use Rattle.coins.proofs.Words.{read_more, not_none, shifted}
use Rattle.coins.proofs.source.draw_word.Goals as goal

pub loop-i-preserved : goal.loop-i-preserved
loop-i-preserved g c =
    let small : c.loop-i.i < 64 = omega arith in
    let is = shifted c.in_ok-coin.coin c.loop-i.i small in
    let all = g.S.CoinSource.coins c.args.source.now in
    let rest = g.S.CoinSource.coins c.loop-i.source in
    let after = g.S.CoinSource.coins c.draw.new.self in
    rw (c.from-in-loop-i.ensures, is) (read_more all c.loop-i.i c.loop-i.word c.in_ok-coin.coin rest after c.loop-i.invariant c.in_ok-coin.ensures)

-- a coin is always there, since enough were left at the start
pub returns-in_err-coin : goal.returns-in_err-coin
returns-in_err-coin g c =
    let all = g.S.CoinSource.coins c.args.source.now in
    let rest = g.S.CoinSource.coins c.loop-i.source in
    let enough : c.args.count ≤ length all = omega arith in
    absurd (not_none all c.loop-i.i c.args.count c.loop-i.word rest c.loop-i.invariant c.loop-i-test.true enough c.in_err-coin.ensures.0)
