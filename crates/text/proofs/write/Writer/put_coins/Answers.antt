use Rattle.std.proofs.Common.{◌+◌, arith, rules}
use Rattle.text.specs.Texts.{coins}
use Rattle.text.proofs.Words.{length_coins, coin_at}
use Rattle.text.proofs.Writing.{byte_more, bytes_all}
use Rattle.text.proofs.write.Writer.put_coins.Goals as goal

pub loop-i-preserved : goal.loop-i-preserved
loop-i-preserved c =
    let n = length_coins c.args.count c.args.word in
    let coin = coin_at c.args.count c.args.word c.loop-i.i c.loop-i-test.true in
    byte_more (coins c.args.count c.args.word) c.loop-i.i (48 + c.from.result) (omega arith) (search (rules, coin)) c.loop-i.invariant c.put.ensures

pub returns : goal.returns
returns c =
    let n = length_coins c.args.count c.args.word in
    bytes_all (coins c.args.count c.args.word) c.loop-i.i (omega arith) c.loop-i.invariant
