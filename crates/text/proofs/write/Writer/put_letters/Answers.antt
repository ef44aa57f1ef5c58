use Rattle.std.proofs.Common.{arith}
use Rattle.pauli.specs.Labels.{label_text}
use Rattle.pauli.proofs.Texts.{text_at, text_length}
use Rattle.text.proofs.Writing.{byte_more, bytes_all}
use Rattle.text.proofs.write.Writer.put_letters.Goals as goal

pub loop-i-preserved : goal.loop-i-preserved
loop-i-preserved c =
    let n = text_length c.args.size c.args.label in
    let code = text_at c.args.size c.args.label c.loop-i.i c.loop-i-test.true in
    byte_more (label_text c.args.size c.args.label) c.loop-i.i c.code.result (omega arith) (search (c.code.ensures, c.at.ensures, code)) c.loop-i.invariant c.put.ensures

pub returns : goal.returns
returns c =
    let n = text_length c.args.size c.args.label in
    bytes_all (label_text c.args.size c.args.label) c.loop-i.i (omega arith) c.loop-i.invariant
