use Rattle.std.proofs.Common.{arith, rules}
use Rattle.pauli.specs.Labels.{label_text}
use Rattle.pauli.proofs.Texts.{text_at, text_length}
use Rattle.journal.proofs.Printing.{byte_left, bytes_written}
use Rattle.journal.proofs.words.LettersDisplay.fmt.Goals as goal

pub loop-i-preserved : goal.loop-i-preserved
loop-i-preserved g c = λ plain.
    let m = c.args.self.now.0.now in
    let n = text_length m.size m.label in
    let code = text_at m.size m.label c.loop-i.i c.loop-i-test.true in
    let left = c.loop-i.invariant plain in
    byte_left _ _ _ (label_text m.size m.label) c.loop-i.i _ _ (omega arith) (search (c.name.ensures, c.at.ensures, code)) left (c.write_str.ensures.writes left.plain (search rules))

pub returns-clause-writes : goal.returns-clause-writes
returns-clause-writes g c = λ plain _.
    let m = c.args.self.now.0.now in
    let n = text_length m.size m.label in
    bytes_written _ _ _ (label_text m.size m.label) c.loop-i.i (omega arith) (c.loop-i.invariant plain)
