use Rattle.std.proofs.Common.{length, sym, ap, arith}
use Rattle.std.proofs.lemmas.Bool.{lt-leb, le-leb}
use Rattle.text.proofs.Lines.{length_more, line_all}
use Rattle.text.proofs.write.fits.Goals as goal

pub returns-then-left-len : goal.returns-then-left-len
returns-then-left-len c =
    let m = length_more c.args.fields.now c.loop-field.field-index c.loop-field-test.true in
    sym (lt-leb _ _ (omega (arith, c.loop-field.invariant, c.field_len-len.ensures.is)))

pub loop-field-preserved : goal.loop-field-preserved
loop-field-preserved c =
    let m = length_more c.args.fields.now c.loop-field.field-index c.loop-field-test.true in
    omega (arith, c.loop-field.invariant, c.field_len-len.ensures.is)

pub returns : goal.returns
returns c =
    let e = ap length (line_all c.args.fields.now c.loop-field.field-index c.loop-field-test.false) in
    sym (le-leb _ _ (omega (arith, c.loop-field.invariant)))
