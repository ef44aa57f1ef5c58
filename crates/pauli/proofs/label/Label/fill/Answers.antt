use Rattle.std.proofs.Common.{rules, length, arith, take_all, sym, ◌∙◌}
use Rattle.std.proofs.lemmas.List.{take_more, take_more_set}
use Rattle.pauli.proofs.Texts.{text_at, text_length}
use Rattle.pauli.specs.Labels.{label_text}
use Rattle.pauli.proofs.label.Label.fill.Goals as goal

pub loop-i-preserved : goal.loop-i-preserved
loop-i-preserved c =
    let len = text_length (length c.args.text.now) c.args.self in
    let is = text_at (length c.args.text.now) c.args.self c.loop-i.i (omega arith) in
    let read = take_more (label_text (length c.args.text.now) c.args.self) c.loop-i.i 0 (omega arith) in
    let write = take_more_set c.loop-i.text c.loop-i.i c.code.result (omega arith) in
    search rules

pub returns : goal.returns
returns c =
    let len = text_length (length c.args.text.now) c.args.self in
    sym (take_all c.loop-i.i c.loop-i.text (omega arith)) ∙ c.loop-i.invariant ∙ take_all c.loop-i.i _ (omega arith)
