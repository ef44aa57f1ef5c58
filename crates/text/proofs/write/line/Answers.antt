use Rattle.std.proofs.Common.{◌≡◌, ◌+◌, [], ◌∷◌, ◌++◌, map, get_or, drop, sym, ap, ◌∙◌, append_assoc}
use Rattle.text.specs.declared.write.Field.TheVariants.{Number}
use Rattle.text.specs.Ends.{end_byte}
use Rattle.text.specs.Lines.{field_text, separator, line_of}
use Rattle.text.proofs.Lines.{line_more, separator_more, separator_all}
use Rattle.text.proofs.Writing.{next, part_more}
use Rattle.text.proofs.write.line.Goals as goal
use Rattle.text.proofs.write.line.Goals.{then-i-fields, else-i-fields}

pub loop-i-preserved : goal.loop-i-preserved
loop-i-preserved c =
    let fs = c.args.fields.now in
    let i = c.loop-i.i in
    let ends : separator (map field_text (drop (i + 1) fs)) ≡ c.byte.result = elim c.if-i-fields.branch [
      | then-i-fields w ↦ separator_more fs (i + 1) w.if-i-fields.true ∙ sym (c.byte.ensures ∙ ap end_byte w.end-is)
      | else-i-fields w ↦ separator_all fs (i + 1) w.if-i-fields.false ∙ sym (c.byte.ensures ∙ ap end_byte w.end-is)
    ] in
    part_more (field_text (get_or fs i (Number 0)) ++ c.byte.result ∷ []) _ c.loop-i.invariant (next c.put_field.ensures c.put.ensures)
    (line_more fs i c.loop-i-test.true
    ∙ ap (λ b. field_text (get_or fs i (Number 0)) ++ b ∷ line_of (drop (i + 1) fs)) ends
    ∙ sym (append_assoc (field_text (get_or fs i (Number 0))) (c.byte.result ∷ []) (line_of (drop (i + 1) fs))))
