use Rattle.std.proofs.Common.{refl, ◌∙◌}
use Rattle.text.proofs.Fields.{hit_in, miss_in}
use Rattle.text.proofs.Places.{let_go}
use Rattle.journal_lines.proofs.Coins.{drawn_first, drawn_many, drawn_miss, drawn_hit}
use Rattle.journal_lines.proofs.parts.drawn.Goals as goal

pub returns-in_err-count : goal.returns-in_err-count
returns-in_err-count c =
    let_go _ _ _ _ _ _ _ c.from_residual.ensures.1 c.in_err-count.ensures.0 (drawn_first _ _ c.in_err-count.ensures.2)

pub returns-then-count-gt64 : goal.returns-then-count-gt64
returns-then-count-gt64 c = (refl, drawn_many _ _ _ _ c.in_ok-count.ensures.1 c.if-count-gt64.true)

pub returns-in_err-word : goal.returns-in_err-word
returns-in_err-word c =
    let count = c.in_ok-count.ensures in
    let e = c.in_err-word.ensures in
    let_go _ _ _ _ _ _ _ c.from_residual-in_err-word.ensures.1 e.0 (drawn_miss _ _ _ _ count.1 (miss_in count.0 e.1))

pub returns : goal.returns
returns c =
    let count = c.in_ok-count.ensures in
    let word = c.in_ok-word.ensures in
    (word.0 ∙ count.0, drawn_hit _ _ _ _ count.1 _ _ c.if-count-gt64.false (hit_in count.0 word.1))
