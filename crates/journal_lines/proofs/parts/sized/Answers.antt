use Rattle.std.proofs.Common.{refl}
use Rattle.text.proofs.Places.{let_go}
use Rattle.journal_lines.proofs.Labels.{read_never, sized_none, sized_long, sized_hit}
use Rattle.journal_lines.proofs.parts.sized.Goals as goal

pub returns-in_err-letters : goal.returns-in_err-letters
returns-in_err-letters c =
    let_go _ _ _ _ _ _ _ c.from_residual.ensures.1 c.in_err-letters.ensures.0 (sized_none _ _ c.in_err-letters.ensures.2)

pub returns-then-letters-gt64 : goal.returns-then-letters-gt64
returns-then-letters-gt64 c = (refl, sized_long _ _ _ _ c.in_ok-letters.ensures.1 c.if-letters-gt64.true)

pub returns-in_err-label : goal.returns-in_err-label
returns-in_err-label c =
    absurd (read_never _ _ _ c.in_ok-letters.ensures.1.law refl c.if-letters-gt64.false c.in_err-label.ensures)

pub returns : goal.returns
returns c =
    let h = c.in_ok-letters.ensures in
    let label = c.in_ok-label.ensures.1 in
    (h.0, sized_hit _ _ _ _ h.1 _ _ refl c.if-letters-gt64.false label.0 label.1)
