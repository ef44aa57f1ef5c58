use Rattle.std.proofs.Common.{◌∙◌}
use Rattle.text.specs.Texts.{num, Short, turn_text, Turn}
use Rattle.text.proofs.Places.{let_go}
use Rattle.text.proofs.Fields.{hit_in, miss_in, both_hit, both_second}
use Rattle.journal_lines.proofs.Events.{marked, cond_hit, cond_miss}
use Rattle.journal_lines.proofs.parts.event.Goals as goal

pub returns-in_err-gate-in-68 : goal.returns-in_err-gate-in-68
returns-in_err-gate-in-68 c =
    let kind = c.in_ok-kind.ensures in
    let outcome = c.in_ok-outcome-in-68.ensures in
    let e = c.in_err-gate-in-68.ensures in
    let_go _ _ _ _ _ _ _ c.from_residual-in_err-gate-in-68.ensures.1 e.0
    (cond_miss _ _ _ _ _ kind.1 (marked _ c.in-68.is) (miss_in kind.0 (both_second num Short turn_text Turn outcome.1 (miss_in outcome.0 e.2))))

pub returns-in_ok-gate-in-68 : goal.returns-in_ok-gate-in-68
returns-in_ok-gate-in-68 c =
    let kind = c.in_ok-kind.ensures in
    let outcome = c.in_ok-outcome-in-68.ensures in
    let turn = c.in_ok-gate-in-68.ensures in
    (turn.0 ∙ outcome.0 ∙ kind.0, cond_hit _ _ _ _ _ kind.1 (marked _ c.in-68.is) _ _ _ _ (hit_in kind.0 (both_hit num Short turn_text Turn outcome.1 (hit_in outcome.0 turn.1))))
