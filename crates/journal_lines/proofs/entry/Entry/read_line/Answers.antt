use Rattle.journal_lines.proofs.Entries.{not_whole, no_whole}
use Rattle.journal_lines.proofs.entry.Entry.read_line.Goals as goal

pub returns-in_err-entry-clause-back : goal.returns-in_err-entry-clause-back
returns-in_err-entry-clause-back c = λ e g. absurd (no_whole _ c.in_err-entry.ensures.2 e g)

pub returns-then-fields-text-clause-back : goal.returns-then-fields-text-clause-back
returns-then-fields-text-clause-back c = λ e g. absurd (not_whole _ _ _ c.in_ok-entry.ensures.4 c.if-fields-text.true e g)
