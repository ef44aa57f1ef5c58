use Rattle.journal_lines.proofs.Apart.{lines_apart}
use Rattle.journal_lines.proofs.lines.lines_tell_entries.Goals as goal

pub returns : goal.returns
returns c = lines_apart
