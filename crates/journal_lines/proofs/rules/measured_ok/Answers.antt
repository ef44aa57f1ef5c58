use Rattle.std.proofs.Common.{rules}
use Rattle.journal_lines.specs.Lawful.{measured_ok}
use Rattle.journal_lines.proofs.rules.measured_ok.Goals as goal

pub returns-then-below : goal.returns-then-below
unfolding measured_ok
returns-then-below c = search rules

pub returns-else-below : goal.returns-else-below
unfolding measured_ok
returns-else-below c = search rules
