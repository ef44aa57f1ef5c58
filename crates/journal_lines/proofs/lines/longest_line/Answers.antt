use Rattle.std.proofs.Common.{refl}
use Rattle.journal_lines.proofs.Lengths.{longest}
use Rattle.journal_lines.proofs.lines.longest_line.Goals as goal

pub returns : goal.returns
returns c = record { is = refl; longest = longest }
