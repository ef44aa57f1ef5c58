use Rattle.journal.proofs.Kept.{length_kept}
use Rattle.journal.proofs.journal.Journal.len.Goals as goal

pub returns-clause-count : goal.returns-clause-count
returns-clause-count c = length_kept _ _ _ c.self.invariant c.self.view_is
