use Rattle.std.proofs.Common.{ap, nat_le}
use Rattle.journal.proofs.Kept.{length_kept}
use Rattle.journal.proofs.journal.Journal.is_full.Goals as goal

pub returns : goal.returns
returns c = ap (nat_le 512) (length_kept _ _ _ c.self.invariant c.self.view_is)
