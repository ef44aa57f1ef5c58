use Rattle.journal.proofs.Kept.{kept_none}
use Rattle.journal.proofs.journal.Journal.new.Goals as goal

pub invariant_of-result : goal.invariant_of-result
invariant_of-result c = kept_none
