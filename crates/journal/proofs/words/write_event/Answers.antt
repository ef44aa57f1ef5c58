use Rattle.std.proofs.Common.{refl}
use Rattle.std.proofs.Output.{has_written_of_eq}
use Rattle.journal.proofs.words.write_event.Goals as goal

pub returns-else-done : goal.returns-else-done
returns-else-done g c = λ plain ok.
    has_written_of_eq _ _ _ _ _ (rw (c.name-name.ensures, c.in-Conditional.is, c.if-done.false) refl) (c.write-else-done.ensures.writes plain ok)
