-- The promises hold along any history, and the cases counted are one.
use Rattle.runs.proofs.Theorem.{always, one_cases}
use Rattle.runs.proofs.promises.promises_hold.Goals as goal

pub returns : goal.returns
returns c = record { always = always; one = one_cases }
