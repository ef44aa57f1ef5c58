-- How many calls of a list are made.
use Rattle.std.specs.Prelude.{ℕ, min, List, length, Result}
use Rattle.pauli.specs.declared.fault.Fault.{Fault}
use Rattle.runs.specs.declared.answer.Answer.{Answer}
use Rattle.runs.specs.declared.call.Call.{Call}

-- as many as there is room for their answers
abbrev pub made : List Call → List (Result Answer Fault) → ℕ
made calls answers = min (length calls) (length answers)
