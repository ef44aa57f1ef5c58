-- What the program prints: the lines of the journal, and a last line that tells how it ended.
use Rattle.std.specs.Prelude.{◌≡◌, ℕ, List, [], ◌∷◌, ◌++◌, Ok, Err, codes, decimal, Result}
use Rattle.pauli.specs.Faults.{number_of}
use Rattle.journal_lines.specs.declared.event.Event.{Event}
use Rattle.runs.specs.Readings.{readings}
use Rattle.text.specs.declared.stop.Stop.{Stop}
use Rattle.circuit_run.specs.declared.report.Finish.{Finish}
use Rattle.circuit_run.specs.Runs.{Ran}

-- texts one after the other
abbrev pub joined : List (List ℕ) → List ℕ
joined [] = []
joined (t ∷ ts) = t ++ joined ts

-- the last line: `E,entries,coins,width` or `R,line,number`
abbrev pub last_line : Result Finish Stop → List ℕ
last_line (Ok f) = codes "E," ++ (decimal f.entries ++ (codes "," ++ (decimal f.coins ++ (codes "," ++ (decimal f.width ++ codes "\n")))))
last_line (Err e) = codes "R," ++ (decimal e.line ++ (codes "," ++ (decimal (number_of e.fault) ++ codes "\n")))

abbrev pub output : List Event → Result Finish Stop → List ℕ
output journal end = joined (readings journal) ++ last_line end

-- a text is answered by these bytes
abbrev pub Answered : List ℕ → List ℕ → Type 0
Answered text out = (journal : List Event) × (end : Result Finish Stop) × Ran text journal end × (out ≡ output journal end)
