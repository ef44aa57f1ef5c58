-- Labels written letter by letter.
use Rattle.std.specs.Prelude.{ℕ, ◌+◌, ◌*◌, Bool, true, false, List, [], ◌∷◌}
use Rattle.pauli.specs.declared.label.Label.{Label}
use Rattle.pauli.specs.declared.letter.Letter.{Letter}
use Rattle.pauli.specs.declared.row.Row.{Row}
use Rattle.pauli.specs.Letters.{x_of, z_of}
use Rattle.pauli.specs.Labels.{zero_label}
use Rattle.pauli.specs.Rows.{row}

-- a bit as a number
abbrev pub num : Bool → ℕ
num true = 1
num false = 0

-- the label of these letters, qubit 1 first
abbrev pub word : List Letter → Label
word [] = zero_label
word (l ∷ ls) = record { x = num (x_of l) + 2 * (word ls).x; z = num (z_of l) + 2 * (word ls).z }

-- the rows +ls and -ls
abbrev pub positive : List Letter → Row
positive ls = row (word ls) false

abbrev pub negative : List Letter → Row
negative ls = row (word ls) true
