-- The opening rows for n qubits and width w, letter by letter.
use Rattle.std.specs.Prelude.{ℕ, zero, suc, ◌+◌, ◌-◌, ◌/◌, cond, List, [], ◌∷◌, ◌==◌}
use Rattle.pauli.specs.declared.letter.Letter.{Letter}
use Rattle.pauli.specs.declared.letter.Letter.TheVariants.{I, X, Y, Z}
use Rattle.pauli.specs.declared.label.Label.{Label}
use Rattle.pauli.specs.declared.row.Row.{Row}
use Rattle.pauli.specs.Bits.{odd}
use Rattle.pauli_laws.specs.Words.{word, positive}
use Rattle.tableau_laws.specs.Rules.{Rows}

-- k times the letter l, and then ls
abbrev pub run : ℕ → Letter → List Letter → List Letter
run zero l ls = ls
run (suc k) l ls = l ∷ run k l ls

-- X at qubit j+1, and Z at qubit j+1
abbrev pub open_D : ℕ → Label
open_D j = word (run j I (X ∷ []))

abbrev pub open_E : ℕ → Row
open_E j = positive (run j I (Z ∷ []))

-- Y at so many qubits after the first h, and then the letters ls
abbrev pub open_word : ℕ → ℕ → List Letter → List Letter
open_word h i ls = run h I (run i Y ls)

-- The rows come in twos, of which the i-th two have Y at i qubits and then Z, and X; the last row has Y at all w. Counted from 0
abbrev pub open_end : ℕ → ℕ → List Letter
open_end w q = cond (q == w + w) [] (cond (odd q) (X ∷ []) (Z ∷ []))

abbrev pub open_J : ℕ → ℕ → ℕ → Row
open_J h w q = positive (open_word h (q / 2) (open_end w q))

abbrev pub opening : ℕ → ℕ → Rows
opening n w = record { m = n - w; w = w; D = open_D; E = open_E; J = open_J (n - w) w }
