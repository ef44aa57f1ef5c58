-- The four letters: their two bits, and how they are written.
use Rattle.std.specs.List.{list_all}
use Rattle.std.specs.Prelude.{ℕ, Bool, true, false, cond, ◌||◌, List, Ok, Err, Result, ◌==◌}
use Rattle.pauli.specs.declared.fault.Fault.{Fault}
use Rattle.pauli.specs.declared.fault.Fault.TheVariants.{BadForm}
use Rattle.pauli.specs.declared.letter.Letter.{Letter}
use Rattle.pauli.specs.declared.letter.Letter.TheVariants.{I, X, Y, Z}

-- the letter of the bits x and z
abbrev pub letter_of : Bool → Bool → Letter
letter_of false false = I
letter_of true false = X
letter_of true true = Y
letter_of false true = Z

abbrev pub x_of : Letter → Bool
x_of I = false
x_of X = true
x_of Y = true
x_of Z = false

abbrev pub z_of : Letter → Bool
z_of I = false
z_of X = false
z_of Y = true
z_of Z = true

-- a letter is written as itself, in ASCII
abbrev pub code_of : Letter → ℕ
code_of I = 73
code_of X = 88
code_of Y = 89
code_of Z = 90

-- the bits of a written letter; no other character is of the form
abbrev pub bits_of : ℕ → Result (Bool × Bool) Fault
bits_of c =
    cond (c == 73) (Ok (false, false))
    (cond (c == 88) (Ok (true, false))
    (cond (c == 89) (Ok (true, true))
    (cond (c == 90) (Ok (false, true)) (Err BadForm))))

abbrev pub is_letter : ℕ → Bool
is_letter c = (c == 73 || c == 88) || (c == 89 || c == 90)

abbrev pub all_letters : List ℕ → Bool
all_letters = list_all is_letter
