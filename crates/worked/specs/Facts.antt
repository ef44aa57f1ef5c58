-- Examples worked out by the definitions that the contracts use, letter by letter and byte by byte.
use Rattle.std.specs.Prelude.{◌≡◌, ℕ, false, List, [], ◌∷◌, map, length, codes}
use Rattle.pauli.specs.declared.gate.Gate.TheVariants.{One, Cx}
use Rattle.pauli.specs.declared.gate.OneQubit.TheVariants as Turn
use Rattle.pauli.specs.declared.letter.Letter.{Letter}
use Rattle.pauli.specs.declared.letter.Letter.TheVariants.{I, X, Y, Z}
use Rattle.pauli.specs.Gates.{carry}
use Rattle.pauli.specs.Labels.{label_text}
use Rattle.pauli.specs.Letters.{code_of}
use Rattle.pauli.specs.Rows.{times}
use Rattle.pauli_laws.specs.Words.{word, negative, positive}
use Rattle.phase.specs.Sheets.{Lawful}
use Rattle.tableau_laws.specs.Opening.{opening}
use Rattle.tableau_laws.specs.Rules.{all_rows, outcome_of, sheet_of}
use Rattle.circuit_run.specs.Output.{Answered}
use Rattle.worked.specs.Steps.{ZIZ, after_three, after_ZIZ, after_ZX}

-- the examples write labels by their letters
abbrev pub LettersAreRead : Type 0
LettersAreRead = (ls : List Letter) → label_text (length ls) (word ls) ≡ map code_of ls

-- ---- rows

-- XX times ZZ is -YY
abbrev pub ProductOfXXAndZZ : Type 0
ProductOfXXAndZZ = times (positive (X ∷ X ∷ [])) (positive (Z ∷ Z ∷ [])) ≡ negative (Y ∷ Y ∷ [])

-- H carries Y to -Y
abbrev pub HOnY : Type 0
HOnY = carry (One Turn.H 1) (positive (Y ∷ [])) ≡ negative (Y ∷ [])

-- CX from 1 to 2 carries XZ to -YY
abbrev pub CXOnXZ : Type 0
CXOnXZ = carry (Cx 1 2) (positive (X ∷ Z ∷ [])) ≡ negative (Y ∷ Y ∷ [])

-- ---- tableaus

-- the opening for two qubits and width 2
abbrev pub OpeningRows : Type 0
OpeningRows =
    all_rows 2 (opening 2 2) ≡ positive (Z ∷ I ∷ []) ∷ positive (X ∷ I ∷ []) ∷ positive (Y ∷ Z ∷ []) ∷ positive (Y ∷ X ∷ []) ∷ positive (Y ∷ Y ∷ []) ∷ []

-- there is a lawful sheet: that of one qubit and width 1
abbrev pub LawfulSheet : Type 0
LawfulSheet = Lawful (sheet_of 1 (opening 1 1))

-- In Case 3 the outcome belongs to the whole label: from three qubits and width 2, the gate X on qubit 1 and then ZIZ measured with coin 0
-- leave the stabilizer -IIZ, and ZIZ measured again answers 0
abbrev pub WholeLabel : Type 0
WholeLabel = (after_ZIZ.E 1 ≡ negative (I ∷ I ∷ Z ∷ [])) × ((coins : ℕ) → outcome_of ZIZ false coins after_ZIZ ≡ false)

-- In Case 4 the destabilizers before the one replaced are multiplied too: from two qubits and width 0, ZX measured with coin 0
abbrev pub RowsAfterZX : Type 0
RowsAfterZX =
    all_rows 2 after_ZX ≡ positive (X ∷ Z ∷ []) ∷ positive (I ∷ Z ∷ []) ∷ positive (Z ∷ I ∷ []) ∷ positive (Z ∷ X ∷ []) ∷ positive (I ∷ I ∷ []) ∷ []

-- ---- a circuit

-- four measurements on two qubits of width 2: this text is answered by these bytes
abbrev pub FourMeasurements : Type 0
FourMeasurements =
    Answered (codes "Q,2,2\nB,1011\nM,+,ZI\nM,+,XI\nM,+,IZ\nM,-,IZ\n")
    (codes "1,M,+,ZI,2,0,1,1\n2,M,+,XI,2,1,1,0\n3,M,+,IZ,3,1,1,1\n4,M,-,IZ,1,0,0,-\nE,4,3,1\n")

-- and these are the rows after the third of them
abbrev pub RowsAfterThird : Type 0
RowsAfterThird =
    all_rows 2 after_three ≡ positive (Y ∷ Y ∷ []) ∷ negative (I ∷ Z ∷ []) ∷ negative (Z ∷ Z ∷ []) ∷ positive (X ∷ Z ∷ []) ∷ positive (Y ∷ I ∷ []) ∷ []
