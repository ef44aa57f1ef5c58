-- The parts of a line behind the entry's number, as its readers take them: the text of each, and which values it is read for.
use Rattle.std.specs.Prelude.{◌≡◌, ℕ, ◌+◌, ◌*◌, ◌^◌, ◌<◌, ◌≤◌, ◌==◌, Bool, true, cond, List, [], ◌∷◌, ◌++◌}
use Rattle.pauli.specs.declared.case.Case.{Case}
use Rattle.pauli.specs.declared.gate.OneQubit.{OneQubit}
use Rattle.pauli.specs.declared.label.Label.{Label}
use Rattle.pauli.specs.Cases.{case_number}
use Rattle.pauli.specs.Labels.{Within, label_text, size_ok}
use Rattle.text.specs.Texts.{num, Short, sign_text, turn_text, Turn, gate_text, Gated, coin_text}
use Rattle.journal_lines.specs.declared.event.Event.{Event}
use Rattle.journal_lines.specs.declared.event.Event.TheVariants as E
use Rattle.journal_lines.specs.declared.event.Measurement.{Measurement}
use Rattle.journal_lines.specs.Lines.{done_mark, bit}

abbrev pub case_text : Case → List ℕ
case_text c = num (case_number c)

abbrev pub bit_text : Bool → List ℕ
bit_text b = num (bit b)

-- the letters of a label, as many as the size says
abbrev pub sized_text : ℕ × Label → List ℕ
sized_text p = label_text p.0 p.1

pub record Sized (p : ℕ × Label) : Type 0 where
  pub size : size_ok p.0 ≡ true
  pub label : Within p.0 p.1

-- coins of a known count
abbrev pub Bits : ℕ → ℕ → Type 0
Bits n c = c < 2 ^ n

-- the coins that digits are, the first in the lowest bit
abbrev pub word : List ℕ → ℕ
word [] = 0
word (d ∷ ds) = 2 * word ds + cond (d == 49) 1 0

-- a count of coins, and the coins
abbrev pub drawn_text : ℕ × ℕ → List ℕ
drawn_text p = num p.0 ++ 44 ∷ coin_text p.0 p.1

pub record Drawn (p : ℕ × ℕ) : Type 0 where
  pub few : p.0 ≤ 64
  pub bits : Bits p.0 p.1

abbrev pub measured_text : Measurement → List ℕ
measured_text m =
    sign_text m.sign ++ 44 ∷ (sized_text (m.size, m.label) ++ 44 ∷ (case_text m.case ++ 44 ∷ (bit_text m.outcome ++ 44 ∷ drawn_text (m.count, m.coins))))

abbrev pub Measured : Measurement → Type 0
Measured m = Sized (m.size, m.label) × Drawn (m.count, m.coins)

-- an outcome's number, and a gate
abbrev pub asked_text : ℕ × (OneQubit × ℕ) → List ℕ
asked_text p = num p.0 ++ 44 ∷ turn_text p.1

abbrev pub Asked : ℕ × (OneQubit × ℕ) → Type 0
Asked p = Short p.0 × Turn p.1

abbrev pub event_text : Event → List ℕ
event_text (E.Gate g) = 71 ∷ 44 ∷ gate_text g
event_text (E.Conditional done outcome g q) = done_mark done ∷ 44 ∷ asked_text (outcome, (g, q))
event_text (E.Measurement m) = 77 ∷ 44 ∷ measured_text m

abbrev pub Readable : Event → Type 0
Readable (E.Gate g) = Gated g
Readable (E.Conditional done outcome g q) = Asked (outcome, (g, q))
Readable (E.Measurement m) = Measured m
