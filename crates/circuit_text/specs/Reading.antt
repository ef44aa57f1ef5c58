-- What the readers of a circuit's lines answer, and where each line and field stands.
use Rattle.std.specs.Prelude.{◌≡◌, ℕ, ◌+◌, ◌<◌, ◌≤◌, ◌⊎◌, List, ◌∷◌, ◌++◌, length, drop, Some, None, Ok, Err, Option, Result, slice_index}
use Rattle.std.specs.Borrow.{Bor}
use Rattle.pauli.specs.declared.fault.Fault.{Fault}
use Rattle.pauli.specs.declared.fault.Fault.TheVariants.{BadForm, TextEnded}
use Rattle.text.specs.declared.read.Fields.{Fields}
use Rattle.text.specs.Reading.{Hit, Miss}
use Rattle.text.specs.Texts.{sign_byte}
use Rattle.circuit_text.specs.declared.line.Opening.{Opening}
use Rattle.circuit_text.specs.declared.line.Line.{Line}
use Rattle.circuit_text.specs.declared.line.Line.TheVariants as L
use Rattle.circuit_text.specs.Lines.{opening_text, OpeningLaw, coins_line, CoinsLaw, body_of, said_text, SaidLaw, said}

-- where the fields of the line at `at` stand, the next line beginning at `to`: after the kind and a comma its body; of a measurement, the
-- sign and then the letters, which are that part of the text's own memory
abbrev pub Placed : Bor (List ℕ) → ℕ → Line → ℕ → Type 0
Placed x at (L.Gate g) to = drop (at + 2) x.now ≡ body_of (said (L.Gate g)) ++ 10 ∷ drop to x.now
Placed x at (L.Measure s l) to =
    (slice_index x.now (at + 2) ≡ sign_byte s) × (drop (at + 4) x.now ≡ l.now ++ 10 ∷ drop to x.now) × (l.ref_ptr.0 ≡ x.ref_ptr.0)
    × (l.ref_ptr.1 ≡ at + 4 + x.ref_ptr.1)
Placed x at (L.Conditional k g q) to = drop (at + 2) x.now ≡ body_of (said (L.Conditional k g q)) ++ 10 ∷ drop to x.now

-- a line of this form stands at the place, or none does
abbrev pub LineAt : (old : Fields) → Result Line Fault → (new : Fields) → Type 0
LineAt old (Ok l) new = (new.text ≡ old.text) × Hit said_text SaidLaw 10 old.text.now old.at (said l) new.at × Placed old.text old.at l new.at
LineAt old (Err f) new = (f ≡ BadForm) × (new ≡ old) × Miss said_text SaidLaw 10 old.text.now old.at

-- the coins of line 2 are a part of the text's own memory too
abbrev pub CoinsAt : (old : Fields) → Result (Bor (List ℕ)) Fault → (new : Fields) → Type 0
CoinsAt old (Ok l) new =
    (new.text ≡ old.text) × Hit coins_line CoinsLaw 10 old.text.now old.at l.now new.at × (l.ref_ptr.0 ≡ old.text.ref_ptr.0)
    × (l.ref_ptr.1 ≡ old.at + 2 + old.text.ref_ptr.1)
CoinsAt old (Err f) new = (f ≡ BadForm) × (new ≡ old) × Miss coins_line CoinsLaw 10 old.text.now old.at

-- ---- a reader's calls: the place moves to the next line, and stays where a line is refused or the text has ended

-- the text has ended there, or what stands there is not of the form
abbrev pub Absent : List ℕ → ℕ → Fault → Type 0 → Type 0
Absent t at f miss = ((length t ≤ at) × (f ≡ TextEnded)) ⊎ ((at < length t) × (f ≡ BadForm) × miss)

abbrev pub OpeningRead : Bor (List ℕ) → ℕ → Result Opening Fault → ℕ → Type 0
OpeningRead x at (Ok o) to = Hit opening_text OpeningLaw 10 x.now at o to
OpeningRead x at (Err f) to = (to ≡ at) × Absent x.now at f (Miss opening_text OpeningLaw 10 x.now at)

abbrev pub CoinsRead : Bor (List ℕ) → ℕ → Result (Bor (List ℕ)) Fault → ℕ → Type 0
CoinsRead x at (Ok l) to = Hit coins_line CoinsLaw 10 x.now at l.now to × (l.ref_ptr.0 ≡ x.ref_ptr.0) × (l.ref_ptr.1 ≡ at + 2 + x.ref_ptr.1)
CoinsRead x at (Err f) to = (to ≡ at) × Absent x.now at f (Miss coins_line CoinsLaw 10 x.now at)

abbrev pub NextRead : Bor (List ℕ) → ℕ → Result (Option Line) Fault → ℕ → Type 0
NextRead x at (Ok (Some l)) to = Hit said_text SaidLaw 10 x.now at (said l) to × Placed x at l to
NextRead x at (Ok None) to = (to ≡ at) × (length x.now ≤ at)
NextRead x at (Err f) to = (to ≡ at) × (at < length x.now) × (f ≡ BadForm) × Miss said_text SaidLaw 10 x.now at
