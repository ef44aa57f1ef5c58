-- The lines of a circuit, up to the line feed.
use Rattle.std.specs.Prelude.{ℕ, ◌≤◌, Bool, List, ◌∷◌, ◌++◌, length}
use Rattle.pauli.specs.declared.gate.Gate.{Gate}
use Rattle.pauli.specs.declared.gate.OneQubit.{OneQubit}
use Rattle.text.specs.Texts.{num, Short, sign_byte, gate_text, Gated, turn_text, Turn, Letters, Coins}
use Rattle.circuit_text.specs.declared.line.Opening.{Opening}
use Rattle.circuit_text.specs.declared.line.Line.{Line}
use Rattle.circuit_text.specs.declared.line.Line.TheVariants as L

-- line 1, as `Q,3,2`
abbrev pub opening_text : Opening → List ℕ
opening_text o = 81 ∷ 44 ∷ (num o.size ++ 44 ∷ num o.width)

abbrev pub OpeningLaw : Opening → Type 0
OpeningLaw o = Short o.size × Short o.width

-- line 2, as `B,1011`: up to 4,096 coins
abbrev pub coins_line : List ℕ → List ℕ
coins_line l = 66 ∷ 44 ∷ l

pub record CoinsLaw (l : List ℕ) : Type 0 where
  pub coins : Coins l
  pub few : length l ≤ 4096

-- what another line says, with the letters of a label as bytes
pub data Said : Type 0 where
  gate : Gate → Said
  measure : Bool → List ℕ → Said
  conditional : ℕ → OneQubit → ℕ → Said

-- the character that begins it, and what follows after a comma: `G,H,1`, `G,CX,1,2`, `M,+,XIZ`, `F,1,X,3`
abbrev pub kind_of : Said → ℕ
kind_of (gate g) = 71
kind_of (measure s l) = 77
kind_of (conditional k g q) = 70

abbrev pub body_of : Said → List ℕ
body_of (gate g) = gate_text g
body_of (measure s l) = sign_byte s ∷ 44 ∷ l
body_of (conditional k g q) = num k ++ 44 ∷ turn_text (g, q)

abbrev pub said_text : Said → List ℕ
said_text s = kind_of s ∷ 44 ∷ body_of s

abbrev pub SaidLaw : Said → Type 0
SaidLaw (gate g) = Gated g
SaidLaw (measure s l) = Letters l
SaidLaw (conditional k g q) = Short k × Turn (g, q)

abbrev pub said : Line → Said
said (L.Gate g) = gate g
said (L.Measure s l) = measure s l.now
said (L.Conditional k g q) = conditional k g q
