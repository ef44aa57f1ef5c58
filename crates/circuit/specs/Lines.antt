-- The lines of a circuit after the first two, played to a session in their order.
use Rattle.std.specs.Prelude.{◌≡◌, ℕ, ◌+◌, ◌≢◌, ◌⊎◌, List, [], ◌∷◌, ◌++◌, Some, Ok, Err, Result}
use Rattle.pauli.specs.declared.fault.Fault.{Fault}
use Rattle.pauli.specs.declared.fault.Fault.TheVariants.{BadForm}
use Rattle.pauli.specs.declared.label.Label.{Label}
use Rattle.pauli.specs.Labels.{Within, label_text, reading_fault}
use Rattle.phase.specs.Sheets.{Lawful}
use Rattle.runs.specs.declared.answer.Answer.{Answer}
use Rattle.runs.specs.declared.call.Call.{Call}
use Rattle.runs.specs.declared.call.Call.TheVariants as Ask
use Rattle.runs.specs.Promises.{Moment}
use Rattle.runs.specs.States.{State}
use Rattle.runs.specs.Steps.{Step}
use Rattle.circuit_text.specs.Lines.{Said, gate, measure, conditional, said_text, SaidLaw}
use Rattle.text.specs.declared.stop.Stop.{Stop}
use Rattle.text.specs.Stops.{stop}

-- the call that a line asks of a session of n qubits, or why its letters are refused
abbrev pub Asks : ℕ → Said → Result Call Fault → Type 0
Asks n (gate g) (Ok c) = c ≡ Ask.Gate g
Asks n (gate g) (Err f) = ⊥
Asks n (measure s l) (Ok c) = (a : Label) × Within n a × (l ≡ label_text n a) × (c ≡ Ask.Measure a s)
Asks n (measure s l) (Err f) = reading_fault n l ≡ Some f
Asks n (conditional k g q) (Ok c) = c ≡ Ask.Conditional k g q
Asks n (conditional k g q) (Err f) = ⊥

-- one line done: its call was made and accepted
pub record LineDone (s : State) (x : Said) (t : State) : Type 0 where
  pub call : Call
  pub answer : Answer
  pub asked : Asks s.sheet.n x (Ok call)
  pub step : Step s call (Ok answer) t

-- or refused: by its letters, or by the session
abbrev pub LineRefused : State → Said → Fault → Type 0
LineRefused s x f = Asks s.sheet.n x (Err f) ⊎ ((c : Call) × Asks s.sheet.n x (Ok c) × Step s c (Err f) s)

abbrev pub Performed : State → Said → Result Unit Fault → State → Type 0
Performed s x (Ok done) t = LineDone s x t
Performed s x (Err f) t = LineRefused s x f × (t ≡ s)

-- a text of lines, from a state s on, where the next line is line k: the calls accepted with their answers, the state after them, and how it
-- ended, at the text's end or at a line refused
pub data Lines : State → ℕ → List ℕ → List Moment → State → Result Unit Stop → Type 0 where
  end : (s : State) (k : ℕ) → Lines s k [] [] s (Ok tt)
  next : (s : State) (k : ℕ) (x : Said) (rest : List ℕ) (t : State) (ms : List Moment) (u : State) (r : Result Unit Stop)
      → Lawful s.sheet → SaidLaw x → (d : LineDone s x t) → Lines t (k + 1) rest ms u r
      → Lines s k (said_text x ++ 10 ∷ rest) (record { call = d.call; answer = Ok d.answer; after = t } ∷ ms) u r
  not_a_line : (s : State) (k : ℕ) (t : List ℕ) → t ≢ [] → ((x : Said) (rest : List ℕ) → SaidLaw x → t ≢ said_text x ++ 10 ∷ rest)
      → Lines s k t [] s (Err (stop k BadForm))
  refused : (s : State) (k : ℕ) (x : Said) (rest : List ℕ) (f : Fault) → SaidLaw x → LineRefused s x f
      → Lines s k (said_text x ++ 10 ∷ rest) [] s (Err (stop k f))

-- the lines come to this for some accepted calls
pub record Played (s : State) (k : ℕ) (text : List ℕ) (r : Result Unit Stop) (t : State) : Type 0 where
  pub moments : List Moment
  pub lines : Lines s k text moments t r
