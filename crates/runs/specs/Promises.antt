-- What holds along every run of a session.
use Rattle.std.specs.Prelude.{◌≡◌, ℕ, ◌+◌, ◌-◌, ◌≤◌, Bool, List, [], ◌∷◌, ◌++◌, length, Some, None, Ok, Option, Result}
use Rattle.pauli.specs.declared.case.Case.{Case}
use Rattle.pauli.specs.declared.case.Case.TheVariants.{One, Two, Three, Four}
use Rattle.pauli.specs.declared.fault.Fault.{Fault}
use Rattle.pauli.specs.declared.label.Label.{Label}
use Rattle.pauli.specs.declared.row.Row.{Row}
use Rattle.pauli.specs.Bits.{xorb}
use Rattle.pauli.specs.Rows.{product}
use Rattle.phase.specs.LabelCases.{InCase}
use Rattle.phase.specs.Sheets.{Lawful}
use Rattle.runs.specs.declared.answer.Answer.{Answer}
use Rattle.runs.specs.declared.answer.Answer.TheVariants.{Outcome}
use Rattle.runs.specs.declared.call.Call.{Call}
use Rattle.runs.specs.declared.call.Call.TheVariants.{Measure}
use Rattle.runs.specs.Readings.{readings}
use Rattle.runs.specs.Spent.{spent}
use Rattle.runs.specs.Standing.{standing, outcome_row, Among}
use Rattle.runs.specs.States.{State}
use Rattle.runs.specs.Steps.{Step}

-- ---- runs

-- a call made, its answer or why it was refused, and the state after it
pub record Moment : Type 0 where
  pub call : Call
  pub answer : Result Answer Fault
  pub after : State

-- the calls and answers alone
abbrev pub told : List Moment → List (Call × Result Answer Fault)
told [] = []
told (m ∷ ms) = (m.call, m.answer) ∷ told ms

abbrev pub calls_of : List Moment → List Call
calls_of [] = []
calls_of (m ∷ ms) = m.call ∷ calls_of ms

abbrev pub answers_of : List Moment → List (Result Answer Fault)
answers_of [] = []
answers_of (m ∷ ms) = m.answer ∷ answers_of ms

-- the state to which some moments, first moment first, lead
abbrev pub reached : State → List Moment → State
reached s [] = s
reached s (m ∷ ms) = reached m.after ms

-- each call is one step from the state to which those before it led, and each state's sheet meets the laws
abbrev pub History : State → List Moment → Type 0
History s [] = Unit {0}
History s (m ∷ ms) = Lawful s.sheet × Step s m.call m.answer m.after × History m.after ms

-- ---- the promises, at one moment of a run: after the calls `ms`

-- Standing outcomes: wherever a measurement was accepted of the label of a product of rows that stood just before, it answered the
-- product's sign plus the sign measured. The empty product is one of these products
abbrev pub StandingOutcomes : List Moment → Type 0
StandingOutcomes ms =
    (earlier later : List Moment) (b : Label) (sign outcome : Bool) (after : State)
    → ms ≡ earlier ++ (record { call = Measure b sign; answer = Ok (Outcome outcome); after = after } ∷ later)
    → (rows : List Row) → Among rows (standing (told earlier)) → (product rows).label ≡ b → outcome ≡ xorb (product rows).sign sign

-- the case, just before, of the label of an accepted measurement; other calls have none
abbrev pub CaseOf : State → Option Row → List Case → Type 0
CaseOf s (Some r) cs = (c : Case) × InCase s.sheet.value r.label c × (cs ≡ c ∷ [])
CaseOf s None cs = cs ≡ []

-- the cases of all accepted measurements
abbrev pub CasesOf : State → List Moment → List Case → Type 0
CasesOf s [] cs = cs ≡ []
CasesOf s (m ∷ ms) cs =
    (first : List Case) × (rest : List Case) × CaseOf s (outcome_row m.call m.answer) first × CasesOf m.after ms rest × (cs ≡ first ++ rest)

abbrev pub twos : List Case → ℕ
twos [] = 0
twos (One ∷ cs) = twos cs
twos (Two ∷ cs) = 1 + twos cs
twos (Three ∷ cs) = twos cs
twos (Four ∷ cs) = twos cs

abbrev pub fours : List Case → ℕ
fours [] = 0
fours (One ∷ cs) = fours cs
fours (Two ∷ cs) = fours cs
fours (Three ∷ cs) = fours cs
fours (Four ∷ cs) = 1 + fours cs

-- Coin count: the coins spent are as many as the measurements in Case 2 and in Case 4, and the width at opening minus the width now.
-- The width never rises
pub record CoinCount (opened : State) (ms : List Moment) : Type 0 where
  pub cases : List Case
  pub these : CasesOf opened ms cases
  pub narrower : (reached opened ms).sheet.width ≤ opened.sheet.width
  pub spends : length (spent (readings (reached opened ms).events)) ≡ twos cases + fours cases + (opened.sheet.width - (reached opened ms).sheet.width)

-- Coin order: the coins spent, first entry first, followed by those still to come, are the coins at opening
abbrev pub CoinOrder : State → List Moment → Type 0
CoinOrder opened ms = spent (readings (reached opened ms).events) ++ (reached opened ms).coins ≡ opened.coins

-- all three
pub record Holds (opened : State) (ms : List Moment) : Type 0 where
  pub outcomes : StandingOutcomes ms
  pub count : CoinCount opened ms
  pub order : CoinOrder opened ms

-- ---- every run

-- at every moment of a run
abbrev pub Throughout : State → List Moment → Type 0
Throughout opened ms = (earlier later : List Moment) → ms ≡ earlier ++ later → Holds opened earlier

-- these calls were made in this order, from the opening to the state now, with these answers, and the promises hold throughout
pub record Played (opened : State) (calls : List Call) (answers : List (Result Answer Fault)) (now : State) : Type 0 where
  pub moments : List Moment
  pub calls_made : calls_of moments ≡ calls
  pub answers_got : answers_of moments ≡ answers
  pub ends : reached opened moments ≡ now
  pub history : History opened moments
  pub throughout : Throughout opened moments
