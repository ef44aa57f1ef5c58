-- What the text of a circuit comes to, from its first byte on.
use Rattle.std.specs.Prelude.{◌≡◌, ℕ, ◌<◌, ◌≤◌, Bool, ◌≢◌, List, [], ◌∷◌, ◌++◌, length, Some, None, Ok, Err, Result}
use Rattle.pauli.specs.declared.fault.Fault.{Fault}
use Rattle.pauli.specs.declared.fault.Fault.TheVariants.{BadForm, TextEnded}
use Rattle.coins.specs.Digits.{digits}
use Rattle.journal_lines.specs.declared.event.Event.{Event}
use Rattle.phase.specs.Sheets.{Sheet}
use Rattle.runs.specs.Promises.{Moment, reached, History, Throughout}
use Rattle.runs.specs.Readings.{readings}
use Rattle.runs.specs.Spent.{spent}
use Rattle.runs.specs.States.{State, state}
use Rattle.tableau_laws.specs.Opening.{opening}
use Rattle.tableau_laws.specs.Rules.{sheet_of}
use Rattle.tableau_rows.specs.Openings.{opening_fault}
use Rattle.circuit_text.specs.declared.line.Opening.{Opening}
use Rattle.circuit_text.specs.Lines.{opening_text, OpeningLaw, coins_line}
use Rattle.text.specs.declared.stop.Stop.{Stop}
use Rattle.circuit.specs.Lines.{Lines}
use Rattle.text.specs.Stops.{stop}
use Rattle.circuit_run.specs.declared.report.Finish.{Finish}

-- ---- lines 1 and 2

-- a text of at most 32,768 bytes
abbrev pub Fit : List ℕ → Type 0
Fit t = length t ≤ 32768

-- a text is line 1 with its line feed, and then `rest`
abbrev pub Begins : List ℕ → Opening → List ℕ → Type 0
Begins t o rest = OpeningLaw o × (t ≡ opening_text o ++ 10 ∷ rest)

-- a text is line 2 with its line feed, up to 4,096 coins, and then `rest`
abbrev pub Supplies : List ℕ → List Bool → List ℕ → Type 0
Supplies t cs rest = (length cs ≤ 4096) × (t ≡ coins_line (digits cs) ++ 10 ∷ rest)

-- the values of the tableau that line 1 opens
abbrev pub opening_sheet : Opening → Sheet
opening_sheet o = sheet_of o.size (opening o.size o.width)

-- a session just opened over that tableau and the coins of line 2
abbrev pub opened : Opening → List Bool → State
opened o cs = state (opening_sheet o) cs []

-- ---- the lines after these

abbrev pub how_ended : Result Finish Stop → Result Unit Stop
how_ended (Ok f) = Ok tt
how_ended (Err e) = Err e

-- what is told at the text's end: how many entries there are, how many coins were spent, and the width
abbrev pub Tells : State → Result Finish Stop → Type 0
Tells s (Ok f) = (f.entries ≡ length s.events) × (f.coins ≡ length (spent (readings s.events))) × (f.width ≡ s.sheet.width)
Tells s (Err e) = Unit {0}

-- The lines from line 3 on, played to that session: each line accepted is one call of a history, and the promises about every run hold at
-- every moment of it. The journal is that of the state to which it led
pub record PlayedOut (o : State) (rest : List ℕ) (journal : List Event) (end : Result Finish Stop) : Type 0 where
  pub moments : List Moment
  pub lines : Lines o 3 rest moments (reached o moments) (how_ended end)
  pub history : History o moments
  pub promises : Throughout o moments
  pub entries : journal ≡ (reached o moments).events
  pub told : Tells (reached o moments) end

-- ---- any text

-- the journal that a text leaves, and how it ended. The size is looked at first, and then the lines in their order; line 0 stands for the
-- text as a whole
pub data Ran : List ℕ → List Event → Result Finish Stop → Type 0 where
  too_long : (t : List ℕ) → 32768 < length t → Ran t [] (Err (stop 0 BadForm))
  -- line 1: the text is empty; it is not of its form; its size or width is refused
  no_opening : Ran [] [] (Err (stop 0 TextEnded))
  bad_opening : (t : List ℕ) → Fit t → t ≢ [] → ((o : Opening) (rest : List ℕ) → Begins t o rest → ⊥) → Ran t [] (Err (stop 1 BadForm))
  not_opened : (t : List ℕ) (o : Opening) (rest : List ℕ) (f : Fault) → Fit t → Begins t o rest → opening_fault o.size o.width ≡ Some f
      → Ran t [] (Err (stop 1 f))
  -- line 2: the text ends before it; it is not of its form
  no_coins : (t : List ℕ) (o : Opening) → Fit t → Begins t o [] → opening_fault o.size o.width ≡ None → Ran t [] (Err (stop 0 TextEnded))
  bad_coins : (t : List ℕ) (o : Opening) (rest : List ℕ) → Fit t → Begins t o rest → opening_fault o.size o.width ≡ None → rest ≢ []
      → ((cs : List Bool) (more : List ℕ) → Supplies rest cs more → ⊥) → Ran t [] (Err (stop 2 BadForm))
  -- both are in order, and the lines after them are played
  played : (t : List ℕ) (o : Opening) (cs : List Bool) (rest more : List ℕ) (journal : List Event) (end : Result Finish Stop) → Fit t → Begins t o rest
      → opening_fault o.size o.width ≡ None → Supplies rest cs more → PlayedOut (opened o cs) more journal end → Ran t journal end
