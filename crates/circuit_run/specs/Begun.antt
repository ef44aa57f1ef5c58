-- Lines 1 and 2, looked for at a place of the text: what each gives, with the place of the next line, or why it stops the run (the place is
-- then as it was). Where the text
-- has ended, no line is at fault but the text as a whole.
use Rattle.std.specs.Prelude.{◌≡◌, ℕ, ◌<◌, ◌≤◌, ◌≢◌, ◌⊎◌, List, length, Some, None, Ok, Err, Result}
use Rattle.pauli.specs.declared.fault.Fault.{Fault}
use Rattle.pauli.specs.declared.fault.Fault.TheVariants.{BadForm, TextEnded}
use Rattle.coins.specs.declared.text.TextCoins.{TextCoins}
use Rattle.coins.specs.Digits.{digits, text_coins}
use Rattle.phase.specs.Sheets.{Sheet}
use Rattle.tableau.specs.declared.tableau.Tableau.{Tableau}
use Rattle.tableau.specs.Tableaus.{rows_of, size_of}
use Rattle.tableau_laws.specs.Opening.{opening}
use Rattle.tableau_laws.specs.Rules.{SameRows, sheet_of}
use Rattle.tableau_rows.specs.Openings.{opening_fault}
use Rattle.text.specs.Reading.{Hit, Miss}
use Rattle.circuit_text.specs.declared.line.Opening.{Opening}
use Rattle.circuit_text.specs.Lines.{opening_text, OpeningLaw, coins_line, CoinsLaw}
use Rattle.text.specs.declared.stop.Stop.{Stop}
use Rattle.text.specs.Stops.{stop}
use Rattle.circuit_run.specs.Runs.{opening_sheet}

-- the refusal of a line that was looked for
abbrev pub Missed : ℕ → Fault → Stop → Type 0
Missed line f e = ((f ≡ TextEnded) × (e ≡ stop 0 f)) ⊎ ((f ≢ TextEnded) × (e ≡ stop line f))

-- the values of a tableau
abbrev pub sheet_in : Tableau → Sheet
sheet_in p = sheet_of (size_of p) (rows_of p)

abbrev pub Opened : List ℕ → ℕ → Result Tableau Stop → ℕ → Type 0
Opened t at (Ok p) to =
    (o : Opening) × Hit opening_text OpeningLaw 10 t at o to × (opening_fault o.size o.width ≡ None) × (sheet_in p ≡ opening_sheet o)
    × (size_of p ≡ o.size) × SameRows (opening o.size o.width) (rows_of p)
Opened t at (Err e) to =
    ((length t ≤ at) × (e ≡ stop 0 TextEnded))
    ⊎ (((at < length t) × Miss opening_text OpeningLaw 10 t at × (e ≡ stop 1 BadForm))
    ⊎ ((o : Opening) × (end : ℕ) × (f : Fault) × Hit opening_text OpeningLaw 10 t at o end × (opening_fault o.size o.width ≡ Some f) × (e ≡ stop 1 f)))

abbrev pub Supplied : List ℕ → ℕ → Result TextCoins Stop → ℕ → Type 0
Supplied t at (Ok s) to = Hit coins_line CoinsLaw 10 t at (digits (text_coins s)) to
Supplied t at (Err e) to =
    ((length t ≤ at) × (e ≡ stop 0 TextEnded)) ⊎ ((at < length t) × Miss coins_line CoinsLaw 10 t at × (e ≡ stop 2 BadForm))
