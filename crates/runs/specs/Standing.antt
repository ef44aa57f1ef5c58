-- Which outcomes' rows stand: told from the calls and their answers alone.
use Rattle.std.specs.Prelude.{◌≡◌, cond, ◌⊎◌, List, [], ◌∷◌, map, Some, None, Ok, Option, Result}
use Rattle.pauli.specs.declared.fault.Fault.{Fault}
use Rattle.pauli.specs.declared.gate.Gate.{Gate}
use Rattle.pauli.specs.declared.gate.Gate.TheVariants.{One}
use Rattle.pauli.specs.declared.label.Label.{Label}
use Rattle.pauli.specs.declared.row.Row.{Row}
use Rattle.pauli.specs.Bits.{xorb, odd}
use Rattle.pauli.specs.Gates.{carry}
use Rattle.pauli.specs.Labels.{pairing}
use Rattle.pauli.specs.Rows.{row}
use Rattle.phase.specs.Sheets.{Sheet}
use Rattle.runs.specs.declared.answer.Answer.{Answer}
use Rattle.runs.specs.declared.answer.Answer.TheVariants as A
use Rattle.runs.specs.declared.answer.Conditional.TheVariants as C
use Rattle.runs.specs.declared.call.Call.{Call}
use Rattle.runs.specs.declared.call.Call.TheVariants as Ask

-- the gate that a call carried out: an accepted gate's, or a conditional gate's that was done
abbrev pub gate_done : Call → Result Answer Fault → Option Gate
gate_done (Ask.Gate g) (Ok A.Done) = Some g
gate_done (Ask.Conditional k g q) (Ok (A.Conditional C.Done)) = Some (One g q)
gate_done call answer = None

-- the outcome's row of an accepted measurement
abbrev pub outcome_row : Call → Result Answer Fault → Option Row
outcome_row (Ask.Measure b s) (Ok (A.Outcome o)) = Some (row b (xorb s o))
outcome_row call answer = None

-- a gate carries each row
abbrev pub carried : Option Gate → List Row → List Row
carried (Some g) rows = map (carry g) rows
carried None rows = rows

-- the rows that commute with a label
abbrev pub commuting : Label → List Row → List Row
commuting b [] = []
commuting b (r ∷ rows) = cond (odd (pairing r.label b)) (commuting b rows) (r ∷ commuting b rows)

-- an outcome's row joins, and each row that anticommutes with its label is dropped for good
abbrev pub joined : Option Row → List Row → List Row
joined (Some r) rows = r ∷ commuting r.label rows
joined None rows = rows

-- what one call and its answer make of the rows that stand; all but those above leave them
abbrev pub stand_after : Call → Result Answer Fault → List Row → List Row
stand_after c a rows = joined (outcome_row c a) (carried (gate_done c a) rows)

-- what some calls with their answers, first call first, make of them
abbrev pub stand_since : List Row → List (Call × Result Answer Fault) → List Row
stand_since rows [] = rows
stand_since rows (p ∷ ps) = stand_since (stand_after p.0 p.1 rows) ps

-- what stands after the calls made to a session just opened, where no rows stood
abbrev pub standing : List (Call × Result Answer Fault) → List Row
standing ps = stand_since [] ps

-- some rows, in any order and number, each one of those that stand
abbrev pub In : Row → List Row → Type 0
In r [] = ⊥
In r (x ∷ xs) = (r ≡ x) ⊎ In r xs

abbrev pub Among : List Row → List Row → Type 0
Among [] rows = Unit {0}
Among (p ∷ ps) rows = In p rows × Among ps rows

-- rows that are true to a sheet: each has its sign for its value there, and any two commute
pub record TrueTo (f : Sheet) (rows : List Row) : Type 0 where
  pub value : (r : Row) → In r rows → f.value r.label ≡ Some r.sign
  pub commute : (p q : Row) → In p rows → In q rows → pairing p.label q.label ≡ 0
