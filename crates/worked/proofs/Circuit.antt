-- The circuit of four measurements, line by line.
use Rattle.std.proofs.Common.{◌≡◌, ℕ, zero, suc, ◌+◌, ◌^◌, ◌<◌, Bool, true, false, List, [], ◌∷◌, ◌++◌, get_or, None, Ok, codes, Result, refl, arith, lit<, lit≤}
use lib.Count.{ones}
use Rattle.pauli.specs.declared.label.Label.{Label}
use Rattle.pauli.specs.Labels.{beta, ks, pairing, plus, us, ys, fits, Within, label_text}
use Rattle.pauli.specs.Letters.{is_letter}
use Rattle.coins.specs.Coins.{bits}
use Rattle.journal_lines.specs.declared.event.Event.{Event}
use Rattle.runs.specs.declared.answer.Answer.TheVariants.{Outcome}
use Rattle.runs.specs.declared.call.Call.TheVariants as Ask
use Rattle.runs.specs.Refusals.{measure_refusal}
use Rattle.runs.specs.States.{State, state}
use Rattle.tableau_laws.specs.Opening.{opening}
use Rattle.tableau_laws.specs.Rules.{Rows, LawfulRows, sheet_of, look_rows, measured_rows, outcome_of}
use Rattle.tableau_laws.proofs.Answered.{lawful}
use Rattle.tableau_laws.proofs.Opening.{opening_pattern}
use Rattle.std.specs.Fmt.{digits}
use Rattle.text.specs.Texts.{Letters, coin_text, num}
use Rattle.circuit_text.specs.Lines.{measure, said_text}
use Rattle.text.specs.declared.stop.Stop.{Stop}
use Rattle.circuit.specs.Lines.{LineDone, end, next, Played}
use Rattle.circuit_run.specs.declared.report.Finish.{Finish}
use Rattle.circuit_run.specs.Output.{output}
use Rattle.circuit_run.specs.Runs.{opened, Tells, played}
use Rattle.circuit_run.proofs.Playing.{played_out}
use Rattle.worked.specs.Facts.{FourMeasurements}
use Rattle.worked.specs.Steps.{ZI, XI, IZ, after_one, after_two, after_three}
use Rattle.worked.proofs.RowSteps.{entry_of, rows_kept, row_step}

-- ---- one measuring line

-- the letters of a line, two of them
two_letters : (a b : ℕ) → is_letter a ≡ true → is_letter b ≡ true → Letters (a ∷ b ∷ [])
two_letters a b p q = record { some = lit< tt; each = go }
  where
    go : (i : ℕ) → i < 2 → is_letter (get_or (a ∷ b ∷ []) i 0) ≡ true
    go zero h = p
    go (suc zero) h = q
    go (suc (suc i)) h = absurd (omega arith)

-- a line done by the row rules, and the lines after it
module _ (R : Rows) (T : LawfulRows 2 R) (b : Label) (within : Within 2 b) (sign : Bool) (word : ℕ) (coins left : List Bool) (es : List Event)
    (drawn : coins ≡ bits (look_rows R b).1 word ++ left) (short : word < 2 ^ (look_rows R b).1)
    (free : measure_refusal (state (sheet_of 2 R) coins es) b ≡ None) where
  line_done : LineDone (state (sheet_of 2 R) coins es) (measure sign (label_text 2 b))
      (state (sheet_of 2 (measured_rows b sign word R)) left (es ++ (entry_of 2 R b sign word ∷ [])))
  line_done = record {
    call = Ask.Measure b sign;
    answer = Outcome (outcome_of b sign word R);
    asked = (b, within, refl, refl);
    step = row_step 2 R T b within sign word coins left es drawn short free;
  }

  measured_line : (k : ℕ) (rest : List ℕ) (u : State) (r : Result Unit Stop) → Letters (label_text 2 b)
      → Played (state (sheet_of 2 (measured_rows b sign word R)) left (es ++ (entry_of 2 R b sign word ∷ []))) (k + 1) rest r u
      → Played (state (sheet_of 2 R) coins es) k (said_text (measure sign (label_text 2 b)) ++ 10 ∷ rest) r u
  measured_line k rest u r letters p = record {
    moments = _;
    lines = next (state (sheet_of 2 R) coins es) k (measure sign (label_text 2 b)) rest
        (state (sheet_of 2 (measured_rows b sign word R)) left (es ++ (entry_of 2 R b sign word ∷ []))) p.moments u r
        (lawful 2 R.m R.w R.D R.E R.J T) letters line_done p.lines;
  }

-- ---- the four lines

ZI_within : Within 2 ZI
ZI_within = record { x = lit< tt; z = lit< tt }

XI_within : Within 2 XI
XI_within = record { x = lit< tt; z = lit< tt }

IZ_within : Within 2 IZ
IZ_within = record { x = lit< tt; z = lit< tt }

rows_zero : LawfulRows 2 (opening 2 2)
rows_zero = opening_pattern 2 2 (lit≤ tt) (lit≤ tt) (lit≤ tt)

rows_one : LawfulRows 2 after_one
rows_one = rows_kept 2 (opening 2 2) rows_zero ZI ZI_within false 1

rows_two : LawfulRows 2 after_two
rows_two = rows_kept 2 after_one rows_one XI XI_within false 0

rows_three : LawfulRows 2 after_three
rows_three = rows_kept 2 after_two rows_two IZ IZ_within false 1

-- the entries of the journal
abbrev entries : List Event
entries =
    entry_of 2 (opening 2 2) ZI false 1 ∷ entry_of 2 after_one XI false 0 ∷ entry_of 2 after_two IZ false 1 ∷ entry_of 2 after_three IZ true 0 ∷ []

-- the state after the last line
abbrev last : State
last = state (sheet_of 2 (measured_rows IZ true 0 after_three)) (true ∷ []) entries

four_lines : Played (state (sheet_of 2 (opening 2 2)) (true ∷ false ∷ true ∷ true ∷ []) []) 3 (codes "M,+,ZI\nM,+,XI\nM,+,IZ\nM,-,IZ\n") (Ok tt) last
unfolding ones plus pairing ys ks us beta fits
four_lines =
    measured_line (opening 2 2) rows_zero ZI ZI_within false 1 _ _ [] refl (lit< tt) refl 3 _ last (Ok tt) (two_letters 90 73 refl refl)
    (measured_line after_one rows_one XI XI_within false 0 _ _ _ refl (lit< tt) refl 4 _ last (Ok tt) (two_letters 88 73 refl refl)
    (measured_line after_two rows_two IZ IZ_within false 1 _ _ _ refl (lit< tt) refl 5 _ last (Ok tt) (two_letters 73 90 refl refl)
    (measured_line after_three rows_three IZ IZ_within true 0 _ (true ∷ []) _ refl (lit< tt) refl 6 [] last (Ok tt) (two_letters 73 90 refl refl)
    (record { moments = []; lines = end last 7 }))))

abbrev finish : Finish
finish = record { entries = 4; coins = 3; width = 1 }

told : Tells last (Ok finish)
unfolding ones plus pairing ys ks us beta coin_text num digits
told = (refl, refl, refl)

printed : codes "1,M,+,ZI,2,0,1,1\n2,M,+,XI,2,1,1,0\n3,M,+,IZ,3,1,1,1\n4,M,-,IZ,1,0,0,-\nE,4,3,1\n" ≡ output entries (Ok finish)
unfolding ones plus pairing ys ks us beta coin_text num digits
printed = refl

pub four_measurements : FourMeasurements
unfolding num digits
four_measurements = (
  entries,
  Ok finish,
  played (codes "Q,2,2\nB,1011\nM,+,ZI\nM,+,XI\nM,+,IZ\nM,-,IZ\n") (record { size = 2; width = 2 }) (true ∷ false ∷ true ∷ true ∷ [])
      (codes "B,1011\nM,+,ZI\nM,+,XI\nM,+,IZ\nM,-,IZ\n") (codes "M,+,ZI\nM,+,XI\nM,+,IZ\nM,-,IZ\n") entries (Ok finish) (lit≤ tt)
      ((lit< tt, lit< tt), refl) refl (lit≤ tt, refl)
      (played_out (opened (record { size = 2; width = 2 }) (true ∷ false ∷ true ∷ true ∷ [])) (codes "M,+,ZI\nM,+,XI\nM,+,IZ\nM,-,IZ\n") (Ok tt) last refl four_lines entries
      (Ok finish) refl refl told),
  printed,
)
