-- A measurement by the row rules is a step of a session over a tableau.
use Rattle.std.proofs.Common.{◌≡◌, ℕ, ◌^◌, ◌<◌, Bool, List, [], ◌∷◌, ◌++◌, None, Ok, refl, subst}
use Rattle.pauli.specs.declared.case.Case.{Case}
use Rattle.pauli.specs.declared.label.Label.{Label}
use Rattle.pauli.specs.Labels.{Within}
use Rattle.coins.specs.Coins.{bits}
use Rattle.phase.specs.Effects.{Effect, first_coin}
use Rattle.phase.proofs.Unique.{one_look}
use Rattle.journal_lines.specs.declared.event.Event.{Event}
use Rattle.journal_lines.specs.declared.event.Event.TheVariants.{Measurement}
use Rattle.runs.specs.States.{state}
use Rattle.runs.specs.Steps.{MeasureStep}
use Rattle.runs.specs.Refusals.{measure_refusal}
use Rattle.tableau_laws.specs.Rules.{Rows, LawfulRows, sheet_of, look_rows, measured_rows, outcome_of}
use Rattle.tableau_laws.proofs.Answered.{lawful, looked}
use Rattle.tableau_laws.proofs.Measured.{measured, measured_pattern}

-- what the journal takes down of it
abbrev pub entry_of : ℕ → Rows → Label → Bool → ℕ → Event
entry_of n R b sign word =
    Measurement (record { sign = sign; size = n; label = b; case = (look_rows R b).0; outcome = outcome_of b sign word R; count = (look_rows R b).1; coins = word })

module _ (n : ℕ) (R : Rows) (T : LawfulRows n R) (b : Label) (within : Within n b) (sign : Bool) (word : ℕ) where
  pub rows_kept : LawfulRows n (measured_rows b sign word R)
  rows_kept = measured_pattern n R b sign word T within

  effect : Effect (sheet_of n R) b sign (first_coin word) (look_rows R b).0 (look_rows R b).1 (outcome_of b sign word R) (sheet_of n (measured_rows b sign word R))
  effect =
      let M = measured n R b sign word T within in
      let L = lawful n R.m R.w R.D R.E R.J T in
      let one = one_look (sheet_of n R) L b M.case (look_rows R b).0 M.count (look_rows R b).1 M.looked (looked n R.m R.w R.D R.E R.J T b within) in
      subst (λ (k : ℕ). Effect (sheet_of n R) b sign (first_coin word) (look_rows R b).0 k (outcome_of b sign word R) (sheet_of n (measured_rows b sign word R))) one.1
      (subst (λ (c : Case). Effect (sheet_of n R) b sign (first_coin word) c M.count (outcome_of b sign word R) (sheet_of n (measured_rows b sign word R))) one.0 M.effect)

  pub row_step : (coins left : List Bool) (es : List Event) → coins ≡ bits (look_rows R b).1 word ++ left → word < 2 ^ (look_rows R b).1
      → measure_refusal (state (sheet_of n R) coins es) b ≡ None
      → MeasureStep (state (sheet_of n R) coins es) b sign (Ok (outcome_of b sign word R))
      (state (sheet_of n (measured_rows b sign word R)) left (es ++ (entry_of n R b sign word ∷ [])))
  row_step coins left es drawn short free = (
    free,
    record {
      case = (look_rows R b).0;
      count = (look_rows R b).1;
      word = word;
      looked = looked n R.m R.w R.D R.E R.J T b within;
      short = short;
      drawn = drawn;
      effect = effect;
      events = refl;
    },
  )
