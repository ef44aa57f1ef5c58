-- What each call of a session does, in one state, and answers.
use Rattle.std.specs.Prelude.{◌≡◌, ℕ, ◌^◌, ◌<◌, Bool, true, false, ◌⊎◌, [], ◌∷◌, ◌++◌, length, Some, None, Ok, Err, Result}
use Rattle.pauli.specs.declared.case.Case.{Case}
use Rattle.pauli.specs.declared.fault.Fault.{Fault}
use Rattle.pauli.specs.declared.fault.Fault.TheVariants.{TooFewCoins}
use Rattle.pauli.specs.declared.gate.Gate.{Gate}
use Rattle.pauli.specs.declared.gate.Gate.TheVariants.{One}
use Rattle.pauli.specs.declared.gate.OneQubit.{OneQubit}
use Rattle.pauli.specs.declared.label.Label.{Label}
use Rattle.coins.specs.Coins.{bits}
use Rattle.phase.specs.Answers.{value_answer}
use Rattle.phase.specs.Effects.{Gated, Effect, first_coin}
use Rattle.phase.specs.LabelCases.{Looked}
use Rattle.journal_lines.specs.declared.event.Event.{Event}
use Rattle.journal_lines.specs.declared.event.Event.TheVariants.{Gate as GateEvent, Conditional as ConditionalEvent, Measurement as MeasurementEvent}
use Rattle.journal.specs.Journals.{outcomes, kth}
use Rattle.runs.specs.declared.answer.Answer.{Answer}
use Rattle.runs.specs.declared.answer.Answer.TheVariants as A
use Rattle.runs.specs.declared.answer.Conditional.{Conditional}
use Rattle.runs.specs.declared.answer.Conditional.TheVariants as C
use Rattle.runs.specs.declared.call.Call.{Call}
use Rattle.runs.specs.declared.call.Call.TheVariants as Ask
use Rattle.runs.specs.Readings.{ReadLine}
use Rattle.runs.specs.Refusals.{gate_refusal, conditional_refusal, measure_refusal}
use Rattle.runs.specs.States.{State}

-- ---- gates

-- the point takes the gate, and the event is the newest entry; no coin is drawn
pub record GateDone (s : State) (g : Gate) (event : Event) (t : State) : Type 0 where
  pub sheet : Gated s.sheet g t.sheet
  pub coins : t.coins ≡ s.coins
  pub events : t.events ≡ s.events ++ (event ∷ [])

abbrev pub GateStep : State → Gate → Result Unit Fault → State → Type 0
GateStep s g (Ok done) t = (gate_refusal s g ≡ None) × GateDone s g (GateEvent g) t
GateStep s g (Err e) t = (gate_refusal s g ≡ Some e) × (t ≡ s)

-- ---- conditional gates

-- a conditional gate is done at outcome 1 and passed over at outcome 0
abbrev pub outcome_of : Conditional → Bool
outcome_of C.Done = true
outcome_of C.PassedOver = false

-- the point stays as it is; the event is the newest entry all the same
pub record Passed (s : State) (event : Event) (t : State) : Type 0 where
  pub sheet : t.sheet ≡ s.sheet
  pub coins : t.coins ≡ s.coins
  pub events : t.events ≡ s.events ++ (event ∷ [])

abbrev pub ConditionalDone : State → ℕ → OneQubit → ℕ → Conditional → State → Type 0
ConditionalDone s k g q C.Done t = GateDone s (One g q) (ConditionalEvent true k g q) t
ConditionalDone s k g q C.PassedOver t = Passed s (ConditionalEvent false k g q) t

abbrev pub ConditionalStep : State → ℕ → OneQubit → ℕ → Result Conditional Fault → State → Type 0
ConditionalStep s k g q (Ok c) t =
    (conditional_refusal s k g q ≡ None) × (kth (outcomes s.events) k ≡ Some (outcome_of c)) × ConditionalDone s k g q c t
ConditionalStep s k g q (Err e) t = (conditional_refusal s k g q ≡ Some e) × (t ≡ s)

-- ---- measurements

-- exactly the coins needed are drawn, into a word; the point measures with it; and all of it is the newest entry
pub record Measured (s : State) (b : Label) (sign outcome : Bool) (t : State) : Type 0 where
  pub case : Case
  pub count : ℕ
  pub word : ℕ
  pub looked : Looked s.sheet b case count
  pub short : word < 2 ^ count
  pub drawn : s.coins ≡ bits count word ++ t.coins
  pub effect : Effect s.sheet b sign (first_coin word) case count outcome t.sheet
  pub events : t.events
      ≡ s.events ++ (MeasurementEvent (record { sign = sign; size = s.sheet.n; label = b; case = case; outcome = outcome; count = count; coins = word }) ∷ [])

-- fewer coins are left than the label needs
abbrev pub TooFew : State → Label → Type 0
TooFew s b = (c : Case) × (k : ℕ) × Looked s.sheet b c k × (length s.coins < k)

abbrev pub MeasureRefused : State → Label → Fault → Type 0
MeasureRefused s b e = (measure_refusal s b ≡ Some e) ⊎ ((measure_refusal s b ≡ None) × TooFew s b × (e ≡ TooFewCoins))

abbrev pub MeasureStep : State → Label → Bool → Result Bool Fault → State → Type 0
MeasureStep s b sign (Ok outcome) t = (measure_refusal s b ≡ None) × Measured s b sign outcome t
MeasureStep s b sign (Err e) t = MeasureRefused s b e × (t ≡ s)

-- ---- any call

-- one call in one state: its answer or why it is refused, and the state after it. Questions and readings leave the state
abbrev pub Step : State → Call → Result Answer Fault → State → Type 0
Step s (Ask.Gate g) (Ok A.Done) t = GateStep s g (Ok tt) t
Step s (Ask.Gate g) (Err e) t = GateStep s g (Err e) t
Step s (Ask.Conditional k g q) (Ok (A.Conditional c)) t = ConditionalStep s k g q (Ok c) t
Step s (Ask.Conditional k g q) (Err e) t = ConditionalStep s k g q (Err e) t
Step s (Ask.Measure b sign) (Ok (A.Outcome o)) t = MeasureStep s b sign (Ok o) t
Step s (Ask.Measure b sign) (Err e) t = MeasureStep s b sign (Err e) t
Step s Ask.Size (Ok (A.Size n)) t = (n ≡ s.sheet.n) × (t ≡ s)
Step s Ask.Width (Ok (A.Width w)) t = (w ≡ s.sheet.width) × (t ≡ s)
Step s (Ask.Value b) (Ok (A.Value v)) t = (Ok v ≡ value_answer s.sheet b) × (t ≡ s)
Step s (Ask.Value b) (Err e) t = (Err e ≡ value_answer s.sheet b) × (t ≡ s)
Step s (Ask.Read k room) (Ok (A.Line l)) t = ReadLine s.events k room (Ok l) × (t ≡ s)
Step s (Ask.Read k room) (Err e) t = ReadLine s.events k room (Err e) × (t ≡ s)
-- no call has an answer of another kind, and the size and the width are never refused
Step s call answer t = ⊥
