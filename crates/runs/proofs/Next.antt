-- What one call keeps of the promises.
use Rattle.std.proofs.Common.{◌≡◌, ℕ, zero, suc, ◌+◌, ◌/◌, ◌<◌, ◌≤◌, Bool, true, false, cond, ltb, List, [], ◌∷◌, ◌++◌, map, length, Some, None, Ok, Err, Option, Result, sym, refl, ap, ◌∙◌, subst, append_assoc, arith, length-append}
use Rattle.std.proofs.lemmas.Bool.Decides.{nat_tests}
use Rattle.std.proofs.lemmas.List.{append-nil}
use Rattle.pauli.specs.declared.case.Case.{Case}
use Rattle.pauli.specs.declared.fault.Fault.{Fault}
use Rattle.pauli.specs.declared.fault.Fault.TheVariants.{JournalFull}
use Rattle.pauli.specs.declared.gate.Gate.{Gate}
use Rattle.pauli.specs.declared.gate.Gate.TheVariants.{One}
use Rattle.pauli.specs.declared.gate.OneQubit.{OneQubit}
use Rattle.pauli.specs.declared.label.Label.{Label}
use Rattle.pauli.specs.declared.row.Row.{Row}
use Rattle.pauli.specs.Bits.{xorb}
use Rattle.pauli.specs.Gates.{carry, gate_fault}
use Rattle.pauli.specs.Rows.{product}
use Rattle.coins.specs.Coins.{bits}
use Rattle.phase.specs.Effects.{first_coin}
use Rattle.phase.specs.Sheets.{Sheet, Lawful}
use Rattle.journal_lines.specs.declared.event.Event.{Event}
use Rattle.journal_lines.specs.declared.event.Event.TheVariants.{Gate as GateEvent, Conditional as ConditionalEvent}
use Rattle.runs.specs.declared.answer.Answer.{Answer}
use Rattle.runs.specs.declared.answer.Answer.TheVariants as A
use Rattle.runs.specs.declared.answer.Conditional.{Conditional}
use Rattle.runs.specs.declared.answer.Conditional.TheVariants as C
use Rattle.runs.specs.declared.call.Call.{Call}
use Rattle.runs.specs.declared.call.Call.TheVariants as Ask
use Rattle.runs.specs.Promises.{CaseOf, twos, fours}
use Rattle.runs.specs.Readings.{readings}
use Rattle.runs.specs.Refusals.{before, full_fault}
use Rattle.runs.specs.Spent.{spent}
use Rattle.runs.specs.Standing.{Among, TrueTo, outcome_row, stand_after}
use Rattle.runs.specs.States.{State}
use Rattle.runs.specs.Steps.{GateDone, GateStep, ConditionalStep, MeasureStep, Step}
use Rattle.runs.proofs.Rows.{product_value, stood_gate, stood_measure, effect_told, effect_width}
use Rattle.runs.proofs.Shown.{coins_of, spent_more}

-- how many coins were spent
abbrev pub paid : State → ℕ
paid s = length (spent (readings s.events))

pub record Next (s : State) (c : Call) (a : Result Answer Fault) (rows : List Row) (t : State) : Type 0 where
  pub stood : TrueTo t.sheet (stand_after c a rows)
  pub told : (b : Label) (sign o : Bool) → c ≡ Ask.Measure b sign → a ≡ Ok (A.Outcome o) → (ps : List Row) → Among ps rows → (product ps).label ≡ b
      → o ≡ xorb (product ps).sign sign
  pub cases : List Case
  pub these : CaseOf s (outcome_row c a) cases
  pub narrower : t.sheet.width ≤ s.sheet.width
  pub spends : paid t + t.sheet.width ≡ twos cases + fours cases + (paid s + s.sheet.width)
  pub order : spent (readings t.events) ++ t.coins ≡ spent (readings s.events) ++ s.coins

never : {X : Type 0} → ◌≡◌ {A = ℕ} 0 1 → X
never z = absurd (go z)
  where
    go : ◌≡◌ {A = ℕ} 0 1 → ⊥
    go z = omega arith

length_bits : (k w : ℕ) → length (bits k w) ≡ k
length_bits zero w = refl
length_bits (suc k) w = ap suc (length_bits k (w / 2))

-- no reason, so neither of two
first_none : (p q : Option Fault) → before p q ≡ None → (p ≡ None) × (q ≡ None)
first_none (Some e) q h = never (cc)
first_none None q h = (refl, h)

room : (es : List Event) → full_fault es ≡ None → length es < 512
room es e = go (length es) e
  where
    go : (n : ℕ) → cond (ltb n 512) None (Some JournalFull) ≡ None → n < 512
    go n e = grind (arith, nat_tests)

-- a call that leaves the state and the rows
idle : (s t : State) (c : Call) (a : Result Answer Fault) (rows : List Row) → t ≡ s → stand_after c a rows ≡ rows → CaseOf s (outcome_row c a) []
    → ((b : Label) (sign o : Bool) → c ≡ Ask.Measure b sign → a ≡ Ok (A.Outcome o) → ⊥) → TrueTo s.sheet rows → Next s c a rows t
idle s t c a rows e same none other S =
    subst (λ (x : State). Next s c a rows x) (sym e)
    (record {
      stood = subst (λ (l : List Row). TrueTo s.sheet l) (sym same) S;
      told = λ b sign o p q ps w h. absurd (other b sign o p q);
      cases = [];
      these = none;
      narrower = omega arith;
      spends = omega arith;
      order = refl;
    })

-- an entry that shows no coins
no_coins : (s t : State) (e : Event) → length s.events < 512 → coins_of e ≡ [] → t.events ≡ s.events ++ (e ∷ [])
    → spent (readings t.events) ≡ spent (readings s.events)
no_coins s t e h none p =
    ap (λ l. spent (readings l)) p ∙ spent_more s.events e h ∙ ap (λ l. spent (readings s.events) ++ l) none ∙ append-nil (spent (readings s.events))

-- a gate done
gate_next : (s t : State) (c : Call) (a : Result Answer Fault) (rows : List Row) (g : Gate) (e : Event) → Lawful s.sheet → gate_fault s.sheet.n g ≡ None
    → length s.events < 512 → GateDone s g e t → coins_of e ≡ [] → stand_after c a rows ≡ map (carry g) rows → CaseOf s (outcome_row c a) []
    → ((b : Label) (sign o : Bool) → c ≡ Ask.Measure b sign → a ≡ Ok (A.Outcome o) → ⊥) → TrueTo s.sheet rows → Next s c a rows t
gate_next s t c a rows g e L ok h D none same k other S =
    let kept = no_coins s t e h none D.events in
    let len = ap length kept in
    let wide = D.sheet.same_width in
    record {
      stood = subst (λ (l : List Row). TrueTo t.sheet l) (sym same) (stood_gate s.sheet g t.sheet rows L ok D.sheet S);
      told = λ b sign o p q ps w h. absurd (other b sign o p q);
      cases = [];
      these = k;
      narrower = omega arith;
      spends = omega arith;
      order = cc (kept, D.coins);
    }

step_gate : (s t : State) (g : Gate) (rows : List Row) → Lawful s.sheet → GateStep s g (Ok tt) t → TrueTo s.sheet rows
    → Next s (Ask.Gate g) (Ok A.Done) rows t
step_gate s t g rows L D S =
    let w = first_none (gate_fault s.sheet.n g) (full_fault s.events) D.0 in
    gate_next s t (Ask.Gate g) (Ok A.Done) rows g (GateEvent g) L w.0 (room s.events w.1) D.1 refl refl refl (λ b sign o p q. never (cc)) S

step_conditional : (s t : State) (k : ℕ) (g : OneQubit) (q : ℕ) (c : Conditional) (rows : List Row) → Lawful s.sheet
    → ConditionalStep s k g q (Ok c) t → TrueTo s.sheet rows → Next s (Ask.Conditional k g q) (Ok (A.Conditional c)) rows t
step_conditional s t k g q C.Done rows L D S =
    let w = first_none (gate_fault s.sheet.n (One g q)) _ D.0 in
    let v = first_none _ (full_fault s.events) w.1 in
    gate_next s t (Ask.Conditional k g q) (Ok (A.Conditional C.Done)) rows (One g q) (ConditionalEvent true k g q) L w.0 (room s.events v.1) D.2 refl refl refl
    (λ b sign o p r. never (cc)) S
step_conditional s t k g q C.PassedOver rows L D S =
    let w = first_none (gate_fault s.sheet.n (One g q)) _ D.0 in
    let v = first_none _ (full_fault s.events) w.1 in
    let P = D.2 in
    let kept = no_coins s t (ConditionalEvent false k g q) (room s.events v.1) refl P.events in
    let len = ap length kept in
    let wide = ap (λ (f : Sheet). f.width) P.sheet in
    record {
      stood = subst (λ (f : Sheet). TrueTo f rows) (sym P.sheet) S;
      told = λ b sign o p q ps w h. never (cc);
      cases = [];
      these = refl;
      narrower = omega arith;
      spends = omega arith;
      order = cc (kept, P.coins);
    }

step_measure : (s t : State) (b : Label) (sign o : Bool) (rows : List Row) → Lawful s.sheet → MeasureStep s b sign (Ok o) t → TrueTo s.sheet rows
    → Next s (Ask.Measure b sign) (Ok (A.Outcome o)) rows t
step_measure s t b sign o rows L D S =
    let M = D.1 in
    let cs = bits M.count M.word in
    let coin = first_coin M.word in
    let w = first_none _ (full_fault s.events) D.0 in
    let more : spent (readings t.events) ≡ spent (readings s.events) ++ cs = ap (λ l. spent (readings l)) M.events ∙ spent_more s.events _ (room s.events w.1) in
    let len = ap length more ∙ length-append (spent (readings s.events)) cs in
    let by = length_bits M.count M.word in
    let wide = effect_width s.sheet b sign coin M.case M.count o t.sheet M.effect M.looked.needs in
    record {
      stood = stood_measure s.sheet b sign coin M.case M.count o t.sheet rows M.effect S;
      told = λ b' sign' o' p q ps w h.
          let eb : b ≡ b' = cc in
          let es : sign ≡ sign' = cc in
          let eo : o ≡ o' = cc in
          let v : s.sheet.value b ≡ Some (product ps).sign = ap s.sheet.value (eb ∙ sym h) ∙ product_value s.sheet rows L S ps w in
          sym eo ∙ effect_told s.sheet b sign coin M.case M.count o (product ps).sign t.sheet M.effect M.looked.kind v
          ∙ ap (λ z. xorb (product ps).sign z) es;
      cases = M.case ∷ [];
      these = (M.case, M.looked.kind, refl);
      narrower = wide.0;
      spends = omega (arith, wide.1);
      order = ap (λ l. l ++ t.coins) more ∙ append_assoc (spent (readings s.events)) cs t.coins ∙ ap (λ l. spent (readings s.events) ++ l) (sym M.drawn);
    }

pub next : (s t : State) (c : Call) (a : Result Answer Fault) (rows : List Row) → Lawful s.sheet → Step s c a t → TrueTo s.sheet rows → Next s c a rows t
next s t (Ask.Gate g) (Ok A.Done) rows L D S = step_gate s t g rows L D S
next s t (Ask.Conditional k g q) (Ok (A.Conditional c)) rows L D S = step_conditional s t k g q c rows L D S
next s t (Ask.Measure b sign) (Ok (A.Outcome o)) rows L D S = step_measure s t b sign o rows L D S
next s t Ask.Size (Ok (A.Size n)) rows L D S = idle s t Ask.Size _ rows D.1 refl refl (λ b sign o p q. never (cc)) S
next s t Ask.Width (Ok (A.Width w)) rows L D S = idle s t Ask.Width _ rows D.1 refl refl (λ b sign o p q. never (cc)) S
next s t (Ask.Value b) (Ok (A.Value v)) rows L D S = idle s t (Ask.Value b) _ rows D.1 refl refl (λ b sign o p q. never (cc)) S
next s t (Ask.Read k n) (Ok (A.Line l)) rows L D S = idle s t (Ask.Read k n) _ rows D.1 refl refl (λ b sign o p q. never (cc)) S
next s t (Ask.Gate g) (Err e) rows L D S = idle s t (Ask.Gate g) _ rows D.1 refl refl (λ b sign o p q. never (cc)) S
next s t (Ask.Conditional k g q) (Err e) rows L D S = idle s t (Ask.Conditional k g q) _ rows D.1 refl refl (λ b sign o p q. never (cc)) S
next s t (Ask.Measure b sign) (Err e) rows L D S = idle s t (Ask.Measure b sign) _ rows D.1 refl refl (λ b' sign' o p q. never (cc)) S
next s t (Ask.Value b) (Err e) rows L D S = idle s t (Ask.Value b) _ rows D.1 refl refl (λ b sign o p q. never (cc)) S
next s t (Ask.Read k n) (Err e) rows L D S = idle s t (Ask.Read k n) _ rows D.1 refl refl (λ b sign o p q. never (cc)) S
next s t c a rows L D S = absurd D
