-- Rows of the pattern stay so, and mean what the interfaces of value sheets and phase points say.
use Rattle.std.specs.Prelude.{◌≡◌, ℕ, zero, suc, ◌+◌, ◌-◌, ◌/◌, ◌%◌, Bool, true, false, cond, ◌&&◌, List, length, Some, None, Ok, Err, Option, Result, ◌==◌, nat_le, refl}
use Rattle.std.proofs.Common.{sym, ap, ◌∙◌, subst, arith}
use Rattle.pauli.specs.declared.case.Case.{Case}
use Rattle.pauli.specs.declared.fault.Fault.{Fault}
use Rattle.pauli.specs.declared.fault.Fault.TheVariants.{BadSize, BadWidth, BadRows, BadLabel}
use Rattle.pauli.specs.Faults.{Answers}
use Rattle.pauli.specs.declared.gate.Gate.{Gate}
use Rattle.pauli.specs.declared.label.Label.{Label}
use Rattle.pauli.specs.declared.row.Row.{Row}
use Rattle.pauli.specs.Gates.{gate_fault, placing_fault}
use Rattle.pauli.specs.Labels.{pairing, fits, size_ok}
use Rattle.phase.specs.Answers.{GateAnswer, LookAnswer, MeasureAnswer}
use Rattle.phase.specs.Effects.{Gated, Measured}
use Rattle.phase.specs.LabelCases.{against, Looked}
use Rattle.phase.specs.Sheets.{Sheet, Lawful}
use Rattle.pauli_laws.proofs.Algebra.{pairing_l, pairing_lt, pairing_zero}
use Rattle.tableau_laws.specs.Opening.{opening}
use Rattle.tableau_laws.specs.Patterns.{given, rows_ok}
use Rattle.tableau_laws.specs.Places.{total}
use Rattle.tableau_laws.specs.Rules.{Rows, SameRows, LawfulRows, sheet_of, gate_rows, look_rows, measured_rows, outcome_of}
use Rattle.tableau_laws.specs.Tableaux.{labels, jw_count}
use Rattle.tableau_laws.proofs.Answered.{lawful, looked}
use Rattle.tableau_laws.proofs.Gates.{gate_pattern, gated}
use Rattle.tableau_laws.proofs.Measured.{measured, measured_pattern}
use Rattle.tableau_laws.proofs.Opening.{opening_pattern}
use Rattle.tableau_laws.proofs.Patterns.{pattern as given_pattern, pattern_is, is_pattern}
use Rattle.tableau_laws.proofs.Same.{same_pattern, same_sheet}
use Rattle.tableau_rows.specs.declared.store.RowStore.{RowStore}
use Rattle.tableau_rows.specs.Held.{D_of, E_of, J_of, rows_of, sheet_in, pattern_in}
use Rattle.tableau_rows.specs.Openings.{given_fault}
use Rattle.tableau_rows.specs.Parts.{row_in}
use Rattle.tableau.specs.Tableaus.{label_fault}
use Rattle.pauli_laws.proofs.Texts.{fits_within}

pub lawful_rows : (s : RowStore) → pattern_in s ≡ true → LawfulRows s.size (rows_of s)
lawful_rows s p = pattern_is s.size s.width (D_of s) (E_of s) (J_of s) p

pub lawful_sheet : (s : RowStore) → pattern_in s ≡ true → Lawful (sheet_in s)
lawful_sheet s p = lawful s.size (s.size - s.width) s.width (D_of s) (E_of s) (J_of s) (lawful_rows s p)

-- the same rows as a tableau's are of the pattern, and mean its sheet
pub pattern_again : (n : ℕ) (R : Rows) (s : RowStore) → s.size ≡ n → LawfulRows n R → SameRows R (rows_of s) → pattern_in s ≡ true
pattern_again n R s e T same =
    let P : ℕ → Type 0 = λ k. LawfulRows k (rows_of s) in
    is_pattern s.size s.width (D_of s) (E_of s) (J_of s) (subst P (sym e) (same_pattern n R (rows_of s) same T))

sheet_again : (n : ℕ) (R : Rows) (s : RowStore) → s.size ≡ n → SameRows R (rows_of s) → sheet_in s ≡ sheet_of n R
sheet_again n R s e same = ap (λ (k : ℕ). sheet_of k (rows_of s)) e ∙ same_sheet n R (rows_of s) same

module _ (s s' : RowStore) (g : Gate) (p : pattern_in s ≡ true) (ok : gate_fault s.size g ≡ None) (size : s'.size ≡ s.size)
    (same : SameRows (gate_rows g (rows_of s)) (rows_of s')) where
  pub gate_kept : pattern_in s' ≡ true
  gate_kept =
      pattern_again s.size (gate_rows g (rows_of s)) s' size
      (gate_pattern s.size (s.size - s.width) s.width (D_of s) (E_of s) (J_of s) g (lawful_rows s p) ok) same

  pub gate_meant : Gated (sheet_in s) g (sheet_in s')
  gate_meant =
      subst (λ (S : Sheet). Gated (sheet_in s) g S) (sym (sheet_again s.size (gate_rows g (rows_of s)) s' size same))
      (gated s.size (s.size - s.width) s.width (D_of s) (E_of s) (J_of s) g (lawful_rows s p) ok)

pub look_meant : (s : RowStore) (b : Label) → pattern_in s ≡ true → fits s.size b ≡ true
    → Looked (sheet_in s) b (look_rows (rows_of s) b).0 (look_rows (rows_of s) b).1
look_meant s b p h = looked s.size (s.size - s.width) s.width (D_of s) (E_of s) (J_of s) (lawful_rows s p) b (fits_within s.size b h)

module _ (s s' : RowStore) (b : Label) (sign : Bool) (word : ℕ) (p : pattern_in s ≡ true) (h : fits s.size b ≡ true) (size : s'.size ≡ s.size)
    (same : SameRows (measured_rows b sign word (rows_of s)) (rows_of s')) where
  pub measure_kept : pattern_in s' ≡ true
  measure_kept =
      pattern_again s.size (measured_rows b sign word (rows_of s)) s' size
      (measured_pattern s.size (rows_of s) b sign word (lawful_rows s p) (fits_within s.size b h)) same

  pub measure_meant : Measured (sheet_in s) b sign word (outcome_of b sign word (rows_of s)) (sheet_in s')
  measure_meant =
      subst (λ (S : Sheet). Measured (sheet_in s) b sign word (outcome_of b sign word (rows_of s)) S)
      (sym (sheet_again s.size (measured_rows b sign word (rows_of s)) s' size same))
      (measured s.size (rows_of s) b sign word (lawful_rows s p) (fits_within s.size b h))

-- an even number of Jordan-Wigner rows anticommutes with a label, since their sum is the zero label
parity : (f : ℕ → Label) (b : Label) (k : ℕ) → pairing (total f k) b ≡ against f b k % 2
parity f b zero = pairing_zero b
parity f b (suc k) =
    let h = parity f b k in
    let l = pairing_lt (f k) b in
    omega (arith, pairing_l (f k) (total f k) b)

pub even : (s : RowStore) (b : Label) → pattern_in s ≡ true → jw_count s.width (J_of s) b ≡ jw_count s.width (J_of s) b / 2 + jw_count s.width (J_of s) b / 2
even s b p =
    let k = jw_count s.width (J_of s) b in
    let z : k % 2 ≡ 0 = sym (parity (labels (J_of s)) b (s.width + s.width + 1)) ∙ ap (λ (a : Label). pairing a b) (lawful_rows s p).sums ∙ pairing_zero b in
    omega arith

-- ---- openings

pub opening_kept : (n w : ℕ) (s : RowStore) → s.size ≡ n → SameRows (opening n w) (rows_of s) → pattern_in s ≡ true
opening_kept n w s e same =
    let width : s.width ≡ w = same.w_is in
    pattern_again n (opening n w) s e (opening_pattern n w (omega (arith, s.some)) (omega (arith, s.few)) (omega (arith, s.narrow))) same

-- rows that are not refused pass the test
accepted : (a b c d : Bool) → cond a (cond b (cond (c && d) None (Some BadRows)) (Some BadWidth)) (Some BadSize) ≡ None → d ≡ true
accepted true true true true e = refl
accepted true true true false e = absurd (let z : ◌≡◌ {A = ℕ} 0 1 = cc in omega arith)
accepted true true false d e = absurd (let z : ◌≡◌ {A = ℕ} 0 1 = cc in omega arith)
accepted true false c d e = absurd (let z : ◌≡◌ {A = ℕ} 0 1 = cc in omega arith)
accepted false b c d e = absurd (let z : ◌≡◌ {A = ℕ} 0 1 = cc in omega arith)

pub given_kept : (n w : ℕ) (rs : List Row) (s : RowStore) → given_fault n w rs ≡ None → s.size ≡ n → SameRows (given n w (row_in rs)) (rows_of s) → pattern_in s ≡ true
given_kept n w rs s ok e same =
    pattern_again n (given n w (row_in rs)) s e
    (given_pattern n w (row_in rs) (accepted (size_ok n) (nat_le w n) (length rs == n + n + 1) (rows_ok n w (row_in rs)) ok)) same

-- ---- refusals

-- a gate that can be placed on n qubits is not refused by them
pub placed_is : (n : ℕ) (g : Gate) → placing_fault n g ≡ None → gate_fault n g ≡ None
placed_is n g e = go (size_ok n) (gate_fault n g) e
  where
    go : (f : Bool) (x : Option Fault) → cond f x (Some BadSize) ≡ None → x ≡ None
    go true x e = e
    go false x e = absurd (let z : ◌≡◌ {A = ℕ} 0 1 = cc in omega arith)

label_taken : (f : Bool) → cond f None (Some BadLabel) ≡ None → f ≡ true
label_taken true e = refl
label_taken false e = absurd (let z : ◌≡◌ {A = ℕ} 0 1 = cc in omega arith)

label_refused : (f : Bool) (e : Fault) → cond f None (Some BadLabel) ≡ Some e → (f ≡ false) × (e ≡ BadLabel)
label_refused true e h = absurd (let z : ◌≡◌ {A = ℕ} 0 1 = cc in omega arith)
label_refused false e h = (refl, cc)

-- ---- the calls, from rows to sheets

pub gate_answer : (s s' : RowStore) (g : Gate) (r : Result Unit Fault) → pattern_in s ≡ true
    → Answers (gate_fault s.size g) (λ _. (s'.size ≡ s.size) × SameRows (gate_rows g (rows_of s)) (rows_of s')) r → GateAnswer (sheet_in s) g r (sheet_in s')
gate_answer s s' g (Ok done) p h = (h.0, gate_meant s s' g p h.0 h.1.0 h.1.1)
gate_answer s s' g (Err e) p h = h

pub look_answer : (s : RowStore) (b : Label) (r : Result (Case × ℕ) Fault) → pattern_in s ≡ true
    → Answers (label_fault s.size b) (λ told. told ≡ look_rows (rows_of s) b) r → LookAnswer (sheet_in s) b r
look_answer s b (Ok told) p h =
    let fit = label_taken (fits s.size b) h.0 in
    (fit, subst (λ (t : Case × ℕ). Looked (sheet_in s) b t.0 t.1) (sym h.1) (look_meant s b p fit))
look_answer s b (Err e) p h = label_refused (fits s.size b) e h

pub measure_answer : (s s' : RowStore) (b : Label) (sign : Bool) (word : ℕ) (r : Result Bool Fault) → pattern_in s ≡ true
    → Answers (label_fault s.size b)
    (λ o. (o ≡ outcome_of b sign word (rows_of s)) × (s'.size ≡ s.size) × SameRows (measured_rows b sign word (rows_of s)) (rows_of s')) r
    → MeasureAnswer (sheet_in s) b sign word r (sheet_in s')
measure_answer s s' b sign word (Ok o) p h =
    let fit = label_taken (fits s.size b) h.0 in
    (fit, subst (λ (x : Bool). Measured (sheet_in s) b sign word x (sheet_in s')) (sym h.1.0) (measure_meant s s' b sign word p fit h.1.1 h.1.2))
measure_answer s s' b sign word (Err e) p h = label_refused (fits s.size b) e h
