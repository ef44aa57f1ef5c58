-- The test of the pattern is right both ways.
use Rattle.std.proofs.Common.{◌≡◌, ℕ, ◌+◌, ◌-◌, ◌<◌, ◌≤◌, Bool, true, false, cond, not, ◌&&◌, ◌||◌, eqb, ltb, leb, ◌≢◌, sym, refl, ap, ◌∙◌, subst, ap₂, arith}
use mathlib.Core.Bool.{beq}
use native.Mathlib.Decide.{ℕ_discrete, dec_lt}
use Rattle.pauli.specs.declared.label.Label.{Label}
use Rattle.pauli.specs.declared.row.Row.{Row}
use Rattle.pauli.specs.Bits.{odd}
use Rattle.pauli.specs.Labels.{Within, fits, pairing, size_ok, zero_label}
use Rattle.pauli.specs.Rows.{row, zero_row}
use Rattle.pauli_laws.specs.Words.{num}
use Rattle.tableau_laws.specs.Patterns.{given, meets, pattern_ok, place_ok, rows_ok, signs_ok, sum_ok}
use Rattle.tableau_laws.specs.Places.{all_below, total}
use Rattle.tableau_laws.specs.Rules.{LawfulRows, Rows, row_at}
use Rattle.tableau_laws.specs.Tableaux.{Tableau}
use Rattle.pauli_laws.proofs.Algebra.{pairing_comm, pairing_lt, pairing_self, plus_zero}
use Rattle.pauli_laws.proofs.Texts.{fits_within, within_fits}
use Rattle.tableau_laws.proofs.Same.{pattern_same}
use Rattle.tableau_laws.proofs.Tests.{all_get, all_make, beq_of, beq_same, bit_of, eq_false, eq_of, eq_true, le_false, le_of, le_true, left, lt_false, lt_true, no_of, right, together}

-- ---- which places are to anticommute

meets_own : (m j : ℕ) → j < m → meets m j (m + j) ≡ true
meets_own m j l = ap₂ (λ (x y : Bool). (x && y) || leb (m + m) j) (lt_true j m l) (eq_true (m + j) (m + j) refl)

meets_jw : (m j i : ℕ) → m + m ≤ j → meets m j i ≡ true
meets_jw m j i l = ap₂ (λ (x y : Bool). (x && eqb i (m + j)) || y) (lt_false j m (omega arith)) (le_true (m + m) j l)

meets_none : (m j i : ℕ) → (j < m → i ≢ m + j) → j < m + m → meets m j i ≡ false
meets_none m j i ne l = go (dec_lt j m)
  where
    go : Dec (j < m) → meets m j i ≡ false
    go (yes h) = ap₂ (λ (x y : Bool). (x && eqb i (m + j)) || y) (lt_true j m h) (le_false (m + m) j l) ∙ ap (λ (x : Bool). x || false) (eq_false i (m + j) (ne h))
    go (no h) = ap₂ (λ (x y : Bool). (x && eqb i (m + j)) || y) (lt_false j m (omega arith)) (le_false (m + m) j l)

-- ---- what the test tells

module _ (n w : ℕ) (R : ℕ → Row) (ok : rows_ok n w R ≡ true) where
  abbrev m : ℕ
  m = n - w

  abbrev rest₁ : Bool
  rest₁ = sum_ok m w R && signs_ok m w R

  abbrev rest₂ : Bool
  rest₂ = all_below (n + n + 1) (place_ok n m R) && rest₁

  abbrev rest₃ : Bool
  rest₃ = leb w n && rest₂

  ok₃ : rest₃ ≡ true
  ok₃ = right (size_ok n) rest₃ ok

  ok₂ : rest₂ ≡ true
  ok₂ = right (leb w n) rest₂ ok₃

  ok₁ : rest₁ ≡ true
  ok₁ = right (all_below (n + n + 1) (place_ok n m R)) rest₁ ok₂

  signs : signs_ok m w R ≡ true
  signs = right (sum_ok m w R) (signs_ok m w R) ok₁

  narrow : w ≤ n
  narrow = le_of w n (left (leb w n) rest₂ ok₃)

  whole : m + w ≡ n
  whole = omega (arith, narrow)

  at : (i : ℕ) → i < n + n + 1 → place_ok n m R i ≡ true
  at = all_get (n + n + 1) (place_ok n m R) (left (all_below (n + n + 1) (place_ok n m R)) rest₁ ok₂)

  abbrev pairs_ok : ℕ → Bool
  pairs_ok i = all_below i (λ j. beq (odd (pairing (R j).label (R i).label)) (meets m j i))

  fit : (i : ℕ) → i < n + n + 1 → Within n (R i).label
  fit i l = fits_within n (R i).label (left (fits n (R i).label) (pairs_ok i) (at i l))

  pair : (j i : ℕ) → j < i → i < n + n + 1 → pairing (R j).label (R i).label ≡ num (meets m j i)
  pair j i h l =
      bit_of (pairing (R j).label (R i).label) (meets m j i) (pairing_lt (R j).label (R i).label)
      (beq_of (odd (pairing (R j).label (R i).label)) (meets m j i)
      (all_get i (λ j. beq (odd (pairing (R j).label (R i).label)) (meets m j i)) (right (fits n (R i).label) (pairs_ok i) (at i l)) j h))

  -- two places whose rows are to commute, in either order, and two whose rows are not
  apart : (i j : ℕ) → i < n + n + 1 → j < n + n + 1 → (i < j → meets m i j ≡ false) → (j < i → meets m j i ≡ false) → pairing (R i).label (R j).label ≡ 0
  apart i j li lj e f = go (dec_lt i j) (dec_lt j i)
    where
      go : Dec (i < j) → Dec (j < i) → pairing (R i).label (R j).label ≡ 0
      go (yes h) d = pair i j h lj ∙ ap num (e h)
      go (no h) (yes k) = pairing_comm (R i).label (R j).label ∙ pair j i k li ∙ ap num (f k)
      go (no h) (no k) = let s : i ≡ j = omega arith in ap (λ (x : ℕ). pairing (R x).label (R j).label) s ∙ pairing_self (R j).label

  against : (i j : ℕ) → i < n + n + 1 → j < n + n + 1 → i ≢ j → (i < j → meets m i j ≡ true) → (j < i → meets m j i ≡ true) → pairing (R i).label (R j).label ≡ 1
  against i j li lj ne e f = go (dec_lt i j)
    where
      go : Dec (i < j) → pairing (R i).label (R j).label ≡ 1
      go (yes h) = pair i j h lj ∙ ap num (e h)
      go (no h) = pairing_comm (R i).label (R j).label ∙ pair j i (omega arith) li ∙ ap num (f (omega arith))

  sum_zero : total (λ i. (R (m + m + i)).label) (w + w + 1) ≡ zero_label
  sum_zero =
      let a = total (λ i. (R (m + m + i)).label) (w + w + 1) in
      let z = left (sum_ok m w R) (signs_ok m w R) ok₁ in
      ap₂ (λ (x y : ℕ). record { x = x; z = y }) (eq_of a.x 0 (left (eqb a.x 0) (eqb a.z 0) z)) (eq_of a.z 0 (right (eqb a.x 0) (eqb a.z 0) z))

  alone : w ≡ 0 → R (m + m + 0) ≡ zero_row
  alone z = ap₂ row lab sgn
    where
      lab : (R (m + m + 0)).label ≡ zero_label
      lab = sym (plus_zero (R (m + m + 0)).label) ∙ ap (total (λ i. (R (m + m + i)).label)) {x = 1} {y = w + w + 1} (omega arith) ∙ sum_zero

      sgn : (R (m + m + 0)).sign ≡ false
      sgn = ap (λ (x : ℕ). (R x).sign) {x = m + m + 0} {y = m + m} (omega arith)
          ∙ no_of (R (m + m)).sign
          (ap (λ (x : Bool). x || not (R (m + m)).sign) (sym (lt_false 0 w (omega arith))) ∙ right (all_below m (λ i. not (R i).sign)) (ltb 0 w || not (R (m + m)).sign) signs)

  pub plain : (i : ℕ) → i < n - w → (R i).sign ≡ false
  plain i l = no_of (R i).sign (all_get m (λ i. not (R i).sign) (left (all_below m (λ i. not (R i).sign)) (ltb 0 w || not (R (m + m)).sign) signs) i l)

  pub pattern : LawfulRows n (given n w R)
  pattern = record {
    qubits = (
      le_of 1 n (left (leb 1 n) (leb n 64) (left (size_ok n) rest₃ ok)),
      le_of n 64 (right (leb 1 n) (leb n 64) (left (size_ok n) rest₃ ok)),
    );
    size = whole;
    D_within = λ i l. fit i (omega (arith, whole));
    E_within = λ i l. fit (m + i) (omega (arith, whole));
    J_within = λ i l. fit (m + m + i) (omega (arith, whole));
    ed = λ i l. pairing_comm (R (m + i)).label (R i).label ∙ pair i (m + i) (omega arith) (omega (arith, whole)) ∙ ap num (meets_own m i l);
    ed' = λ i j l k ne. pairing_comm (R (m + i)).label (R j).label ∙ pair j (m + i) (omega arith) (omega (arith, whole)) ∙ ap num (meets_none m j (m + i) (λ h. omega arith) (omega arith));
    dd = λ i j l k. apart i j (omega (arith, whole)) (omega (arith, whole)) (λ h. meets_none m i j (λ x. omega arith) (omega arith)) (λ h. meets_none m j i (λ x. omega arith) (omega arith));
    ee = λ i j l k. apart (m + i) (m + j) (omega (arith, whole)) (omega (arith, whole)) (λ h. meets_none m (m + i) (m + j) (λ x. omega arith) (omega arith))
        (λ h. meets_none m (m + j) (m + i) (λ x. omega arith) (omega arith));
    je = λ i j l k. apart (m + m + i) (m + j) (omega (arith, whole)) (omega (arith, whole)) (λ h. absurd (omega arith)) (λ h. meets_none m (m + j) (m + m + i) (λ x. omega arith) (omega arith));
    jd = λ i j l k. apart (m + m + i) j (omega (arith, whole)) (omega (arith, whole)) (λ h. absurd (omega arith)) (λ h. meets_none m j (m + m + i) (λ x. omega arith) (omega arith));
    jj = λ i j l k ne. against (m + m + i) (m + m + j) (omega (arith, whole)) (omega (arith, whole)) (omega arith) (λ h. meets_jw m (m + m + i) (m + m + j) (omega arith))
        (λ h. meets_jw m (m + m + j) (m + m + i) (omega arith));
    sums = sum_zero;
    alone = alone;
  }

-- ---- what the pattern tells the test

data Zone (m k i : ℕ) : Type 0 where
  dest : i < m → Zone m k i
  stab : (a : ℕ) → a < m → i ≡ m + a → Zone m k i
  jw : (a : ℕ) → a < k → i ≡ m + m + a → Zone m k i

zone : (m k i : ℕ) → i < m + m + k → Zone m k i
zone m k i l = go (dec_lt i m) (dec_lt i (m + m))
  where
    go : Dec (i < m) → Dec (i < m + m) → Zone m k i
    go (yes h) d = dest h
    go (no h) (yes h') = stab (i - m) (omega arith) (omega arith)
    go (no h) (no h') = jw (i - (m + m)) (omega arith) (omega arith)

module _ (n w : ℕ) (R : ℕ → Row) (P : LawfulRows n (given n w R)) (plain : (i : ℕ) → i < n - w → (R i).sign ≡ false) where
  abbrev h : ℕ
  h = n - w

  fits_at : (i : ℕ) → i < n + n + 1 → fits n (R i).label ≡ true
  fits_at i l = elim (zone h (w + w + 1) i (omega (arith, P.size))) [
    | dest d ↦ within_fits n (R i).label (P.D_within i d)
    | stab a d e ↦ ap (λ (x : ℕ). fits n (R x).label) e ∙ within_fits n (R (h + a)).label (P.E_within a d)
    | jw a d e ↦ ap (λ (x : ℕ). fits n (R x).label) e ∙ within_fits n (R (h + h + a)).label (P.J_within a d)
  ]

  -- a pair at two places told by its kinds
  abbrev Right : ℕ → ℕ → Type 0
  Right j i = odd (pairing (R j).label (R i).label) ≡ meets h j i

  zero_pair : (j i : ℕ) → pairing (R j).label (R i).label ≡ 0 → meets h j i ≡ false → Right j i
  zero_pair j i e f = ap odd e ∙ sym f

  one_pair : (j i : ℕ) → pairing (R j).label (R i).label ≡ 1 → meets h j i ≡ true → Right j i
  one_pair j i e f = ap odd e ∙ sym f

  right_at : (j i : ℕ) → j < i → i < n + n + 1 → Right j i
  right_at j i l li = elim (zone h (w + w + 1) j (omega (arith, P.size))) [
    | dest d ↦ elim (zone h (w + w + 1) i (omega (arith, P.size))) [
      | dest d' ↦ zero_pair j i (P.dd j i d d') (meets_none h j i (λ x. omega arith) (omega arith))
      | stab a d' e ↦ subst (Right j) (sym e) (own j a d d' (ℕ_discrete a j))
      | jw a d' e ↦ subst (Right j) (sym e) (zero_pair j (h + h + a) (pairing_comm (R j).label (R (h + h + a)).label ∙ P.jd a j d' d) (meets_none h j (h + h + a) (λ x. omega arith) (omega arith)))
    ]
    | stab c d e ↦ elim (zone h (w + w + 1) i (omega (arith, P.size))) [
      | dest d' ↦ absurd (omega arith)
      | stab a d' e' ↦ subst (λ (x : ℕ). Right x i) (sym e) (subst (Right (h + c)) (sym e') (zero_pair (h + c) (h + a) (P.ee c a d d') (meets_none h (h + c) (h + a) (λ x. omega arith) (omega arith))))
      | jw a d' e' ↦ subst (λ (x : ℕ). Right x i) (sym e)
          (subst (Right (h + c)) (sym e') (zero_pair (h + c) (h + h + a) (pairing_comm (R (h + c)).label (R (h + h + a)).label ∙ P.je a c d' d) (meets_none h (h + c) (h + h + a) (λ x. omega arith) (omega arith))))
    ]
    | jw c d e ↦ elim (zone h (w + w + 1) i (omega (arith, P.size))) [
      | dest d' ↦ absurd (omega arith)
      | stab a d' e' ↦ absurd (omega arith)
      | jw a d' e' ↦ subst (λ (x : ℕ). Right x i) (sym e)
          (subst (Right (h + h + c)) (sym e') (one_pair (h + h + c) (h + h + a) (P.jj c a d d' (omega arith)) (meets_jw h (h + h + c) (h + h + a) (omega arith))))
    ]
  ]
    where
      own : (j a : ℕ) → j < h → a < h → Dec (a ≡ j) → Right j (h + a)
      own j a d d' (yes q) =
          subst (λ (x : ℕ). Right j (h + x)) (sym q) (one_pair j (h + j) (pairing_comm (R j).label (R (h + j)).label ∙ P.ed j d) (meets_own h j d))
      own j a d d' (no q) = zero_pair j (h + a) (pairing_comm (R j).label (R (h + a)).label ∙ P.ed' a j d' d q) (meets_none h j (h + a) (λ x. omega arith) (omega arith))

  abbrev line : ℕ → ℕ → Bool
  line i j = beq (odd (pairing (R j).label (R i).label)) (meets h j i)

  places : all_below (n + n + 1) (place_ok n h R) ≡ true
  places = all_make (n + n + 1) (place_ok n h R) (λ i l. together (fits n (R i).label) (all_below i (line i)) (fits_at i l)
      (all_make i (line i) (λ j k. beq_same (odd (pairing (R j).label (R i).label)) (meets h j i) (right_at j i k l))))

  sum : sum_ok h w R ≡ true
  sum = let a = total (λ i. (R (h + h + i)).label) (w + w + 1) in
      together (eqb a.x 0) (eqb a.z 0) (eq_true a.x 0 (ap (λ (l : Label). l.x) P.sums)) (eq_true a.z 0 (ap (λ (l : Label). l.z) P.sums))

  last : (ltb 0 w || not (R (h + h)).sign) ≡ true
  last = go (ℕ_discrete w 0)
    where
      go : Dec (w ≡ 0) → (ltb 0 w || not (R (h + h)).sign) ≡ true
      go (yes z) =
          ap₂ (λ (x : Bool) (r : Row). x || not r.sign) (lt_false 0 w (omega arith)) (ap R {x = h + h} {y = h + h + 0} (omega arith) ∙ P.alone z)
      go (no z) = ap (λ (x : Bool). x || not (R (h + h)).sign) (lt_true 0 w (omega arith))

  pub passes : rows_ok n w R ≡ true
  passes =
      let s = together (all_below h (λ i. not (R i).sign)) (ltb 0 w || not (R (h + h)).sign) (all_make h (λ i. not (R i).sign) (λ i l. ap not (plain i l))) last in
      let t = together (sum_ok h w R) (signs_ok h w R) sum s in
      let u = together (all_below (n + n + 1) (place_ok n h R)) (sum_ok h w R && signs_ok h w R) places t in
      let v = together (leb w n) (all_below (n + n + 1) (place_ok n h R) && (sum_ok h w R && signs_ok h w R)) (le_true w n (omega (arith, P.size))) u in
      together (size_ok n) (leb w n && (all_below (n + n + 1) (place_ok n h R) && (sum_ok h w R && signs_ok h w R)))
      (together (leb 1 n) (leb n 64) (le_true 1 n P.qubits.0) (le_true n 64 P.qubits.1)) v

-- ---- the rows of a tableau in order

module _ (R : Rows) where
  pub at_D : (i : ℕ) → i < R.m → row_at R i ≡ row (R.D i) false
  at_D i l = ap (λ (x : Bool). cond x (row (R.D i) false) (cond (ltb i (R.m + R.m)) (R.E (i - R.m)) (R.J (i - (R.m + R.m))))) (lt_true i R.m l)

  pub at_E : (i : ℕ) → i < R.m → row_at R (R.m + i) ≡ R.E i
  at_E i l =
      let k = R.m + i in
      ap₂ (λ (x y : Bool). cond x (row (R.D k) false) (cond y (R.E (k - R.m)) (R.J (k - (R.m + R.m))))) (lt_false k R.m (omega arith)) (lt_true k (R.m + R.m) (omega arith))
      ∙ ap R.E (omega arith)

  pub at_J : (i : ℕ) → row_at R (R.m + R.m + i) ≡ R.J i
  at_J i =
      let k = R.m + R.m + i in
      ap₂ (λ (x y : Bool). cond x (row (R.D k) false) (cond y (R.E (k - R.m)) (R.J (k - (R.m + R.m))))) (lt_false k R.m (omega arith)) (lt_false k (R.m + R.m) (omega arith))
      ∙ ap R.J (omega arith)

label_is : {r s : Row} → r ≡ s → r.label ≡ s.label
label_is e = ap (λ (r : Row). r.label) e

module _ (n w : ℕ) (D : ℕ → Label) (E J : ℕ → Row) where
  abbrev rows : Rows
  rows = record { m = n - w; w = w; D = D; E = E; J = J }

  pub pattern_is : pattern_ok n w D E J ≡ true → Tableau n (n - w) w D E J
  pattern_is ok =
      pattern_same n (n - w) w (λ i. (row_at rows i).label) D (λ i. row_at rows (n - w + i)) E (λ i. row_at rows (n - w + (n - w) + i)) J
      (λ i l. sym (label_is (at_D rows i l))) (λ i l. sym (at_E rows i l)) (λ i l. sym (at_J rows i)) (pattern n w (row_at rows) ok)

  pub is_pattern : Tableau n (n - w) w D E J → pattern_ok n w D E J ≡ true
  is_pattern T =
      passes n w (row_at rows)
      (pattern_same n (n - w) w D (λ i. (row_at rows i).label) E (λ i. row_at rows (n - w + i)) J (λ i. row_at rows (n - w + (n - w) + i))
      (λ i l. label_is (at_D rows i l)) (λ i l. at_E rows i l) (λ i l. at_J rows i) T)
      (λ i l. ap (λ (r : Row). r.sign) (at_D rows i l))
