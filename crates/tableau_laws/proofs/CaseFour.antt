-- Case 4 on rows: the new rows are a tableau, and its sheet has the values that the measurement states, and no others.
use Rattle.std.proofs.Common.{◌≡◌, ℕ, zero, suc, ◌+◌, ◌%◌, ◌<◌, Bool, true, false, cond, T, eqb, ◌≢◌, ◌⊎◌, sym, refl, ap, ◌∙◌, subst, ap₂, inl, inr, arith, eqb→eq}
use mathlib.Core.Path.{fun_ext}
use native.Mathlib.Decide.{ℕ_discrete}
use lib.Dec.{eqb_refl}
use Rattle.pauli.specs.declared.case.Case.TheVariants.{Four}
use Rattle.pauli.specs.declared.label.Label.{Label}
use Rattle.pauli.specs.declared.row.Row.{Row}
use Rattle.pauli.specs.Bits.{odd}
use Rattle.pauli.specs.Labels.{Within, pairing, plus, zero_label}
use Rattle.pauli.specs.Rows.{row, times, zero_row}
use Rattle.phase.specs.Effects.{Kept, Replaced}
use Rattle.phase.specs.LabelCases.{InCase}
use Rattle.phase.specs.Sheets.{Lawful, Values}
use Rattle.sheet_laws.specs.Laws.{stated, with_values}
use Rattle.tableau_laws.specs.Places.{total}
use Rattle.tableau_laws.specs.Rules.{cleared, cleared_row, four_D, four_E, four_J}
use Rattle.tableau_laws.specs.Tableaux.{Tableau, answer, labels, tableau_sheet}
use Rattle.pauli_laws.proofs.Algebra.{pairing_comm, pairing_l, pairing_lt, pairing_self, pairing_zero, plus_assoc, plus_cancel, plus_comm, plus_within}
use Rattle.pauli_laws.proofs.Numbers.{bit_cases}
use Rattle.sheet_laws.proofs.CaseFour.{case_four}
use Rattle.sheet_laws.proofs.LabelCases.{four_witness}
use Rattle.sheet_laws.proofs.Stated.{states}
use Rattle.tableau_laws.proofs.Answered.{four, lawful, zero_count}
use Rattle.tableau_laws.proofs.Sole.{E_has, Has, J_has, sole}

at_t : {A : Type 0} (i t : ℕ) (v w : A) → i ≡ t → cond (eqb i t) v w ≡ v
at_t i t v w e = go (eqb i t) (subst (λ (k : ℕ). T (eqb i k)) e (eqb_refl i))
  where
    go : (b : Bool) → T b → cond b v w ≡ v
    go true h = refl
    go false h = absurd h

off_t : {A : Type 0} (i t : ℕ) (v w : A) → i ≢ t → cond (eqb i t) v w ≡ w
off_t i t v w ne = go (eqb i t) (λ h. ne (eqb→eq i t h))
  where
    go : (b : Bool) → (T b → ⊥) → cond b v w ≡ w
    go true h = absurd (h tt)
    go false h = refl

cleared_label : (b : Label) (e r : Row) → (cleared_row b e r).label ≡ cleared b e.label r.label
cleared_label b e r = go (odd (pairing r.label b))
  where
    go : (c : Bool) → (cond c (times r e) r).label ≡ cond c (plus r.label e.label) r.label
    go true = refl
    go false = refl

module _ (b e : Label) (eb : pairing e b ≡ 1) where
  side : (r : Label) → (pairing r b ≡ 0) ⊎ (pairing r b ≡ 1)
  side r = bit_cases (pairing r b) (pairing_lt r b)

  cl_0 : (r : Label) → pairing r b ≡ 0 → cleared b e r ≡ r
  cl_0 r h = ap (λ (n : ℕ). cond (odd n) (plus r e) r) h

  cl_1 : (r : Label) → pairing r b ≡ 1 → cleared b e r ≡ plus r e
  cl_1 r h = ap (λ (n : ℕ). cond (odd n) (plus r e) r) h

  pub with_b : (r : Label) → pairing (cleared b e r) b ≡ 0
  with_b r = go (side r)
    where
      go : (pairing r b ≡ 0) ⊎ (pairing r b ≡ 1) → pairing (cleared b e r) b ≡ 0
      go (inl h) = ap (λ (x : Label). pairing x b) (cl_0 r h) ∙ h
      go (inr h) = ap (λ (x : Label). pairing x b) (cl_1 r h) ∙ omega (arith, pairing_l r e b)

  with_s : (r s : Label) → pairing e s ≡ 0 → pairing (cleared b e r) s ≡ pairing r s
  with_s r s k = go (side r)
    where
      go : (pairing r b ≡ 0) ⊎ (pairing r b ≡ 1) → pairing (cleared b e r) s ≡ pairing r s
      go (inl h) = ap (λ (x : Label). pairing x s) (cl_0 r h)
      go (inr h) = ap (λ (x : Label). pairing x s) (cl_1 r h) ∙ omega (arith, pairing_lt r s, pairing_l r e s)

  both : (r s : Label) → pairing e r ≡ 0 → pairing e s ≡ 0 → pairing (cleared b e r) (cleared b e s) ≡ pairing r s
  both r s hr hs =
      let es : pairing e (cleared b e s) ≡ 0 = pairing_comm e (cleared b e s) ∙ with_s s e (pairing_self e) ∙ pairing_comm s e ∙ hs in
      with_s r (cleared b e s) es ∙ pairing_comm r (cleared b e s) ∙ with_s s r hr ∙ pairing_comm s r

  with_e : (r : Label) → pairing e r ≡ 0 → pairing e (cleared b e r) ≡ 0
  with_e r h = pairing_comm e (cleared b e r) ∙ with_s r e (pairing_self e) ∙ pairing_comm r e ∙ h

  cleared_plus : (r s : Label) → cleared b e (plus r s) ≡ plus (cleared b e r) (cleared b e s)
  cleared_plus r s = go (side r) (side s)
    where
      rs : pairing (plus r s) b ≡ (pairing r b + pairing s b) % 2
      rs = pairing_l r s b

      go : (pairing r b ≡ 0) ⊎ (pairing r b ≡ 1) → (pairing s b ≡ 0) ⊎ (pairing s b ≡ 1) → cleared b e (plus r s) ≡ plus (cleared b e r) (cleared b e s)
      go (inl h) (inl k) = cl_0 (plus r s) (omega (arith, rs)) ∙ sym (ap₂ plus (cl_0 r h) (cl_0 s k))
      go (inl h) (inr k) = cl_1 (plus r s) (omega (arith, rs)) ∙ plus_assoc r s e ∙ sym (ap₂ plus (cl_0 r h) (cl_1 s k))
      go (inr h) (inl k) = cl_1 (plus r s) (omega (arith, rs)) ∙ plus_assoc r s e ∙ ap (plus r) (plus_comm s e) ∙ sym (plus_assoc r e s) ∙ sym (ap₂ plus (cl_1 r h) (cl_0 s k))
      go (inr h) (inr k) =
          cl_0 (plus r s) (omega (arith, rs))
          ∙ sym (ap₂ plus (cl_1 r h) (cl_1 s k) ∙ plus_assoc r e (plus s e) ∙ ap (plus r) (ap (plus e) (plus_comm s e) ∙ plus_cancel e s))

  cleared_in : (n : ℕ) (r : Label) → Within n e → Within n r → Within n (cleared b e r)
  cleared_in n r we wr = go (odd (pairing r b))
    where
      go : (c : Bool) → Within n (cond c (plus r e) r)
      go true = plus_within n r e wr we
      go false = wr

module _ (n m w t : ℕ) (D : ℕ → Label) (E J : ℕ → Row) (b : Label) (v : Bool) (P : Tableau n m w D E J) (wb : Within n b)
    (tm : t < m) (eb : pairing (E t).label b ≡ 1) where
  abbrev cl : Label → Label
  cl r = cleared b (E t).label r

  E_at : (i : ℕ) → i ≡ t → (four_E t b v E i).label ≡ b
  E_at i q = ap (λ (r : Row). r.label) (at_t i t (row b v) (cleared_row b (E t) (E i)) q)

  E_off : (i : ℕ) → i ≢ t → (four_E t b v E i).label ≡ cleared b (E t).label (E i).label
  E_off i q = ap (λ (r : Row). r.label) (off_t i t (row b v) (cleared_row b (E t) (E i)) q) ∙ cleared_label b (E t) (E i)

  D_at : (i : ℕ) → i ≡ t → four_D t b E D i ≡ (E t).label
  D_at i q = at_t i t (E t).label (cleared b (E t).label (D i)) q

  D_off : (i : ℕ) → i ≢ t → four_D t b E D i ≡ cleared b (E t).label (D i)
  D_off i q = off_t i t (E t).label (cleared b (E t).label (D i)) q

  J_at : (i : ℕ) → (four_J t b E J i).label ≡ cleared b (E t).label (J i).label
  J_at i = cleared_label b (E t) (J i)

  e_D : (i : ℕ) → i < m → i ≢ t → pairing (E t).label (D i) ≡ 0
  e_D i h ne = P.ed' t i tm h (λ q. ne (sym q))

  e_E : (i : ℕ) → i < m → pairing (E t).label (E i).label ≡ 0
  e_E i h = P.ee t i tm h

  e_J : (i : ℕ) → i < w + w + 1 → pairing (E t).label (J i).label ≡ 0
  e_J i h = pairing_comm (E t).label (J i).label ∙ P.je i t h tm

  b_r : (r : Label) → pairing b (cleared b (E t).label r) ≡ 0
  b_r r = pairing_comm b (cleared b (E t).label r) ∙ with_b b (E t).label eb r

  we : Within n (E t).label
  we = P.E_within t tm

  total_cleared : (k : ℕ) → total (labels (four_J t b E J)) k ≡ cleared b (E t).label (total (labels J) k)
  total_cleared zero = sym (cl_0 b (E t).label eb zero_label (pairing_zero b))
  total_cleared (suc k) = ap₂ plus (J_at k) (total_cleared k) ∙ sym (cleared_plus b (E t).label eb (J k).label (total (labels J) k))

  pub pattern : Tableau n m w (four_D t b E D) (four_E t b v E) (four_J t b E J)
  pattern = record {
    qubits = P.qubits;
    size = P.size;
    D_within = λ i h. elim (ℕ_discrete i t) [
      | yes q ↦ subst (Within n) (sym (D_at i q)) we
      | no q ↦ subst (Within n) (sym (D_off i q)) (cleared_in b (E t).label eb n (D i) we (P.D_within i h))
    ];
    E_within = λ i h. elim (ℕ_discrete i t) [
      | yes q ↦ subst (Within n) (sym (E_at i q)) wb
      | no q ↦ subst (Within n) (sym (E_off i q)) (cleared_in b (E t).label eb n (E i).label we (P.E_within i h))
    ];
    J_within = λ i h. subst (Within n) (sym (J_at i)) (cleared_in b (E t).label eb n (J i).label we (P.J_within i h));
    ed = λ i h. elim (ℕ_discrete i t) [
      | yes q ↦ ap₂ pairing (E_at i q) (D_at i q) ∙ pairing_comm b (E t).label ∙ eb
      | no q ↦ ap₂ pairing (E_off i q) (D_off i q) ∙ both b (E t).label eb (E i).label (D i) (e_E i h) (e_D i h q) ∙ P.ed i h
    ];
    ed' = λ i j h l ne. elim (ℕ_discrete i t) [
      | yes q ↦ elim (ℕ_discrete j t) [
        | yes r ↦ absurd (ne (q ∙ sym r))
        | no r ↦ ap₂ pairing (E_at i q) (D_off j r) ∙ b_r (D j)
      ]
      | no q ↦ elim (ℕ_discrete j t) [
        | yes r ↦ ap₂ pairing (E_off i q) (D_at j r) ∙ pairing_comm (cl (E i).label) (E t).label ∙ with_e b (E t).label eb (E i).label (e_E i h)
        | no r ↦ ap₂ pairing (E_off i q) (D_off j r) ∙ both b (E t).label eb (E i).label (D j) (e_E i h) (e_D j l r) ∙ P.ed' i j h l ne
      ]
    ];
    dd = λ i j h l. elim (ℕ_discrete i t) [
      | yes q ↦ elim (ℕ_discrete j t) [
        | yes r ↦ ap₂ pairing (D_at i q) (D_at j r) ∙ pairing_self (E t).label
        | no r ↦ ap₂ pairing (D_at i q) (D_off j r) ∙ with_e b (E t).label eb (D j) (e_D j l r)
      ]
      | no q ↦ elim (ℕ_discrete j t) [
        | yes r ↦ ap₂ pairing (D_off i q) (D_at j r) ∙ pairing_comm (cl (D i)) (E t).label ∙ with_e b (E t).label eb (D i) (e_D i h q)
        | no r ↦ ap₂ pairing (D_off i q) (D_off j r) ∙ both b (E t).label eb (D i) (D j) (e_D i h q) (e_D j l r) ∙ P.dd i j h l
      ]
    ];
    ee = λ i j h l. elim (ℕ_discrete i t) [
      | yes q ↦ elim (ℕ_discrete j t) [
        | yes r ↦ ap₂ pairing (E_at i q) (E_at j r) ∙ pairing_self b
        | no r ↦ ap₂ pairing (E_at i q) (E_off j r) ∙ b_r (E j).label
      ]
      | no q ↦ elim (ℕ_discrete j t) [
        | yes r ↦ ap₂ pairing (E_off i q) (E_at j r) ∙ with_b b (E t).label eb (E i).label
        | no r ↦ ap₂ pairing (E_off i q) (E_off j r) ∙ both b (E t).label eb (E i).label (E j).label (e_E i h) (e_E j l) ∙ P.ee i j h l
      ]
    ];
    je = λ i j h l. elim (ℕ_discrete j t) [
      | yes r ↦ ap₂ pairing (J_at i) (E_at j r) ∙ with_b b (E t).label eb (J i).label
      | no r ↦ ap₂ pairing (J_at i) (E_off j r) ∙ both b (E t).label eb (J i).label (E j).label (e_J i h) (e_E j l) ∙ P.je i j h l
    ];
    jd = λ i j h l. elim (ℕ_discrete j t) [
      | yes r ↦ ap₂ pairing (J_at i) (D_at j r) ∙ pairing_comm (cl (J i).label) (E t).label ∙ with_e b (E t).label eb (J i).label (e_J i h)
      | no r ↦ ap₂ pairing (J_at i) (D_off j r) ∙ both b (E t).label eb (J i).label (D j) (e_J i h) (e_D j l r) ∙ P.jd i j h l
    ];
    jj = λ i j h l ne. ap₂ pairing (J_at i) (J_at j) ∙ both b (E t).label eb (J i).label (J j).label (e_J i h) (e_J j l) ∙ P.jj i j h l ne;
    sums = total_cleared (w + w + 1) ∙ ap (cleared b (E t).label) P.sums ∙ cl_0 b (E t).label eb zero_label (pairing_zero b);
    alone = λ z. ap (cleared_row b (E t)) (P.alone z) ∙ ap (λ (x : ℕ). cond (odd x) (times zero_row (E t)) zero_row) (pairing_zero b);
  }

  -- a cleared row is the old sheet's, and commutes with b
  old : (r : Row) → Has (answer n m w D E J) r → pairing r.label (E t).label ≡ 0
      → Has (answer n m w D E J) (cleared_row b (E t) r) × (pairing (cleared_row b (E t) r).label b ≡ 0)
  old r h c = (go (odd (pairing r.label b)), ap (λ (x : Label). pairing x b) (cleared_label b (E t) r) ∙ with_b b (E t).label eb r.label)
    where
      go : (x : Bool) → Has (answer n m w D E J) (cond x (times r (E t)) r)
      go true = (lawful n m w D E J P).product r.label (E t).label r.sign (E t).sign h (E_has n m w D E J P t tm) c
      go false = h

  abbrev g : Values
  g = stated (answer n m w D E J) b v

  in_four : InCase (answer n m w D E J) b Four
  in_four = four n m w D E J P b wb (λ z. omega (arith, zero_count (labels E) b m z t tm, eb))

  as_stated : Kept (answer n m w D E J) g b v
  as_stated = states (tableau_sheet n m w D E J) (lawful n m w D E J P) b v in_four.0

  stated_lawful : Lawful (with_values (tableau_sheet n m w D E J) g)
  stated_lawful =
      let p = four_witness (tableau_sheet n m w D E J) (lawful n m w D E J P) b in_four in
      case_four (tableau_sheet n m w D E J) g b p.0 v (lawful n m w D E J P) wb p.1 p.2 as_stated

  new_has : (r : Row) → Has (answer n m w D E J) r × (pairing r.label b ≡ 0) → Has g r
  new_has r (e, h) = as_stated.keep r.label r.sign e h

  same : (a : Label) → answer n m w (four_D t b E D) (four_E t b v E) (four_J t b E J) a ≡ g a
  same = sole n m w (four_D t b E D) (four_E t b v E) (four_J t b E J) pattern g stated_lawful (λ i h. by i h (ℕ_discrete i t))
      (λ i h. new_has (cleared_row b (E t) (J i)) (old (J i) (J_has n m w D E J P i h) (P.je i t h tm)))
    where
      by : (i : ℕ) → i < m → Dec (i ≡ t) → Has g (four_E t b v E i)
      by i h (yes q) = subst (Has g) (sym (at_t i t (row b v) (cleared_row b (E t) (E i)) q)) as_stated.new
      by i h (no q) =
          subst (Has g) (sym (off_t i t (row b v) (cleared_row b (E t) (E i)) q))
          (new_has (cleared_row b (E t) (E i)) (old (E i) (E_has n m w D E J P i h) (P.ee i t h tm)))

  pub replaced : Replaced (tableau_sheet n m w D E J) b v (tableau_sheet n m w (four_D t b E D) (four_E t b v E) (four_J t b E J))
  replaced = record { same_n = refl; same_width = refl; kept = subst (λ (h : Values). Kept (answer n m w D E J) h b v) (sym (fun_ext same)) as_stated }
