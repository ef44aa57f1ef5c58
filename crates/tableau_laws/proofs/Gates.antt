-- A gate on rows: the carried rows are a tableau, and its sheet is the carried one.
use Rattle.std.proofs.Common.{◌≡◌, ℕ, zero, suc, ◌+◌, ◌<◌, Bool, true, false, cond, None, sym, refl, ap, ◌∙◌, ap₂, arith, pow_pos}
use Rattle.pauli.specs.declared.gate.Gate.{Gate}
use Rattle.pauli.specs.declared.label.Label.{Label}
use Rattle.pauli.specs.declared.row.Row.{Row}
use Rattle.pauli.specs.Bits.{xorb}
use Rattle.pauli.specs.Gates.{carry, flips, gate_fault, moved}
use Rattle.pauli.specs.Labels.{Within, fits, plus}
use Rattle.pauli.specs.Rows.{row}
use Rattle.phase.specs.Effects.{Gated, signed}
use Rattle.phase.specs.Sheets.{Valued, Values}
use Rattle.pauli_laws.specs.Carriers.{Carries}
use Rattle.tableau_laws.specs.Places.{total}
use Rattle.tableau_laws.specs.Tableaux.{Tableau, answer, labels, tableau_sheet}
use Rattle.phase.proofs.Unique.{not_both}
use Rattle.pauli_laws.proofs.Algebra.{plus_within}
use Rattle.pauli_laws.proofs.Carriers.{U_inj, U_zero, d_zero}
use Rattle.pauli_laws.proofs.Gates.{gate_carries}
use Rattle.pauli_laws.proofs.Texts.{fits_within, within_fits}
use Rattle.sheet_laws.proofs.Transport.{transport}
use Rattle.tableau_laws.proofs.Answered.{lawful}
use Rattle.tableau_laws.proofs.Sole.{E_has, J_has, sole}

-- a row carried
abbrev pub through : (Label → Label) → (Label → Bool) → Row → Row
through U d r = row (U r.label) (xorb r.sign (d r.label))

module _ (n : ℕ) (U V : Label → Label) (d : Label → Bool) (C : Carries n U V d) where
  V_U : (a : Label) → Within n a → V (U a) ≡ a
  V_U a w = U_inj n U V d C (V (U a)) a (C.back (U a) (C.there a w)) w (C.onto (U a) (C.there a w))

  total_in : (f : ℕ → Label) (k : ℕ) → ((i : ℕ) → i < k → Within n (f i)) → Within n (total f k)
  total_in f zero h = record { x = pow_pos n; z = pow_pos n }
  total_in f (suc k) h = plus_within n (f k) (total f k) (h k (omega arith)) (total_in f k (λ i l. h i (omega arith)))

  total_moved : (f : ℕ → Label) (k : ℕ) → ((i : ℕ) → i < k → Within n (f i)) → total (λ i. U (f i)) k ≡ U (total f k)
  total_moved f zero h = sym (U_zero n U V d C)
  total_moved f (suc k) h =
      ap (plus (U (f k))) (total_moved f k (λ i l. h i (omega arith)))
      ∙ sym (C.sums (f k) (total f k) (h k (omega arith)) (total_in f k (λ i l. h i (omega arith))))

  module _ (m w : ℕ) (D : ℕ → Label) (E J : ℕ → Row) (T : Tableau n m w D E J) where
    pub pattern : Tableau n m w (λ i. U (D i)) (λ i. through U d (E i)) (λ i. through U d (J i))
    pattern = record {
      qubits = T.qubits;
      size = T.size;
      D_within = λ i l. C.there (D i) (T.D_within i l);
      E_within = λ i l. C.there (E i).label (T.E_within i l);
      J_within = λ i l. C.there (J i).label (T.J_within i l);
      ed = λ i l. C.pairings (E i).label (D i) (T.E_within i l) (T.D_within i l) ∙ T.ed i l;
      ed' = λ i j l k ne. C.pairings (E i).label (D j) (T.E_within i l) (T.D_within j k) ∙ T.ed' i j l k ne;
      dd = λ i j l k. C.pairings (D i) (D j) (T.D_within i l) (T.D_within j k) ∙ T.dd i j l k;
      ee = λ i j l k. C.pairings (E i).label (E j).label (T.E_within i l) (T.E_within j k) ∙ T.ee i j l k;
      je = λ i j l k. C.pairings (J i).label (E j).label (T.J_within i l) (T.E_within j k) ∙ T.je i j l k;
      jd = λ i j l k. C.pairings (J i).label (D j) (T.J_within i l) (T.D_within j k) ∙ T.jd i j l k;
      jj = λ i j l k ne. C.pairings (J i).label (J j).label (T.J_within i l) (T.J_within j k) ∙ T.jj i j l k ne;
      sums = total_moved (labels J) (w + w + 1) T.J_within ∙ ap U T.sums ∙ U_zero n U V d C;
      alone = λ z. ap (through U d) (T.alone z) ∙ ap₂ row (U_zero n U V d C) (d_zero n U V d C);
    }

    -- the carried sheet
    g : Values
    g a = cond (fits n a) (signed (d (V a)) (answer n m w D E J (V a))) None

    there : (a : Label) → Within n a → g (U a) ≡ signed (d a) (answer n m w D E J a)
    unfolding g
    there a h =
        ap (λ (x : Bool). cond x (signed (d (V (U a))) (answer n m w D E J (V (U a)))) None) (within_fits n (U a) (C.there a h))
        ∙ ap (λ (x : Label). signed (d x) (answer n m w D E J x)) (V_U a h)

    only_within : (a : Label) → Valued g a → Within n a
    unfolding g
    only_within a v = by (fits n a) refl
      where
        by : (x : Bool) → fits n a ≡ x → Within n a
        by true e = fits_within n a e
        by false e = not_both v.1 (ap (λ (x : Bool). cond x (signed (d (V a)) (answer n m w D E J (V a))) None) e)

    same : (a : Label) → answer n m w (λ i. U (D i)) (λ i. through U d (E i)) (λ i. through U d (J i)) a ≡ g a
    same =
        sole n m w (λ i. U (D i)) (λ i. through U d (E i)) (λ i. through U d (J i)) pattern g
        (transport (tableau_sheet n m w D E J) g U V d (lawful n m w D E J T) C (record { at = there; within = only_within }))
        (λ i l. there (E i).label (T.E_within i l) ∙ ap (signed (d (E i).label)) (E_has n m w D E J T i l))
        (λ i l. there (J i).label (T.J_within i l) ∙ ap (signed (d (J i).label)) (J_has n m w D E J T i l))

    pub carried : (a : Label) → Within n a
        → answer n m w (λ i. U (D i)) (λ i. through U d (E i)) (λ i. through U d (J i)) (U a) ≡ signed (d a) (answer n m w D E J a)
    carried a h = same (U a) ∙ there a h

-- any gate that n qubits accept
module _ (n m w : ℕ) (D : ℕ → Label) (E J : ℕ → Row) (g : Gate) (T : Tableau n m w D E J) (ok : gate_fault n g ≡ None) where
  pub gate_pattern : Tableau n m w (λ i. moved g (D i)) (λ i. carry g (E i)) (λ i. carry g (J i))
  gate_pattern = pattern n (moved g) (moved g) (flips g) (gate_carries n g ok) m w D E J T

  pub gated : Gated (tableau_sheet n m w D E J) g (tableau_sheet n m w (λ i. moved g (D i)) (λ i. carry g (E i)) (λ i. carry g (J i)))
  gated = record { same_n = refl; same_width = refl; carried = carried n (moved g) (moved g) (flips g) (gate_carries n g ok) m w D E J T }
