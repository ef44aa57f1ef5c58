-- Rows that are the same at the places that mean something are the same tableau, and mean the same sheet.
use Rattle.std.proofs.Common.{◌≡◌, ℕ, zero, suc, ◌+◌, ◌<◌, Bool, cond, ◌&&◌, eqb, Some, None, Option, sym, refl, ap, ◌∙◌, subst, ap₂, arith}
use mathlib.Core.Path.{fun_ext}
use Rattle.pauli.specs.declared.label.Label.{Label}
use Rattle.pauli.specs.declared.row.Row.{Row}
use Rattle.pauli.specs.Bits.{odd}
use Rattle.pauli.specs.Labels.{Within, fits, pairing, plus}
use Rattle.pauli.specs.Rows.{times}
use Rattle.phase.specs.LabelCases.{against}
use Rattle.phase.specs.Sheets.{Values}
use Rattle.pauli_laws.specs.Products.{chosen}
use Rattle.tableau_laws.specs.Places.{total}
use Rattle.tableau_laws.specs.Rules.{LawfulRows, Rows, SameRows, sheet_of}
use Rattle.tableau_laws.specs.Tableaux.{Tableau, answer, fellow, jw_count, labels, picked, stab_count, tableau_sheet}
use Rattle.tableau_laws.proofs.Tableaux.{label_of}

pub total_same : (f g : ℕ → Label) (k : ℕ) → ((i : ℕ) → i < k → f i ≡ g i) → total f k ≡ total g k
total_same f g zero h = refl
total_same f g (suc k) h = ap₂ plus (h k (omega arith)) (total_same f g k (λ i l. h i (omega arith)))

against_same : (f g : ℕ → Label) (b : Label) (k : ℕ) → ((i : ℕ) → i < k → f i ≡ g i) → against f b k ≡ against g b k
against_same f g b zero h = refl
against_same f g b (suc k) h = ap₂ ◌+◌ (ap (λ (a : Label). pairing a b) (h k (omega arith))) (against_same f g b k (λ i l. h i (omega arith)))

picked_same : (D D' : ℕ → Label) (E E' : ℕ → Row) (b : Label) (m : ℕ) → ((i : ℕ) → i < m → D' i ≡ D i) → ((i : ℕ) → i < m → E' i ≡ E i) → picked D' E' b m ≡ picked D E b m
picked_same D D' E E' b zero hD hE = refl
picked_same D D' E E' b (suc m) hD hE =
    ap₂ times (picked_same D D' E E' b m (λ i l. hD i (omega arith)) (λ i l. hE i (omega arith)))
    (ap₂ (λ (d : Label) (e : Row). chosen (odd (pairing d b)) e) (hD m (omega arith)) (hE m (omega arith)))

fellow_same : (J J' : ℕ → Row) (b : Label) (k : ℕ) → ((i : ℕ) → i < k → J' i ≡ J i) → fellow J' b k ≡ fellow J b k
fellow_same J J' b zero h = refl
fellow_same J J' b (suc k) h =
    ap₂ (λ (r s : Row). cond (odd (pairing r.label b)) s r) (h k (omega arith)) (fellow_same J J' b k (λ i l. h i (omega arith)))

module _ (n m w : ℕ) (D D' : ℕ → Label) (E E' J J' : ℕ → Row) (hD : (i : ℕ) → i < m → D' i ≡ D i) (hE : (i : ℕ) → i < m → E' i ≡ E i)
    (hJ : (i : ℕ) → i < w + w + 1 → J' i ≡ J i) where
  eE : (i : ℕ) → i < m → (E' i).label ≡ (E i).label
  eE i l = label_of (hE i l)

  eJ : (i : ℕ) → i < w + w + 1 → (J' i).label ≡ (J i).label
  eJ i l = label_of (hJ i l)

  pub pattern_same : Tableau n m w D E J → Tableau n m w D' E' J'
  pattern_same T = record {
    qubits = T.qubits;
    size = T.size;
    D_within = λ i l. subst (Within n) (sym (hD i l)) (T.D_within i l);
    E_within = λ i l. subst (Within n) (sym (eE i l)) (T.E_within i l);
    J_within = λ i l. subst (Within n) (sym (eJ i l)) (T.J_within i l);
    ed = λ i l. ap₂ pairing (eE i l) (hD i l) ∙ T.ed i l;
    ed' = λ i j l k ne. ap₂ pairing (eE i l) (hD j k) ∙ T.ed' i j l k ne;
    dd = λ i j l k. ap₂ pairing (hD i l) (hD j k) ∙ T.dd i j l k;
    ee = λ i j l k. ap₂ pairing (eE i l) (eE j k) ∙ T.ee i j l k;
    je = λ i j l k. ap₂ pairing (eJ i l) (eE j k) ∙ T.je i j l k;
    jd = λ i j l k. ap₂ pairing (eJ i l) (hD j k) ∙ T.jd i j l k;
    jj = λ i j l k ne. ap₂ pairing (eJ i l) (eJ j k) ∙ T.jj i j l k ne;
    sums = total_same (labels J') (labels J) (w + w + 1) eJ ∙ T.sums;
    alone = λ z. hJ 0 (omega arith) ∙ T.alone z;
  }

  -- the value told from the counts and the products
  abbrev told : Label → ℕ → ℕ → Row → Row → Option Bool
  told a s j c r = cond (fits n a && eqb s 0) (cond (eqb j 0) (Some c.sign) (cond (eqb j (w + w)) (Some (times c r).sign) None)) None

  pub answer_same : (a : Label) → answer n m w D' E' J' a ≡ answer n m w D E J a
  answer_same a =
      ap₂ (λ (s j : ℕ). told a s j (picked D' E' a m) (fellow J' a (w + w + 1))) (against_same (labels E') (labels E) a m eE) (against_same (labels J') (labels J) a (w + w + 1) eJ)
      ∙ ap₂ (told a (stab_count m E a) (jw_count w J a)) (picked_same D D' E E' a m hD hE) (fellow_same J J' a (w + w + 1) hJ)

module _ (n : ℕ) (R S : Rows) (A : SameRows R S) where
  pub same_pattern : LawfulRows n R → LawfulRows n S
  same_pattern T =
      subst (λ (m : ℕ). Tableau n m S.w S.D S.E S.J) (sym A.m_is)
      (subst (λ (w : ℕ). Tableau n R.m w S.D S.E S.J) (sym A.w_is)
      (pattern_same n R.m R.w R.D S.D R.E S.E R.J S.J A.D_is A.E_is A.J_is T))

  pub same_sheet : sheet_of n S ≡ sheet_of n R
  same_sheet =
      ap₂ (λ (m w : ℕ). tableau_sheet n m w S.D S.E S.J) A.m_is A.w_is
      ∙ ap (λ (f : Values). record { n = n; width = R.w; value = f })
      (fun_ext (answer_same n R.m R.w R.D S.D R.E S.E R.J S.J A.D_is A.E_is A.J_is))
