-- Case 2 on rows: the signs that flip add [b,a] to the value of every valued a.
use Rattle.std.proofs.Common.{◌≡◌, ℕ, Bool, true, false, ◌&&◌, Some, refl, ap, ◌∙◌}
use Rattle.pauli.specs.declared.label.Label.{Label}
use Rattle.pauli.specs.declared.row.Row.{Row}
use Rattle.pauli.specs.Bits.{odd, xorb}
use Rattle.pauli.specs.Labels.{pairing, zero_label}
use Rattle.pauli.specs.Rows.{row}
use Rattle.phase.specs.Effects.{signed, Turned}
use Rattle.tableau_laws.specs.Rules.{flipped}
use Rattle.tableau_laws.specs.Tableaux.{Tableau, answer, labels, stab_count, tableau_sheet}
use Rattle.pauli_laws.proofs.Algebra.{pairing_comm, pairing_zero}
use Rattle.pauli_laws.proofs.Signs.{xorb_comm}
use Rattle.sheet_laws.proofs.Transport.{case_two}
use Rattle.tableau_laws.proofs.Answered.{lawful, zero_count}
use Rattle.tableau_laws.proofs.Sole.{E_has, J_has, sole}

-- a sign that stays: the coin, with nothing
stays : (coin v : Bool) (p : ℕ) → p ≡ 0 → xorb v (coin && odd p) ≡ v
stays true v p e = ap (λ (x : ℕ). xorb v (odd x)) e ∙ xorb_comm v false
stays false v p e = xorb_comm v false

module _ (n m w : ℕ) (D : ℕ → Label) (E J : ℕ → Row) (b : Label) (coin : Bool) (T : Tableau n m w D E J) where
  pub pattern : Tableau n m w D E (λ q. flipped b coin (J q))
  pattern = record {
    qubits = T.qubits;
    size = T.size;
    D_within = T.D_within;
    E_within = T.E_within;
    J_within = T.J_within;
    ed = T.ed;
    ed' = T.ed';
    dd = T.dd;
    ee = T.ee;
    je = T.je;
    jd = T.jd;
    jj = T.jj;
    sums = T.sums;
    alone = λ z. ap (flipped b coin) (T.alone z) ∙ ap (row zero_label) (stays coin false (pairing zero_label b) (pairing_zero b));
  }

  pub turned : stab_count m E b ≡ 0 → Turned (tableau_sheet n m w D E J) b coin (tableau_sheet n m w D E (λ q. flipped b coin (J q)))
  turned e = record {
    same_n = refl;
    same_width = refl;
    values = sole n m w D E (λ q. flipped b coin (J q)) pattern (λ a. signed (coin && odd (pairing b a)) (answer n m w D E J a))
        (case_two (tableau_sheet n m w D E J) (λ a. signed (coin && odd (pairing b a)) (answer n m w D E J a)) b coin (lawful n m w D E J T) (λ a. refl))
        (λ i l.
        ap (signed (coin && odd (pairing b (E i).label))) (E_has n m w D E J T i l)
        ∙ ap Some (stays coin (E i).sign (pairing b (E i).label) (pairing_comm b (E i).label ∙ zero_count (labels E) b m e i l)))
        (λ i l.
        ap (signed (coin && odd (pairing b (J i).label))) (J_has n m w D E J T i l)
        ∙ ap (λ (x : ℕ). Some (xorb (J i).sign (coin && odd x))) (pairing_comm b (J i).label));
  }
