-- The products of stabilizers that labels pick, and lists by place.
use Rattle.std.proofs.Common.{◌≡◌, ℕ, zero, suc, ◌<◌, Bool, true, false, eqb, ◌≢◌, List, [], ◌∷◌, length, sym, refl, ap, ◌∙◌, subst, ap₂, inl, inr, arith}
use native.Mathlib.Decide.{ℕ_discrete}
use Rattle.pauli.specs.declared.label.Label.{Label}
use Rattle.pauli.specs.declared.row.Row.{Row}
use Rattle.pauli.specs.Bits.{odd, xorb}
use Rattle.pauli.specs.Labels.{pairing, plus, zero_label}
use Rattle.pauli.specs.Rows.{times, zero_row}
use Rattle.pauli_laws.specs.Products.{chosen}
use Rattle.pauli_laws.specs.Spaces.{All, Duals, Span}
use Rattle.tableau_laws.specs.Tableaux.{picked}
use Rattle.pauli_laws.proofs.Algebra.{pairing_comm, pairing_r, pairing_zero, plus_cancel, plus_comm, plus_zero}
use Rattle.pauli_laws.proofs.Products.{Comm, chosen_add, chosen_comm, chosen_comm2, comm_swap, comm_times, interchange, self_comm, times_zero, zero_times}
use Rattle.pauli_laws.proofs.Signs.{odd_add}

-- ---- a list by place, the last first

abbrev pub tab : (ℕ → Label) → ℕ → List Label
tab f zero = []
tab f (suc n) = f n ∷ tab f n

pub length_tab : (f : ℕ → Label) (n : ℕ) → length (tab f n) ≡ n
length_tab f zero = refl
length_tab f (suc n) = ap suc (length_tab f n)

pub all_tab : (P : Label → Type 0) (f : ℕ → Label) (n : ℕ) → ((i : ℕ) → i < n → P (f i)) → All P (tab f n)
all_tab P f zero h = tt
all_tab P f (suc n) h = (h n (omega arith), all_tab P f n (λ i l. h i (omega arith)))

pub duals_tab : (R V : ℕ → Label) (n : ℕ) → ((i : ℕ) → i < n → pairing (R i) (V i) ≡ 1) → ((i j : ℕ) → i < n → j < n → i ≢ j → pairing (R i) (V j) ≡ 0)
    → Duals (tab R n) (tab V n)
duals_tab R V zero h k = tt
duals_tab R V (suc n) h k = (
  h n (omega arith),
  all_tab (λ v. pairing (R n) v ≡ 0) V n (λ i l. k n i (omega arith) (omega arith) (omega arith)),
  all_tab (λ r. pairing r (V n) ≡ 0) R n (λ i l. k i n (omega arith) (omega arith) (omega arith)),
  duals_tab R V n (λ i l. h i (omega arith)) (λ i j l m ne. k i j (omega arith) (omega arith) ne),
)

-- ---- products of stabilizers

module _ (D : ℕ → Label) (E : ℕ → Row) where
  -- what commutes with the stabilizers commutes with their products
  pub picked_comm : (r : Row) (a : Label) (m : ℕ) → ((i : ℕ) → i < m → Comm r (E i)) → Comm r (picked D E a m)
  picked_comm r a zero h = pairing_comm r.label zero_label ∙ pairing_zero r.label
  picked_comm r a (suc m) h =
      comm_times r (picked D E a m) (chosen (odd (pairing (D m) a)) (E m)) (picked_comm r a m (λ i l. h i (omega arith))) (chosen_comm r (E m) (odd (pairing (D m) a)) (h m (omega arith)))

  pub picked_both : (a b : Label) (m k : ℕ) → ((i j : ℕ) → i < m → j < k → Comm (E i) (E j)) → Comm (picked D E a m) (picked D E b k)
  picked_both a b m k h =
      picked_comm (picked D E a m) b k (λ j l. comm_swap (E j) (picked D E a m) (picked_comm (E j) a m (λ i l'. comm_swap (E i) (E j) (h i j l' l))))

  pub picked_zero : (a : Label) (m : ℕ) → ((i : ℕ) → i < m → pairing (D i) a ≡ 0) → picked D E a m ≡ zero_row
  picked_zero a zero h = refl
  picked_zero a (suc m) h =
      ap₂ times (picked_zero a m (λ i l. h i (omega arith))) (ap (λ (n : ℕ). chosen (odd n) (E m)) (h m (omega arith))) ∙ times_zero zero_row

  -- the product that one stabilizer chooses
  pub picked_one : (a : Label) (m q : ℕ) → q < m → pairing (D q) a ≡ 1 → ((i : ℕ) → i < m → i ≢ q → pairing (D i) a ≡ 0) → picked D E a m ≡ E q
  picked_one a zero q l e h = absurd (omega arith)
  picked_one a (suc m) q l e h = go (λ (l : q < m). picked_one a m q l e (λ i k ne. h i (omega arith) ne)) (ℕ_discrete q m)
    where
      go : (q < m → picked D E a m ≡ E q) → Dec (q ≡ m) → times (picked D E a m) (chosen (odd (pairing (D m) a)) (E m)) ≡ E q
      go r (yes p) =
          let e' : pairing (D m) a ≡ 1 = ap (λ (i : ℕ). pairing (D i) a) (sym p) ∙ e in
          ap₂ times (picked_zero a m (λ i k. h i (omega arith) (omega arith))) (ap (λ (n : ℕ). chosen (odd n) (E m)) e') ∙ zero_times (E m) ∙ ap E (sym p)
      go r (no p) =
          let e' : pairing (D m) a ≡ 0 = h m (omega arith) (λ x. p (sym x)) in
          ap₂ times (r (omega arith)) (ap (λ (n : ℕ). chosen (odd n) (E m)) e') ∙ times_zero (E q)

  pub picked_law : (a b : Label) (m : ℕ) → ((i j : ℕ) → i < m → j < m → Comm (E i) (E j)) → picked D E (plus a b) m ≡ times (picked D E a m) (picked D E b m)
  picked_law a b zero h = sym (times_zero zero_row)
  picked_law a b (suc m) h =
      let h' : (i j : ℕ) → i < m → j < m → Comm (E i) (E j) = λ i j l k. h i j (omega arith) (omega arith) in
      let A = picked D E a m in
      let B = picked D E b m in
      let ca = odd (pairing (D m) a) in
      let cb = odd (pairing (D m) b) in
      let x = chosen ca (E m) in
      let y = chosen cb (E m) in
      let c1 : odd (pairing (D m) (plus a b)) ≡ xorb ca cb = ap odd (pairing_r (D m) a b) ∙ ap (λ (v : ℕ). eqb v 1) (omega arith) ∙ odd_add (pairing (D m) a) (pairing (D m) b) in
      let c2 : chosen (odd (pairing (D m) (plus a b))) (E m) ≡ times x y = ap (λ (c : Bool). chosen c (E m)) c1 ∙ chosen_add ca cb (E m) in
      let eA : (a : Label) → Comm (picked D E a m) (E m) = λ a. comm_swap (E m) (picked D E a m) (picked_comm (E m) a m (λ i l. h m i (omega arith) (omega arith))) in
      ap₂ times (picked_law a b m h') c2
      ∙ interchange A B x y (picked_both a b m m h') (chosen_comm A (E m) ca (eA a)) (chosen_comm A (E m) cb (eA a)) (chosen_comm B (E m) ca (eA b)) (chosen_comm B (E m) cb (eA b))
      (chosen_comm2 (E m) (E m) ca cb (self_comm (E m)))

  pub picked_span : (a : Label) (m : ℕ) → Span (tab (λ i. (E i).label) m) (picked D E a m).label
  picked_span a zero = refl
  picked_span a (suc m) = go (picked_span a m) (odd (pairing (D m) a))
    where
      go : Span (tab (λ i. (E i).label) m) (picked D E a m).label → (b : Bool) → Span (tab (λ i. (E i).label) (suc m)) (plus (picked D E a m).label (chosen b (E m)).label)
      go s true = inr (subst (Span (tab (λ i. (E i).label) m)) (sym (ap (plus (E m).label) (plus_comm (picked D E a m).label (E m).label) ∙ plus_cancel (E m).label (picked D E a m).label)) s)
      go s false = inl (subst (Span (tab (λ i. (E i).label) m)) (sym (plus_zero (picked D E a m).label)) s)
