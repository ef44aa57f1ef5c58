-- The value that a tableau answers is the one that its rows give.
use Rattle.std.proofs.Common.{◌≡◌, ℕ, zero, suc, ◌+◌, ◌-◌, ◌/◌, ◌%◌, ◌<◌, Bool, true, false, cond, ◌&&◌, eqb, ◌≢◌, ◌⊎◌, Some, None, Option, sym, refl, ap, ◌∙◌, ap₂, inl, inr, arith}
use native.Mathlib.Decide.{ℕ_discrete}
use Rattle.pauli.specs.declared.label.Label.{Label}
use Rattle.pauli.specs.declared.row.Row.{Row}
use Rattle.pauli.specs.declared.case.Case.{Case}
use Rattle.pauli.specs.declared.case.Case.TheVariants.{One, Two, Three, Four}
use Rattle.pauli.specs.Bits.{odd}
use Rattle.pauli.specs.Labels.{Within, fits, pairing, plus, zero_label}
use Rattle.pauli.specs.Rows.{row, times, zero_row}
use Rattle.phase.specs.LabelCases.{InCase, Looked, WithCentre, against}
use Rattle.phase.specs.Sheets.{Lawful, Valued, Values}
use Rattle.tableau_laws.specs.Laws.{Given, Gives}
use Rattle.tableau_laws.specs.Tableaux.{Tableau, answer, fellow, jw_count, look_of, picked, sign_read, stab_count, tableau_sheet}
use Rattle.phase.proofs.Unique.{not_both}
use Rattle.pauli_laws.proofs.Algebra.{label_eq, pairing_comm, pairing_lt, pairing_r, pairing_self, pairing_zero, plus_inj, plus_within, plus_zero}
use Rattle.pauli_laws.proofs.Numbers.{bit_cases}
use Rattle.pauli_laws.proofs.Texts.{fits_within, within_fits}
use Rattle.pauli_laws.proofs.Products.{comm_swap, times_zero}
use Rattle.sheet_laws.proofs.Central.{open_rays, open_rays_J, plus_back, some_inj}
use Rattle.sheet_laws.proofs.Frames.{maximal}
use Rattle.sheet_laws.proofs.Rays.{Chosen, anti, but_one, commuting, even, none_against, same_count, three_left}
use Rattle.tableau_laws.proofs.Picked.{picked_comm, picked_law, picked_zero}
use Rattle.tableau_laws.proofs.Tests.{eq_false, eq_of, eq_true, ne_of, seek}
use Rattle.tableau_laws.proofs.Tableaux.{E_central, J_read, JP, central_label, commutes, label_of, tableau_J, tableau_central, tableau_closed, tableau_lawful}

-- ---- counts

-- where none anticommutes, all commute
pub zero_count : (R : ℕ → Label) (b : Label) (k : ℕ) → against R b k ≡ 0 → (i : ℕ) → i < k → pairing (R i) b ≡ 0
zero_count R b k e i l = go (bit_cases (pairing (R i) b) (pairing_lt (R i) b))
  where
    go : (pairing (R i) b ≡ 0) ⊎ (pairing (R i) b ≡ 1) → pairing (R i) b ≡ 0
    go (inl z) = z
    go (inr z) = let c = (anti R b k).1.whole i l z in absurd (omega (arith, c.1, e))

-- where all but one anticommute
one_count : (R : ℕ → Label) (b : Label) (k : ℕ) → suc (against R b k) ≡ k → (q : ℕ) × (q < k) × (pairing (R q) b ≡ 0) × ((i : ℕ) → i < k → i ≢ q → pairing (R i) b ≡ 1)
one_count R b k e = go (commuting R b k)
  where
    go : (r : ℕ) × (q : ℕ → ℕ) × (r + against R b k ≡ k) × Chosen R b k 0 r q → (q : ℕ) × (q < k) × (pairing (R q) b ≡ 0) × ((i : ℕ) → i < k → i ≢ q → pairing (R i) b ≡ 1)
    go (r, q, s, C) =
        let r1 : r ≡ 1 = omega arith in
        (q 0, C.below 0 (omega arith), C.is 0 (omega arith), λ i l ne. by i l ne r1 (bit_cases (pairing (R i) b) (pairing_lt (R i) b)))
      where
        by : (i : ℕ) → i < k → i ≢ q 0 → r ≡ 1 → (pairing (R i) b ≡ 0) ⊎ (pairing (R i) b ≡ 1) → pairing (R i) b ≡ 1
        by i l ne r1 (inr z) = z
        by i l ne r1 (inl z) =
            let c = C.whole i l z in
            let c0 : c.0 ≡ 0 = omega (arith, c.1) in
            absurd (ne (sym c.2 ∙ ap q c0))

module _ (n m w : ℕ) (D : ℕ → Label) (E J : ℕ → Row) (T : Tableau n m w D E J) where
  abbrev Ray : Label → Type 0
  Ray a = (q : ℕ) × (q < w + w + 1) × (plus (picked D E a m).label (J q).label ≡ a)

  ray_dec : (a : Label) → Dec (Ray a)
  ray_dec a = seek (w + w + 1) (λ q. plus (picked D E a m).label (J q).label ≡ a) (λ q. label_eq (plus (picked D E a m).label (J q).label) a)

  -- by search
  give : (a : Label) → Dec ((picked D E a m).label ≡ a) → Dec (Ray a) → Option Bool
  give a (yes e) d = Some (picked D E a m).sign
  give a (no h) (yes (q, l, e)) = Some (times (picked D E a m) (J q)).sign
  give a (no h) (no k) = None

  f₀ : Values
  f₀ a = give a (label_eq (picked D E a m).label a) (ray_dec a)

  -- two rays differ, and neither is zero
  J_apart : (q r : ℕ) → q < w + w + 1 → r < w + w + 1 → (J q).label ≡ (J r).label → q ≡ r
  J_apart q r l k e = go (ℕ_discrete q r)
    where
      go : Dec (q ≡ r) → q ≡ r
      go (yes p) = p
      go (no ne) = absurd (omega (arith, T.jj q r l k ne, ap (λ (x : Label). pairing x (J r).label) e, pairing_self (J r).label))

  J_zero : (q : ℕ) → q < w + w + 1 → (J q).label ≡ zero_label → J q ≡ zero_row
  J_zero q l e = go (ℕ_discrete w 0)
    where
      far : (j : ℕ) → j < w + w + 1 → q ≢ j → ⊥
      far j k ne = omega (arith, T.jj q j l k ne, ap (λ (x : Label). pairing x (J j).label) e, pairing_zero (J j).label)

      other : (q : ℕ) → (q ≢ 0 → ⊥) → (q ≢ 1 → ⊥) → ⊥
      other zero h k = k (omega arith)
      other (suc q) h k = h (omega arith)

      go : Dec (w ≡ 0) → J q ≡ zero_row
      go (yes z) = let q0 : q ≡ 0 = omega arith in ap J q0 ∙ T.alone z
      go (no z) = absurd (other q (far 0 (omega arith)) (far 1 (omega arith)))

  sign_of : {r s : Row} → r ≡ s → r.sign ≡ s.sign
  sign_of e = ap (λ (r : Row). r.sign) e

  read₀ : Given m w D E J f₀
  unfolding f₀ give
  read₀ = record {
    only = λ a s e. only a s (label_eq (picked D E a m).label a) (ray_dec a) e;
    all = λ a s r. all a s (label_eq (picked D E a m).label a) (ray_dec a) r;
  }
    where
      only : (a : Label) (s : Bool) (d : Dec ((picked D E a m).label ≡ a)) (d' : Dec (Ray a)) → give a d d' ≡ Some s → Gives m w D E J a s
      only a s (yes e) d g = inl (ap₂ row (sym e) (sym (some_inj (picked D E a m).sign s g)))
      only a s (no h) (yes (q, l, e)) g = inr (q, l, ap₂ row (sym e) (sym (some_inj (times (picked D E a m) (J q)).sign s g)))
      only a s (no h) (no k) g = not_both g refl

      all : (a : Label) (s : Bool) (d : Dec ((picked D E a m).label ≡ a)) (d' : Dec (Ray a)) → Gives m w D E J a s → give a d d' ≡ Some s
      all a s (yes e) d (inl r) = ap Some (sym (sign_of r))
      all a s (yes e) d (inr (q, l, r)) =
          let z : (J q).label ≡ zero_label = plus_inj (picked D E a m).label (J q).label zero_label (sym (label_of r) ∙ sym e ∙ sym (plus_zero (picked D E a m).label)) in
          ap Some (sym (sign_of (r ∙ ap (times (picked D E a m)) (J_zero q l z) ∙ times_zero (picked D E a m))))
      all a s (no h) d (inl r) = absurd (h (sym (label_of r)))
      all a s (no h) (yes (q, l, e)) (inr (q', l', r)) =
          let p : q ≡ q' = J_apart q q' l l' (plus_inj (picked D E a m).label (J q).label (J q').label (e ∙ label_of r)) in
          ap Some (sign_of (ap (λ (i : ℕ). times (picked D E a m) (J i)) p) ∙ sym (sign_of r))
      all a s (no h) (no k) (inr (q, l, r)) = absurd (k (q, l, sym (label_of r)))

  -- ---- what the counts tell of a label

  -- commuting with stabilizers and Jordan-Wigner rows
  pub central_product : (b : Label) → Within n b → ((i : ℕ) → i < m → pairing (E i).label b ≡ 0) → ((i : ℕ) → i < w + w + 1 → pairing (J i).label b ≡ 0)
      → (picked D E b m).label ≡ b
  central_product b wb hE hJ = label_of (tableau_central n m w D E J f₀ T read₀ b wb hE hJ)

  -- commuting with stabilizers and one Jordan-Wigner row
  pub ray_product : (b : Label) (q : ℕ) → q < w + w + 1 → Within n b → ((i : ℕ) → i < m → pairing (E i).label b ≡ 0) → pairing (J q).label b ≡ 0
      → ((i : ℕ) → i < w + w + 1 → i ≢ q → pairing (J i).label b ≡ 1) → plus (picked D E b m).label (J q).label ≡ b
  ray_product b q l wb hE hq hJ =
      let x = plus b (J q).label in
      let e : (picked D E x m).label ≡ x = central_product x (plus_within n b (J q).label wb (T.J_within q l))
      (λ i k. omega (arith, pairing_r (E i).label b (J q).label, hE i k, pairing_comm (E i).label (J q).label, T.je q i l k))
      (λ i k. each i k (ℕ_discrete i q)) in
      let p : picked D E x m ≡ picked D E b m = picked_law D E b (J q).label m T.ee ∙ ap (times (picked D E b m)) (picked_zero D E (J q).label m (λ j k. pairing_comm (D j) (J q).label ∙ T.jd q j l k)) ∙ times_zero (picked D E b m) in
      ap (λ (y : Label). plus y (J q).label) (sym (label_of p) ∙ e) ∙ plus_back b (J q).label
    where
      each : (i : ℕ) → i < w + w + 1 → Dec (i ≡ q) → pairing (J i).label (plus b (J q).label) ≡ 0
      each i k (yes p) =
          ap (λ (j : ℕ). pairing (J j).label (plus b (J q).label)) p ∙ omega (arith, pairing_r (J q).label b (J q).label, hq, pairing_self (J q).label)
      each i k (no ne) = omega (arith, pairing_r (J i).label b (J q).label, hJ i k ne, T.jj i q k l ne)

  -- the row that commutes with a, where only one does
  fellow_is : (a : Label) (k q : ℕ) → q < k → pairing (J q).label a ≡ 0 → ((i : ℕ) → i < k → i ≢ q → pairing (J i).label a ≡ 1) → fellow J a k ≡ J q
  fellow_is a zero q l z h = absurd (omega arith)
  fellow_is a (suc k) q l z h = go (λ (l : q < k). fellow_is a k q l z (λ i j ne. h i (omega arith) ne)) (ℕ_discrete q k)
    where
      go : (q < k → fellow J a k ≡ J q) → Dec (q ≡ k) → cond (odd (pairing (J k).label a)) (fellow J a k) (J k) ≡ J q
      go r (yes p) = ap (λ (x : ℕ). cond (odd x) (fellow J a k) (J k)) (ap (λ (i : ℕ). pairing (J i).label a) (sym p) ∙ z) ∙ ap J (sym p)
      go r (no p) = ap (λ (x : ℕ). cond (odd x) (fellow J a k) (J k)) (h k (omega arith) (λ x. p (sym x))) ∙ r (omega arith)

  -- ---- the answer by its tests

  abbrev inner : Label → Bool → Bool → Option Bool
  inner a p q = cond p (Some (picked D E a m).sign) (cond q (Some (times (picked D E a m) (fellow J a (w + w + 1))).sign) None)

  say : (a : Label) (x y z u : Bool) → fits n a ≡ x → eqb (stab_count m E a) 0 ≡ y → eqb (jw_count w J a) 0 ≡ z → eqb (jw_count w J a) (w + w) ≡ u
      → answer n m w D E J a ≡ cond (x && y) (inner a z u) None
  unfolding fits
  say a x y z u ex ey ez eu =
      ap₂ (λ (p q : Bool). cond (p && q) (inner a (eqb (jw_count w J a) 0) (eqb (jw_count w J a) (w + w))) None) ex ey
      ∙ ap₂ (λ (p q : Bool). cond (x && y) (inner a p q) None) ez eu

  stop_comm : (a : Label) → stab_count m E a ≡ 0 → (i : ℕ) → i < m → pairing (E i).label a ≡ 0
  stop_comm a e = zero_count (λ i. (E i).label) a m e

  turn_comm : (a : Label) → jw_count w J a ≡ 0 → (i : ℕ) → i < w + w + 1 → pairing (J i).label a ≡ 0
  turn_comm a e = zero_count (λ i. (J i).label) a (w + w + 1) e

  only : (a : Label) (s : Bool) (x y z u : Bool) → fits n a ≡ x → eqb (stab_count m E a) 0 ≡ y → eqb (jw_count w J a) 0 ≡ z → eqb (jw_count w J a) (w + w) ≡ u
      → answer n m w D E J a ≡ Some s → Gives m w D E J a s
  only a s false y z u ex ey ez eu e = not_both (sym (say a false y z u ex ey ez eu) ∙ e) refl
  only a s true false z u ex ey ez eu e = not_both (sym (say a true false z u ex ey ez eu) ∙ e) refl
  only a s true true false false ex ey ez eu e = not_both (sym (say a true true false false ex ey ez eu) ∙ e) refl
  only a s true true true u ex ey ez eu e =
      inl (ap₂ row (sym (central_product a (fits_within n a ex) (stop_comm a (eq_of (stab_count m E a) 0 ey)) (turn_comm a (eq_of (jw_count w J a) 0 ez))))
      (sym (some_inj (picked D E a m).sign s (sym (say a true true true u ex ey ez eu) ∙ e))))
  only a s true true false true ex ey ez eu e =
      let c = one_count (λ i. (J i).label) a (w + w + 1) (omega (arith, eq_of (jw_count w J a) (w + w) eu)) in
      let q = c.0 in
      let l = ray_product a q c.1 (fits_within n a ex) (stop_comm a (eq_of (stab_count m E a) 0 ey)) c.2 c.3 in
      let r = fellow_is a (w + w + 1) q c.1 c.2 c.3 in
      inr (
        q,
        c.1,
        ap₂ row (sym l)
            (sym (some_inj (times (picked D E a m) (fellow J a (w + w + 1))).sign s (sym (say a true true false true ex ey ez eu) ∙ e)) ∙ sign_of (ap (times (picked D E a m)) r)),
      )

  valued₀ : (a : Label) (s : Bool) → Gives m w D E J a s → Valued f₀ a
  valued₀ a s r = (s, read₀.all a s r)

  inside : (a : Label) (s : Bool) → Gives m w D E J a s → Within n a
  inside a s r = (tableau_closed n m w D E J f₀ T read₀).within a (valued₀ a s r)

  no_stab_count : (a : Label) (s : Bool) → Gives m w D E J a s → stab_count m E a ≡ 0
  no_stab_count a s r =
      none_against (λ i. (E i).label) a m
      (λ i l. commutes n m w D E J f₀ T read₀ (E i) (λ j k. T.ee i j l k) (λ q k. comm_swap (J q) (E i) (T.je q i k l)) a (valued₀ a s r))

  all : (a : Label) (s : Bool) → Gives m w D E J a s → answer n m w D E J a ≡ Some s
  all a s (inl r) =
      let z : jw_count w J a ≡ 0 = none_against (λ i. (J i).label) a (w + w + 1) (λ i l. ap (pairing (J i).label) (label_of r) ∙ JP n m w D E J f₀ T read₀ i l a) in
      say a true true true (eqb (jw_count w J a) (w + w)) (within_fits n a (inside a s (inl r))) (eq_true (stab_count m E a) 0 (no_stab_count a s (inl r))) (eq_true (jw_count w J a) 0 z) refl
      ∙ ap Some (sym (sign_of r))
  all a s (inr (q, l, r)) = go (ℕ_discrete w 0)
    where
      like : (i : ℕ) → i < w + w + 1 → pairing (J i).label a ≡ pairing (J i).label (J q).label
      like i k = ap (pairing (J i).label) (label_of r) ∙ omega (arith, pairing_lt, pairing_r (J i).label (picked D E a m).label (J q).label, JP n m w D E J f₀ T read₀ i k a)

      at_q : pairing (J q).label a ≡ 0
      at_q = like q l ∙ pairing_self (J q).label

      off_q : (i : ℕ) → i < w + w + 1 → i ≢ q → pairing (J i).label a ≡ 1
      off_q i k ne = like i k ∙ T.jj i q k l ne

      count : suc (jw_count w J a) ≡ w + w + 1
      count = but_one (λ i. (J i).label) a (w + w + 1) q l at_q off_q

      ok : fits n a ≡ true
      ok = within_fits n a (inside a s (inr (q, l, r)))

      ok' : eqb (stab_count m E a) 0 ≡ true
      ok' = eq_true (stab_count m E a) 0 (no_stab_count a s (inr (q, l, r)))

      go : Dec (w ≡ 0) → answer n m w D E J a ≡ Some s
      go (yes z) =
          let q0 : q ≡ 0 = omega arith in
          say a true true true (eqb (jw_count w J a) (w + w)) ok ok' (eq_true (jw_count w J a) 0 (omega (arith, count))) refl
          ∙ ap Some (sym (sign_of (r ∙ ap (times (picked D E a m)) (ap J q0 ∙ T.alone z) ∙ times_zero (picked D E a m))))
      go (no z) =
          say a true true false true ok ok' (eq_false (jw_count w J a) 0 (omega (arith, count, z))) (eq_true (jw_count w J a) (w + w) (omega (arith, count)))
          ∙ ap Some (sign_of (ap (times (picked D E a m)) (fellow_is a (w + w + 1) q l at_q off_q)) ∙ sym (sign_of r))

  pub reads : Given m w D E J (answer n m w D E J)
  reads = record {
    only = λ a s e. only a s (fits n a) (eqb (stab_count m E a) 0) (eqb (jw_count w J a) 0) (eqb (jw_count w J a) (w + w)) refl refl refl refl e;
    all = all;
  }

  pub lawful : Lawful (tableau_sheet n m w D E J)
  lawful = tableau_lawful n m w D E J (answer n m w D E J) T reads

  -- ---- the cases by the counts

  module _ (b : Label) (wb : Within n b) where
    with_centre : stab_count m E b ≡ 0 → WithCentre (answer n m w D E J) b
    with_centre e a q =
        ap (λ (x : Label). pairing x b) (sym (central_label n m w D E J (answer n m w D E J) T reads a q))
        ∙ pairing_comm (picked D E a m).label b ∙ picked_comm D E (row b false) a m (λ i l. pairing_comm b (E i).label ∙ stop_comm b e i l)

    J_valued : (i : ℕ) → i < w + w + 1 → Valued (answer n m w D E J) (J i).label
    J_valued i l = ((J i).sign, J_read n m w D E J (answer n m w D E J) T reads i l)

    one : stab_count m E b ≡ 0 → jw_count w J b ≡ 0 → InCase (answer n m w D E J) b One
    one e z = maximal (tableau_sheet n m w D E J) lawful b wb
        (λ a v. pairing_comm a b ∙ commutes n m w D E J (answer n m w D E J) T reads (row b false)
        (λ i l. pairing_comm b (E i).label ∙ stop_comm b e i l) (λ i l. pairing_comm b (J i).label ∙ turn_comm b z i l) a v)

    two : stab_count m E b ≡ 0 → jw_count w J b ≢ 0 → jw_count w J b ≡ w + w → InCase (answer n m w D E J) b Two
    two e ne z = record {
      valued = (
        (times (picked D E b m) (fellow J b (w + w + 1))).sign,
        say b true true false true (within_fits n b wb) (eq_true (stab_count m E b) 0 e) (eq_false (jw_count w J b) 0 ne) (eq_true (jw_count w J b) (w + w) z),
      );
      outside = λ q. ne (none_against (λ i. (J i).label) b (w + w + 1) (λ i l. pairing_comm (J i).label b ∙ q.commutes (J i).label (J_valued i l)));
    }

    -- the sign read is the value
    pub value_read : stab_count m E b ≡ 0 → (jw_count w J b ≡ 0) ⊎ (jw_count w J b ≡ w + w) → answer n m w D E J b ≡ Some (sign_read m w D E J b)
    value_read e k = go (eqb (jw_count w J b) 0) (eqb (jw_count w J b) (w + w)) refl refl k
      where
        go : (y z : Bool) → eqb (jw_count w J b) 0 ≡ y → eqb (jw_count w J b) (w + w) ≡ z → (jw_count w J b ≡ 0) ⊎ (jw_count w J b ≡ w + w)
            → answer n m w D E J b ≡ Some (cond y (picked D E b m).sign (times (picked D E b m) (fellow J b (w + w + 1))).sign)
        go true z ey ez k = say b true true true z (within_fits n b wb) (eq_true (stab_count m E b) 0 e) ey ez
        go false true ey ez k = say b true true false true (within_fits n b wb) (eq_true (stab_count m E b) 0 e) ey ez
        go false false ey ez (inl x) = absurd (ne_of (jw_count w J b) 0 ey x)
        go false false ey ez (inr x) = absurd (ne_of (jw_count w J b) (w + w) ez x)

    unvalued : stab_count m E b ≡ 0 → jw_count w J b ≢ 0 → jw_count w J b ≢ w + w → answer n m w D E J b ≡ None
    unvalued e ne nz = say b true true false false (within_fits n b wb) (eq_true (stab_count m E b) 0 e) (eq_false (jw_count w J b) 0 ne) (eq_false (jw_count w J b) (w + w) nz)

    -- an even number of Jordan-Wigner rows anticommutes with b
    pub jw_even : stab_count m E b ≡ 0 → jw_count w J b % 2 ≡ 0
    jw_even e =
        ap (λ (R : ℕ → Label). against R b (w + w + 1) % 2) (sym (tableau_J n m w D E J (answer n m w D E J) T reads))
        ∙ even n m w (answer n m w D E J) (tableau_closed n m w D E J (answer n m w D E J) T reads) T.size b wb (with_centre e)

    pub three : stab_count m E b ≡ 0 → jw_count w J b ≢ 0 → jw_count w J b ≢ w + w → Looked (tableau_sheet n m w D E J) b Three (jw_count w J b / 2)
    three e ne nz =
        let h = with_centre e in
        let none = unvalued e ne nz in
        let S = tableau_closed n m w D E J (answer n m w D E J) T reads in
        let eJ : against S.J b (w + w + 1) ≡ jw_count w J b = ap (λ (R : ℕ → Label). against R b (w + w + 1)) (tableau_J n m w D E J (answer n m w D E J) T reads) in
        let hi = three_left n m w (answer n m w D E J) S T.size b wb h none in
        record {
          kind = (none, h);
          needs = record {
            wide = omega (arith, hi);
            count = λ R.
                ap (λ (K : ℕ → Label). against K b (w + w + 1)) (sym (open_rays_J (tableau_sheet n m w D E J) lawful R))
                ∙ same_count n (w + w + 1) (answer n m w D E J) b h (omega (arith, hi)) (n - w) m (open_rays (tableau_sheet n m w D E J) lawful R) S
                ∙ eJ ∙ half (jw_count w J b) (jw_even e);
          };
        }
      where
        half : (x : ℕ) → x % 2 ≡ 0 → x ≡ x / 2 + x / 2
        half x e = omega arith

    pub four : stab_count m E b ≢ 0 → InCase (answer n m w D E J) b Four
    four ne = (
      say b true false (eqb (jw_count w J b) 0) (eqb (jw_count w J b) (w + w)) (within_fits n b wb) (eq_false (stab_count m E b) 0 ne) refl refl,
      λ h. by h (anti (λ i. (E i).label) b m),
    )
      where
        by : WithCentre (answer n m w D E J) b → (q : ℕ → ℕ) × Chosen (λ i. (E i).label) b m 1 (stab_count m E b) q → ⊥
        by h (q, C) =
            let i = q 0 in
            let l = C.below 0 (omega (arith, ne)) in
            omega (arith, h (E i).label (E_central n m w D E J (answer n m w D E J) T reads i l), C.is 0 (omega (arith, ne)))

    abbrev pub pick : Bool → Bool → Bool → Case × ℕ
    pick x y z = cond x (cond y (One, 0) (cond z (Two, 1) (Three, jw_count w J b / 2))) (Four, 1)

    -- a look by the two counts
    pub looked : Looked (tableau_sheet n m w D E J) b (look_of m w E J b).0 (look_of m w E J b).1
    looked = go (eqb (stab_count m E b) 0) (eqb (jw_count w J b) 0) (eqb (jw_count w J b) (w + w)) refl refl refl
      where
        go : (x y z : Bool) → eqb (stab_count m E b) 0 ≡ x → eqb (jw_count w J b) 0 ≡ y → eqb (jw_count w J b) (w + w) ≡ z
            → Looked (tableau_sheet n m w D E J) b (pick x y z).0 (pick x y z).1
        go true true z ex ey ez = record { kind = one (eq_of (stab_count m E b) 0 ex) (eq_of (jw_count w J b) 0 ey); needs = refl }
        go true false true ex ey ez = record { kind = two (eq_of (stab_count m E b) 0 ex) (ne_of (jw_count w J b) 0 ey) (eq_of (jw_count w J b) (w + w) ez); needs = refl }
        go true false false ex ey ez = three (eq_of (stab_count m E b) 0 ex) (ne_of (jw_count w J b) 0 ey) (ne_of (jw_count w J b) (w + w) ez)
        go false y z ex ey ez = record { kind = four (ne_of (stab_count m E b) 0 ex); needs = refl }
