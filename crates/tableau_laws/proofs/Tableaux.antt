-- A tableau gives a lawful sheet.
use Rattle.std.proofs.Common.{◌≡◌, ℕ, zero, suc, ◌+◌, ◌<◌, Bool, false, ◌≢◌, ◌⊎◌, Some, sym, refl, ap, ◌∙◌, subst, ap₂, inl, inr, arith, pow_pos}
use native.Mathlib.Decide.{ℕ_discrete}
use Rattle.pauli.specs.declared.label.Label.{Label}
use Rattle.pauli.specs.declared.row.Row.{Row}
use Rattle.pauli.specs.Bits.{odd, xorb}
use Rattle.pauli.specs.Labels.{Within, beta, pairing, plus, zero_label}
use Rattle.pauli.specs.Rows.{row, times}
use Rattle.phase.specs.Sheets.{Central, Lawful, Valued, Values}
use Rattle.pauli_laws.specs.Spaces.{Span}
use Rattle.sheet_laws.specs.Closed.{Closed}
use Rattle.tableau_laws.specs.Laws.{Given, Gives}
use Rattle.tableau_laws.specs.Tableaux.{Tableau, picked}
use Rattle.pauli_laws.proofs.Algebra.{pairing_comm, pairing_l, pairing_r, pairing_zero, plus_within, plus_zero}
use Rattle.pauli_laws.proofs.Products.{Comm, comm_swap, comm_times, interchange, self_comm, times_assoc, times_comm, times_self, times_zero, zero_times}
use Rattle.pauli_laws.proofs.Spans.{comb, comb_inj, comb_span}
use Rattle.sheet_laws.proofs.Central.{central_plus, closed, plus_back}
use Rattle.sheet_laws.proofs.Counting.{span_holds, span_index}
use Rattle.sheet_laws.proofs.Frames.{maximal}
use Rattle.tableau_laws.proofs.Picked.{all_tab, duals_tab, length_tab, picked_both, picked_comm, picked_law, picked_one, picked_span, picked_zero, tab}

pub label_of : {r s : Row} → r ≡ s → r.label ≡ s.label
label_of e = ap (λ (r : Row). r.label) e

module _ (n m w : ℕ) (D : ℕ → Label) (E J : ℕ → Row) (f : Values) (T : Tableau n m w D E J) (R : Given m w D E J f) where
  abbrev P : Label → Row
  P a = picked D E a m

  pub JP : (q : ℕ) → q < w + w + 1 → (a : Label) → Comm (J q) (picked D E a m)
  JP q l a = picked_comm D E (J q) a m (λ i h. T.je q i l h)

  pub PP : (a b : Label) → Comm (picked D E a m) (picked D E b m)
  PP a b = picked_both D E a b m m T.ee

  pub law : (a b : Label) → picked D E (plus a b) m ≡ times (picked D E a m) (picked D E b m)
  law a b = picked_law D E a b m T.ee

  product : (a b : Label) (s r : Bool) → Gives m w D E J a s → Gives m w D E J b r → pairing a b ≡ 0 → Gives m w D E J (plus a b) (xorb (xorb s r) (odd (beta a b)))
  product a b s r va vb ab = go va vb
    where
      same_or : (q q' : ℕ) → q < w + w + 1 → q' < w + w + 1 → row a s ≡ times (P a) (J q) → row b r ≡ times (P b) (J q') → Dec (q ≡ q')
          → Gives m w D E J (plus a b) (xorb (xorb s r) (odd (beta a b)))
      same_or q q' l l' e g (yes h) =
          inl (ap₂ times e (g ∙ ap (λ (v : ℕ). times (P b) (J v)) (sym h))
          ∙ interchange (P a) (J q) (P b) (J q) (comm_swap (J q) (P a) (JP q l a)) (PP a b) (comm_swap (J q) (P a) (JP q l a)) (JP q l b) (self_comm (J q)) (comm_swap (J q) (P b) (JP q l b))
          ∙ ap (times (times (P a) (P b))) (times_self (J q)) ∙ times_zero (times (P a) (P b)) ∙ sym (law a b))
      same_or q q' l l' e g (no h) =
          absurd (omega (
            arith,
            ab,
            ap₂ pairing (label_of e) (label_of g),
            pairing_l (P a).label (J q).label (plus (P b).label (J q').label),
            pairing_r (P a).label (P b).label (J q').label,
            pairing_r (J q).label (P b).label (J q').label,
            PP a b,
            JP q' l' a,
            pairing_comm (J q').label (P a).label,
            JP q l b,
            T.jj q q' l l' h,
          ))

      go : Gives m w D E J a s → Gives m w D E J b r → Gives m w D E J (plus a b) (xorb (xorb s r) (odd (beta a b)))
      go (inl e) (inl g) = inl (ap₂ times e g ∙ sym (law a b))
      go (inl e) (inr (q, l, g)) =
          inr (q, l, ap₂ times e g ∙ sym (times_assoc (P a) (P b) (J q) (PP a b) (comm_swap (J q) (P a) (JP q l a)) (comm_swap (J q) (P b) (JP q l b))) ∙ ap (λ (t : Row). times t (J q)) (sym (law a b)))
      go (inr (q, l, e)) (inl g) =
          inr (
            q,
            l,
            ap₂ times e g ∙ times_assoc (P a) (J q) (P b) (comm_swap (J q) (P a) (JP q l a)) (PP a b) (JP q l b)
                ∙ ap (times (P a)) (times_comm (J q) (P b) (JP q l b)) ∙ sym (times_assoc (P a) (P b) (J q) (PP a b) (comm_swap (J q) (P a) (JP q l a)) (comm_swap (J q) (P b) (JP q l b)))
                ∙ ap (λ (t : Row). times t (J q)) (sym (law a b)),
          )
      go (inr (q, l, e)) (inr (q', l', g)) = same_or q q' l l' e g (ℕ_discrete q q')

  f_product : (a b : Label) (u v : Bool) → f a ≡ Some u → f b ≡ Some v → pairing a b ≡ 0 → f (plus a b) ≡ Some (xorb (xorb u v) (odd (beta a b)))
  f_product a b u v e g h = R.all (plus a b) (xorb (xorb u v) (odd (beta a b))) (product a b u v (R.only a u e) (R.only b v g) h)

  zero_read : f zero_label ≡ Some false
  zero_read = R.all zero_label false (inl (sym (picked_zero D E zero_label m (λ i l. pairing_comm (D i) zero_label ∙ pairing_zero (D i)))))

  -- a row that commutes with all rows but destabilizers
  pub commutes : (r : Row) → ((i : ℕ) → i < m → Comm r (E i)) → ((q : ℕ) → q < w + w + 1 → Comm r (J q)) → (b : Label) → Valued f b → pairing r.label b ≡ 0
  commutes r hE hJ b (u, e) = by (R.only b u e)
    where
      by : Gives m w D E J b u → pairing r.label b ≡ 0
      by (inl g) = ap (pairing r.label) (label_of g) ∙ picked_comm D E r b m hE
      by (inr (q, l, g)) = ap (pairing r.label) (label_of g) ∙ comm_times r (P b) (J q) (picked_comm D E r b m hE) (hJ q l)

  pub E_read : (i : ℕ) → i < m → f (E i).label ≡ Some (E i).sign
  E_read i l = R.all (E i).label (E i).sign (inl (sym (picked_one D E (E i).label m i l (pairing_comm (D i) (E i).label ∙ T.ed i l)
      (λ j k ne. pairing_comm (D j) (E i).label ∙ T.ed' i j l k (λ x. ne (sym x))))))

  pub J_read : (i : ℕ) → i < w + w + 1 → f (J i).label ≡ Some (J i).sign
  J_read i l = R.all (J i).label (J i).sign (inr (
    i,
    l,
    sym (ap (λ (t : Row). times t (J i)) (picked_zero D E (J i).label m (λ j k. pairing_comm (D j) (J i).label ∙ T.jd i j l k)) ∙ zero_times (J i)),
  ))

  pub E_central : (i : ℕ) → i < m → Central f (E i).label
  E_central i l = record { valued = ((E i).sign, E_read i l); commutes = commutes (E i) (λ j k. T.ee i j l k) (λ q k. comm_swap (J q) (E i) (T.je q i k l)) }

  span_central : (a : Label) → Span (tab (λ i. (E i).label) m) a → Central f a
  span_central a s =
      span_holds (Central f) (record { valued = (false, zero_read); commutes = λ b v. pairing_zero b }) (central_plus f f_product)
      (tab (λ i. (E i).label) m) (all_tab (Central f) (λ i. (E i).label) m E_central) a s

  -- what is in the centre is the product that it chooses
  pub central_label : (a : Label) → Central f a → (picked D E a m).label ≡ a
  central_label a q = by (R.only a q.valued.0 q.valued.1)
    where
      by : Gives m w D E J a q.valued.0 → (picked D E a m).label ≡ a
      by (inl e) = sym (label_of e)
      by (inr (r, l, e)) = go (ℕ_discrete w 0)
        where
          against : (j : ℕ) → j < w + w + 1 → r ≢ j → ⊥
          against j k ne =
              omega (
                arith,
                q.commutes (J j).label ((J j).sign, J_read j k),
                ap (λ (x : Label). pairing x (J j).label) (label_of e),
                pairing_l (P a).label (J r).label (J j).label,
                JP j k a,
                pairing_comm (P a).label (J j).label,
                T.jj r j l k ne,
              )

          other : (r : ℕ) → (r ≢ 0 → ⊥) → (r ≢ 1 → ⊥) → ⊥
          other zero h k = k (omega arith)
          other (suc r) h k = h (omega arith)

          go : Dec (w ≡ 0) → (picked D E a m).label ≡ a
          go (yes z) =
              let r0 : r ≡ 0 = omega arith in
              let j0 : (J r).label ≡ zero_label = label_of (ap J r0 ∙ T.alone z) in
              sym (label_of e ∙ ap (plus (P a).label) j0 ∙ plus_zero (P a).label)
          go (no z) = absurd (other r (against 0 (omega arith)) (against 1 (omega arith)))

  central_span : (a : Label) → Central f a → Span (tab (λ i. (E i).label) m) a
  central_span a q = subst (Span (tab (λ i. (E i).label) m)) (central_label a q) (picked_span D E a m)

  pub tableau_closed : Closed n m (w + w + 1) f
  tableau_closed = record {
    zero = zero_read;
    product = f_product;
    within = λ a v. inside a (R.only a v.0 v.1);
    centre = record {
      at = comb (tab (λ i. (E i).label) m);
      is = λ i l. span_central (comb (tab (λ i. (E i).label) m) i) (comb_span (tab (λ i. (E i).label) m) i);
      once = λ i j hi hj e. comb_inj (tab (λ i. (E i).label) m) (tab D m) (duals_tab (λ i. (E i).label) D m T.ed T.ed') i j (rw (length_tab (λ i. (E i).label) m) hi) (rw (length_tab (λ i. (E i).label) m) hj) e;
      all = λ a q. let p = span_index (tab (λ i. (E i).label) m) a (central_span a q) in (p.0, rw (length_tab (λ i. (E i).label) m) at p.1, p.2);
    };
    J = λ i. (J i).label;
    stands = λ i l. ((J i).sign, J_read i l);
    apart = T.jj;
    each = λ a v. by a (R.only a v.0 v.1);
  }
    where
      zero_in : Within n zero_label
      zero_in = record { x = pow_pos n; z = pow_pos n }

      picked_in : (a : Label) → Within n (picked D E a m).label
      picked_in a = span_holds (Within n) zero_in (plus_within n) (tab (λ i. (E i).label) m) (all_tab (Within n) (λ i. (E i).label) m T.E_within) (picked D E a m).label (picked_span D E a m)

      inside : (a : Label) {s : Bool} → Gives m w D E J a s → Within n a
      inside a (inl e) = subst (Within n) (sym (label_of e)) (picked_in a)
      inside a (inr (q, l, e)) = subst (Within n) (sym (label_of e)) (plus_within n (picked D E a m).label (J q).label (picked_in a) (T.J_within q l))

      by : (a : Label) {s : Bool} → Gives m w D E J a s → Central f a ⊎ ((i : ℕ) × (i < w + w + 1) × Central f (plus a (J i).label))
      by a (inl e) = inl (span_central a (subst (Span (tab (λ i. (E i).label) m)) (sym (label_of e)) (picked_span D E a m)))
      by a (inr (q, l, e)) =
          inr (
            q,
            l,
            span_central (plus a (J q).label) (subst (Span (tab (λ i. (E i).label) m))
                (sym (ap (λ (x : Label). plus x (J q).label) (label_of e) ∙ plus_back (picked D E a m).label (J q).label)) (picked_span D E a m)),
          )

  pub tableau_J : tableau_closed.J ≡ (λ i. (J i).label)
  unfolding tableau_closed
  tableau_J = refl

  pub tableau_lawful : Lawful (record { n = n; width = w; value = f })
  tableau_lawful = closed (record { n = n; width = w; value = f }) T.qubits (omega (arith, T.size))
      (subst (λ (c : ℕ). Closed n c (w + w + 1) f) (omega (arith, T.size)) tableau_closed)

  pub tableau_central : (b : Label) → Within n b → ((i : ℕ) → i < m → pairing (E i).label b ≡ 0) → ((i : ℕ) → i < w + w + 1 → pairing (J i).label b ≡ 0)
      → picked D E b m ≡ row b (picked D E b m).sign
  tableau_central b wb hE hJ =
      let q = maximal (record { n = n; width = w; value = f }) tableau_lawful b wb
      (λ a v. pairing_comm a b ∙ commutes (row b false) (λ i l. pairing_comm b (E i).label ∙ hE i l) (λ i l. pairing_comm b (J i).label ∙ hJ i l) a v) in
      ap (λ (l : Label). row l (picked D E b m).sign) (central_label b q)
