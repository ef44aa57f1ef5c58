-- What the rows mean: the centre is the products of stabilizers, and each Jordan-Wigner row times it is a ray.
use Rattle.std.proofs.Common.{◌≡◌, ℕ, zero, suc, ◌+◌, ◌<◌, Bool, true, false, ◌≢◌, ◌⊎◌, Some, sym, refl, ap, ◌∙◌, subst, inl, inr, arith}
use Rattle.pauli.specs.declared.label.Label.{Label}
use Rattle.pauli.specs.declared.row.Row.{Row}
use Rattle.pauli.specs.Bits.{odd}
use Rattle.pauli.specs.Labels.{pairing, plus, zero_label}
use Rattle.phase.specs.Sheets.{Central, Outer}
use Rattle.pauli_laws.specs.Products.{chosen}
use Rattle.sheet_laws.specs.Closed.{Closed}
use Rattle.tableau_laws.specs.Laws.{SomeProduct}
use Rattle.tableau_laws.specs.Places.{total}
use Rattle.tableau_laws.specs.Tableaux.{Tableau, answer, picked}
use Rattle.pauli_laws.proofs.Algebra.{pairing_l, pairing_zero, plus_comm, plus_right}
use Rattle.sheet_laws.proofs.Central.{central_plus, shifted}
use Rattle.tableau_laws.proofs.Answered.{lawful, reads}
use Rattle.tableau_laws.proofs.Sole.{J_has}
use Rattle.tableau_laws.proofs.Tableaux.{E_central, central_label, tableau_J, tableau_closed}

-- c as a sum of labels
pub picked_total : (D : ℕ → Label) (E : ℕ → Row) (b : Label) (m : ℕ) → (picked D E b m).label ≡ total (λ i. (chosen (odd (pairing (D i) b)) (E i)).label) m
picked_total D E b zero = refl
picked_total D E b (suc m) =
    plus_comm (picked D E b m).label (chosen (odd (pairing (D m) b)) (E m)).label ∙ ap (plus (chosen (odd (pairing (D m) b)) (E m)).label) (picked_total D E b m)

module _ (n m w : ℕ) (D : ℕ → Label) (E J : ℕ → Row) (T : Tableau n m w D E J) where
  S : Closed n m (w + w + 1) (answer n m w D E J)
  S = tableau_closed n m w D E J (answer n m w D E J) T (reads n m w D E J T)

  pub centre_is : (a : Label) → Central (answer n m w D E J) a → SomeProduct m E a
  centre_is a q = (
    λ i. odd (pairing (D i) a),
    sym (central_label n m w D E J (answer n m w D E J) T (reads n m w D E J T) a q) ∙ picked_total D E a m,
  )

  pub is_centre : (a : Label) → SomeProduct m E a → Central (answer n m w D E J) a
  is_centre a (c, e) = subst (Central (answer n m w D E J)) (sym e) (go m (λ i l. E_central n m w D E J (answer n m w D E J) T (reads n m w D E J T) i l))
    where
      zero_in : Central (answer n m w D E J) zero_label
      zero_in = record { valued = (false, (lawful n m w D E J T).zero); commutes = λ b v. pairing_zero b }

      enter : (x : Bool) (r : Row) → Central (answer n m w D E J) r.label → Central (answer n m w D E J) (chosen x r).label
      enter true r h = h
      enter false r h = zero_in

      go : (k : ℕ) → ((i : ℕ) → i < k → Central (answer n m w D E J) (E i).label) → Central (answer n m w D E J) (total (λ i. (chosen (c i) (E i)).label) k)
      go zero h = zero_in
      go (suc k) h =
          central_plus (answer n m w D E J) (lawful n m w D E J T).product (chosen (c k) (E k)).label (total (λ i. (chosen (c i) (E i)).label) k)
          (enter (c k) (E k) (h k (omega arith))) (go k (λ i l. h i (omega arith)))

  pub ray_is : (a : Label) → Outer (answer n m w D E J) a → (q : ℕ) × (q < w + w + 1) × Central (answer n m w D E J) (plus a (J q).label)
  ray_is a o = go ((tableau_closed n m w D E J (answer n m w D E J) T (reads n m w D E J T)).each a o.valued)
    where
      J_is : (i : ℕ) → (tableau_closed n m w D E J (answer n m w D E J) T (reads n m w D E J T)).J i ≡ (J i).label
      J_is i = ap (λ (f : ℕ → Label). f i) (tableau_J n m w D E J (answer n m w D E J) T (reads n m w D E J T))

      go : Central (answer n m w D E J) a ⊎ ((i : ℕ) × (i < w + w + 1) × Central (answer n m w D E J) (plus a ((tableau_closed n m w D E J (answer n m w D E J) T (reads n m w D E J T)).J i)))
          → (q : ℕ) × (q < w + w + 1) × Central (answer n m w D E J) (plus a (J q).label)
      go (inl q) = absurd (o.outside q)
      go (inr (i, l, q)) = (i, l, subst (λ (x : Label). Central (answer n m w D E J) (plus a x)) (J_is i) q)

  pub is_ray : 0 < w → (a : Label) (q : ℕ) → q < w + w + 1 → Central (answer n m w D E J) (plus a (J q).label) → Outer (answer n m w D E J) a
  is_ray wide a q l c = record {
    valued = subst (λ (x : Label). (v : Bool) × (answer n m w D E J x ≡ Some v)) (plus_right a (J q).label) (shifted n m (w + w + 1) (answer n m w D E J) S (J q).label (plus a (J q).label) ((J q).sign, J_has n m w D E J T q l) c);
    outside = λ z. out z (other q);
  }
    where
      other : (q : ℕ) → (r : ℕ) × (r < w + w + 1) × (q ≢ r)
      other zero = (1, omega arith, omega arith)
      other (suc q) = (0, omega arith, omega arith)

      out : Central (answer n m w D E J) a → (r : ℕ) × (r < w + w + 1) × (q ≢ r) → ⊥
      out z (r, k, ne) =
          omega (
            arith,
            c.commutes (J r).label ((J r).sign, J_has n m w D E J T r k),
            pairing_l a (J q).label (J r).label,
            z.commutes (J r).label ((J r).sign, J_has n m w D E J T r k),
            T.jj q r l k ne,
          )
