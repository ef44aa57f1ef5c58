-- A tableau's sheet is the only lawful one of its size and width in which the rows have their signs.
use Rattle.std.proofs.Common.{◌≡◌, ℕ, zero, suc, ◌+◌, ◌<◌, Bool, true, false, Some, sym, ap, ◌∙◌, subst, inl, inr, arith}
use Rattle.pauli.specs.declared.label.Label.{Label}
use Rattle.pauli.specs.declared.row.Row.{Row}
use Rattle.pauli.specs.Bits.{odd}
use Rattle.pauli.specs.Labels.{pairing}
use Rattle.pauli.specs.Rows.{row, times}
use Rattle.phase.specs.Sheets.{Lawful, Sheet, Values}
use Rattle.pauli_laws.specs.Products.{chosen}
use Rattle.sheet_laws.specs.Laws.{with_values}
use Rattle.tableau_laws.specs.Laws.{Gives}
use Rattle.tableau_laws.specs.Tableaux.{Tableau, answer, picked, stab_count, tableau_sheet}
use Rattle.pauli_laws.proofs.Algebra.{pairing_comm, pairing_l, pairing_lt}
use Rattle.pauli_laws.proofs.Products.{Comm, chosen_comm, comm_swap}
use Rattle.sheet_laws.proofs.Inclusion.{inclusion}
use Rattle.tableau_laws.proofs.Answered.{lawful, reads, zero_count}
use Rattle.tableau_laws.proofs.Picked.{picked_comm}
use Rattle.tableau_laws.proofs.Tableaux.{E_read, J_read, label_of}

-- a row's label has its sign
abbrev pub Has : Values → Row → Type 0
Has f r = f r.label ≡ Some r.sign

module _ (s : Sheet) (L : Lawful s) where
  pub times_has : (r t : Row) → Has s.value r → Has s.value t → Comm r t → Has s.value (times r t)
  times_has r t p q c = L.product r.label t.label r.sign t.sign p q c

  chosen_has : (c : Bool) (r : Row) → Has s.value r → Has s.value (chosen c r)
  chosen_has true r p = p
  chosen_has false r p = L.zero

  -- where the stabilizers have their signs, so have their products
  pub picked_has : (D : ℕ → Label) (E : ℕ → Row) (m : ℕ) → ((i j : ℕ) → i < m → j < m → Comm (E i) (E j)) → ((i : ℕ) → i < m → Has s.value (E i))
      → (a : Label) → Has s.value (picked D E a m)
  picked_has D E zero ee h a = L.zero
  picked_has D E (suc m) ee h a =
      times_has (picked D E a m) (chosen (odd (pairing (D m) a)) (E m))
      (picked_has D E m (λ i j l k. ee i j (omega arith) (omega arith)) (λ i l. h i (omega arith)) a)
      (chosen_has (odd (pairing (D m) a)) (E m) (h m (omega arith)))
      (chosen_comm (picked D E a m) (E m) (odd (pairing (D m) a)) (comm_swap (E m) (picked D E a m) (picked_comm D E (E m) a m (λ i k. ee m i (omega arith) (omega arith)))))

-- what the tableau answers of its own rows
module _ (n m w : ℕ) (D : ℕ → Label) (E J : ℕ → Row) (T : Tableau n m w D E J) where
  pub E_has : (i : ℕ) → i < m → Has (answer n m w D E J) (E i)
  E_has = E_read n m w D E J (answer n m w D E J) T (reads n m w D E J T)

  pub J_has : (i : ℕ) → i < w + w + 1 → Has (answer n m w D E J) (J i)
  J_has = J_read n m w D E J (answer n m w D E J) T (reads n m w D E J T)

  -- a lawful sheet of any width in which the stabilizers have their signs, and those Jordan-Wigner rows that commute with b, has the tableau's
  -- values of labels that commute with b
  pub kept_values : (s : Sheet) (b : Label) → Lawful s → stab_count m E b ≡ 0 → ((i : ℕ) → i < m → Has s.value (E i))
      → ((q : ℕ) → q < w + w + 1 → pairing (J q).label b ≡ 0 → Has s.value (J q))
      → (a : Label) (u : Bool) → answer n m w D E J a ≡ Some u → pairing a b ≡ 0 → s.value a ≡ Some u
  kept_values s b L st hE hJ a u e h = by ((reads n m w D E J T).only a u e)
    where
      has : Has s.value (picked D E a m)
      has = picked_has s L D E m T.ee hE a

      by : Gives m w D E J a u → s.value a ≡ Some u
      by (inl r) = subst (Has s.value) (sym r) has
      by (inr (q, l, r)) =
          let pb : pairing (picked D E a m).label b ≡ 0
          = pairing_comm (picked D E a m).label b ∙ picked_comm D E (row b false) a m (λ i k. pairing_comm b (E i).label ∙ zero_count (λ j. (E j).label) b m st i k) in
          let jb : pairing (J q).label b ≡ 0
          = omega (arith, pairing_lt (J q).label b, h, ap (λ (x : Label). pairing x b) (label_of r), pairing_l (picked D E a m).label (J q).label b, pb) in
          subst (Has s.value) (sym r)
          (times_has s L (picked D E a m) (J q) has (hJ q l jb) (comm_swap (J q) (picked D E a m) (picked_comm D E (J q) a m (λ i k. T.je q i l k))))

  pub sole : (g : Values) → Lawful (with_values (tableau_sheet n m w D E J) g) → ((i : ℕ) → i < m → Has g (E i)) → ((i : ℕ) → i < w + w + 1 → Has g (J i))
      → (a : Label) → answer n m w D E J a ≡ g a
  sole g L hE hJ = inclusion (tableau_sheet n m w D E J) g (lawful n m w D E J T) L (λ a u e. by a u ((reads n m w D E J T).only a u e))
    where
      by : (a : Label) (u : Bool) → Gives m w D E J a u → g a ≡ Some u
      by a u (inl r) = subst (Has g) (sym r) (picked_has (with_values (tableau_sheet n m w D E J) g) L D E m T.ee hE a)
      by a u (inr (q, l, r)) =
          subst (Has g) (sym r)
          (times_has (with_values (tableau_sheet n m w D E J) g) L (picked D E a m) (J q) (picked_has (with_values (tableau_sheet n m w D E J) g) L D E m T.ee hE a) (hJ q l)
          (comm_swap (J q) (picked D E a m) (picked_comm D E (J q) a m (λ i k. T.je q i l k))))
