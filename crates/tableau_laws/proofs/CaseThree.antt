-- Case 3 on rows: the new rows are a tableau of a smaller width, and its sheet keeps what the measurement asks for.
use Rattle.std.proofs.Common.{◌≡◌, ℕ, zero, suc, ◌+◌, ◌-◌, ◌<◌, ◌≤◌, Bool, true, false, cond, not, ◌≢◌, ◌⊎◌, Some, sym, refl, ap, ◌∙◌, subst, ap₂, inl, inr, arith, pow_pos}
use native.Mathlib.Decide.{ℕ_discrete}
use Rattle.pauli.specs.declared.label.Label.{Label}
use Rattle.pauli.specs.declared.row.Row.{Row}
use Rattle.pauli.specs.Bits.{odd}
use Rattle.pauli.specs.Labels.{Within, pairing, plus, zero_label}
use Rattle.pauli.specs.Rows.{row, times}
use Rattle.phase.specs.Effects.{Narrowed}
use Rattle.phase.specs.Sheets.{Lawful, Values}
use Rattle.pauli_laws.specs.Products.{chosen}
use Rattle.tableau_laws.specs.Places.{count, glue, nth, total}
use Rattle.tableau_laws.specs.Rules.{against_b, dest, gs, new_sign, p_of, q_of, stab}
use Rattle.tableau_laws.specs.Tableaux.{Tableau, answer, jw_count, labels, picked, stab_count, tableau_sheet}
use Rattle.pauli_laws.proofs.Algebra.{pairing_comm, pairing_l, pairing_lt, pairing_r, pairing_self, pairing_zero, plus_within, plus_zero}
use Rattle.pauli_laws.proofs.Numbers.{bit_cases}
use Rattle.pauli_laws.proofs.Products.{Comm, comm_swap, comm_times, self_comm, times_assoc, times_self, times_zero}
use Rattle.tableau_laws.proofs.Answered.{central_product, lawful, zero_count}
use Rattle.tableau_laws.proofs.Pairs.{Anti, back, count_in, dest_dest, dest_other, front, place, stab_dest, stab_dest_same, stab_other, stab_stab, total_within, total_zero}
use Rattle.tableau_laws.proofs.Picked.{picked_comm, picked_zero}
use Rattle.tableau_laws.proofs.Places.{count_against, count_less, count_not, nth_at, nth_is}
use Rattle.tableau_laws.proofs.Sole.{E_has, Has, J_has, kept_values, picked_has, times_has}
use Rattle.tableau_laws.proofs.Tableaux.{label_of}

-- ---- the rows that anticommute with b, and the rest

-- p tells the places of the 2t of k rows that anticommute with b, and q those of the rest
pub record Split (J : ℕ → Row) (b : Label) (k t r : ℕ) (p q : ℕ → ℕ) : Type 0 where
  pub sizes : t + t + r ≡ k
  pub p_below : (i : ℕ) → i < t + t → p i < k
  pub p_apart : (i j : ℕ) → i < t + t → j < t + t → i ≢ j → p i ≢ p j
  pub p_anti : (i : ℕ) → i < t + t → pairing (J (p i)).label b ≡ 1
  pub q_below : (i : ℕ) → i < r → q i < k
  pub q_apart : (i j : ℕ) → i < r → j < r → i ≢ j → q i ≢ q j
  pub q_comm : (i : ℕ) → i < r → pairing (J (q i)).label b ≡ 0
  pub whole : (a : ℕ) → a < k → ((i : ℕ) × (i < t + t) × (a ≡ p i)) ⊎ ((i : ℕ) × (i < r) × (a ≡ q i))

pub odd_is : (p : ℕ) → p < 2 → odd p ≡ true → p ≡ 1
odd_is p l e = elim (bit_cases p l) [
  | inl z ↦ absurd (subst (λ (x : Bool). cond x ⊥ (Unit {0})) (ap odd (sym z) ∙ e) tt)
  | inr z ↦ z
]

pub even_is : (p : ℕ) → p < 2 → not (odd p) ≡ true → p ≡ 0
even_is p l e = elim (bit_cases p l) [
  | inl z ↦ z
  | inr z ↦ absurd (subst (λ (x : Bool). cond x ⊥ (Unit {0})) (ap (λ (y : ℕ). not (odd y)) (sym z) ∙ e) tt)
]

pub split : (J : ℕ → Row) (b : Label) (w u t : ℕ) → u + t ≡ w → jw_count w J b ≡ t + t → Split J b (w + w + 1) t (u + u + 1) (p_of w J b) (q_of w J b)
split J b w u t ut e = record {
  sizes = omega arith;
  p_below = λ i l. (nth_is P k i (p_lt i l)).0;
  p_apart = λ i j l h ne f. ne (sym (nth_is P k i (p_lt i l)).2 ∙ ap (count P) f ∙ (nth_is P k j (p_lt j h)).2);
  p_anti = λ i l. odd_is (pairing (J (nth P k i)).label b) (pairing_lt (J (nth P k i)).label b) (nth_is P k i (p_lt i l)).1;
  q_below = λ i l. (nth_is Q k i (q_lt i l)).0;
  q_apart = λ i j l h ne f. ne (sym (nth_is Q k i (q_lt i l)).2 ∙ ap (count Q) f ∙ (nth_is Q k j (q_lt j h)).2);
  q_comm = λ i l. even_is (pairing (J (nth Q k i)).label b) (pairing_lt (J (nth Q k i)).label b) (nth_is Q k i (q_lt i l)).1;
  whole = λ a l. one a l (P a) refl;
}
  where
    P : ℕ → Bool
    P = against_b J b

    Q : ℕ → Bool
    Q j = not (against_b J b j)

    k : ℕ
    k = w + w + 1

    many : count (against_b J b) (w + w + 1) ≡ t + t
    many = count_against J b (w + w + 1) ∙ e

    p_lt : (i : ℕ) → i < t + t → i < count (against_b J b) (w + w + 1)
    p_lt i l = omega (arith, many)

    q_lt : (i : ℕ) → i < u + u + 1 → i < count (λ j. not (against_b J b j)) (w + w + 1)
    q_lt i l = omega (arith, many, count_not (against_b J b) (w + w + 1))

    one : (a : ℕ) → a < w + w + 1 → (x : Bool) → against_b J b a ≡ x
        → ((i : ℕ) × (i < t + t) × (a ≡ p_of w J b i)) ⊎ ((i : ℕ) × (i < u + u + 1) × (a ≡ q_of w J b i))
    one a l true f =
        inl (count (against_b J b) a, omega (arith, many, count_less (against_b J b) a (w + w + 1) l f), sym (nth_at (against_b J b) (w + w + 1) a l f))
    one a l false f =
        inr (
          count (λ j. not (against_b J b j)) a,
          omega (arith, many, count_not (against_b J b) (w + w + 1), count_less (λ j. not (against_b J b j)) a (w + w + 1) l (ap not f)),
          sym (nth_at (λ j. not (against_b J b j)) (w + w + 1) a l (ap not f)),
        )

-- ---- c against the destabilizers

-- a label that one stabilizer anticommutes with, and no other, is told from c by its destabilizer
picked_dual : (D : ℕ → Label) (E : ℕ → Row) (b s : Label) (m i : ℕ) → i < m → pairing (E i).label s ≡ 1
    → ((j : ℕ) → j < m → j ≢ i → pairing (E j).label s ≡ 0) → pairing (picked D E b m).label s ≡ pairing (D i) b
picked_dual D E b s zero i l one none = absurd (omega arith)
picked_dual D E b s (suc m) i l one none = go (λ (l : i < m). picked_dual D E b s m i l one (λ j k ne. none j (omega arith) ne)) (ℕ_discrete i m)
  where
    entered : (p : ℕ) → p < 2 → pairing (E m).label s ≡ 1 → pairing (chosen (odd p) (E m)).label s ≡ p
    entered zero l e = pairing_zero s
    entered (suc zero) l e = e
    entered (suc (suc p)) l e = absurd (omega arith)

    out : (x : Bool) → pairing (E m).label s ≡ 0 → pairing (chosen x (E m)).label s ≡ 0
    out true e = e
    out false e = pairing_zero s

    go : (i < m → pairing (picked D E b m).label s ≡ pairing (D i) b) → Dec (i ≡ m)
        → pairing (plus (picked D E b m).label (chosen (odd (pairing (D m) b)) (E m)).label) s ≡ pairing (D i) b
    go r (yes e) =
        omega (
          arith,
          pairing_lt (D i) b,
          pairing_l (picked D E b m).label (chosen (odd (pairing (D m) b)) (E m)).label s,
          pairing_comm (picked D E b m).label s ∙ picked_comm D E (row s false) b m (λ j k. pairing_comm s (E j).label ∙ none j (omega arith) (omega arith)),
          entered (pairing (D m) b) (pairing_lt (D m) b) (ap (λ (x : ℕ). pairing (E x).label s) (sym e) ∙ one),
          ap (λ (x : ℕ). pairing (D x) b) e,
        )
    go r (no ne) =
        omega (
          arith,
          pairing_lt (D i) b,
          pairing_l (picked D E b m).label (chosen (odd (pairing (D m) b)) (E m)).label s,
          r (omega arith),
          out (odd (pairing (D m) b)) (none m (omega arith) (λ x. ne (sym x))),
        )

-- ---- the labels of a tableau

module _ (n m w : ℕ) (D : ℕ → Label) (E J : ℕ → Row) (T : Tableau n m w D E J) where
  -- c is a label of n qubits
  picked_in : (b : Label) → Within n (picked D E b m).label
  picked_in b = go m T.E_within
    where
      enter : (x : Bool) (r : Row) → Within n r.label → Within n (chosen x r).label
      enter true r h = h
      enter false r h = record { x = pow_pos n; z = pow_pos n }

      go : (k : ℕ) → ((i : ℕ) → i < k → Within n (E i).label) → Within n (picked D E b k).label
      go zero h = record { x = pow_pos n; z = pow_pos n }
      go (suc k) h =
          plus_within n (picked D E b k).label (chosen (odd (pairing (D k) b)) (E k)).label (go k (λ i l. h i (omega arith)))
          (enter (odd (pairing (D k) b)) (E k) (h k (omega arith)))

  -- a label that commutes with every row is zero
  complete : (a : Label) → Within n a → ((i : ℕ) → i < m → pairing (D i) a ≡ 0) → ((i : ℕ) → i < m → pairing (E i).label a ≡ 0)
      → ((i : ℕ) → i < w + w + 1 → pairing (J i).label a ≡ 0) → a ≡ zero_label
  complete a h hD hE hJ = sym (central_product n m w D E J T a h hE hJ) ∙ label_of (picked_zero D E a m hD)

-- ---- the new rows

module _ (n m w u t : ℕ) (D : ℕ → Label) (E J : ℕ → Row) (b : Label) (v : Bool) (word : ℕ) (p q : ℕ → ℕ)
    (T : Tableau n m w D E J) (wb : Within n b) (st : stab_count m E b ≡ 0) (ut : u + t ≡ w) (t1 : 1 ≤ t) (u1 : 1 ≤ u)
    (S : Split J b (w + w + 1) t (u + u + 1) p q) where
  -- g_1 as a row, and its label
  abbrev g1 : Row
  g1 = times (row b v) (picked D E b m)

  abbrev a : Label
  a = plus b (picked D E b m).label

  abbrev g : ℕ → Label
  g = gs a J p

  abbrev D' : ℕ → Label
  D' = glue m D (dest g)

  abbrev N : ℕ → Row
  N k = row (stab g k) (new_sign g1 word k)

  abbrev E' : ℕ → Row
  E' = glue m E N

  abbrev J' : ℕ → Row
  J' i = times (J (q i)) g1

  Eb : (i : ℕ) → i < m → pairing (E i).label b ≡ 0
  Eb = zero_count (labels E) b m st

  -- a against the rows
  aE : (i : ℕ) → i < m → pairing (E i).label a ≡ 0
  aE i l = omega (arith, pairing_lt, pairing_r (E i).label b (picked D E b m).label, Eb i l, picked_comm D E (E i) b m (λ j k. T.ee i j l k))

  aD : (i : ℕ) → i < m → pairing (D i) a ≡ 0
  aD i l =
      omega (
        arith,
        pairing_lt,
        pairing_r (D i) b (picked D E b m).label,
        pairing_comm (D i) (picked D E b m).label,
        picked_dual D E b (D i) m i l (T.ed i l) (λ j k ne. T.ed' j i k l ne),
      )

  aJ : (i : ℕ) → i < w + w + 1 → pairing (J i).label a ≡ pairing (J i).label b
  aJ i l = omega (arith, pairing_lt, pairing_r (J i).label b (picked D E b m).label, picked_comm D E (J i) b m (λ j k. T.je i j l k))

  ap1 : (i : ℕ) → i < t + t → pairing (J (p i)).label a ≡ 1
  ap1 i l = aJ (p i) (S.p_below i l) ∙ S.p_anti i l

  aq0 : (i : ℕ) → i < u + u + 1 → pairing (J (q i)).label a ≡ 0
  aq0 i l = aJ (q i) (S.q_below i l) ∙ S.q_comm i l

  qp : (i j : ℕ) → i < u + u + 1 → j < t + t → pairing (J (q i)).label (J (p j)).label ≡ 1
  qp i j l h =
      T.jj (q i) (p j) (S.q_below i l) (S.p_below j h) (λ e. absurd (omega (arith, pairing_lt, S.q_comm i l, S.p_anti j h, ap (λ (x : ℕ). pairing (J x).label b) e)))

  -- the g's anticommute with each other, and commute with the old pairs and the new Jordan-Wigner rows
  anti : Anti g (t + t)
  anti zero zero l h ne = absurd (ne refl)
  anti zero (suc j) l h ne = pairing_comm a (J (p (suc j))).label ∙ ap1 (suc j) h
  anti (suc i) zero l h ne = ap1 (suc i) l
  anti (suc i) (suc j) l h ne = T.jj (p (suc i)) (p (suc j)) (S.p_below (suc i) l) (S.p_below (suc j) h) (S.p_apart (suc i) (suc j) l h ne)

  gE : (j : ℕ) → j < m → (i : ℕ) → i < t + t → pairing (g i) (E j).label ≡ 0
  gE j h zero l = pairing_comm a (E j).label ∙ aE j h
  gE j h (suc i) l = T.je (p (suc i)) j (S.p_below (suc i) l) h

  gD : (j : ℕ) → j < m → (i : ℕ) → i < t + t → pairing (g i) (D j) ≡ 0
  gD j h zero l = pairing_comm a (D j) ∙ aD j h
  gD j h (suc i) l = T.jd (p (suc i)) j (S.p_below (suc i) l) h

  gJ : (j : ℕ) → j < u + u + 1 → (i : ℕ) → i < t + t → pairing (g i) (J' j).label ≡ 0
  gJ j h zero l = omega (arith, pairing_lt, pairing_r a (J (q j)).label a, pairing_self a, pairing_comm a (J (q j)).label, aq0 j h)
  gJ j h (suc i) l =
      omega (arith, pairing_lt, pairing_r (J (p (suc i))).label (J (q j)).label a, ap1 (suc i) l, qp j (suc i) h l, pairing_comm (J (p (suc i))).label (J (q j)).label)

  JE : (i j : ℕ) → i < u + u + 1 → j < m → pairing (J' i).label (E j).label ≡ 0
  JE i j l h = omega (arith, pairing_lt, pairing_l (J (q i)).label a (E j).label, T.je (q i) j (S.q_below i l) h, pairing_comm a (E j).label, aE j h)

  JD : (i j : ℕ) → i < u + u + 1 → j < m → pairing (J' i).label (D j) ≡ 0
  JD i j l h = omega (arith, pairing_lt, pairing_l (J (q i)).label a (D j), T.jd (q i) j (S.q_below i l) h, pairing_comm a (D j), aD j h)

  JJ : (i j : ℕ) → i < u + u + 1 → j < u + u + 1 → i ≢ j → pairing (J' i).label (J' j).label ≡ 1
  JJ i j l h ne =
      omega (
        arith,
        pairing_lt,
        pairing_l (J (q i)).label a (plus (J (q j)).label a),
        pairing_r (J (q i)).label (J (q j)).label a,
        pairing_r a (J (q j)).label a,
        pairing_self a,
        pairing_comm a (J (q j)).label,
        aq0 i l,
        aq0 j h,
        T.jj (q i) (q j) (S.q_below i l) (S.q_below j h) (S.q_apart i j l h ne),
      )

  -- ---- the sum of the new Jordan-Wigner labels commutes with every old row, so it is zero

  abbrev U : Label
  U = total (labels J') (u + u + 1)

  Ua : pairing U a ≡ 0
  Ua = total_zero (labels J') (u + u + 1) a (λ j l. omega (arith, pairing_lt, pairing_l (J (q j)).label a a, pairing_self a, aq0 j l))

  Up : (i : ℕ) → i < t + t → pairing (J (p i)).label U ≡ 0
  Up i h =
      pairing_comm (J (p i)).label U
      ∙ total_zero (labels J') (u + u + 1) (J (p i)).label
      (λ j l. omega (arith, pairing_lt, pairing_l (J (q j)).label a (J (p i)).label, qp j i l h, pairing_comm a (J (p i)).label, ap1 i h))

  Uq : (i : ℕ) → i < u + u + 1 → pairing (J (q i)).label U ≡ 0
  Uq i h = omega (arith, pairing_lt, pairing_l (J (q i)).label a U, pairing_comm a U, Ua, count_in (labels J') (u + u + 1) i h JJ)

  a_in : Within n a
  a_in = plus_within n b (picked D E b m).label wb (picked_in n m w D E J T b)

  J_in : (i : ℕ) → i < u + u + 1 → Within n (J' i).label
  J_in i l = plus_within n (J (q i)).label a (T.J_within (q i) (S.q_below i l)) a_in

  sum_zero : U ≡ zero_label
  sum_zero =
      complete n m w D E J T U (total_within n (labels J') (u + u + 1) J_in)
      (λ i h. pairing_comm (D i) U ∙ total_zero (labels J') (u + u + 1) (D i) (λ j l. JD j i l h))
      (λ i h. pairing_comm (E i).label U ∙ total_zero (labels J') (u + u + 1) (E i).label (λ j l. JE j i l h))
      (λ i h. UJ i (S.whole i h))
    where
      UJ : (i : ℕ) → ((j : ℕ) × (j < t + t) × (i ≡ p j)) ⊎ ((j : ℕ) × (j < u + u + 1) × (i ≡ q j)) → pairing (J i).label U ≡ 0
      UJ i (inl (j, l, e)) = ap (λ (x : ℕ). pairing (J x).label U) e ∙ Up j l
      UJ i (inr (j, l, e)) = ap (λ (x : ℕ). pairing (J x).label U) e ∙ Uq j l

  -- ---- the pattern

  g_in : (i : ℕ) → i < t + t → Within n (g i)
  g_in zero l = a_in
  g_in (suc i) l = T.J_within (p (suc i)) (S.p_below (suc i) l)

  pair_in : (i k : ℕ) → i < t + t → k ≤ i → Within n (plus (g i) (total g k))
  pair_in i k l h = plus_within n (g i) (total g k) (g_in i l) (total_within n g k (λ j lj. g_in j (omega arith)))

  -- a new row is an old one, or of a new pair
  data OldNew (f : ℕ → Label) (h : ℕ → Label) (x : Label) (i : ℕ) : Type 0 where
    old : i < m → x ≡ f i → OldNew f h x i
    fresh : (k : ℕ) → k < t → i ≡ m + k → x ≡ h k → OldNew f h x i

  D_at : (i : ℕ) → i < m + t → OldNew D (dest g) (D' i) i
  D_at i l = elim (place m D (dest g) i) [
    | front h e ↦ old h e
    | back h e ↦ fresh (i - m) (omega arith) (omega arith) e
  ]

  E_at : (i : ℕ) → i < m + t → OldNew (labels E) (stab g) (E' i).label i
  E_at i l = elim (place m E N i) [
    | front h e ↦ old h (label_of e)
    | back h e ↦ fresh (i - m) (omega arith) (omega arith) (label_of e)
  ]

  pub pattern : Tableau n (m + t) u D' E' J'
  pattern = record {
    qubits = T.qubits;
    size = omega (arith, T.size, ut);
    D_within = λ i l. elim (D_at i l) [
      | old h e ↦ subst (Within n) (sym e) (T.D_within i h)
      | fresh k h x e ↦ subst (Within n) (sym e) (pair_in (k + k + 1) (k + k) (omega arith) (omega arith))
    ];
    E_within = λ i l. elim (E_at i l) [
      | old h e ↦ subst (Within n) (sym e) (T.E_within i h)
      | fresh k h x e ↦ subst (Within n) (sym e) (pair_in (k + k) (k + k) (omega arith) (omega arith))
    ];
    J_within = J_in;
    ed = λ i l. elim (E_at i l) [
      | old h e ↦ elim (D_at i l) [ old h' e' ↦ ap₂ pairing e e' ∙ T.ed i h | fresh k h' x e' ↦ absurd (omega arith) ]
      | fresh k h x e ↦ elim (D_at i l) [
        | old h' e' ↦ absurd (omega arith)
        | fresh k' h' x' e' ↦ ap₂ pairing e (e' ∙ ap (dest g) (omega arith)) ∙ stab_dest_same g t anti k h
      ]
    ];
    ed' = λ i j l l' ne. elim (E_at i l) [
      | old h e ↦ elim (D_at j l') [
        | old h' e' ↦ ap₂ pairing e e' ∙ T.ed' i j h h' ne
        | fresh k h' x e' ↦ ap₂ pairing e e' ∙ pairing_comm (E i).label (dest g k) ∙ dest_other g t anti (E i).label (gE i h) k h'
      ]
      | fresh k h x e ↦ elim (D_at j l') [
        | old h' e' ↦ ap₂ pairing e e' ∙ stab_other g t anti (D j) (gD j h') k h
        | fresh k' h' x' e' ↦ ap₂ pairing e e' ∙ stab_dest g t anti k k' h h' (omega arith)
      ]
    ];
    dd = λ i j l l'. elim (D_at i l) [
      | old h e ↦ elim (D_at j l') [
        | old h' e' ↦ ap₂ pairing e e' ∙ T.dd i j h h'
        | fresh k h' x e' ↦ ap₂ pairing e e' ∙ pairing_comm (D i) (dest g k) ∙ dest_other g t anti (D i) (gD i h) k h'
      ]
      | fresh k h x e ↦ elim (D_at j l') [
        | old h' e' ↦ ap₂ pairing e e' ∙ dest_other g t anti (D j) (gD j h') k h
        | fresh k' h' x' e' ↦ ap₂ pairing e e' ∙ dest_dest g t anti k k' h h'
      ]
    ];
    ee = λ i j l l'. elim (E_at i l) [
      | old h e ↦ elim (E_at j l') [
        | old h' e' ↦ ap₂ pairing e e' ∙ T.ee i j h h'
        | fresh k h' x e' ↦ ap₂ pairing e e' ∙ pairing_comm (E i).label (stab g k) ∙ stab_other g t anti (E i).label (gE i h) k h'
      ]
      | fresh k h x e ↦ elim (E_at j l') [
        | old h' e' ↦ ap₂ pairing e e' ∙ stab_other g t anti (E j).label (gE j h') k h
        | fresh k' h' x' e' ↦ ap₂ pairing e e' ∙ stab_stab g t anti k k' h h'
      ]
    ];
    je = λ i j l l'. elim (E_at j l') [
      | old h e ↦ ap (pairing (J' i).label) e ∙ JE i j l h
      | fresh k h x e ↦ ap (pairing (J' i).label) e ∙ pairing_comm (J' i).label (stab g k) ∙ stab_other g t anti (J' i).label (gJ i l) k h
    ];
    jd = λ i j l l'. elim (D_at j l') [
      | old h e ↦ ap (pairing (J' i).label) e ∙ JD i j l h
      | fresh k h x e ↦ ap (pairing (J' i).label) e ∙ pairing_comm (J' i).label (dest g k) ∙ dest_other g t anti (J' i).label (gJ i l) k h
    ];
    jj = JJ;
    sums = sum_zero;
    alone = λ z. absurd (omega arith);
  }

  -- ---- the values

  L' : Lawful (tableau_sheet n (m + t) u D' E' J')
  L' = lawful n (m + t) u D' E' J' pattern

  abbrev f' : Values
  f' = answer n (m + t) u D' E' J'

  -- the old stabilizers, and g_1, are new stabilizers
  old_has : (i : ℕ) → i < m → Has f' (E i)
  old_has i l = elim (place m E N i) [
    | front h e ↦ subst (Has f') e (E_has n (m + t) u D' E' J' pattern i (omega arith))
    | back h e ↦ absurd (omega arith)
  ]

  g1_has : Has f' g1
  g1_has = elim (place m E N m) [
    | front h e ↦ absurd (omega arith)
    | back h e ↦ subst (Has f') (e ∙ ap N {x = m - m} {y = 0} (omega arith) ∙ ap (λ (x : Label). row x g1.sign) (plus_zero a)) (E_has n (m + t) u D' E' J' pattern m (omega arith))
  ]

  c_has : Has f' (picked D E b m)
  c_has = picked_has (tableau_sheet n (m + t) u D' E' J') L' D E m T.ee old_has b

  -- a row times another, twice
  undo : (r s : Row) → Comm r s → Has f' (times r s) → Has f' s → Has f' r
  undo r s c h k =
      subst (Has f') (times_assoc r s s c c (self_comm s) ∙ ap (times r) (times_self s) ∙ times_zero r)
      (times_has (tableau_sheet n (m + t) u D' E' J') L' (times r s) s h k (comm_swap s (times r s) (comm_times s r s (comm_swap r s c) (self_comm s))))

  b_has : Has f' (row b v)
  b_has = undo (row b v) (picked D E b m) (picked_comm D E (row b v) b m (λ i l. pairing_comm b (E i).label ∙ Eb i l)) g1_has c_has

  -- the Jordan-Wigner rows that commute with b
  kept_has : (k : ℕ) → k < w + w + 1 → pairing (J k).label b ≡ 0 → Has f' (J k)
  kept_has k l h = by (S.whole k l)
    where
      by : ((i : ℕ) × (i < t + t) × (k ≡ p i)) ⊎ ((i : ℕ) × (i < u + u + 1) × (k ≡ q i)) → Has f' (J k)
      by (inl (i, li, e)) = absurd (omega (arith, S.p_anti i li, ap (λ (x : ℕ). pairing (J x).label b) e, h))
      by (inr (i, li, e)) =
          subst (λ (x : ℕ). Has f' (J x)) (sym e)
          (undo (J (q i)) g1 (comm_times (J (q i)) (row b v) (picked D E b m) (S.q_comm i li) (picked_comm D E (J (q i)) b m (λ j lj. T.je (q i) j (S.q_below i li) lj)))
          (J_has n (m + t) u D' E' J' pattern i li) g1_has)

  pub narrowed : Narrowed (tableau_sheet n m w D E J) b v t (tableau_sheet n (m + t) u D' E' J')
  narrowed = record {
    same_n = refl;
    narrower = ut;
    new = b_has;
    keep = keep;
    products = λ x y e h. L'.product x b y v (keep x y e h) b_has h;
  }
    where
      keep : (x : Label) (y : Bool) → answer n m w D E J x ≡ Some y → pairing x b ≡ 0 → answer n (m + t) u D' E' J' x ≡ Some y
      keep = kept_values n m w D E J T (tableau_sheet n (m + t) u D' E' J') b L' st old_has kept_has
