-- The steps of the two passes of Case 3.
use Rattle.std.proofs.Common.{◌≡◌, ℕ, suc, ◌+◌, ◌<◌, Bool, true, false, not, List, length, set, sym, ap, ◌∙◌, subst, take, get_or-take, add-one, arith}
use Rattle.pauli.specs.declared.label.Label.{Label}
use Rattle.pauli.specs.declared.row.Row.{Row}
use Rattle.pauli.specs.Bits.{odd}
use Rattle.pauli.specs.Labels.{pairing, plus, zero_label}
use Rattle.pauli.specs.Rows.{row, times, zero_row}
use Rattle.tableau_laws.specs.Places.{total, count, nth}
use Rattle.tableau_laws.specs.Rules.{against_b, stab, dest, new_sign}
use Rattle.tableau_rows.specs.declared.store.Pair.{Pair}
use Rattle.tableau_rows.specs.Parts.{row_in, zero_pair, Parted, Paired}
use Rattle.tableau_laws.proofs.Places.{count_not, nth_is}
use Rattle.tableau_rows.proofs.Counted.{count_more, count_same, nth_same, filled_more, filled_same, put_more}

module _ (b : Label) (g : Row) (xs ys : List Row) (ls : List Label) (i found : ℕ) (was : Parted b g xs ys ls i found) where
  abbrev T : ℕ → Bool
  T = against_b (row_in xs) b

  -- a row that anticommutes with b
  pub parted_yes : (l : Label) → T i ≡ true → found < length ls → l ≡ (row_in xs i).label → Parted b g xs ys (set ls found l) (i + 1) (found + 1)
  parted_yes l e lt is = record {
    found_is = ap (λ (n : ℕ). n + 1) was.found_is ∙ sym (count_more T i true e);
    ps = filled_more zero_label (λ j. (row_in xs j).label) T ls i found l e was.found_is lt is was.ps;
    qs = filled_same zero_row (λ j. times (row_in xs j) g) (λ j. not (T j)) ys i (ap not e) was.qs;
  }

  -- one that commutes with b
  pub parted_no : (others : ℕ) (r : Row) → T i ≡ false → found + others ≡ i → others < length ys → r ≡ times (row_in xs i) g
      → Parted b g xs (set ys others r) ls (i + 1) found
  parted_no others r e sum lt is =
      let both = count_not T i in
      let fewer = was.found_is in
      let at : others ≡ count (λ j. not (T j)) i = omega arith in
      let c : count T (i + 1) ≡ count T i + 0 = count_more T i false e in
      record {
        found_is = omega arith;
        ps = filled_same zero_label (λ j. (row_in xs j).label) T ls i e was.ps;
        qs = filled_more zero_row (λ j. times (row_in xs j) g) (λ j. not (T j)) ys i others r (ap not e) at lt is was.qs;
      }

-- what is parted of the first k rows is parted of all
module _ (b : Label) (g : Row) (xs ys : List Row) (ls : List Label) (k found : ℕ) (p : Parted b g (take k xs) ys ls k found) where
  abbrev T' : ℕ → Bool
  T' = against_b (row_in (take k xs)) b

  abbrev T'' : ℕ → Bool
  T'' = against_b (row_in xs) b

  at : (i : ℕ) → i < k → row_in (take k xs) i ≡ row_in xs i
  at i lt = get_or-take k xs i zero_row lt

  same : (i : ℕ) → i < k → T' i ≡ T'' i
  same i lt = ap (λ (r : Row). odd (pairing r.label b)) (at i lt)

  pub parted_whole : Parted b g xs ys ls k found
  parted_whole = record {
    found_is = p.found_is ∙ count_same T' T'' k same;
    ps = λ j lt.
        let less : j < count T' k = subst (λ (n : ℕ). j < n) (sym (count_same T' T'' k same)) lt in
        p.ps j less ∙ ap (λ (r : Row). r.label) (at (nth T' k j) (nth_is T' k j less).0)
        ∙ ap (λ (i : ℕ). (row_in xs i).label) (nth_same T' T'' k same j);
    qs = λ j lt.
        let N' : ℕ → Bool = λ i. not (T' i) in
        let N : ℕ → Bool = λ i. not (T'' i) in
        let alike : (i : ℕ) → i < k → N' i ≡ N i = λ i h. ap not (same i h) in
        let less : j < count N' k = subst (λ (n : ℕ). j < n) (sym (count_same N' N k alike)) lt in
        p.qs j less ∙ ap (λ (r : Row). times r g) (at (nth N' k j) (nth_is N' k j less).0)
        ∙ ap (λ (i : ℕ). times (row_in xs i) g) (nth_same N' N k alike j);
  }

-- ---- pairs

pub paired_more : (g : ℕ → Label) (first : Row) (word : ℕ) (ps : List Pair) (k : ℕ) (p : Pair) → Paired g first word ps k → k < length ps
    → p.destabilizer ≡ dest g k → p.stabilizer ≡ row (stab g k) (new_sign first word k) → Paired g first word (set ps k p) (k + 1)
paired_more g first word ps k p was lt dis eis = record {
  D_new = put_more zero_pair (λ q. q.destabilizer) (dest g) ps k p lt dis was.D_new;
  E_new = put_more zero_pair (λ q. q.stabilizer) (λ i. row (stab g i) (new_sign first word i)) ps k p lt eis was.E_new;
}

-- the sum of all labels before a pair, one pair on
pub total_two : (g : ℕ → Label) (k : ℕ) → total g ((k + 1) + (k + 1)) ≡ plus (g (k + k + 1)) (plus (g (k + k)) (total g (k + k)))
total_two g k =
    let e : (k + 1) + (k + 1) ≡ suc (suc (k + k)) = omega arith in
    ap (total g) e ∙ ap (λ (i : ℕ). plus (g i) (plus (g (k + k)) (total g (k + k)))) (sym (add-one (k + k)))
