-- What chains of iterators over the first rows answer.
use Rattle.std.proofs.Common.{◌≡◌, ℕ, zero, suc, ◌+◌, ◌<◌, ◌≤◌, Bool, true, false, not, cond, ◌&&◌, List, [], ◌∷◌, length, get_or, take, reverse, sym, refl, ap, ◌∙◌, ap₂, mod-eq_of_lt, add-one, arith, get_or-take, Option, Some, None, MatchOption}
use Rattle.std.proofs.lemmas.List.{reverse-append, take_all}
use Rattle.std.proofs.lemmas.List.Folds.{list_all-append}
use Rattle.std.specs.List.{find, list_all, AllWithin, HoldsAt}
use Rattle.std.specs.Option.{unwrap_or}
use Rattle.std.proofs.Math.Seq.{take-suc}
use Rattle.pauli.specs.declared.label.Label.{Label}
use Rattle.pauli.specs.declared.row.Row.{Row}
use Rattle.pauli.specs.Bits.{odd}
use Rattle.pauli.specs.Labels.{pairing}
use Rattle.pauli.specs.Rows.{times, zero_row}
use Rattle.phase.specs.LabelCases.{against}
use Rattle.pauli_laws.specs.Products.{chosen}
use Rattle.pauli_laws.specs.Words.{num}
use Rattle.pauli_laws.proofs.Algebra.{pairing_lt}
use Rattle.pauli_laws.proofs.Products.{times_zero}
use Rattle.pauli_laws.proofs.Signs.{num_odd}
use Rattle.tableau_laws.specs.Places.{all_below}
use Rattle.tableau_laws.specs.Tableaux.{picked, fellow, stab_count}
use Rattle.tableau_laws.specs.Rules.{against_b, first_against}
use Rattle.tableau_rows.specs.declared.store.Pair.{Pair}
use Rattle.tableau_rows.specs.Parts.{row_in, pair_in, zero_pair}
use Rattle.tableau_laws.proofs.Places.{count_against}
use Rattle.tableau_rows.proofs.Counted.{count_none, nth_first}

-- what stands in the part of a list that is in use
pub used_at : {A : Type 0} (xs ys : List A) (m : ℕ) → ys ≡ take m xs → (d : A) (i : ℕ) → i < m → get_or ys i d ≡ get_or xs i d
used_at xs ys m e d i lt = ap (λ l. get_or l i d) e ∙ get_or-take m xs i d lt

-- whether labels anticommute, as a number
pairing_num : (a b : Label) → pairing a b ≡ num (odd (pairing a b))
pairing_num a b = sym (num_odd (pairing a b) ∙ mod-eq_of_lt (pairing_lt a b))

pub picked_more : (D : ℕ → Label) (E : ℕ → Row) (b : Label) (j : ℕ) (t : Bool) → odd (pairing (D j) b) ≡ t
    → picked D E b (j + 1) ≡ cond t (times (picked D E b j) (E j)) (picked D E b j)
picked_more D E b j true e = ap (picked D E b) (add-one j) ∙ ap (λ (t : Bool). times (picked D E b j) (chosen t (E j))) e
picked_more D E b j false e =
    ap (picked D E b) (add-one j) ∙ ap (λ (t : Bool). times (picked D E b j) (chosen t (E j))) e ∙ times_zero (picked D E b j)

pub against_more : (L : ℕ → Label) (b : Label) (j : ℕ) (t : Bool) → odd (pairing (L j) b) ≡ t → against L b (j + 1) ≡ against L b j + num t
against_more L b j t e =
    let p : pairing (L j) b ≡ num t = pairing_num (L j) b ∙ ap num e in
    let s : against L b (j + 1) ≡ pairing (L j) b + against L b j = ap (against L b) (add-one j) in
    omega arith

pub against_at_most : (L : ℕ → Label) (b : Label) (k : ℕ) → against L b k ≤ k
against_at_most L b zero = omega arith
against_at_most L b (suc k) = let h = against_at_most L b k in let p = pairing_lt (L k) b in omega arith

-- the last of the first rows that commutes with b
pub fellow_is : (b : Label) (xs : List Row) (k : ℕ) → k ≤ length xs
    → unwrap_or (find (λ r. not (odd (pairing r.label b))) (reverse (take k xs))) zero_row ≡ fellow (row_in xs) b k
fellow_is b xs zero h = refl
fellow_is b xs (suc k) h =
    ap (λ (l : List Row). unwrap_or (find (λ r. not (odd (pairing r.label b))) l) zero_row)
    (ap (λ (l : List Row). reverse l) (take-suc xs k zero_row (omega arith)) ∙ reverse-append (take k xs) (get_or xs k zero_row ∷ []))
    ∙ go (odd (pairing (get_or xs k zero_row).label b)) (fellow_is b xs k (omega arith))
  where
    go : (t : Bool) → unwrap_or (find (λ r. not (odd (pairing r.label b))) (reverse (take k xs))) zero_row ≡ fellow (row_in xs) b k
        → unwrap_or (cond (not t) (Some (get_or xs k zero_row)) (find (λ r. not (odd (pairing r.label b))) (reverse (take k xs)))) zero_row
        ≡ cond t (fellow (row_in xs) b k) (get_or xs k zero_row)
    go true before = before
    go false before = refl

pub and_true : (q : Bool) → (q && true) ≡ q
and_true true = refl
and_true false = refl

-- whether each thing in a list passes, by what the test says at each place
pub all_is : {A : Type 0} (p : A → Bool) (d : A) (xs : List A) (k : ℕ) (t : ℕ → Bool) → length xs ≡ k → ((i : ℕ) → i < k → p (get_or xs i d) ≡ t i)
    → list_all p xs ≡ all_below k t
all_is p d xs k t len same = ap (list_all p) (sym (take_all k xs (omega arith))) ∙ up k (omega arith)
  where
    up : (j : ℕ) → j ≤ k → list_all p (take j xs) ≡ all_below j t
    up zero h = refl
    up (suc j) h =
        ap (list_all p) (take-suc xs j d (omega arith)) ∙ list_all-append p (take j xs) (get_or xs j d ∷ [])
        ∙ ap₂ ◌&&◌ (up j (omega arith)) (and_true (p (get_or xs j d)) ∙ same j (omega arith))

-- the first place whose stabilizer anticommutes with b, among pairs whose stabilizers are those of E
module _ (b : Label) (ps : List Pair) (E : ℕ → Row) (m : ℕ) (len : length ps ≡ m) (at : (i : ℕ) → i < m → (pair_in ps i).stabilizer ≡ E i) where
  abbrev Against : Bool → Pair → Type 0
  Against t p = odd (pairing p.stabilizer.label b) ≡ t

  against_at : (i : ℕ) (t : Bool) → i < m → Against t (pair_in ps i) → against_b E b i ≡ t
  against_at i t lt e = ap (λ (r : Row). odd (pairing r.label b)) (sym (at i lt)) ∙ e

  pub first_is : (r : Option ℕ)
      → MatchOption r (AllWithin (Against false) ps 0 (length ps)) (λ i. (i < length ps) × HoldsAt (Against true) ps i × AllWithin (Against false) ps 0 i)
      → MatchOption r (stab_count m E b ≡ 0) (λ k. (k < m) × (k ≡ first_against m E b))
  first_is None h =
      sym (count_against E b m) ∙ count_none (against_b E b) m (λ i lt. against_at i false lt (h i zero_pair (omega arith) (omega arith)))
  first_is (Some k) h =
      let lt : k < m = omega (arith, h.0) in (
        lt,
        sym (nth_first (against_b E b) m k lt (against_at k true lt (h.1 zero_pair))
            (λ i less. against_at i false (omega arith) (h.2 i zero_pair (omega arith) less))),
      )
