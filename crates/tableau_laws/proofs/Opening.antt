-- The opening rows are a tableau: how words pair and sum, letter by letter.
use Rattle.std.proofs.Common.{◌≡◌, ℕ, zero, suc, ◌+◌, ◌-◌, ◌*◌, ◌/◌, ◌%◌, ◌<◌, ◌≤◌, min, Bool, true, false, cond, ◌≢◌, List, [], ◌∷◌, length, sym, refl, ap, ◌∙◌, subst, ap₂, lt_of_lt_of_le, arith, pow_mono}
use native.Mathlib.Decide.{ℕ_discrete, dec_lt}
use lib.Bits.{bit_and, bit_xor, and_shr, xor_shr}
use lib.Count.{ones, ones_step}
use Rattle.pauli.specs.declared.label.Label.{Label}
use Rattle.pauli.specs.declared.letter.Letter.{Letter}
use Rattle.pauli.specs.declared.letter.Letter.TheVariants.{I, X, Y, Z}
use Rattle.pauli.specs.Bits.{odd, xorb}
use Rattle.pauli.specs.Labels.{Within, pairing, plus, zero_label}
use Rattle.pauli.specs.Letters.{x_of, z_of}
use Rattle.pauli.specs.Rows.{row}
use Rattle.pauli_laws.specs.Words.{num, positive, word}
use Rattle.tableau_laws.specs.Opening.{open_J, open_end, open_word, opening, run}
use Rattle.tableau_laws.specs.Places.{total}
use Rattle.tableau_laws.specs.Rules.{LawfulRows}
use Rattle.tableau_laws.specs.Tableaux.{labels}
use Rattle.pauli_laws.proofs.Algebra.{pairing_comm, pairing_lt, pairing_self, pairing_zero, plus_self}
use Rattle.pauli_laws.proofs.Texts.{word_within}
use Rattle.pauli_laws.proofs.Words.{and_low, by_halves, xor_low}
use Rattle.tableau_laws.proofs.Tests.{eq_false, eq_true}

-- ---- a letter before a label

-- a with every letter one qubit further, and l at qubit 1
abbrev before : Letter → Label → Label
before l a = record { x = num (x_of l) + 2 * a.x; z = num (z_of l) + 2 * a.z }

-- 1 where two letters anticommute
abbrev meet : Letter → Letter → ℕ
meet l k = min (num (x_of l)) (num (z_of k)) + min (num (z_of l)) (num (x_of k))

low : (p : Bool) (a : ℕ) → (num p + 2 * a) % 2 ≡ num p
low true a = omega arith
low false a = omega arith

high : (p : Bool) (a : ℕ) → (num p + 2 * a) / 2 ≡ a
high true a = omega arith
high false a = omega arith

ones_and : (p q : Bool) (a b : ℕ) → ones (bit_and (num p + 2 * a) (num q + 2 * b)) ≡ min (num p) (num q) + ones (bit_and a b)
ones_and p q a b =
    ones_step (bit_and (num p + 2 * a) (num q + 2 * b))
    ∙ ap₂ ◌+◌ (and_low (num p + 2 * a) (num q + 2 * b) ∙ ap₂ min (low p a) (low q b))
    (ap ones (and_shr (num p + 2 * a) (num q + 2 * b) 1 ∙ ap₂ bit_and (high p a) (high q b)))

pair_before : (l k : Letter) (a b : Label) → pairing (before l a) (before k b) ≡ (meet l k + pairing a b) % 2
unfolding pairing
pair_before l k a b = omega (arith, ones_and (x_of l) (z_of k) a.x b.z, ones_and (z_of l) (x_of k) a.z b.x)

-- the sum of two words, bit by bit
xor_before : (p q : Bool) (a b : ℕ) → bit_xor (num p + 2 * a) (num q + 2 * b) ≡ num (xorb p q) + 2 * bit_xor a b
xor_before p q a b =
    by_halves (bit_xor (num p + 2 * a) (num q + 2 * b)) (num (xorb p q) + 2 * bit_xor a b)
    (xor_shr (num p + 2 * a) (num q + 2 * b) 1 ∙ ap₂ bit_xor (high p a) (high q b) ∙ sym (high (xorb p q) (bit_xor a b)))
    (xor_low (num p + 2 * a) (num q + 2 * b) ∙ ap₂ (λ (x y : ℕ). (x + y) % 2) (low p a) (low q b) ∙ bits p q ∙ sym (low (xorb p q) (bit_xor a b)))
  where
    bits : (p q : Bool) → (num p + num q) % 2 ≡ num (xorb p q)
    bits true true = refl
    bits true false = refl
    bits false true = refl
    bits false false = refl

-- three labels that begin with the same letter
plus_three : (l : Letter) (a b c : Label) → plus (before l a) (plus (before l b) (before l c)) ≡ before l (plus a (plus b c))
unfolding plus
plus_three l a b c = ap₂ (λ (x z : ℕ). record { x = x; z = z }) (word_three (x_of l) a.x b.x c.x) (word_three (z_of l) a.z b.z c.z)
  where
    again : (p : Bool) → xorb p (xorb p p) ≡ p
    again true = refl
    again false = refl

    word_three : (p : Bool) (a b c : ℕ) → bit_xor (num p + 2 * a) (bit_xor (num p + 2 * b) (num p + 2 * c)) ≡ num p + 2 * bit_xor a (bit_xor b c)
    word_three p a b c =
        ap (bit_xor (num p + 2 * a)) (xor_before p p b c) ∙ xor_before p (xorb p p) a (bit_xor b c) ∙ ap (λ (x : Bool). num x + 2 * bit_xor a (bit_xor b c)) (again p)

-- ---- runs of letters

zero_pair : (a : Label) → pairing a zero_label ≡ 0
zero_pair a = pairing_comm a zero_label ∙ pairing_zero a

-- one letter at qubit i+1 and one at qubit j+1
single_same : (i : ℕ) (l k : Letter) → pairing (word (run i I (l ∷ []))) (word (run i I (k ∷ []))) ≡ meet l k % 2
single_same zero l k = pair_before l k zero_label zero_label ∙ omega (arith, pairing_zero zero_label)
single_same (suc i) l k = pair_before I I (word (run i I (l ∷ []))) (word (run i I (k ∷ []))) ∙ omega (arith, single_same i l k)

single_apart : (i j : ℕ) (l k : Letter) → i ≢ j → pairing (word (run i I (l ∷ []))) (word (run j I (k ∷ []))) ≡ 0
single_apart zero zero l k ne = absurd (ne refl)
single_apart zero (suc j) l k ne = pair_before l I zero_label (word (run j I (k ∷ []))) ∙ omega (arith, pairing_zero (word (run j I (k ∷ []))), with_I l)
  where
    with_I : (l : Letter) → meet l I ≡ 0
    with_I I = refl
    with_I X = refl
    with_I Y = refl
    with_I Z = refl
single_apart (suc i) zero l k ne = pair_before I k (word (run i I (l ∷ []))) zero_label ∙ omega (arith, zero_pair (word (run i I (l ∷ []))))
single_apart (suc i) (suc j) l k ne = pair_before I I (word (run i I (l ∷ []))) (word (run j I (k ∷ []))) ∙ omega (arith, single_apart i j l k (omega arith))

-- what begins after h qubits commutes with a letter at one of these
pub beyond : (h j : ℕ) (ls : List Letter) (k : Letter) → j < h → pairing (word (run h I ls)) (word (run j I (k ∷ []))) ≡ 0
beyond zero j ls k l = absurd (omega arith)
beyond (suc h) zero ls k l = pair_before I k (word (run h I ls)) zero_label ∙ omega (arith, zero_pair (word (run h I ls)))
beyond (suc h) (suc j) ls k l = pair_before I I (word (run h I ls)) (word (run j I (k ∷ []))) ∙ omega (arith, beyond h j ls k (omega arith))

moved_on : (h : ℕ) (ls ks : List Letter) → pairing (word (run h I ls)) (word (run h I ks)) ≡ pairing (word ls) (word ks)
moved_on zero ls ks = refl
moved_on (suc h) ls ks = pair_before I I (word (run h I ls)) (word (run h I ks)) ∙ omega (arith, moved_on h ls ks, pairing_lt (word ls) (word ks))

-- after i letters Y a letter that anticommutes with Y, against more than i letters Y
Y_longer : (i j : ℕ) (l : Letter) (ks : List Letter) → i < j → meet l Y ≡ 1 → pairing (word (run i Y (l ∷ []))) (word (run j Y ks)) ≡ 1
Y_longer i zero l ks h e = absurd (omega arith)
Y_longer zero (suc j) l ks h e = pair_before l Y zero_label (word (run j Y ks)) ∙ omega (arith, e, pairing_zero (word (run j Y ks)))
Y_longer (suc i) (suc j) l ks h e = pair_before Y Y (word (run i Y (l ∷ []))) (word (run j Y ks)) ∙ omega (arith, Y_longer i j l ks (omega arith) e)

Y_same : (i : ℕ) (l k : Letter) → meet l k ≡ 1 → pairing (word (run i Y (l ∷ []))) (word (run i Y (k ∷ []))) ≡ 1
Y_same zero l k e = pair_before l k zero_label zero_label ∙ omega (arith, e, pairing_zero zero_label)
Y_same (suc i) l k e = pair_before Y Y (word (run i Y (l ∷ []))) (word (run i Y (k ∷ []))) ∙ omega (arith, Y_same i l k e)

-- ---- sums of runs

nothing : (h : ℕ) → word (run h I []) ≡ zero_label
nothing zero = refl
nothing (suc h) = ap (before I) (nothing h)

snoc : (i : ℕ) → run i Y (Y ∷ []) ≡ run (suc i) Y []
snoc zero = refl
snoc (suc i) = ap (λ (ls : List Letter). Y ∷ ls) (snoc i)

-- Z, X and nothing after the same letters sum to Y after them
Y_sum : (i : ℕ) → plus (word (run i Y (X ∷ []))) (plus (word (run i Y (Z ∷ []))) (word (run i Y []))) ≡ word (run i Y (Y ∷ []))
unfolding plus
Y_sum zero = refl
Y_sum (suc i) = plus_three Y (word (run i Y (X ∷ []))) (word (run i Y (Z ∷ []))) (word (run i Y [])) ∙ ap (before Y) (Y_sum i)

three_sum : (h i : ℕ) → plus (word (open_word h i (X ∷ []))) (plus (word (open_word h i (Z ∷ []))) (word (open_word h i []))) ≡ word (open_word h i (Y ∷ []))
three_sum zero i = Y_sum i
three_sum (suc h) i = plus_three I (word (open_word h i (X ∷ []))) (word (open_word h i (Z ∷ []))) (word (open_word h i [])) ∙ ap (before I) (three_sum h i)

twice : (i : ℕ) → (i + i) / 2 ≡ i
twice i = omega arith

twice_one : (i : ℕ) → suc (i + i) / 2 ≡ i
twice_one i = omega arith

-- ---- the opening rows against each other

module _ (h w : ℕ) where
  abbrev body : ℕ → List Letter
  body q = run (q / 2) Y (open_end w q)

  -- a row before the last ends with Z or X
  ends : (q : ℕ) → q < w + w → (l : Letter) × (open_end w q ≡ l ∷ []) × (meet l Y ≡ 1)
  ends q lt = go (odd q) refl
    where
      not_last : open_end w q ≡ cond (odd q) (X ∷ []) (Z ∷ [])
      not_last = ap (λ (x : Bool). cond x [] (cond (odd q) (X ∷ []) (Z ∷ []))) (eq_false q (w + w) (omega arith))

      go : (x : Bool) → odd q ≡ x → (l : Letter) × (open_end w q ≡ l ∷ []) × (meet l Y ≡ 1)
      go true e = (X, not_last ∙ ap (λ (x : Bool). cond x (X ∷ []) (Z ∷ [])) e, refl)
      go false e = (Z, not_last ∙ ap (λ (x : Bool). cond x (X ∷ []) (Z ∷ [])) e, refl)

  end_Z : (i : ℕ) → i < w → open_end w (i + i) ≡ Z ∷ []
  end_Z i lt =
      ap (λ (x : Bool). cond x [] (cond (odd (i + i)) (X ∷ []) (Z ∷ []))) (eq_false (i + i) (w + w) (omega arith))
      ∙ ap (λ (x : Bool). cond x (X ∷ []) (Z ∷ [])) (eq_false ((i + i) % 2) 1 (omega arith))

  end_X : (i : ℕ) → i < w → open_end w (suc (i + i)) ≡ X ∷ []
  end_X i lt =
      ap (λ (x : Bool). cond x [] (cond (odd (suc (i + i))) (X ∷ []) (Z ∷ []))) (eq_false (suc (i + i)) (w + w) (omega arith))
      ∙ ap (λ (x : Bool). cond x (X ∷ []) (Z ∷ [])) (eq_true (suc (i + i) % 2) 1 (omega arith))

  end_none : open_end w (w + w) ≡ []
  end_none = ap (λ (x : Bool). cond x [] (cond (odd (w + w)) (X ∷ []) (Z ∷ []))) (eq_true (w + w) (w + w) refl)

  later : (q r : ℕ) → q < r → r < w + w + 1 → pairing (word (body q)) (word (body r)) ≡ 1
  later q r lt lr = go (dec_lt (q / 2) (r / 2))
    where
      go : Dec (q / 2 < r / 2) → pairing (word (body q)) (word (body r)) ≡ 1
      go (yes d) =
          let e = ends q (omega arith) in
          ap (λ (ls : List Letter). pairing (word (run (q / 2) Y ls)) (word (body r))) e.1 ∙ Y_longer (q / 2) (r / 2) e.0 (open_end w r) d e.2
      go (no d) =
          let i = q / 2 in
          let eq : q ≡ i + i = first q r lt d in
          let er : r ≡ suc (i + i) = second q r lt d in
          let il : i < w = below q r w lt lr in
          ap₂ (λ (x y : ℕ). pairing (word (body x)) (word (body y))) eq er
          ∙ ap₂ (λ (ls ks : List Letter). pairing (word (run ((i + i) / 2) Y ls)) (word (run (suc (i + i) / 2) Y ks))) (end_Z i il) (end_X i il)
          ∙ ap₂ (λ (x y : ℕ). pairing (word (run x Y (Z ∷ []))) (word (run y Y (X ∷ [])))) (twice i) (twice_one i)
          ∙ Y_same i Z X refl
        where
          first : (q r : ℕ) → q < r → (q / 2 < r / 2 → ⊥) → q ≡ q / 2 + q / 2
          first q r lt d = omega arith

          second : (q r : ℕ) → q < r → (q / 2 < r / 2 → ⊥) → r ≡ suc (q / 2 + q / 2)
          second q r lt d = omega arith

          below : (q r w : ℕ) → q < r → r < w + w + 1 → q / 2 < w
          below q r w lt lr = omega arith

  pub J_apart : (q r : ℕ) → q < w + w + 1 → r < w + w + 1 → q ≢ r → pairing (open_J h w q).label (open_J h w r).label ≡ 1
  J_apart q r lq lr ne = moved_on h (body q) (body r) ∙ go (dec_lt q r)
    where
      go : Dec (q < r) → pairing (word (body q)) (word (body r)) ≡ 1
      go (yes l) = later q r l lr
      go (no l) = pairing_comm (word (body q)) (word (body r)) ∙ later r q (omega arith) lq

  -- ---- their sum

  -- the first i twos sum to Y at the first i qubits after h
  twos : (i : ℕ) → i ≤ w → total (labels (open_J h w)) (i + i) ≡ word (open_word h i [])
  twos zero l = sym (nothing h)
  twos (suc i) l =
      ap (total (labels (open_J h w))) {x = suc i + suc i} {y = suc (suc (i + i))} (omega arith)
      ∙ ap₂ (λ (a b : Label). plus a (plus b (total (labels (open_J h w)) (i + i))))
      (ap₂ (λ (x : ℕ) (ls : List Letter). word (run h I (run x Y ls))) (twice_one i) (end_X i l))
      (ap₂ (λ (x : ℕ) (ls : List Letter). word (run h I (run x Y ls))) (twice i) (end_Z i l))
      ∙ ap (λ (a : Label). plus (word (open_word h i (X ∷ []))) (plus (word (open_word h i (Z ∷ []))) a)) (twos i (omega arith))
      ∙ three_sum h i
      ∙ ap (λ (ls : List Letter). word (run h I ls)) (snoc i)

  pub sum_zero : total (labels (open_J h w)) (w + w + 1) ≡ zero_label
  sum_zero =
      ap (total (labels (open_J h w))) {x = w + w + 1} {y = suc (w + w)} (omega arith)
      ∙ ap₂ plus (ap₂ (λ (x : ℕ) (ls : List Letter). word (run h I (run x Y ls))) (twice w) end_none) (twos w (omega arith))
      ∙ plus_self (word (open_word h w []))

-- ---- the numbers of qubits

length_run : (k : ℕ) (l : Letter) (ls : List Letter) → length (run k l ls) ≡ k + length ls
length_run zero l ls = omega arith
length_run (suc k) l ls = omega (arith, length_run k l ls)

short : (n : ℕ) (ls : List Letter) → length ls ≤ n → Within n (word ls)
short n ls h = let w = word_within ls in record { x = lt_of_lt_of_le w.x (pow_mono h); z = lt_of_lt_of_le w.z (pow_mono h) }

pub opening_pattern : (n w : ℕ) → 1 ≤ n → n ≤ 64 → w ≤ n → LawfulRows n (opening n w)
opening_pattern n w lo hi wn = record {
  qubits = (lo, hi);
  size = omega arith;
  D_within = λ i l. short n (run i I (X ∷ [])) (omega (arith, length_run i I (X ∷ [])));
  E_within = λ i l. short n (run i I (Z ∷ [])) (omega (arith, length_run i I (Z ∷ [])));
  J_within = J_within;
  ed = λ i l. single_same i Z X;
  ed' = λ i j l k ne. single_apart i j Z X ne;
  dd = λ i j l k. single i j X (ℕ_discrete i j);
  ee = λ i j l k. single i j Z (ℕ_discrete i j);
  je = λ i j l k. beyond (n - w) j (run (i / 2) Y (open_end w i)) Z k;
  jd = λ i j l k. beyond (n - w) j (run (i / 2) Y (open_end w i)) X k;
  jj = J_apart (n - w) w;
  sums = sum_zero (n - w) w;
  alone = λ z. ap (λ (x : ℕ). positive (run (n - w) I (open_end x 0))) z ∙ ap (λ (a : Label). row a false) (nothing (n - w));
}
  where
    single : (i j : ℕ) (l : Letter) → Dec (i ≡ j) → pairing (word (run i I (l ∷ []))) (word (run j I (l ∷ []))) ≡ 0
    single i j l (yes e) = ap (λ (x : ℕ). pairing (word (run x I (l ∷ []))) (word (run j I (l ∷ [])))) e ∙ pairing_self (word (run j I (l ∷ [])))
    single i j l (no e) = single_apart i j l l e

    J_within : (i : ℕ) → i < w + w + 1 → Within n (open_J (n - w) w i).label
    J_within i l = short n (open_word (n - w) (i / 2) (open_end w i)) (go (dec_lt i (w + w)))
      where
        len : length (open_word (n - w) (i / 2) (open_end w i)) ≡ n - w + (i / 2 + length (open_end w i))
        len = length_run (n - w) I (run (i / 2) Y (open_end w i)) ∙ ap (λ (x : ℕ). n - w + x) (length_run (i / 2) Y (open_end w i))

        half : (i w n : ℕ) → i < w + w → w ≤ n → n - w + (i / 2 + 1) ≤ n
        half i w n l h = omega arith

        whole : (i w n : ℕ) → i ≡ w + w → w ≤ n → n - w + (i / 2 + 0) ≤ n
        whole i w n l h = omega arith

        go : Dec (i < w + w) → length (open_word (n - w) (i / 2) (open_end w i)) ≤ n
        go (yes h) =
            let e = ends (n - w) w i h in
            subst (λ (x : ℕ). x ≤ n) (sym (len ∙ ap (λ (ls : List Letter). n - w + (i / 2 + length ls)) e.1)) (half i w n h wn)
        go (no h) =
            let e : i ≡ w + w = omega arith in
            subst (λ (x : ℕ). x ≤ n) (sym (len ∙ ap (λ (x : ℕ). n - w + (i / 2 + length (open_end w x))) e ∙ ap (λ (ls : List Letter). n - w + (i / 2 + length ls)) (end_none (n - w) w)))
            (whole i w n e wn)
