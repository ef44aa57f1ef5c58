-- A label and its letters.
use Rattle.std.proofs.Common.{◌≡◌, ℕ, zero, suc, ◌/◌, ◌^◌, ◌<◌, ◌≤◌, Bool, true, false, cond, eqb, leb, List, [], ◌∷◌, ◌++◌, length, drop, Some, None, sym, refl, ap, ◌∙◌, subst, arith}
use native.Mathlib.Nat.{pow-succ'}
use Rattle.std.proofs.lemmas.Bool.{and_from, and_parts, leb-true, le-leb, eq-eqb}
use Rattle.std.proofs.lemmas.Bool.Decides.{nat_tests}
use Rattle.pauli.specs.declared.fault.Fault.{Fault}
use Rattle.pauli.specs.declared.fault.Fault.TheVariants.{BadForm, BadSize, BadLabel}
use Rattle.pauli.specs.declared.label.Label.{Label}
use Rattle.pauli.specs.Bits.{odd}
use Rattle.pauli.specs.Letters.{letter_of, code_of, is_letter, all_letters}
use Rattle.pauli.specs.Labels.{Within, letters, label_text, size_ok, reading_fault}
use Rattle.text.specs.Reading.{Hit, Miss}
use Rattle.text.specs.Texts.{same, Letters}
use Rattle.text.proofs.Runs.{all_each, each_all}
use Rattle.text.proofs.Words.{length_letters}
use Rattle.journal_lines.specs.Parts.{sized_text, Sized}

-- a letter is one, and tells its bits
code_letter : (x z : Bool) → is_letter (code_of (letter_of x z)) ≡ true
code_letter true true = refl
code_letter true false = refl
code_letter false true = refl
code_letter false false = refl

unfoldable x_from : ℕ → Bool
x_from b = cond (eqb b 88) true (eqb b 89)

unfoldable z_from : ℕ → Bool
z_from b = cond (eqb b 90) true (eqb b 89)

x_back : (x z : Bool) → x_from (code_of (letter_of x z)) ≡ x
unfolding x_from
x_back true true = refl
x_back true false = refl
x_back false true = refl
x_back false false = refl

z_back : (x z : Bool) → z_from (code_of (letter_of x z)) ≡ z
unfolding z_from
z_back true true = refl
z_back true false = refl
z_back false true = refl
z_back false false = refl

x_same : (x z v w : Bool) → code_of (letter_of x z) ≡ code_of (letter_of v w) → x ≡ v
x_same x z v w e = sym (x_back x z) ∙ ap x_from e ∙ x_back v w

z_same : (x z v w : Bool) → code_of (letter_of x z) ≡ code_of (letter_of v w) → z ≡ w
z_same x z v w e = sym (z_back x z) ∙ ap z_from e ∙ z_back v w

code_high : (x z : Bool) → 65 ≤ code_of (letter_of x z)
code_high true true = omega arith
code_high true false = omega arith
code_high false true = omega arith
code_high false false = omega arith

-- the text of a label is all letters
letters_all : (n x z : ℕ) → all_letters (letters n x z) ≡ true
letters_all zero x z = refl
letters_all (suc n) x z = and_from (is_letter (code_of (letter_of (odd x) (odd z)))) (all_letters (letters n (x / 2) (z / 2))) (code_letter (odd x) (odd z)) (letters_all n (x / 2) (z / 2))

-- and tells the label
halves : (x y : ℕ) → odd x ≡ odd y → x / 2 ≡ y / 2 → x ≡ y
halves x y p q = grind (arith, nat_tests)

-- even where the lengths are not known, but that a comma follows
pub letters_apart : (n m x z v w : ℕ) (r s : List ℕ) → x < 2 ^ n → z < 2 ^ n → v < 2 ^ m → w < 2 ^ m → letters n x z ++ 44 ∷ r ≡ letters m v w ++ 44 ∷ s → (n ≡ m) × (x ≡ v) × (z ≡ w) × (r ≡ s)
letters_apart zero zero x z v w r s hx hz hv hw e = (refl, omega arith, omega arith, cc)
letters_apart zero (suc m) x z v w r s hx hz hv hw e =
    let q : 44 ≡ code_of (letter_of (odd v) (odd w)) = cc in
    absurd (omega (arith, code_high (odd v) (odd w)))
letters_apart (suc n) zero x z v w r s hx hz hv hw e =
    let q : code_of (letter_of (odd x) (odd z)) ≡ 44 = cc in
    absurd (omega (arith, code_high (odd x) (odd z)))
letters_apart (suc n) (suc m) x z v w r s hx hz hv hw e =
    let p = pow-succ' 2 n in
    let q = pow-succ' 2 m in
    let head : code_of (letter_of (odd x) (odd z)) ≡ code_of (letter_of (odd v) (odd w)) = cc in
    let tail : letters n (x / 2) (z / 2) ++ 44 ∷ r ≡ letters m (v / 2) (w / 2) ++ 44 ∷ s = cc in
    let o = letters_apart n m (x / 2) (z / 2) (v / 2) (w / 2) r s (omega arith) (omega arith) (omega arith) (omega arith) tail in
    (ap suc o.0, halves x v (x_same (odd x) (odd z) (odd v) (odd w) head) o.1, halves z w (z_same (odd x) (odd z) (odd v) (odd w) head) o.2, o.3)

letters_same : (n x z v w : ℕ) → x < 2 ^ n → z < 2 ^ n → v < 2 ^ n → w < 2 ^ n → letters n x z ≡ letters n v w → (x ≡ v) × (z ≡ w)
letters_same n x z v w hx hz hv hw e =
    let o = letters_apart n n x z v w [] [] hx hz hv hw (ap (λ l. l ++ 44 ∷ []) e) in
    (o.1, o.2)

-- letters as long as the size says are read without a refusal
pub read_size : (n : ℕ) (l : List ℕ) → Letters l → n ≡ length l → length l ≤ 64 → size_ok n ≡ true
read_size n l law e h = and_from (leb 1 n) (leb n 64) (le-leb 1 n (omega (arith, law.some))) (le-leb n 64 (omega arith))

pub read_never : (n : ℕ) (l : List ℕ) (f : Fault) → Letters l → n ≡ length l → length l ≤ 64 → reading_fault n l ≡ Some f → ⊥
read_never n l f law e h bad =
    let none : reading_fault n l ≡ None = (λ i. cond (all_each l law.each i) (cond (read_size n l law e h i) (cond (eq-eqb (length l) n (sym e) i) None (Some BadLabel)) (Some BadSize)) (Some BadForm)) in
    let z : ◌≡◌ {A = ℕ} 0 1 = cc in
    omega arith

sized_letters : (p : ℕ × Label) → Sized p → Letters (sized_text p)
sized_letters p s =
    let n = length_letters p.0 p.1.x p.1.z in
    record {
      some = omega (arith, leb-true 1 p.0 (and_parts (leb 1 p.0) (leb p.0 64) s.size).0);
      each = each_all (sized_text p) (letters_all p.0 p.1.x p.1.z);
    }

module _ (t : List ℕ) (at : ℕ) where
  pub sized_none : Miss same Letters 44 t at → Miss sized_text Sized 44 t at
  sized_none miss = record { never = λ p rest s d. miss.never (sized_text p) rest (sized_letters p s) d }

  module _ (l : List ℕ) (to : ℕ) (hit : Hit same Letters 44 t at l to) where
    pub sized_long : 64 < length l → Miss sized_text Sized 44 t at
    sized_long h = record {
      never = λ p rest s d.
          let o = hit.only (sized_text p) rest (sized_letters p s) d in
          let n = length_letters p.0 p.1.x p.1.z in
          omega (arith, ap length o.0, leb-true p.0 64 (and_parts (leb 1 p.0) (leb p.0 64) s.size).1);
    }

    pub sized_hit : (n : ℕ) (a : Label) → n ≡ length l → length l ≤ 64 → Within n a → l ≡ label_text n a → Hit sized_text Sized 44 t at (n, a) to
    sized_hit n a e h w is = record {
      law = record { size = read_size n l hit.law e h; label = w };
      within = hit.within;
      is = hit.is ∙ ap (λ x. x ++ 44 ∷ drop to t) is;
      only = λ p rest s d.
          let o = hit.only (sized_text p) rest (sized_letters p s) d in
          let m : p.0 ≡ n = sym (length_letters p.0 p.1.x p.1.z) ∙ ap length o.0 ∙ sym e in
          let w' : Within n p.1 = subst (λ k. Within k p.1) m s.label in
          let text : letters n p.1.x p.1.z ≡ letters n a.x a.z = ap (λ k. letters k p.1.x p.1.z) (sym m) ∙ o.0 ∙ is in
          let q = letters_same n p.1.x p.1.z a.x a.z w'.x w'.z w.x w.z text in
          ((λ i. (m i, record { x = q.0 i; z = q.1 i })), o.1);
    }
