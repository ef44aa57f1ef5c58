-- The words of the opening rows.
use Rattle.std.proofs.Common.{◌≡◌, ℕ, zero, suc, ◌+◌, ◌*◌, ◌/◌, ◌%◌, ◌^◌, ◌<◌, Bool, false, cond, eqb, List, [], ◌∷◌, sym, refl, ap, ◌∙◌, ap₂, mod-eq_of_lt, mul_assoc, one-mul, mul-zero, mul-one, mul-add, arith, pow-add, eq-eqb, ne_eqb}
use native.Mathlib.Nat.{pow-succ'}
use lib.Pow.{pow-lt}
use Rattle.pauli.specs.declared.letter.Letter.{Letter}
use Rattle.pauli.specs.declared.letter.Letter.TheVariants.{I, X, Y, Z}
use Rattle.pauli.specs.declared.label.Label.{Label}
use Rattle.pauli.specs.Bits.{odd}
use Rattle.pauli.specs.Rows.{row}
use Rattle.pauli_laws.specs.Words.{word}
use Rattle.tableau_laws.specs.Opening.{run, open_D, open_E, open_word, open_end, open_J}

abbrev label : ℕ → ℕ → Label
label x z = record { x = x; z = z }

-- a bit shifted to place k of a word of 64 bits
pub shifted : (k : ℕ) → k < 64 → (1 * 2 ^ k) % 2 ^ 64 ≡ 2 ^ k
shifted k h = let b : 2 ^ k < 2 ^ 64 = pow-lt h in ap (λ (n : ℕ). n % 2 ^ 64) (one-mul (2 ^ k)) ∙ mod-eq_of_lt b

twice : (p x y : ℕ) → y ≡ p * x → 0 + 2 * y ≡ 2 * p * x
twice p x y e = let a : 2 * p * x ≡ 2 * (p * x) = mul_assoc 2 p x in omega arith

-- letters I shift the word
after_x : (h : ℕ) (ls : List Letter) → (word (run h I ls)).x ≡ 2 ^ h * (word ls).x
after_x zero ls = sym (one-mul (word ls).x)
after_x (suc h) ls = twice (2 ^ h) (word ls).x _ (after_x h ls) ∙ ap (λ (p : ℕ). p * (word ls).x) (sym (pow-succ' 2 h))

after_z : (h : ℕ) (ls : List Letter) → (word (run h I ls)).z ≡ 2 ^ h * (word ls).z
after_z zero ls = sym (one-mul (word ls).z)
after_z (suc h) ls = twice (2 ^ h) (word ls).z _ (after_z h ls) ∙ ap (λ (p : ℕ). p * (word ls).z) (sym (pow-succ' 2 h))

-- letters Y fill both words
more : (p x y : ℕ) → y + 1 ≡ p * x → 1 + 2 * y + 1 ≡ 2 * p * x
more p x y e = let a : 2 * p * x ≡ 2 * (p * x) = mul_assoc 2 p x in omega arith

full_x : (i : ℕ) (ls : List Letter) → (word (run i Y ls)).x + 1 ≡ 2 ^ i * ((word ls).x + 1)
full_x zero ls = sym (one-mul ((word ls).x + 1))
full_x (suc i) ls = more (2 ^ i) ((word ls).x + 1) _ (full_x i ls) ∙ ap (λ (p : ℕ). p * ((word ls).x + 1)) (sym (pow-succ' 2 i))

full_z : (i : ℕ) (ls : List Letter) → (word (run i Y ls)).z + 1 ≡ 2 ^ i * ((word ls).z + 1)
full_z zero ls = sym (one-mul ((word ls).z + 1))
full_z (suc i) ls = more (2 ^ i) ((word ls).z + 1) _ (full_z i ls) ∙ ap (λ (p : ℕ). p * ((word ls).z + 1)) (sym (pow-succ' 2 i))

-- both, with what is missing at the first h places added
topped : (h i y v : ℕ) → y + 1 ≡ 2 ^ i * v → 2 ^ h * y + 2 ^ h ≡ 2 ^ (h + i) * v
topped h i y v e =
    let a : 2 ^ h * (y + 1) ≡ 2 ^ h * y + 2 ^ h * 1 = mul-add (2 ^ h) y 1 in
    let o : 2 ^ h * 1 ≡ 2 ^ h = mul-one (2 ^ h) in
    let m : 2 ^ h * (y + 1) ≡ 2 ^ (h + i) * v
    = ap (λ (n : ℕ). 2 ^ h * n) e ∙ sym (mul_assoc (2 ^ h) (2 ^ i) v) ∙ ap (λ (p : ℕ). p * v) (sym (pow-add 2 h i)) in
    omega arith

cancel : (a b h v : ℕ) → a + h ≡ v → b + h ≡ v → a ≡ b
cancel a b h v p q = omega arith

-- a label whose words are so is the opening's
pub open_is : (h i x z : ℕ) (ls : List Letter) → x + 2 ^ h ≡ 2 ^ (h + i) * ((word ls).x + 1) → z + 2 ^ h ≡ 2 ^ (h + i) * ((word ls).z + 1)
    → label x z ≡ word (open_word h i ls)
open_is h i x z ls ex ez =
    ap₂ label
    (cancel x _ (2 ^ h) _ ex (topped h i (word (run i Y ls)).x ((word ls).x + 1) (full_x i ls)) ∙ sym (after_x h (run i Y ls)))
    (cancel z _ (2 ^ h) _ ez (topped h i (word (run i Y ls)).z ((word ls).z + 1) (full_z i ls)) ∙ sym (after_z h (run i Y ls)))

pub open_D_is : (j : ℕ) → label (2 ^ j) 0 ≡ open_D j
open_D_is j = sym (ap₂ label (after_x j (X ∷ []) ∙ mul-one (2 ^ j)) (after_z j (X ∷ []) ∙ mul-zero (2 ^ j)))

pub open_E_is : (j : ℕ) → row (label 0 (2 ^ j)) false ≡ open_E j
open_E_is j = ap (λ (a : Label). row a false) (sym (ap₂ label (after_x j (Z ∷ []) ∙ mul-zero (2 ^ j)) (after_z j (Z ∷ []) ∙ mul-one (2 ^ j))))

-- where so many Y stand, the rows of the next two, and the last row
module _ (h w i ys : ℕ) (is : ys + 2 ^ h ≡ 2 ^ (h + i)) where
  at : (q : ℕ) (ls : List Letter) (x z : ℕ) → q / 2 ≡ i → open_end w q ≡ ls → label x z ≡ word (open_word h i ls) → row (label x z) false ≡ open_J h w q
  at q ls x z eq el e = ap (λ (a : Label). row a false) (e ∙ ap₂ (λ (j : ℕ) (ks : List Letter). word (open_word h j ks)) (sym eq) (sym el))

  pub open_even : i < w → row (label ys (ys + 2 ^ (h + i))) false ≡ open_J h w (i + i)
  open_even lt =
      let half : (i + i) / 2 ≡ i = omega arith in
      let even : (i + i) % 2 ≡ 0 = omega arith in
      at (i + i) (Z ∷ []) ys (ys + 2 ^ (h + i)) half
      (ap₂ (λ (a b : Bool). cond a [] (cond b (X ∷ []) (Z ∷ []))) (ne_eqb (i + i) (w + w) (λ e. omega arith)) (ap (λ (n : ℕ). eqb n 1) even))
      (open_is h i ys (ys + 2 ^ (h + i)) (Z ∷ []) (omega arith) (omega arith))

  pub open_odd : i < w → row (label (ys + 2 ^ (h + i)) ys) false ≡ open_J h w (i + i + 1)
  open_odd lt =
      let half : (i + i + 1) / 2 ≡ i = omega arith in
      let odd_one : (i + i + 1) % 2 ≡ 1 = omega arith in
      at (i + i + 1) (X ∷ []) (ys + 2 ^ (h + i)) ys half
      (ap₂ (λ (a b : Bool). cond a [] (cond b (X ∷ []) (Z ∷ []))) (ne_eqb (i + i + 1) (w + w) (λ e. omega arith)) (ap (λ (n : ℕ). eqb n 1) odd_one))
      (open_is h i (ys + 2 ^ (h + i)) ys (X ∷ []) (omega arith) (omega arith))

  pub open_last : i ≡ w → row (label ys ys) false ≡ open_J h w (w + w)
  open_last e =
      let half : (w + w) / 2 ≡ i = omega arith in
      at (w + w) [] ys ys half
      (ap (λ (a : Bool). cond a [] (cond (odd (w + w)) (X ∷ []) (Z ∷ []))) (eq-eqb (w + w) (w + w) refl))
      (open_is h i ys ys [] (omega arith) (omega arith))

  pub next_sum : (ys + 2 ^ (h + i)) + 2 ^ h ≡ 2 ^ (h + (i + 1))
  next_sum =
      let e : h + (i + 1) ≡ suc (h + i) = omega arith in
      let p : 2 ^ (h + (i + 1)) ≡ 2 * 2 ^ (h + i) = ap (λ (n : ℕ). 2 ^ n) e ∙ pow-succ' 2 (h + i) in
      omega arith
