-- The text of a label's letters tells the label.
use Rattle.std.proofs.Common.{◌≡◌, ℕ, zero, suc, ◌+◌, ◌*◌, ◌/◌, ◌%◌, ◌^◌, ◌<◌, Bool, true, List, [], ◌∷◌, map, length, sym, refl, ap, ◌∙◌, ap₂, pow-suc, arith}
use Rattle.std.proofs.lemmas.Bool.Decides.{nat_tests}
use Rattle.pauli.specs.declared.label.Label.{Label}
use Rattle.pauli.specs.declared.letter.Letter.{Letter}
use Rattle.pauli.specs.Bits.{odd}
use Rattle.pauli.specs.Letters.{letter_of, x_of, z_of, code_of}
use Rattle.pauli.specs.Labels.{Within, fits, letters, label_text}
use Rattle.pauli_laws.specs.Spaces.{All}
use Rattle.pauli_laws.specs.Words.{word}
use Rattle.pauli_laws.proofs.Words.{by_halves}
use Rattle.pauli_laws.proofs.Signs.{num, num_lt, num_odd, odd_num, odd_mod}
use Rattle.pauli_laws.proofs.Algebra.{label, zero_within}
use Rattle.pauli_laws.proofs.OneQubit.{letter_bits}

-- ---- `fits` tells labels of n qubits

pub fits_within : (n : ℕ) (a : Label) → fits n a ≡ true → Within n a
unfolding fits
fits_within n a e = record { x = grind (arith, nat_tests); z = grind (arith, nat_tests) }

pub within_fits : (n : ℕ) (a : Label) → Within n a → fits n a ≡ true
unfolding fits
within_fits n a h = grind (arith, nat_tests, h.x, h.z)

-- ---- texts

pub text_codes : (n : ℕ) (a : Label) → All (λ c. (l : Letter) × (c ≡ code_of l)) (label_text n a)
text_codes n a = go n a.x a.z
  where
    go : (n x z : ℕ) → All (λ c. (l : Letter) × (c ≡ code_of l)) (letters n x z)
    go zero x z = tt
    go (suc n) x z = ((letter_of (odd x) (odd z), refl), go n (x / 2) (z / 2))

-- the bits of the letter that a code stands for
x_told : (p q r s : Bool) → code_of (letter_of p q) ≡ code_of (letter_of r s) → p ≡ r
x_told p q r s e = grind arith

z_told : (p q r s : Bool) → code_of (letter_of p q) ≡ code_of (letter_of r s) → q ≡ s
z_told p q r s e = grind arith

low : (x y : ℕ) → odd x ≡ odd y → x % 2 ≡ y % 2
low x y e = sym (num_odd x) ∙ ap num e ∙ num_odd y

pub text_tells : (n : ℕ) (a b : Label) → Within n a → Within n b → label_text n a ≡ label_text n b → a ≡ b
text_tells n a b ha hb e = let p = go n a.x a.z b.x b.z ha.x ha.z hb.x hb.z e in ap₂ label p.0 p.1
  where
    go : (n x z x' z' : ℕ) → x < 2 ^ n → z < 2 ^ n → x' < 2 ^ n → z' < 2 ^ n → letters n x z ≡ letters n x' z' → (x ≡ x') × (z ≡ z')
    go zero x z x' z' h k h' k' e = (omega arith, omega arith)
    go (suc n) x z x' z' h k h' k' e =
        let s = pow-suc 2 n in
        let head : code_of (letter_of (odd x) (odd z)) ≡ code_of (letter_of (odd x') (odd z')) = cc in
        let tail : letters n (x / 2) (z / 2) ≡ letters n (x' / 2) (z' / 2) = cc in
        let p = go n (x / 2) (z / 2) (x' / 2) (z' / 2) (omega arith) (omega arith) (omega arith) (omega arith) tail in (
          by_halves x x' p.0 (low x x' (x_told (odd x) (odd z) (odd x') (odd z') head)),
          by_halves z z' p.1 (low z z' (z_told (odd x) (odd z) (odd x') (odd z') head)),
        )

-- ---- words

first : (p : Bool) (n : ℕ) → odd (num p + 2 * n) ≡ p
first p n = odd_mod (num p + 2 * n) (num p) (omega arith) ∙ odd_num p

rest : (p : Bool) (n : ℕ) → (num p + 2 * n) / 2 ≡ n
rest p n = omega (arith, num_lt p)

-- the text of a word is its letters
pub word_text : (ls : List Letter) → label_text (length ls) (word ls) ≡ map code_of ls
word_text [] = refl
word_text (l ∷ ls) =
    ap₂ (λ (c : ℕ) (cs : List ℕ). c ∷ cs)
    (ap code_of (ap₂ letter_of (first (x_of l) (word ls).x) (first (z_of l) (word ls).z) ∙ letter_bits l))
    (ap₂ (letters (length ls)) (rest (x_of l) (word ls).x) (rest (z_of l) (word ls).z) ∙ word_text ls)

pub word_within : (ls : List Letter) → Within (length ls) (word ls)
word_within [] = zero_within 0
word_within (l ∷ ls) =
    let h = word_within ls in
    let s = pow-suc 2 (length ls) in
    record { x = omega (arith, num_lt (x_of l)); z = omega (arith, num_lt (z_of l)) }
