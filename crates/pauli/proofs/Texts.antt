-- Texts of letters, one letter at a time.
use Rattle.std.proofs.Common.{◌≡◌, ◌≢◌, ℕ, zero, suc, ◌+◌, ◌-◌, ◌*◌, ◌/◌, ◌%◌, ◌^◌, ◌<◌, ◌≤◌, Bool, true, false, ◌&&◌, eqb, List, ◌∷◌, length, get_or, drop, is_ok, Ok, Err, Result, sym, refl, ap, ◌∙◌, ap₂, pow-suc, arith, ne_eqb, reverse}
use mir.Val.{bool_byte}
use Rattle.std.proofs.lemmas.List.{drop_more, length-reverse, get_or-reverse}
use Rattle.std.proofs.lemmas.Grind.{get_or_default_zero}
use Rattle.pauli.specs.declared.fault.Fault.{Fault}
use Rattle.pauli.specs.declared.label.Label.{Label}
use Rattle.pauli.specs.declared.letter.Letter.{Letter}
use Rattle.pauli.specs.declared.letter.Letter.TheVariants.{I, X, Y, Z}
use Rattle.pauli.specs.Bits.{odd, bit_of}
use Rattle.pauli.specs.Letters.{letter_of, x_of, z_of, code_of, is_letter, all_letters}
use Rattle.pauli.specs.Labels.{Within, at, letters, label_text}
use Rattle.pauli.specs.Names.{Named}
use Rattle.pauli.proofs.Words.{bit_half, bit_low}

-- a code is a letter's exactly if it is read as one
pub is_code : (b : ℕ) (l : Letter) → b ≡ code_of l → is_letter b ≡ true
is_code b I e = rw e refl
is_code b X e = rw e refl
is_code b Y e = rw e refl
is_code b Z e = rw e refl

pub is_no_code : (b : ℕ) → ((l : Letter) → b ≢ code_of l) → is_letter b ≡ false
is_no_code b h = rw (ne_eqb b 73 (h I), ne_eqb b 88 (h X), ne_eqb b 89 (h Y), ne_eqb b 90 (h Z)) refl

pub read_letter : (b : ℕ) (r : Result Letter Fault) → Named code_of b r → is_ok r ≡ is_letter b
read_letter b (Ok l) e = sym (is_code b l e)
read_letter b (Err f) h = sym (is_no_code b h.1)

-- a letter is that of its bits
letter_again : (l : Letter) → letter_of (x_of l) (z_of l) ≡ l
letter_again I = refl
letter_again X = refl
letter_again Y = refl
letter_again Z = refl

odd_low : (v : ℕ) (p : Bool) → odd (2 * v + bool_byte p) ≡ p
odd_low v true = let e : (2 * v + 1) % 2 ≡ 1 = omega arith in ap (λ (n : ℕ). eqb n 1) e
odd_low v false = let e : (2 * v + 0) % 2 ≡ 0 = omega arith in ap (λ (n : ℕ). eqb n 1) e

half_low : (v : ℕ) (p : Bool) → (2 * v + bool_byte p) / 2 ≡ v
half_low v true = omega arith
half_low v false = omega arith

low_below : (m v : ℕ) (p : Bool) → v < 2 ^ m → 2 * v + bool_byte p < 2 ^ suc m
low_below m v true h = omega (arith, pow-suc 2 m)
low_below m v false h = omega (arith, pow-suc 2 m)

-- the letters from place i on are all letters, and the text of the label a
pub record Gathered (t : List ℕ) (i : ℕ) (a : Label) : Type 0 where
  pub are_letters : all_letters (drop i t) ≡ true
  pub within : Within (length t - i) a
  pub text : drop i t ≡ label_text (length t - i) a

-- one letter more, below the others
pub gather_more : (t : List ℕ) (i : ℕ) (a : Label) (l : Letter) → 0 < i → i ≤ length t → get_or t (i - 1) 0 ≡ code_of l → Gathered t i a
    → Gathered t (i - 1) (record { x = 2 * a.x + bool_byte (x_of l); z = 2 * a.z + bool_byte (z_of l) })
gather_more t i a l some h code g =
    let k = i - 1 in
    let m = length t - i in
    let size : length t - k ≡ suc m = omega arith in
    let next : drop k t ≡ get_or t k 0 ∷ drop i t = drop_more t k 0 (omega arith) ∙ ap (λ (j : ℕ). get_or t k 0 ∷ drop j t) (omega arith) in
    record {
      are_letters = ap all_letters next ∙ ap₂ ◌&&◌ (is_code (get_or t k 0) l code) g.are_letters;
      within = rw size (record { x = low_below m a.x (x_of l) g.within.x; z = low_below m a.z (z_of l) g.within.z });
      text =
          next ∙ ap₂ (λ (c : ℕ) (cs : List ℕ). c ∷ cs)
          (code ∙ sym (ap code_of (ap₂ letter_of (odd_low a.x (x_of l)) (odd_low a.z (z_of l)) ∙ letter_again l)))
          (g.text ∙ sym (ap₂ (letters m) (half_low a.x (x_of l)) (half_low a.z (z_of l))))
          ∙ ap (λ (j : ℕ). label_text j (record { x = 2 * a.x + bool_byte (x_of l); z = 2 * a.z + bool_byte (z_of l) })) (sym size);
    }

-- ---- letters by their places

pub text_length : (n : ℕ) (a : Label) → length (label_text n a) ≡ n
text_length n a = go n a.x a.z
  where
    go : (n x z : ℕ) → length (letters n x z) ≡ n
    go zero x z = refl
    go (suc n) x z = ap suc (go n (x / 2) (z / 2))

-- the letter at place i is written there
pub text_at : (n : ℕ) (a : Label) (i : ℕ) → i < n → get_or (label_text n a) i 0 ≡ code_of (at a i)
text_at n a i h = go n a.x a.z i h
  where
    go : (n x z i : ℕ) → i < n → get_or (letters n x z) i 0 ≡ code_of (letter_of (bit_of x i) (bit_of z i))
    go zero x z i h = absurd (omega arith)
    go (suc n) x z zero h = ap₂ (λ (p q : Bool). code_of (letter_of p q)) (sym (bit_low x)) (sym (bit_low z))
    go (suc n) x z (suc i) h = go n (x / 2) (z / 2) i (omega arith) ∙ ap₂ (λ (p q : Bool). code_of (letter_of p q)) (bit_half x i) (bit_half z i)

-- ---- read from the end on

-- the item that a walk from the end gives after n others
pub from_end : (t : List ℕ) (n b : ℕ) → (n < length (reverse t)) × (b ≡ get_or (reverse t) n b) → (n < length t) × (get_or t (length t - n - 1) 0 ≡ b)
from_end t n b h =
    let r : length (reverse t) ≡ length t = length-reverse t in
    let l : n < length t = omega arith in
    let at : length t - 1 - n ≡ length t - n - 1 = omega arith in
    (l, sym (h.1 ∙ get_or-reverse t n b l ∙ ap (λ (k : ℕ). get_or t k b) at ∙ get_or_default_zero t (length t - n - 1) b (omega arith)))
