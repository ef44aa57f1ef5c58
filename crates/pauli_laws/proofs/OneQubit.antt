-- A one-qubit gate keeps sums and phases, and undoes itself on labels.
use Rattle.std.proofs.Common.{◌≡◌, ℕ, suc, ◌+◌, ◌*◌, ◌%◌, ◌<◌, Bool, true, false, T, eqb, sym, refl, ap, ◌∙◌, ap₂, arith, eqb→eq}
use mathlib.Core.Bool.{beq}
use Rattle.pauli.specs.declared.label.Label.{Label}
use Rattle.pauli.specs.declared.letter.Letter.{Letter}
use Rattle.pauli.specs.declared.letter.Letter.TheVariants as L
use Rattle.pauli.specs.declared.gate.OneQubit.{OneQubit}
use Rattle.pauli.specs.declared.gate.OneQubit.TheVariants as G
use Rattle.pauli.specs.Bits.{xorb, bit_of}
use Rattle.pauli.specs.Letters.{letter_of, x_of, z_of}
use Rattle.pauli.specs.Labels.{plus, us, at, put, Within}
use Rattle.pauli.specs.Gates.{image_of, turned, turn_flips}
use Rattle.pauli_laws.proofs.Cases.{all4, at4, same}
use Rattle.pauli_laws.proofs.Signs.{num}
use Rattle.pauli_laws.proofs.Algebra.{label, within_large}
use Rattle.pauli_laws.proofs.Places.{bit_of_xor, with_same, with_other, with_xor, with_lt, with_back}
use Rattle.pauli_laws.proofs.PlacePhases.{u_at, u_path, phase_one}
use Rattle.pauli_laws.proofs.Carriers.{Keeps}

-- ---- letters: each rule is tested at every pair of them

abbrev to : OneQubit → Bool → Bool → Letter
to g p q = (image_of g (letter_of p q)).letter

abbrev flip : OneQubit → Bool → Bool → Bool
flip g p q = (image_of g (letter_of p q)).sign

x_test : OneQubit → Bool → Bool → Bool → Bool → Bool
x_test g p q r s = beq (x_of (to g (xorb p r) (xorb q s))) (xorb (x_of (to g p q)) (x_of (to g r s)))

z_test : OneQubit → Bool → Bool → Bool → Bool → Bool
z_test g p q r s = beq (z_of (to g (xorb p r) (xorb q s))) (xorb (z_of (to g p q)) (z_of (to g r s)))

u_test : OneQubit → Bool → Bool → Bool → Bool → Bool
u_test g p q r s =
    eqb ((u_at (x_of (to g p q)) (z_of (to g p q)) (x_of (to g r s)) (z_of (to g r s)) + (2 * num (flip g p q) + 2 * num (flip g r s))) % 4)
    ((u_at p q r s + 2 * num (flip g (xorb p r) (xorb q s))) % 4)

x_holds : (g : OneQubit) → T (all4 (x_test g))
unfolding x_test
x_holds G.H = tt
x_holds G.S = tt
x_holds G.X = tt
x_holds G.Y = tt
x_holds G.Z = tt

z_holds : (g : OneQubit) → T (all4 (z_test g))
unfolding z_test
z_holds G.H = tt
z_holds G.S = tt
z_holds G.X = tt
z_holds G.Y = tt
z_holds G.Z = tt

u_holds : (g : OneQubit) → T (all4 (u_test g))
unfolding u_test
u_holds G.H = tt
u_holds G.S = tt
u_holds G.X = tt
u_holds G.Y = tt
u_holds G.Z = tt

-- twice the same gate gives the letter back
again : (g : OneQubit) (l : Letter) → (image_of g (image_of g l).letter).letter ≡ l
again G.H L.I = refl
again G.H L.X = refl
again G.H L.Y = refl
again G.H L.Z = refl
again G.S L.I = refl
again G.S L.X = refl
again G.S L.Y = refl
again G.S L.Z = refl
again G.X L.I = refl
again G.X L.X = refl
again G.X L.Y = refl
again G.X L.Z = refl
again G.Y L.I = refl
again G.Y L.X = refl
again G.Y L.Y = refl
again G.Y L.Z = refl
again G.Z L.I = refl
again G.Z L.X = refl
again G.Z L.Y = refl
again G.Z L.Z = refl

-- ---- labels

pub letter_bits : (l : Letter) → letter_of (x_of l) (z_of l) ≡ l
letter_bits L.I = refl
letter_bits L.X = refl
letter_bits L.Y = refl
letter_bits L.Z = refl

pub bits_x : (p q : Bool) → x_of (letter_of p q) ≡ p
bits_x true true = refl
bits_x true false = refl
bits_x false true = refl
bits_x false false = refl

pub bits_z : (p q : Bool) → z_of (letter_of p q) ≡ q
bits_z true true = refl
bits_z true false = refl
bits_z false true = refl
bits_z false false = refl

pub at_put : (a : Label) (i : ℕ) (l : Letter) → at (put a i l) i ≡ l
at_put a i l = ap₂ letter_of (with_same a.x i (x_of l)) (with_same a.z i (z_of l)) ∙ letter_bits l

pub put_back : (a : Label) (i : ℕ) (l : Letter) → put (put a i l) i (at a i) ≡ a
put_back a i l =
    ap₂ label
    (with_back a.x i (x_of l) (x_of (at a i)) (bits_x (bit_of a.x i) (bit_of a.z i)))
    (with_back a.z i (z_of l) (z_of (at a i)) (bits_z (bit_of a.x i) (bit_of a.z i)))

pub put_within : (n : ℕ) (a : Label) (i : ℕ) (l : Letter) → Within n a → i < n → Within n (put a i l)
put_within n a i l h k = record { x = with_lt n a.x i (x_of l) h.x k; z = with_lt n a.z i (z_of l) h.z k }

pub turned_again : (g : OneQubit) (i : ℕ) (a : Label) → turned g i (turned g i a) ≡ a
turned_again g i a =
    ap (λ (l : Letter). put (turned g i a) i (image_of g l).letter) (at_put a i (image_of g (at a i)).letter)
    ∙ ap (put (turned g i a) i) (again g (at a i))
    ∙ put_back a i (image_of g (at a i)).letter

module _ (g : OneQubit) (i : ℕ) (a b : Label) where
  abbrev ax : Bool
  ax = bit_of a.x i

  abbrev az : Bool
  az = bit_of a.z i

  abbrev bx : Bool
  bx = bit_of b.x i

  abbrev bz : Bool
  bz = bit_of b.z i

  at_plus : at (plus a b) i ≡ letter_of (xorb ax bx) (xorb az bz)
  unfolding plus
  at_plus = ap₂ letter_of (bit_of_xor a.x b.x i) (bit_of_xor a.z b.z i)

  turned_sums : turned g i (plus a b) ≡ plus (turned g i a) (turned g i b)
  unfolding plus x_test z_test
  turned_sums =
      ap₂ label
      (with_xor a.x b.x i (x_of (to g ax az)) (x_of (to g bx bz)) (x_of (image_of g (at (plus a b) i)).letter)
      (ap (λ (l : Letter). x_of (image_of g l).letter) at_plus ∙ same _ _ (at4 (x_test g) (x_holds g) ax az bx bz)))
      (with_xor a.z b.z i (z_of (to g ax az)) (z_of (to g bx bz)) (z_of (image_of g (at (plus a b) i)).letter)
      (ap (λ (l : Letter). z_of (image_of g l).letter) at_plus ∙ same _ _ (at4 (z_test g) (z_holds g) ax az bx bz)))

  turned_phases : (us (turned g i a) (turned g i b) + (2 * num (turn_flips g i a) + 2 * num (turn_flips g i b))) % 4 ≡ (us a b + 2 * num (turn_flips g i (plus a b))) % 4
  unfolding u_test
  turned_phases =
      let n = suc (i + (a.x + a.z + (b.x + b.z))) in
      let wa : Within n a = within_large n a (omega arith) (omega arith) in
      let wb : Within n b = within_large n b (omega arith) (omega arith) in
      let r = 2 * num (turn_flips g i a) + 2 * num (turn_flips g i b) in
      phase_one n a b (turned g i a) (turned g i b) wa wb (put_within n a i (to g ax az) wa (omega arith)) (put_within n b i (to g bx bz) wb (omega arith))
      i (omega arith)
      (λ j h. u_path
      (with_other a.x i j (x_of (to g ax az)) h) (with_other a.z i j (z_of (to g ax az)) h)
      (with_other b.x i j (x_of (to g bx bz)) h) (with_other b.z i j (z_of (to g bx bz)) h))
      r (2 * num (turn_flips g i (plus a b)))
      (ap (λ (v : ℕ). (v + r) % 4) (u_path
      (with_same a.x i (x_of (to g ax az))) (with_same a.z i (z_of (to g ax az)))
      (with_same b.x i (x_of (to g bx bz))) (with_same b.z i (z_of (to g bx bz))))
      ∙ eqb→eq _ _ (at4 (u_test g) (u_holds g) ax az bx bz)
      ∙ ap (λ (l : Letter). (u_at ax az bx bz + 2 * num (image_of g l).sign) % 4) (sym at_plus))

pub turned_keeps : (g : OneQubit) (i : ℕ) → Keeps (turned g i) (turn_flips g i)
turned_keeps g i = record { sums = turned_sums g i; phases = turned_phases g i }
