-- Labels: their product, how two of them commute, the sign rule, and their letters.
use Rattle.std.specs.Prelude.{ℕ, zero, suc, ◌+◌, ◌*◌, ◌/◌, ◌%◌, ◌^◌, ◌<◌, Bool, cond, ◌&&◌, List, [], ◌∷◌, length, Some, None, Option, ◌==◌, bit_and, bit_xor, count_ones, nat_le, nat_lt}
use Rattle.pauli.specs.declared.fault.Fault.{Fault}
use Rattle.pauli.specs.declared.fault.Fault.TheVariants.{BadForm, BadSize, BadQubit, BadLabel, ShortBuffer}
use Rattle.pauli.specs.declared.label.Label.{Label}
use Rattle.pauli.specs.declared.letter.Letter.{Letter}
use Rattle.pauli.specs.Bits.{odd, bit_of, with_bit}
use Rattle.pauli.specs.Letters.{letter_of, x_of, z_of, code_of, all_letters}

-- all letters I
abbrev pub zero_label : Label
zero_label = record { x = 0; z = 0 }

-- the product a+b: the exclusive or of both words
unfoldable pub plus : Label → Label → Label
plus a b = record { x = bit_xor a.x b.x; z = bit_xor a.z b.z }

-- [a,b]: 0 where the labels commute, 1 where they anticommute
unfoldable pub pairing : Label → Label → ℕ
pairing a b = (count_ones (bit_and a.x b.z) + count_ones (bit_and a.z b.x)) % 2

-- y(a): how many letters are Y
unfoldable pub ys : Label → ℕ
ys a = count_ones (bit_and a.x a.z)

-- k(a,b): at how many qubits a has z and b has x
unfoldable pub ks : Label → Label → ℕ
ks a b = count_ones (bit_and a.z b.x)

-- u(a,b): the phase of the product, counted in quarter turns
unfoldable pub us : Label → Label → ℕ
us a b = (ys a + ys b + 2 * ks a b + 3 * ys (plus a b)) % 4

-- β(a,b): the sign of the product. It is the rule's for commuting labels alone, where u is 0 or 2
unfoldable pub beta : Label → Label → ℕ
beta a b = us a b / 2

-- a label of n qubits: no letter beyond qubit n
pub record Within (n : ℕ) (a : Label) : Type 0 where
  pub x : a.x < 2 ^ n
  pub z : a.z < 2 ^ n

-- whether it is one
unfoldable pub fits : ℕ → Label → Bool
fits n a = nat_lt a.x (2 ^ n) && nat_lt a.z (2 ^ n)

-- the letter at the qubit that owns the bit of value 2 ^ i, qubit i+1
abbrev pub at : Label → ℕ → Letter
at a i = letter_of (bit_of a.x i) (bit_of a.z i)

-- a with that letter made l
abbrev pub put : Label → ℕ → Letter → Label
put a i l = record { x = with_bit a.x i (x_of l); z = with_bit a.z i (z_of l) }

-- the text of n letters, qubit 1 first
abbrev pub letters : ℕ → ℕ → ℕ → List ℕ
letters zero x z = []
letters (suc n) x z = code_of (letter_of (odd x) (odd z)) ∷ letters n (x / 2) (z / 2)

abbrev pub label_text : ℕ → Label → List ℕ
label_text n a = letters n a.x a.z

-- the sign of the product of two labels, which only commuting ones have
unfoldable pub product_sign : Label → Label → Option Bool
product_sign a b = cond (odd (pairing a b)) None (Some (odd (beta a b)))

-- ---- refusals

-- how many qubits there can be
abbrev pub size_ok : ℕ → Bool
size_ok n = nat_le 1 n && nat_le n 64

-- whether q is one of n qubits
abbrev pub on_board : ℕ → ℕ → Bool
on_board n q = nat_le 1 q && nat_le q n

abbrev pub letter_fault : ℕ → Option Fault
letter_fault q = cond (on_board 64 q) None (Some BadQubit)

-- a text is read as a label of n qubits
abbrev pub reading_fault : ℕ → List ℕ → Option Fault
reading_fault n t = cond (all_letters t) (cond (size_ok n) (cond (length t == n) None (Some BadLabel)) (Some BadSize)) (Some BadForm)

-- the n letters of a label are written where there is room for so many bytes
abbrev pub writing_fault : ℕ → Label → ℕ → Option Fault
writing_fault n a room = cond (size_ok n) (cond (fits n a) (cond (nat_le n room) None (Some ShortBuffer)) (Some BadLabel)) (Some BadSize)
