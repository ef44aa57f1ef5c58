-- The four labels of one qubit: their products, pairings and signs, one by one.
use Rattle.std.specs.Prelude.{◌≡◌, ℕ, Bool, true, false, not, Some, refl}
use Rattle.std.proofs.Common.{sym}
use Rattle.std.specs.Int.Count.{ones}
use Rattle.pauli.specs.declared.gate.OneQubit.{OneQubit}
use Rattle.pauli.specs.declared.gate.OneQubit.TheVariants as G
use Rattle.pauli.specs.declared.gate.Gate.TheVariants.{One}
use Rattle.pauli.specs.declared.letter.Letter.{Letter}
use Rattle.pauli.specs.declared.letter.Letter.TheVariants.{I, X, Y, Z}
use Rattle.pauli.specs.Bits.{xorb}
use Rattle.pauli.specs.Gates.{moved, flips, image_of}
use Rattle.pauli_laws.proofs.Signs.{xorb_false}
use Rattle.pauli.specs.Labels.{fits, pairing, plus}
use Rattle.qubit.specs.declared.point.Qubit.{Qubit}
use Rattle.qubit.specs.OneQubit.{sign_of, sheet_of, turned_by, label_of}

abbrev pub mul : Letter → Letter → Letter
mul I m = m
mul X I = X
mul X X = I
mul X Y = Z
mul X Z = Y
mul Y I = Y
mul Y X = Z
mul Y Y = I
mul Y Z = X
mul Z I = Z
mul Z X = Y
mul Z Y = X
mul Z Z = I

-- 1 where two letters anticommute
abbrev pub against : Letter → Letter → ℕ
against I m = 0
against X I = 0
against X X = 0
against X Y = 1
against X Z = 1
against Y I = 0
against Y X = 1
against Y Y = 0
against Y Z = 1
against Z I = 0
against Z X = 1
against Z Y = 1
against Z Z = 0

pub plus_letters : (l m : Letter) → plus (label_of l) (label_of m) ≡ label_of (mul l m)
unfolding plus
plus_letters I I = refl
plus_letters X I = refl
plus_letters Y I = refl
plus_letters Z I = refl
plus_letters l m = refl

pub pairing_letters : (l m : Letter) → pairing (label_of l) (label_of m) ≡ against l m
unfolding pairing ones
pairing_letters I I = refl
pairing_letters X I = refl
pairing_letters Y I = refl
pairing_letters Z I = refl
pairing_letters l m = refl

pub value_letter : (q : Qubit) (l : Letter) → (sheet_of q).value (label_of l) ≡ Some (sign_of q l)
unfolding fits
value_letter q I = refl
value_letter q l = refl

-- ---- gates

pub moved_letter : (g : OneQubit) (l : Letter) → moved (One g 1) (label_of l) ≡ label_of (image_of g l).letter
unfolding moved
moved_letter G.H I = refl
moved_letter G.S I = refl
moved_letter G.X I = refl
moved_letter G.Y I = refl
moved_letter G.Z I = refl
moved_letter g l = refl

pub flips_letter : (g : OneQubit) (l : Letter) → flips (One g 1) (label_of l) ≡ (image_of g l).sign
unfolding flips
flips_letter G.H I = refl
flips_letter G.S I = refl
flips_letter G.X I = refl
flips_letter G.Y I = refl
flips_letter G.Z I = refl
flips_letter g l = refl

xorb_true : (p : Bool) → xorb p true ≡ not p
xorb_true true = refl
xorb_true false = refl

pub turned_sign : (q : Qubit) (g : OneQubit) (l : Letter) → sign_of (turned_by g q) (image_of g l).letter ≡ xorb (sign_of q l) (image_of g l).sign
turned_sign q G.H I = refl
turned_sign q G.H X = sym (xorb_false q.x)
turned_sign q G.H Y = sym (xorb_true q.y)
turned_sign q G.H Z = sym (xorb_false q.z)
turned_sign q G.S I = refl
turned_sign q G.S X = sym (xorb_false q.x)
turned_sign q G.S Y = sym (xorb_true q.y)
turned_sign q G.S Z = sym (xorb_false q.z)
turned_sign q G.X I = refl
turned_sign q G.X X = sym (xorb_false q.x)
turned_sign q G.X Y = sym (xorb_true q.y)
turned_sign q G.X Z = sym (xorb_true q.z)
turned_sign q G.Y I = refl
turned_sign q G.Y X = sym (xorb_true q.x)
turned_sign q G.Y Y = sym (xorb_false q.y)
turned_sign q G.Y Z = sym (xorb_true q.z)
turned_sign q G.Z I = refl
turned_sign q G.Z X = sym (xorb_true q.x)
turned_sign q G.Z Y = sym (xorb_true q.y)
turned_sign q G.Z Z = sym (xorb_false q.z)
