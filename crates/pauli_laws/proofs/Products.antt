-- Products of commuting rows.
use Rattle.std.proofs.Common.{◌≡◌, Bool, true, false, List, [], ◌∷◌, sym, ap, ◌∙◌, ap₂, arith}
use Rattle.pauli.specs.declared.row.Row.{Row}
use Rattle.pauli.specs.Bits.{odd, xorb}
use Rattle.pauli.specs.Labels.{plus, pairing, beta}
use Rattle.pauli.specs.Rows.{row, times, zero_row}
use Rattle.pauli_laws.specs.Spaces.{All}
use Rattle.pauli_laws.specs.Products.{chosen}
use Rattle.pauli_laws.proofs.Signs.{xorb_comm, xorb_self, xorb_false, bits}
use Rattle.pauli_laws.proofs.Algebra.{plus_comm, plus_assoc, plus_self, plus_zero, pairing_l, pairing_r, pairing_comm, pairing_self, pairing_zero, pairing_zero_r}
use Rattle.pauli_laws.proofs.Phases.{beta_comm, beta_self, beta_zero, cocycle}

-- rows commute where their labels do
abbrev pub Comm : Row → Row → Type 0
Comm r s = pairing r.label s.label ≡ 0

pub self_comm : (r : Row) → Comm r r
self_comm r = pairing_self r.label

pub comm_swap : (r s : Row) → Comm r s → Comm s r
comm_swap r s h = pairing_comm s.label r.label ∙ h

pub comm_times : (r s t : Row) → Comm r s → Comm r t → Comm r (times s t)
comm_times r s t h k = omega (arith, pairing_r r.label s.label t.label)

-- ---- the product's laws

pub times_comm : (r s : Row) → Comm r s → times r s ≡ times s r
times_comm r s h = ap₂ row (plus_comm r.label s.label) (ap₂ xorb (xorb_comm r.sign s.sign) (ap odd (beta_comm r.label s.label h)))

pub times_assoc : (r s t : Row) → Comm r s → Comm r t → Comm s t → times (times r s) t ≡ times r (times s t)
times_assoc r s t hrs hrt hst =
    let a = r.label in let b = s.label in let c = t.label in
    ap₂ row (plus_assoc a b c)
    (regroup r.sign s.sign t.sign (odd (beta a b)) (odd (beta (plus a b) c)) (odd (beta b c)) (odd (beta a (plus b c)))
    (bits (beta a b) (beta (plus a b) c) (beta b c) (beta a (plus b c)) (cocycle a b c hrs hrt hst)))
  where
    regroup : (p q r u v w t : Bool) → xorb u v ≡ xorb w t → xorb (xorb (xorb (xorb p q) u) r) v ≡ xorb (xorb p (xorb (xorb q r) w)) t
    regroup p q r u v w t e = grind arith

pub times_self : (r : Row) → times r r ≡ zero_row
times_self r = ap₂ row (plus_self r.label) (ap₂ xorb (xorb_self r.sign) (ap odd (beta_self r.label)))

pub times_zero : (r : Row) → times r zero_row ≡ r
times_zero r =
    ap₂ row (plus_zero r.label) (ap₂ xorb (xorb_false r.sign) (ap odd (beta_zero r.label)) ∙ xorb_false r.sign)

pub zero_times : (r : Row) → times zero_row r ≡ r
zero_times r = times_comm zero_row r (pairing_zero r.label) ∙ times_zero r

-- (p q)(r s) = (p r)(q s)
pub interchange : (p q r s : Row) → Comm p q → Comm p r → Comm p s → Comm q r → Comm q s → Comm r s
    → times (times p q) (times r s) ≡ times (times p r) (times q s)
interchange p q r s pq pr ps qr qs rs =
    times_assoc p q (times r s) pq (comm_times p r s pr ps) (comm_times q r s qr qs)
    ∙ ap (times p) (sym (times_assoc q r s qr qs rs) ∙ ap (λ (t : Row). times t s) (times_comm q r qr) ∙ times_assoc r q s (comm_swap q r qr) rs qs)
    ∙ sym (times_assoc p r (times q s) pr (comm_times p q s pq ps) (comm_times r q s (comm_swap q r qr) rs))

-- ---- a row that is taken or left

pub chosen_add : (b c : Bool) (r : Row) → chosen (xorb b c) r ≡ times (chosen b r) (chosen c r)
chosen_add true true r = sym (times_self r)
chosen_add true false r = sym (times_zero r)
chosen_add false true r = sym (zero_times r)
chosen_add false false r = sym (times_zero zero_row)

pub chosen_comm : (p r : Row) (b : Bool) → Comm p r → Comm p (chosen b r)
chosen_comm p r true h = h
chosen_comm p r false h = pairing_zero_r p.label

pub chosen_comm2 : (r s : Row) (b c : Bool) → Comm r s → Comm (chosen b r) (chosen c s)
chosen_comm2 r s true c h = chosen_comm r s c h
chosen_comm2 r s false c h = pairing_zero (chosen c s).label

pub chosen_all : (r : Row) (b : Bool) (es : List Row) → All (λ f. Comm r f) es → All (λ f. Comm (chosen b r) f) es
chosen_all r b [] h = tt
chosen_all r b (e ∷ es) h = (chosen_comm2 r e b true h.0, chosen_all r b es h.1)

pub times_all : (p r : Row) (es : List Row) → All (λ f. Comm p f) es → All (λ f. Comm r f) es → All (λ f. Comm (times p r) f) es
times_all p r [] h k = tt
times_all p r (e ∷ es) h k = (omega (arith, pairing_l p.label r.label e.label, h.0, k.0), times_all p r es h.1 k.1)

pub zero_all : (es : List Row) → All (λ f. Comm zero_row f) es
zero_all [] = tt
zero_all (e ∷ es) = (pairing_zero e.label, zero_all es)
