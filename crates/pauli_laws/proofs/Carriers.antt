-- Maps that carry labels with signs: what follows from their keeping sums and phases, and from the record `Carries`.
use Rattle.std.proofs.Common.{◌≡◌, ℕ, ◌+◌, ◌*◌, ◌%◌, Bool, false, sym, refl, ap, ◌∙◌, ap₂, arith}
use Rattle.pauli.specs.declared.label.Label.{Label}
use Rattle.pauli.specs.declared.row.Row.{Row}
use Rattle.pauli.specs.Bits.{odd, xorb}
use Rattle.pauli.specs.Labels.{plus, pairing, us, beta, zero_label, Within}
use Rattle.pauli.specs.Rows.{row, times}
use Rattle.pauli_laws.specs.Carriers.{Carries}
use Rattle.pauli_laws.proofs.Numbers.{halve}
use Rattle.pauli_laws.proofs.Signs.{num, odd_num, odd_mod, odd_add, xorb_self}
use Rattle.pauli_laws.proofs.Algebra.{plus_self, plus_zero, plus_same, plus_within, zero_within, label_discrete, pairing_l, pairing_zero}
use Rattle.pauli_laws.proofs.Phases.{us_mod, twice_beta, beta_self}
use Rattle.pauli_laws.proofs.Duals.{partner}

-- U keeps sums, and the phase where each sign counts for half a turn. No label is left out, and none need commute
pub record Keeps (U : Label → Label) (d : Label → Bool) : Type 0 where
  pub sums : (a b : Label) → U (plus a b) ≡ plus (U a) (U b)
  pub phases : (a b : Label) → (us (U a) (U b) + (2 * num (d a) + 2 * num (d b))) % 4 ≡ (us a b + 2 * num (d (plus a b))) % 4

module _ (U : Label → Label) (d : Label → Bool) (K : Keeps U d) where
  pub keeps_pairings : (a b : Label) → pairing (U a) (U b) ≡ pairing a b
  keeps_pairings a b = omega (arith, us_mod (U a) (U b), us_mod a b, K.phases a b)

  keeps_beta : (a b : Label) → pairing a b ≡ 0 → (beta (U a) (U b) + (num (d a) + num (d b))) % 2 ≡ (beta a b + num (d (plus a b))) % 2
  keeps_beta a b h =
      halve (beta (U a) (U b) + (num (d a) + num (d b))) (beta a b + num (d (plus a b)))
      (ap (λ (v : ℕ). v % 4) (omega (arith, twice_beta (U a) (U b) (keeps_pairings a b ∙ h)))
      ∙ K.phases a b
      ∙ ap (λ (v : ℕ). v % 4) (omega (arith, twice_beta a b h)))

  pub keeps_signs : (a b : Label) → pairing a b ≡ 0 → xorb (xorb (d a) (d b)) (d (plus a b)) ≡ xorb (odd (beta (U a) (U b))) (odd (beta a b))
  keeps_signs a b h = cross (odd (beta (U a) (U b))) (d a) (d b) (odd (beta a b)) (d (plus a b)) all
    where
      all : xorb (odd (beta (U a) (U b))) (xorb (d a) (d b)) ≡ xorb (odd (beta a b)) (d (plus a b))
      all =
          ap (xorb (odd (beta (U a) (U b)))) (sym (odd_add (num (d a)) (num (d b)) ∙ ap₂ xorb (odd_num (d a)) (odd_num (d b))))
          ∙ sym (odd_add (beta (U a) (U b)) (num (d a) + num (d b)))
          ∙ odd_mod (beta (U a) (U b) + (num (d a) + num (d b))) (beta a b + num (d (plus a b))) (keeps_beta a b h)
          ∙ odd_add (beta a b) (num (d (plus a b)))
          ∙ ap (xorb (odd (beta a b))) (odd_num (d (plus a b)))

      cross : (x p q y r : Bool) → xorb x (xorb p q) ≡ xorb y r → xorb (xorb p q) r ≡ xorb x y
      cross x p q y r e = grind arith

-- ---- what every such map does

-- the row that a row is carried to
abbrev pub carried : (Label → Label) → (Label → Bool) → Row → Row
carried U d r = row (U r.label) (xorb r.sign (d r.label))

-- a product goes to a product where the labels and the signs do
pub carried_product : (U : Label → Label) (d : Label → Bool) (r s : Row) → U (plus r.label s.label) ≡ plus (U r.label) (U s.label)
    → xorb (xorb (d r.label) (d s.label)) (d (plus r.label s.label)) ≡ xorb (odd (beta (U r.label) (U s.label))) (odd (beta r.label s.label))
    → carried U d (times r s) ≡ times (carried U d r) (carried U d s)
carried_product U d r s e f =
    ap₂ row e (mend r.sign s.sign (d r.label) (d s.label) (d (plus r.label s.label)) (odd (beta r.label s.label)) (odd (beta (U r.label) (U s.label))) f)
  where
    mend : (u v p q r x y : Bool) → xorb (xorb p q) r ≡ xorb y x → xorb (xorb (xorb u v) x) r ≡ xorb (xorb (xorb u p) (xorb v q)) y
    mend u v p q r x y e = grind arith

module _ (n : ℕ) (U V : Label → Label) (d : Label → Bool) (C : Carries n U V d) where
  -- one-to-one: labels that differ have a partner that tells them apart, before and after
  pub U_inj : (a b : Label) → Within n a → Within n b → U a ≡ U b → a ≡ b
  U_inj a b ha hb e = plus_same a b (go (label_discrete (plus a b)))
    where
      go : Dec (plus a b ≡ zero_label) → plus a b ≡ zero_label
      go (yes z) = z
      go (no ne) =
          let w = plus_within n a b ha hb in
          let p = partner n (plus a b) w.x w.z ne in
          let wp : Within n p.0 = record { x = p.1; z = p.2 } in
          absurd (omega (arith, p.3, pairing_l a b p.0, sym (C.pairings a p.0 ha wp), C.pairings b p.0 hb wp, ap (λ (l : Label). pairing l (U p.0)) e))

  pub V_U : (a : Label) → Within n a → V (U a) ≡ a
  V_U a w = U_inj (V (U a)) a (C.back (U a) (C.there a w)) w (C.onto (U a) (C.there a w))

  pub U_zero : U zero_label ≡ zero_label
  U_zero = fix (U zero_label) (sym (ap U (plus_zero zero_label)) ∙ C.sums zero_label zero_label (zero_within n) (zero_within n))
    where
      fix : (a : Label) → a ≡ plus a a → a ≡ zero_label
      fix a e = e ∙ plus_self a

  pub d_zero : d zero_label ≡ false
  d_zero =
      sym (ap d (plus_zero zero_label)) ∙ ap (λ (m : Bool). xorb m (d (plus zero_label zero_label))) (sym (xorb_self (d zero_label)))
      ∙ C.signs zero_label zero_label (zero_within n) (zero_within n) (pairing_zero zero_label)
      ∙ ap₂ (λ (x y : ℕ). xorb (odd x) (odd y)) (beta_self (U zero_label)) (beta_self zero_label)

  -- products of commuting rows go to products
  pub carried_times : (r s : Row) → Within n r.label → Within n s.label → pairing r.label s.label ≡ 0
      → carried U d (times r s) ≡ times (carried U d r) (carried U d s)
  carried_times r s hr hs h = carried_product U d r s (C.sums r.label s.label hr hs) (C.signs r.label s.label hr hs h)

-- ---- one carrier after another

pub stays_carries : (n : ℕ) → Carries n (λ a. a) (λ a. a) (λ a. false)
stays_carries n = record {
  there = λ a h. h;
  back = λ a h. h;
  onto = λ a h. refl;
  sums = λ a b ha hb. refl;
  pairings = λ a b ha hb. refl;
  signs = λ a b ha hb h. sym (xorb_self (odd (beta a b)));
}

pub then_carries : (n : ℕ) (U V U' V' : Label → Label) (d d' : Label → Bool) → Carries n U V d → Carries n U' V' d'
    → Carries n (λ a. U' (U a)) (λ a. V (V' a)) (λ a. xorb (d a) (d' (U a)))
then_carries n U V U' V' d d' C C' = record {
  there = λ a h. C'.there (U a) (C.there a h);
  back = λ a h. C.back (V' a) (C'.back a h);
  onto = λ a h. ap U' (C.onto (V' a) (C'.back a h)) ∙ C'.onto a h;
  sums = λ a b ha hb. ap U' (C.sums a b ha hb) ∙ C'.sums (U a) (U b) (C.there a ha) (C.there b hb);
  pairings = λ a b ha hb. C'.pairings (U a) (U b) (C.there a ha) (C.there b hb) ∙ C.pairings a b ha hb;
  signs = λ a b ha hb h.
      join (d a) (d b) (d (plus a b)) (d' (U a)) (d' (U b)) (d' (U (plus a b))) (odd (beta a b)) (odd (beta (U a) (U b))) (odd (beta (U' (U a)) (U' (U b))))
      (C.signs a b ha hb h)
      (ap (λ (l : Label). xorb (xorb (d' (U a)) (d' (U b))) (d' l)) (C.sums a b ha hb) ∙ C'.signs (U a) (U b) (C.there a ha) (C.there b hb) (C.pairings a b ha hb ∙ h));
}
  where
    join : (p q r p' q' r' x y z : Bool) → xorb (xorb p q) r ≡ xorb y x → xorb (xorb p' q') r' ≡ xorb z y
        → xorb (xorb (xorb p p') (xorb q q')) (xorb r r') ≡ xorb z x
    join p q r p' q' r' x y z e f = grind arith
