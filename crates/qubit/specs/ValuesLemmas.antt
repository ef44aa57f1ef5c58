-- One qubit of width 1 meets the laws, and its gates, looks and measurements are what they must be.
use Rattle.std.specs.Prelude.{◌≡◌, ℕ, zero, suc, ◌<◌, Bool, true, false, cond, not, ◌&&◌, ◌≢◌, Some, None, Option, nat_le}
use Rattle.std.specs.Bool.{beq}
use Rattle.std.proofs.Math.Path.{refl}
use Rattle.std.proofs.Common.{sym, ap, subst, ◌∙◌}
use native.Mathlib.Omega.{arith}
use Rattle.std.proofs.lemmas.Bool.Decides.{nat_tests}
use Rattle.pauli.specs.declared.fault.Fault.{Fault}
use Rattle.pauli.specs.declared.fault.Fault.TheVariants.{BadQubit}
use Rattle.pauli.specs.declared.gate.OneQubit.{OneQubit}
use Rattle.pauli.specs.declared.gate.Gate.TheVariants.{One}
use Rattle.pauli.specs.declared.label.Label.{Label}
use Rattle.pauli.specs.declared.letter.Letter.{Letter}
use Rattle.pauli.specs.declared.letter.Letter.TheVariants.{I, X, Y, Z}
use Rattle.pauli.specs.Bits.{xorb, odd}
use Rattle.pauli.specs.Gates.{moved, flips, gate_fault, image_of}
use Rattle.pauli.specs.Labels.{at, fits, pairing, plus, beta, zero_label, Within}
use Rattle.pauli_laws.proofs.Algebra.{pairing_zero, pairing_zero_r}
use Rattle.pauli_laws.proofs.Phases.{beta_self, zero_beta, beta_zero}
use Rattle.pauli_laws.proofs.Signs.{xorb_false, xorb_self}
use Rattle.pauli_laws.proofs.Texts.{fits_within, within_fits}
use Rattle.phase.specs.Effects.{signed, Gated, Effect, Measured, Unchanged, Turned}
use Rattle.phase.specs.LabelCases.{Looked}
use Rattle.phase.specs.Sheets.{Lawful, Central, Outer, Valued}
use Rattle.qubit.specs.declared.point.Qubit.{Qubit}
use Rattle.qubit.specs.OneQubit.{sign_of, case_of, coins_of, sheet_of, turned_by, label_of, flipped_by}
use Rattle.qubit.specs.Letters.{mul, against, plus_letters, pairing_letters, value_letter, moved_letter, flips_letter, turned_sign}

never : {X : Type 0} → ◌≡◌ {A = ℕ} 0 1 → X
never e = absurd (go e)
  where
    go : ◌≡◌ {A = ℕ} 0 1 → ⊥
    go e = omega arith

-- ---- labels of one qubit are letters

two_by_two : (x z : ℕ) → x < 2 → z < 2 → record { x = x; z = z } ≡ label_of (at (record { x = x; z = z }) 0)
two_by_two zero zero h k = refl
two_by_two zero (suc zero) h k = refl
two_by_two (suc zero) zero h k = refl
two_by_two (suc zero) (suc zero) h k = refl
two_by_two (suc (suc x)) z h k = absurd (omega arith)
two_by_two zero (suc (suc z)) h k = absurd (omega arith)
two_by_two (suc zero) (suc (suc z)) h k = absurd (omega arith)

pub letter_of : (a : Label) → fits 1 a ≡ true → a ≡ label_of (at a 0)
letter_of a f = let w = fits_within 1 a f in two_by_two a.x a.z w.x w.z

-- a valued label is a letter's, with its value
record Lettered (q : Qubit) (a : Label) (v : Bool) : Type 0 where
  fit : fits 1 a ≡ true
  label : a ≡ label_of (at a 0)
  value : sign_of q (at a 0) ≡ v

lettered : (q : Qubit) (a : Label) (v : Bool) → (sheet_of q).value a ≡ Some v → Lettered q a v
lettered q a v e = go (fits 1 a) refl e
  where
    go : (w : Bool) → fits 1 a ≡ w → cond w (Some (sign_of q (at a 0))) None ≡ Some v → Lettered q a v
    go true f p = record { fit = f; label = letter_of a f; value = cc }
    go false f p = never (cc)

pub unfit : (q : Qubit) (a : Label) → fits 1 a ≡ false → (sheet_of q).value a ≡ None
unfit q a f = ap (λ w. cond w (Some (sign_of q (at a 0))) None) f

-- ---- the laws

module _ (q : Qubit) where
  valued : (l : Letter) → Valued (sheet_of q).value (label_of l)
  valued l = (sign_of q l, value_letter q l)

  central : Central (sheet_of q).value zero_label
  central = record { valued = valued I; commutes = λ b w. pairing_zero b }

  outer : (l m : Letter) → against l m ≡ 1 → Outer (sheet_of q).value (label_of l)
  outer l m e = record { valued = valued l; outside = λ c. never (sym (c.commutes (label_of m) (valued m)) ∙ pairing_letters l m ∙ e) }

  central_letter : (l : Letter) → Central (sheet_of q).value (label_of l) → l ≡ I
  central_letter I c = refl
  central_letter X c = absurd ((outer X Z refl).outside c)
  central_letter Y c = absurd ((outer Y X refl).outside c)
  central_letter Z c = absurd ((outer Z X refl).outside c)

  central_zero : (a : Label) → Central (sheet_of q).value a → a ≡ zero_label
  central_zero a c =
      let w = lettered q a c.valued.0 c.valued.1 in
      w.label ∙ ap label_of (central_letter (at a 0) (subst (λ (b : Label). Central (sheet_of q).value b) w.label c))

  signless : (l m : Letter) → against l m ≡ 0 → beta (label_of l) (label_of m) ≡ 0
  signless I m e = zero_beta (label_of m)
  signless X I e = beta_zero (label_of X)
  signless X X e = beta_self (label_of X)
  signless X Y e = never (sym e)
  signless X Z e = never (sym e)
  signless Y I e = beta_zero (label_of Y)
  signless Y X e = never (sym e)
  signless Y Y e = beta_self (label_of Y)
  signless Y Z e = never (sym e)
  signless Z I e = beta_zero (label_of Z)
  signless Z X e = never (sym e)
  signless Z Y e = never (sym e)
  signless Z Z e = beta_self (label_of Z)

  signs : (l m : Letter) → against l m ≡ 0 → sign_of q (mul l m) ≡ xorb (sign_of q l) (sign_of q m)
  signs I m e = refl
  signs X I e = sym (xorb_false q.x)
  signs X X e = sym (xorb_self q.x)
  signs X Y e = never (sym e)
  signs X Z e = never (sym e)
  signs Y I e = sym (xorb_false q.y)
  signs Y X e = never (sym e)
  signs Y Y e = sym (xorb_self q.y)
  signs Y Z e = never (sym e)
  signs Z I e = sym (xorb_false q.z)
  signs Z X e = never (sym e)
  signs Z Y e = never (sym e)
  signs Z Z e = sym (xorb_self q.z)

  product_letters : (l m : Letter) → pairing (label_of l) (label_of m) ≡ 0
      → (sheet_of q).value (plus (label_of l) (label_of m)) ≡ Some (xorb (xorb (sign_of q l) (sign_of q m)) (odd (beta (label_of l) (label_of m))))
  product_letters l m h =
      let e : against l m ≡ 0 = sym (pairing_letters l m) ∙ h in
      ap (sheet_of q).value (plus_letters l m)
      ∙ value_letter q (mul l m)
      ∙ ap Some (signs l m e ∙ sym (xorb_false (xorb (sign_of q l) (sign_of q m))) ∙ ap (λ n. xorb (xorb (sign_of q l) (sign_of q m)) (odd n)) (sym (signless l m e)))

  ray : ℕ → Letter
  ray zero = X
  ray (suc zero) = Y
  ray (suc (suc i)) = Z

  ray_outer : (i : ℕ) → Outer (sheet_of q).value (label_of (ray i))
  unfolding ray
  ray_outer zero = outer X Z refl
  ray_outer (suc zero) = outer Y X refl
  ray_outer (suc (suc i)) = outer Z X refl

  rays_apart : (h i : ℕ) → h < 3 → i < 3 → h ≢ i → against (ray h) (ray i) ≡ 1
  unfolding ray
  rays_apart zero zero p r d = absurd (d refl)
  rays_apart zero (suc zero) p r d = refl
  rays_apart zero (suc (suc i)) p r d = refl
  rays_apart (suc zero) zero p r d = refl
  rays_apart (suc zero) (suc zero) p r d = absurd (d refl)
  rays_apart (suc zero) (suc (suc i)) p r d = refl
  rays_apart (suc (suc h)) zero p r d = refl
  rays_apart (suc (suc h)) (suc zero) p r d = refl
  rays_apart (suc (suc h)) (suc (suc i)) p r d = absurd (d (omega arith))

  some_ray : (l : Letter) → Outer (sheet_of q).value (label_of l) → (i : ℕ) × (i < 3) × (ray i ≡ l)
  unfolding ray
  some_ray I o = absurd (o.outside central)
  some_ray X o = (0, omega arith, refl)
  some_ray Y o = (1, omega arith, refl)
  some_ray Z o = (2, omega arith, refl)

  own_square : (l : Letter) → mul l l ≡ I
  own_square I = refl
  own_square X = refl
  own_square Y = refl
  own_square Z = refl

  pub lawful : Lawful (sheet_of q)
  lawful = record {
    size = (omega arith, omega arith);
    within = λ a w. fits_within 1 a (lettered q a w.0 w.1).fit;
    zero = value_letter q I;
    product = λ a b u v p r h.
        let A = lettered q a u p in
        let B = lettered q b v r in
        pair a b u v A B h;
    narrow = omega arith;
    centre = record {
      at = λ i. zero_label;
      is = λ i h. central;
      once = λ i j h k e. omega arith;
      all = λ a c. (0, omega arith, sym (central_zero a c));
    };
    none = λ e a o. never (sym e);
    rays = λ wide. record {
      at = λ i j. label_of (ray i);
      is = λ i j h k. ray_outer i;
      once = λ i j l h k m e. omega arith;
      all = λ a o.
          let w = lettered q a o.valued.0 o.valued.1 in
          let r = some_ray (at a 0) (subst (λ (b : Label). Outer (sheet_of q).value b) w.label o) in
          (r.0, 0, r.1, omega arith, ap label_of r.2 ∙ sym w.label);
      same = λ i j l h k m. subst (λ (b : Label). Central (sheet_of q).value b) (sym (plus_letters (ray i) (ray i) ∙ ap label_of (own_square (ray i)))) central;
      apart = λ h i j l p r d k m. pairing_letters (ray h) (ray i) ∙ rays_apart h i p r d;
    };
  }
    where
      pair : (a b : Label) (u v : Bool) → Lettered q a u → Lettered q b v → pairing a b ≡ 0 → (sheet_of q).value (plus a b) ≡ Some (xorb (xorb u v) (odd (beta a b)))
      pair a b u v A B h =
          subst (λ (c : Label). (sheet_of q).value (plus c b) ≡ Some (xorb (xorb u v) (odd (beta c b)))) (sym A.label)
          (subst (λ (d : Label). (sheet_of q).value (plus (label_of (at a 0)) d) ≡ Some (xorb (xorb u v) (odd (beta (label_of (at a 0)) d)))) (sym B.label)
          (subst (λ w. (sheet_of q).value (plus (label_of (at a 0)) (label_of (at b 0))) ≡ Some (xorb (xorb w v) (odd (beta (label_of (at a 0)) (label_of (at b 0)))))) A.value
          (subst (λ w. (sheet_of q).value (plus (label_of (at a 0)) (label_of (at b 0))) ≡ Some (xorb (xorb (sign_of q (at a 0)) w) (odd (beta (label_of (at a 0)) (label_of (at b 0)))))) B.value
          (product_letters (at a 0) (at b 0) (sym (ap (λ (c : Label). pairing c (label_of (at b 0))) A.label) ∙ sym (ap (pairing a) B.label) ∙ h)))))

-- ---- gates

first_qubit : (k : ℕ) (x : Fault) → cond (nat_le 1 k && nat_le k 1) None (Some x) ≡ None → k ≡ 1
first_qubit k x e = grind (arith, nat_tests)

pub gated : (q : Qubit) (g : OneQubit) (k : ℕ) → gate_fault 1 (One g k) ≡ None → Gated (sheet_of q) (One g k) (sheet_of (turned_by g q))
gated q g k e = subst (λ n. Gated (sheet_of q) (One g n) (sheet_of (turned_by g q))) (sym (first_qubit k BadQubit e)) (record { same_n = refl; same_width = refl; carried = go })
  where
    at_letter : (l : Letter) → (sheet_of (turned_by g q)).value (moved (One g 1) (label_of l)) ≡ signed (flips (One g 1) (label_of l)) ((sheet_of q).value (label_of l))
    at_letter l =
        ap (sheet_of (turned_by g q)).value (moved_letter g l)
        ∙ value_letter (turned_by g q) (image_of g l).letter
        ∙ ap Some (turned_sign q g l)
        ∙ sym (ap (λ d. signed d ((sheet_of q).value (label_of l))) (flips_letter g l) ∙ ap (signed (image_of g l).sign) (value_letter q l))

    go : (a : Label) → Within 1 a → (sheet_of (turned_by g q)).value (moved (One g 1) a) ≡ signed (flips (One g 1) a) ((sheet_of q).value a)
    go a w = subst (λ (b : Label). (sheet_of (turned_by g q)).value (moved (One g 1) b) ≡ signed (flips (One g 1) b) ((sheet_of q).value b)) (sym (letter_of a (within_fits 1 a w))) (at_letter (at a 0))

-- ---- looks

looked_letter : (q : Qubit) (l : Letter) → Looked (sheet_of q) (label_of l) (case_of l) (coins_of l)
looked_letter q I = record { kind = central q; needs = refl }
looked_letter q X = record { kind = outer q X Z refl; needs = refl }
looked_letter q Y = record { kind = outer q Y X refl; needs = refl }
looked_letter q Z = record { kind = outer q Z X refl; needs = refl }

pub looked : (q : Qubit) (b : Label) → fits 1 b ≡ true → Looked (sheet_of q) b (case_of (at b 0)) (coins_of (at b 0))
looked q b f = subst (λ (a : Label). Looked (sheet_of q) a (case_of (at b 0)) (coins_of (at b 0))) (sym (letter_of b f)) (looked_letter q (at b 0))

-- ---- measurements

unsigned : (o : Option Bool) → signed false o ≡ o
unsigned None = refl
unsigned (Some v) = ap Some (xorb_false v)

flip_sign : (q : Qubit) (b : Label) (l : Letter) → sign_of (flipped_by b q) l ≡ xorb (sign_of q l) (odd (pairing b (label_of l)))
flip_sign q b I = sym (ap odd (pairing_zero_r b))
flip_sign q b X = refl
flip_sign q b Y = refl
flip_sign q b Z = refl

flip_value : (q : Qubit) (b a : Label) → (sheet_of (flipped_by b q)).value a ≡ signed (odd (pairing b a)) ((sheet_of q).value a)
flip_value q b a = go (fits 1 a) refl
  where
    go : (w : Bool) → fits 1 a ≡ w → (sheet_of (flipped_by b q)).value a ≡ signed (odd (pairing b a)) ((sheet_of q).value a)
    go true f =
        subst (λ (c : Label). (sheet_of (flipped_by b q)).value c ≡ signed (odd (pairing b c)) ((sheet_of q).value c)) (sym (letter_of a f))
        (value_letter (flipped_by b q) (at a 0) ∙ ap Some (flip_sign q b (at a 0)) ∙ sym (ap (signed (odd (pairing b (label_of (at a 0))))) (value_letter q (at a 0))))
    go false f = unfit (flipped_by b q) a f ∙ sym (ap (signed (odd (pairing b a))) (unfit q a f))

-- the values after a coin
abbrev pub tossed : Bool → Label → Qubit → Qubit
tossed true b q = flipped_by b q
tossed false b q = q

tossed_value : (c : Bool) (q : Qubit) (b a : Label) → (sheet_of (tossed c b q)).value a ≡ signed (c && odd (pairing b a)) ((sheet_of q).value a)
tossed_value true q b a = flip_value q b a
tossed_value false q b a = sym (unsigned ((sheet_of q).value a))

turned_at : (c : Bool) (q : Qubit) (b : Label) → Turned (sheet_of q) b c (sheet_of (tossed c b q))
turned_at true q b = record { same_n = refl; same_width = refl; values = tossed_value true q b }
turned_at false q b = record { same_n = refl; same_width = refl; values = tossed_value false q b }

still : (c : Bool) (q : Qubit) (a : Label) → (sheet_of (tossed c (label_of I) q)).value a ≡ (sheet_of q).value a
still true q a = flip_value q (label_of I) a ∙ ap (λ n. signed (odd n) ((sheet_of q).value a)) (pairing_zero a) ∙ unsigned ((sheet_of q).value a)
still false q a = refl

unchanged : (c : Bool) (q : Qubit) → Unchanged (sheet_of q) (sheet_of (tossed c (label_of I) q))
unchanged true q = record { same_n = refl; same_width = refl; values = still true q }
unchanged false q = record { same_n = refl; same_width = refl; values = still false q }

effect_letter : (q : Qubit) (sign c : Bool) (l : Letter)
    → Effect (sheet_of q) (label_of l) sign c (case_of l) (coins_of l) (xorb (sign_of q l) sign) (sheet_of (tossed c (label_of l) q))
effect_letter q sign c I = (ap (signed sign) (value_letter q I), unchanged c q)
effect_letter q sign c X = (ap (signed sign) (value_letter q X), turned_at c q (label_of X))
effect_letter q sign c Y = (ap (signed sign) (value_letter q Y), turned_at c q (label_of Y))
effect_letter q sign c Z = (ap (signed sign) (value_letter q Z), turned_at c q (label_of Z))

effect : (q : Qubit) (b : Label) (sign c : Bool) → fits 1 b ≡ true
    → Effect (sheet_of q) b sign c (case_of (at b 0)) (coins_of (at b 0)) (xorb (sign_of q (at b 0)) sign) (sheet_of (tossed c b q))
effect q b sign c f =
    subst (λ (a : Label). Effect (sheet_of q) a sign c (case_of (at b 0)) (coins_of (at b 0)) (xorb (sign_of q (at b 0)) sign) (sheet_of (tossed c a q))) (sym (letter_of b f))
    (effect_letter q sign c (at b 0))

pub measured : (q r : Qubit) (b : Label) (sign c o : Bool) (word : ℕ) → fits 1 b ≡ true → odd word ≡ c → o ≡ xorb (sign_of q (at b 0)) sign → r ≡ tossed c b q
    → Measured (sheet_of q) b sign word o (sheet_of r)
measured q r b sign c o word f w p e = record {
  case = case_of (at b 0);
  count = coins_of (at b 0);
  looked = looked q b f;
  effect = subst (λ d. Effect (sheet_of q) b sign d (case_of (at b 0)) (coins_of (at b 0)) o (sheet_of r)) (sym w)
      (subst (λ d. Effect (sheet_of q) b sign c (case_of (at b 0)) (coins_of (at b 0)) d (sheet_of r)) (sym p)
      (subst (λ (t : Qubit). Effect (sheet_of q) b sign c (case_of (at b 0)) (coins_of (at b 0)) (xorb (sign_of q (at b 0)) sign) (sheet_of t)) (sym e) (effect q b sign c f)));
}

-- the exclusive or of the code
pub differ : (p q : Bool) → not (beq p q) ≡ xorb p q
differ true true = refl
differ true false = refl
differ false true = refl
differ false false = refl
