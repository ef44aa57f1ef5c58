-- Case 4 keeps the laws: it carries the sheet by the map that adds h = e + b to what anticommutes with h.
use Rattle.std.proofs.Common.{◌≡◌, ℕ, ◌+◌, ◌-◌, ◌/◌, ◌%◌, Bool, true, false, cond, eqb, ◌⊎◌, Some, None, Option, sym, refl, ap, ◌∙◌, subst, ap₂, inl, inr, arith}
use Rattle.pauli.specs.declared.label.Label.{Label}
use Rattle.pauli.specs.Bits.{odd, xorb}
use Rattle.pauli.specs.Labels.{Within, beta, pairing, plus, us}
use Rattle.phase.specs.Effects.{Kept, signed}
use Rattle.phase.specs.Sheets.{Central, Lawful, Sheet, Valued, Values}
use Rattle.pauli_laws.specs.Carriers.{Carries}
use Rattle.sheet_laws.specs.Laws.{CaseFour, with_values}
use Rattle.pauli_laws.proofs.Algebra.{pairing_comm, pairing_l, pairing_lt, pairing_r, pairing_self, plus_assoc, plus_comm, plus_right, plus_self, plus_swap, plus_within, plus_zero}
use Rattle.pauli_laws.proofs.Numbers.{bit_cases, turn_one, turn_two, two_evens}
use Rattle.pauli_laws.proofs.Phases.{beta_us, us_cocycle, us_lt, us_mod, us_swap, us_twice}
use Rattle.pauli_laws.proofs.Signs.{bits, odd_add, xorb_comm, xorb_self}
use Rattle.sheet_laws.proofs.Central.{opened, shifted}
use Rattle.sheet_laws.proofs.Transport.{transport}

module _ (h : Label) (κ : Bool) (o : ℕ) (ho : o % 2 ≡ 1) where
  -- the map, and the sign that it adds. On what commutes with h it does nothing
  abbrev U : Label → Label
  U a = cond (odd (pairing a h)) (plus a h) a

  abbrev D : Label → Bool
  D a = xorb κ (odd ((us a h + o) % 4 / 2))

  abbrev d : Label → Bool
  d a = cond (odd (pairing a h)) (D a) false

  pub U_0 : (a : Label) → pairing a h ≡ 0 → U a ≡ a
  U_0 a e = ap (λ (n : ℕ). cond (odd n) (plus a h) a) e

  pub U_1 : (a : Label) → pairing a h ≡ 1 → U a ≡ plus a h
  U_1 a e = ap (λ (n : ℕ). cond (odd n) (plus a h) a) e

  pub d_0 : (a : Label) → pairing a h ≡ 0 → d a ≡ false
  d_0 a e = ap (λ (n : ℕ). cond (odd n) (D a) false) e

  pub d_1 : (a : Label) → pairing a h ≡ 1 → d a ≡ D a
  d_1 a e = ap (λ (n : ℕ). cond (odd n) (D a) false) e

  pub side : (a : Label) → (pairing a h ≡ 0) ⊎ (pairing a h ≡ 1)
  side a = bit_cases (pairing a h) (pairing_lt a h)

  within : (n : ℕ) → Within n h → (a : Label) → Within n a → Within n (U a)
  within n wh a w = go (odd (pairing a h))
    where
      go : (b : Bool) → Within n (cond b (plus a h) a)
      go true = plus_within n a h w wh
      go false = w

  -- twice is nothing
  twice : (a : Label) → U (U a) ≡ a
  twice a = go (side a)
    where
      go : (pairing a h ≡ 0) ⊎ (pairing a h ≡ 1) → U (U a) ≡ a
      go (inl e) = ap U (U_0 a e) ∙ U_0 a e
      go (inr e) = ap U (U_1 a e) ∙ U_1 (plus a h) (omega (arith, pairing_l a h h, pairing_self h)) ∙ plus_assoc a h h ∙ ap (plus a) (plus_self h) ∙ plus_zero a

  sums : (a b : Label) → U (plus a b) ≡ plus (U a) (U b)
  sums a b = go (side a) (side b)
    where
      ab : pairing (plus a b) h ≡ (pairing a h + pairing b h) % 2
      ab = pairing_l a b h

      go : (pairing a h ≡ 0) ⊎ (pairing a h ≡ 1) → (pairing b h ≡ 0) ⊎ (pairing b h ≡ 1) → U (plus a b) ≡ plus (U a) (U b)
      go (inl e) (inl f) = U_0 (plus a b) (omega (arith, ab)) ∙ sym (ap₂ plus (U_0 a e) (U_0 b f))
      go (inl e) (inr f) = U_1 (plus a b) (omega (arith, ab)) ∙ plus_assoc a b h ∙ sym (ap₂ plus (U_0 a e) (U_1 b f))
      go (inr e) (inl f) =
          U_1 (plus a b) (omega (arith, ab)) ∙ plus_assoc a b h ∙ ap (plus a) (plus_comm b h) ∙ sym (plus_assoc a h b) ∙ sym (ap₂ plus (U_1 a e) (U_0 b f))
      go (inr e) (inr f) =
          U_0 (plus a b) (omega (arith, ab)) ∙ sym (ap₂ plus (U_1 a e) (U_1 b f) ∙ plus_swap a h b h ∙ ap (plus (plus a b)) (plus_self h) ∙ plus_zero (plus a b))

  pairs : (a b : Label) → pairing (U a) (U b) ≡ pairing a b
  pairs a b = go (side a) (side b)
    where
      go : (pairing a h ≡ 0) ⊎ (pairing a h ≡ 1) → (pairing b h ≡ 0) ⊎ (pairing b h ≡ 1) → pairing (U a) (U b) ≡ pairing a b
      go (inl e) (inl f) = ap₂ pairing (U_0 a e) (U_0 b f)
      go (inl e) (inr f) = ap₂ pairing (U_0 a e) (U_1 b f) ∙ omega (arith, pairing_lt, pairing_r a b h)
      go (inr e) (inl f) = ap₂ pairing (U_1 a e) (U_0 b f) ∙ omega (arith, pairing_lt, pairing_l a h b, pairing_comm h b)
      go (inr e) (inr f) =
          ap₂ pairing (U_1 a e) (U_1 b f)
          ∙ omega (arith, pairing_lt a b, pairing_l a h (plus b h), pairing_r a b h, pairing_r h b h, pairing_comm h b, pairing_self h)

  -- the phase of h with what anticommutes is odd
  odd_us : (a : Label) → pairing a h ≡ 1 → us a h % 2 ≡ 1
  odd_us a e = us_mod a h ∙ e

  even_us : (a b : Label) → pairing a b ≡ 0 → us a b % 2 ≡ 0
  even_us a b e = us_mod a b ∙ e

  one_way : (x y : Bool) → xorb (xorb (xorb κ x) false) (xorb κ y) ≡ xorb x y
  one_way x y = grind arith

  other_way : (x y : Bool) → xorb (xorb false (xorb κ x)) (xorb κ y) ≡ xorb x y
  other_way x y = grind arith

  both_ways : (x y : Bool) → xorb (xorb (xorb κ x) (xorb κ y)) false ≡ xorb x y
  both_ways x y = grind arith

  signs : (a b : Label) → pairing a b ≡ 0 → xorb (xorb (d a) (d b)) (d (plus a b)) ≡ xorb (odd (beta (U a) (U b))) (odd (beta a b))
  signs a b c = go (side a) (side b)
    where
      ab : pairing (plus a b) h ≡ (pairing a h + pairing b h) % 2
      ab = pairing_l a b h

      three : {x x' y y' z z' : Bool} → x ≡ x' → y ≡ y' → z ≡ z' → xorb (xorb x y) z ≡ xorb (xorb x' y') z'
      three p q r = ap₂ xorb (ap₂ xorb p q) r

      fin : (m n : ℕ) (x y : Label) → (m + n) % 2 ≡ (us x y / 2 + us a b / 2) % 2 → xorb (odd m) (odd n) ≡ xorb (odd (beta x y)) (odd (beta a b))
      fin m n x y e = bits m n (beta x y) (beta a b) (e ∙ sym (ap₂ (λ (p q : ℕ). (p + q) % 2) (beta_us x y) (beta_us a b)))

      out : {x x' y y' : Label} → x ≡ x' → y ≡ y' → xorb (odd (beta x' y')) (odd (beta a b)) ≡ xorb (odd (beta x y)) (odd (beta a b))
      out p q = ap₂ (λ (x y : Label). xorb (odd (beta x y)) (odd (beta a b))) (sym p) (sym q)

      go : (pairing a h ≡ 0) ⊎ (pairing a h ≡ 1) → (pairing b h ≡ 0) ⊎ (pairing b h ≡ 1) → xorb (xorb (d a) (d b)) (d (plus a b)) ≡ xorb (odd (beta (U a) (U b))) (odd (beta a b))
      go (inl e) (inl f) =
          three (d_0 a e) (d_0 b f) (d_0 (plus a b) (omega (arith, ab)))
          ∙ sym (xorb_self (odd (beta a b))) ∙ out (U_0 a e) (U_0 b f)
      go (inl e) (inr f) =
          let g : pairing (plus a b) h ≡ 1 = omega (arith, ab) in
          let m = (us b h + o) % 4 / 2 in
          let n = (us (plus a b) h + o) % 4 / 2 in
          three (d_0 a e) (d_1 b f) (d_1 (plus a b) g)
          ∙ other_way (odd m) (odd n)
          ∙ fin m n a (plus b h)
          (turn_one (us b h) (us (plus a b) h) (us a (plus b h)) (us a b) o (odd_us b f) (odd_us (plus a b) g) ho
          (even_us a (plus b h) (omega (arith, pairing_r a b h))) (even_us a b c) (us_cocycle a b h))
          ∙ out (U_0 a e) (U_1 b f)
      go (inr e) (inl f) =
          let g : pairing (plus a b) h ≡ 1 = omega (arith, ab) in
          let m = (us a h + o) % 4 / 2 in
          let n = (us (plus a b) h + o) % 4 / 2 in
          let z : pairing (plus a h) b ≡ 0 = omega (arith, pairing_l a h b, pairing_comm h b) in
          let s1 : us b a ≡ us a b = us_swap b a ∙ omega (arith, pairing_comm a b, us_lt) in
          let s2 : us b (plus a h) ≡ us (plus a h) b = us_swap b (plus a h) ∙ omega (arith, pairing_comm b (plus a h), us_lt) in
          three (d_1 a e) (d_0 b f) (d_1 (plus a b) g)
          ∙ one_way (odd m) (odd n)
          ∙ fin m n (plus a h) b
          (turn_one (us a h) (us (plus a b) h) (us (plus a h) b) (us a b) o (odd_us a e) (odd_us (plus a b) g) ho
          (even_us (plus a h) b z) (even_us a b c)
          (ap₂ (λ (x y : ℕ). (x + y) % 4) (sym s1) (ap (λ (l : Label). us l h) (plus_comm a b)) ∙ us_cocycle b a h ∙ ap (λ (x : ℕ). (us a h + x) % 4) s2))
          ∙ out (U_1 a e) (U_0 b f)
      go (inr e) (inr f) =
          let m = (us a h + o) % 4 / 2 in
          let n = (us b h + o) % 4 / 2 in
          three (d_1 a e) (d_1 b f) (d_0 (plus a b) (omega (arith, ab)))
          ∙ both_ways (odd m) (odd n)
          ∙ fin m n (plus a h) (plus b h)
          (turn_two (us a h) (us b h) (us h b) (us h (plus b h)) (us (plus a h) (plus b h)) (us a b) o (odd_us a e) (odd_us b f) ho
          (even_us (plus a h) (plus b h) (omega (arith, pairing_l a h (plus b h), pairing_r a b h, pairing_r h b h, pairing_comm h b, pairing_self h))) (even_us a b c)
          (us_cocycle a h (plus b h) ∙ ap (λ (l : Label). (us h (plus b h) + us a l) % 4) (plus_right b h))
          (ap (λ (l : Label). (us h b + us h l) % 4) (plus_comm b h) ∙ us_twice h b)
          (us_swap b h ∙ ap (λ (x : ℕ). (us h b + x) % 4) (omega arith)))
          ∙ out (U_1 a e) (U_1 b f)

  pub turns : (n : ℕ) → Within n h → Carries n U U d
  turns n wh = record {
    there = within n wh;
    back = within n wh;
    onto = λ a w. twice a;
    sums = λ a b wa wb. sums a b;
    pairings = λ a b wa wb. pairs a b;
    signs = λ a b wa wb. signs a b;
  }

module _ (s : Sheet) (g : Values) (b e : Label) (v : Bool) (L : Lawful s) (wb : Within s.n b) (ce : Central s.value e) (eb : pairing e b ≡ 1) (K : Kept s.value g b v) where
  abbrev ε : Bool
  ε = ce.valued.0

  ah : (a : Label) → pairing a (plus e b) ≡ (pairing a e + pairing a b) % 2
  ah a = pairing_r a e b

  -- a valued label commutes with e
  ae : (a : Label) → Valued s.value a → pairing a e ≡ 0
  ae a w = pairing_comm a e ∙ ce.commutes a w

  u_odd : us e b % 2 ≡ 1
  u_odd = us_mod e b ∙ eb

  with_e : (a : Label) → Valued s.value a → Valued s.value (plus a e)
  with_e a w = shifted s.n (s.n - s.width) (s.width + s.width + 1) s.value (opened s L) a e w ce

  no_value : (a : Label) → (Valued g a → ⊥) → g a ≡ None
  no_value a no_v = go (g a) refl
    where
      go : (o : Option Bool) → g a ≡ o → g a ≡ None
      go None q = q
      go (Some u) q = absurd (no_v (u, q))

  none_at : (a : Label) → s.value a ≡ None → Valued s.value a → ⊥
  none_at a q w = let z : ◌≡◌ {A = ℕ} 0 1 = cc (sym q ∙ w.1) in omega arith

  at_0 : (a : Label) → pairing a (plus e b) ≡ 0 → (o : Option Bool) → s.value a ≡ o → g a ≡ o
  at_0 a p (Some u) q = K.keep a u q (omega (arith, pairing_lt, ah a, ae a (u, q)))
  at_0 a p None q = no_value a (λ w. by (K.only a w))
    where
      by : (pairing a b ≡ 0) × (Valued s.value a ⊎ Valued s.value (plus a b)) → ⊥
      by (c, inl w) = none_at a q w
      by (c, inr w) = omega (arith, pairing_lt, ah a, ae (plus a b) w, pairing_l a b e, pairing_comm b e)

  -- the sign that the map adds is the sign of the product with e and with (b,v)
  mend : (u β₁ β₂ x : Bool) → xorb β₁ β₂ ≡ x → xorb (xorb (xorb (xorb u ε) β₁) v) β₂ ≡ xorb u (xorb (xorb ε v) x)
  mend u β₁ β₂ x q = grind arith

  at_1 : (a : Label) → pairing a (plus e b) ≡ 1 → (o : Option Bool) → s.value a ≡ o → g (plus a (plus e b)) ≡ signed (D (plus e b) (xorb ε v) (us e b) u_odd a) o
  at_1 a p (Some u) q =
      let z : pairing a e ≡ 0 = ae a (u, q) in
      let ab : pairing a b ≡ 1 = omega (arith, pairing_lt, ah a) in
      let w = L.product a e u ε q ce.valued.1 z in
      let c : pairing (plus a e) b ≡ 0 = omega (arith, pairing_l a e b) in
      let t = K.products (plus a e) (xorb (xorb u ε) (odd (beta a e))) w c in
      let phases : (us a e + us (plus a e) b) % 4 ≡ (us e b + us a (plus e b)) % 4 = us_cocycle a e b in
      let k : xorb (odd (beta a e)) (odd (beta (plus a e) b)) ≡ odd ((us a (plus e b) + us e b) % 4 / 2)
      = sym (odd_add (beta a e) (beta (plus a e) b))
      ∙ ap (λ (y : ℕ). eqb y 1)
      (ap₂ (λ (x y : ℕ). (x + y) % 2) (beta_us a e) (beta_us (plus a e) b)
      ∙ two_evens (us a e) (us (plus a e) b) (us a (plus e b)) (us e b) (us_mod a e ∙ z) (us_mod (plus a e) b ∙ c) phases) in
      ap g (sym (plus_assoc a e b)) ∙ t ∙ ap Some (mend u (odd (beta a e)) (odd (beta (plus a e) b)) (odd ((us a (plus e b) + us e b) % 4 / 2)) k)
  at_1 a p None q = no_value (plus a (plus e b)) (λ w. by (K.only (plus a (plus e b)) w))
    where
      by : (pairing (plus a (plus e b)) b ≡ 0) × (Valued s.value (plus a (plus e b)) ⊎ Valued s.value (plus (plus a (plus e b)) b)) → ⊥
      by (c, inl w) =
          omega (arith, pairing_lt, ah a, p, c, ae (plus a (plus e b)) w, pairing_l a (plus e b) e, pairing_l e b e, pairing_self e, pairing_comm b e, eb, pairing_l a (plus e b) b, pairing_l e b b, pairing_self b)
      by (c, inr w) =
          let l : plus (plus a (plus e b)) b ≡ plus a e = plus_assoc a (plus e b) b ∙ ap (plus a) (plus_assoc e b b ∙ ap (plus e) (plus_self b) ∙ plus_zero e) in
          let w' : Valued s.value (plus (plus a e) e) = with_e (plus a e) (subst (Valued s.value) l w) in
          none_at a q (subst (Valued s.value) (plus_assoc a e e ∙ ap (plus a) (plus_self e) ∙ plus_zero a) w')

  wh : Within s.n (plus e b)
  wh = plus_within s.n e b (L.within e ce.valued) wb

  pub four : Lawful (with_values s g)
  four = transport s g (U (plus e b) (xorb ε v) (us e b) u_odd) (U (plus e b) (xorb ε v) (us e b) u_odd) (d (plus e b) (xorb ε v) (us e b) u_odd) L
      (turns (plus e b) (xorb ε v) (us e b) u_odd s.n wh)
      (record { at = λ a w. at a (side (plus e b) (xorb ε v) (us e b) u_odd a); within = λ a w. inside a (K.only a w) })
    where
      at : (a : Label) → (pairing a (plus e b) ≡ 0) ⊎ (pairing a (plus e b) ≡ 1)
          → g (U (plus e b) (xorb ε v) (us e b) u_odd a) ≡ signed (d (plus e b) (xorb ε v) (us e b) u_odd a) (s.value a)
      at a (inl p) =
          ap g (U_0 (plus e b) (xorb ε v) (us e b) u_odd a p) ∙ at_0 a p (s.value a) refl
          ∙ sym (plain (s.value a)) ∙ ap (λ (x : Bool). signed x (s.value a)) (sym (d_0 (plus e b) (xorb ε v) (us e b) u_odd a p))
        where
          plain : (o : Option Bool) → signed false o ≡ o
          plain None = refl
          plain (Some u) = ap Some (xorb_comm u false)
      at a (inr p) =
          ap g (U_1 (plus e b) (xorb ε v) (us e b) u_odd a p) ∙ at_1 a p (s.value a) refl
          ∙ ap (λ (x : Bool). signed x (s.value a)) (sym (d_1 (plus e b) (xorb ε v) (us e b) u_odd a p))

      inside : (a : Label) → (pairing a b ≡ 0) × (Valued s.value a ⊎ Valued s.value (plus a b)) → Within s.n a
      inside a (c, inl w) = L.within a w
      inside a (c, inr w) =
          subst (Within s.n) (plus_assoc a b b ∙ ap (plus a) (plus_self b) ∙ plus_zero a) (plus_within s.n (plus a b) b (L.within (plus a b) w) wb)

pub case_four : CaseFour
case_four = four
