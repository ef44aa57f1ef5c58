-- A sheet carried through a map that keeps sums and pairings keeps the laws. So do gates; and so does Case 2, which carries each label to itself.
use Rattle.std.proofs.Common.{◌≡◌, ℕ, ◌+◌, ◌-◌, ◌%◌, ◌^◌, ◌<◌, Bool, false, ◌&&◌, ◌⊎◌, Some, None, Option, sym, refl, ap, ◌∙◌, subst, ap₂, inl, inr, arith}
use Rattle.pauli.specs.declared.label.Label.{Label}
use Rattle.pauli.specs.Bits.{odd, xorb}
use Rattle.pauli.specs.Gates.{flips, moved}
use Rattle.pauli.specs.Labels.{Within, beta, pairing, plus, zero_label}
use Rattle.phase.specs.Effects.{signed}
use Rattle.phase.specs.Sheets.{Central, Exactly, Valued, Values}
use Rattle.pauli_laws.specs.Carriers.{Carries}
use Rattle.sheet_laws.specs.Closed.{Closed}
use Rattle.sheet_laws.specs.Laws.{Carried, CaseTwo, GateLaw, Transport, with_values}
use Rattle.pauli_laws.proofs.Algebra.{pairing_r, plus_within}
use Rattle.pauli_laws.proofs.Carriers.{U_inj, U_zero, d_zero}
use Rattle.pauli_laws.proofs.Gates.{gate_carries}
use Rattle.pauli_laws.proofs.Signs.{odd_add, odd_mod, xorb_self}
use Rattle.phase.proofs.Unique.{not_both}
use Rattle.sheet_laws.proofs.Central.{closed, opened, some_inj}

-- (u+p)+(v+q)+β(Ua,Ub) is ((u+v)+β(a,b))+d(a+b)
mend : (u v p q r x y : Bool) → xorb (xorb p q) r ≡ xorb y x → xorb (xorb (xorb u v) x) r ≡ xorb (xorb (xorb u p) (xorb v q)) y
mend u v p q r x y e = grind arith

module _ (n c k : ℕ) (U V : Label → Label) (d : Label → Bool) (f g : Values) (T : Carries n U V d) (M : Carried n U d f g) where
  there : (a : Label) (v : Bool) → Within n a → f a ≡ Some v → g (U a) ≡ Some (xorb v (d a))
  there a v h e = M.at a h ∙ ap (signed (d a)) e

  -- what has a value comes from what had one
  back : (a : Label) (v : Bool) → g a ≡ Some v → (u : Bool) × (f (V a) ≡ Some u) × (v ≡ xorb u (d (V a)))
  back a v e = go (f (V a)) refl
    where
      w : Within n a
      w = M.within a (v, e)

      e' : Some v ≡ signed (d (V a)) (f (V a))
      e' = sym e ∙ ap g (sym (T.onto a w)) ∙ M.at (V a) (T.back a w)

      go : (o : Option Bool) → f (V a) ≡ o → (u : Bool) × (f (V a) ≡ Some u) × (v ≡ xorb u (d (V a)))
      go None h = let z : ◌≡◌ {A = ℕ} 0 1 = cc (e' ∙ ap (signed (d (V a))) h) in absurd (omega arith)
      go (Some u) h = (u, h, some_inj v (xorb u (d (V a))) (e' ∙ ap (signed (d (V a))) h))

  module _ (S : Closed n c k f) where
    valued : (a : Label) → Valued f a → Valued g (U a)
    valued a v = (xorb v.0 (d a), there a v.0 (S.within a v) v.1)

    valued_back : (a : Label) → Valued g a → Valued f (V a)
    valued_back a v = let p = back a v.0 v.1 in (p.0, p.1)

    there_and_back : (a : Label) → Valued g a → U (V a) ≡ a
    there_and_back a v = T.onto a (M.within a v)

    central : (a : Label) → Central f a → Central g (U a)
    central a q = record {
      valued = valued a q.valued;
      commutes = λ b v.
          ap (pairing (U a)) (sym (there_and_back b v))
          ∙ T.pairings a (V b) (S.within a q.valued) (T.back b (M.within b v))
          ∙ q.commutes (V b) (valued_back b v);
    }

    central_back : (a : Label) → Central g a → Central f (V a)
    central_back a q = record {
      valued = valued_back a q.valued;
      commutes = λ b v.
          sym (T.pairings (V a) b (T.back a (M.within a q.valued)) (S.within b v))
          ∙ ap (λ (l : Label). pairing l (U b)) (there_and_back a q.valued)
          ∙ q.commutes (U b) (valued b v);
    }

    product : (a b : Label) (u v : Bool) → g a ≡ Some u → g b ≡ Some v → pairing a b ≡ 0 → g (plus a b) ≡ Some (xorb (xorb u v) (odd (beta a b)))
    product a b u v ea eb h =
        let wa = M.within a (u, ea) in
        let wb = M.within b (v, eb) in
        let pa = back a u ea in
        let pb = back b v eb in
        let wa' = T.back a wa in
        let wb' = T.back b wb in
        let A = V a in
        let B = V b in
        let ta = T.onto a wa in
        let tb = T.onto b wb in
        let h' : pairing A B ≡ 0 = sym (T.pairings A B wa' wb') ∙ ap₂ pairing ta tb ∙ h in
        let s = S.product A B pa.0 pb.0 pa.1 pb.1 h' in
        let t = there (plus A B) (xorb (xorb pa.0 pb.0) (odd (beta A B))) (plus_within n A B wa' wb') s in
        let lab : U (plus A B) ≡ plus a b = T.sums A B wa' wb' ∙ ap₂ plus ta tb in
        let bet : odd (beta (U A) (U B)) ≡ odd (beta a b) = ap₂ (λ (x y : Label). odd (beta x y)) ta tb in
        ap g (sym lab) ∙ t
        ∙ ap Some (mend pa.0 pb.0 (d A) (d B) (d (plus A B)) (odd (beta A B)) (odd (beta (U A) (U B))) (T.signs A B wa' wb' h')
        ∙ ap₂ xorb (ap₂ xorb (sym pa.2) (sym pb.2)) bet)

    pub carried : Closed n c k g
    carried = record {
      zero = ap g (sym (U_zero n U V d T)) ∙ there zero_label false (S.within zero_label (false, S.zero)) S.zero ∙ ap Some (d_zero n U V d T);
      product = product;
      within = M.within;
      centre = record {
        at = λ i. U (C.at i);
        is = λ i l. central (C.at i) (C.is i l);
        once = λ i j hi hj e. C.once i j hi hj (U_inj n U V d T (C.at i) (C.at j) (S.within (C.at i) (C.is i hi).valued) (S.within (C.at j) (C.is j hj).valued) e);
        all = λ a q. let p = C.all (V a) (central_back a q) in (p.0, p.1, ap U p.2 ∙ there_and_back a q.valued);
      };
      J = λ i. U (S.J i);
      stands = λ i l. valued (S.J i) (S.stands i l);
      apart = λ i j hi hj ne. T.pairings (S.J i) (S.J j) (S.within (S.J i) (S.stands i hi)) (S.within (S.J j) (S.stands j hj)) ∙ S.apart i j hi hj ne;
      each = λ a v. by a v (S.each (V a) (valued_back a v));
    }
      where
        C : Exactly (Central f) (2 ^ c)
        C = S.centre

        by : (a : Label) → Valued g a → Central f (V a) ⊎ ((i : ℕ) × (i < k) × Central f (plus (V a) (S.J i)))
            → Central g a ⊎ ((i : ℕ) × (i < k) × Central g (plus a (U (S.J i))))
        by a v (inl q) = inl (subst (Central g) (there_and_back a v) (central (V a) q))
        by a v (inr (i, l, q)) =
            inr (
              i,
              l,
              subst (Central g) (T.sums (V a) (S.J i) (T.back a (M.within a v)) (S.within (S.J i) (S.stands i l)) ∙ ap (λ (x : Label). plus x (U (S.J i))) (there_and_back a v))
                  (central (plus (V a) (S.J i)) q),
            )

pub transport : Transport
transport s g U V d L T M =
    closed (with_values s g) L.size L.narrow
    (carried s.n (s.n - s.width) (s.width + s.width + 1) U V d s.value g T M (opened s L))

pub gate_law : GateLaw
gate_law s g t L ok M = transport s g (moved t) (moved t) (flips t) L (gate_carries s.n t ok) M

-- ---- Case 2

odd_plus : (b x y : Label) → odd (pairing b (plus x y)) ≡ xorb (odd (pairing b x)) (odd (pairing b y))
odd_plus b x y = ap odd (pairing_r b x y) ∙ odd_mod ((pairing b x + pairing b y) % 2) (pairing b x + pairing b y) (omega arith) ∙ odd_add (pairing b x) (pairing b y)

pub case_two : CaseTwo
case_two s g b coin L h =
    transport s g (λ a. a) (λ a. a) (λ a. coin && odd (pairing b a)) L
    (record {
      there = λ a w. w;
      back = λ a w. w;
      onto = λ a w. refl;
      sums = λ x y hx hy. refl;
      pairings = λ x y hx hy. refl;
      signs = λ x y hx hy c. adds coin (odd (pairing b x)) (odd (pairing b y)) (odd (pairing b (plus x y))) (odd_plus b x y) ∙ sym (xorb_self (odd (beta x y)));
    })
    (record { at = λ a w. h a; within = λ a v. L.within a (was a (s.value a) refl v) })
  where
    adds : (c p q r : Bool) → r ≡ xorb p q → xorb (xorb (c && p) (c && q)) (c && r) ≡ false
    adds c p q r e = grind arith

    was : (a : Label) (o : Option Bool) → s.value a ≡ o → Valued g a → Valued s.value a
    was a (Some u) e v = (u, e)
    was a None e v = not_both v.1 (h a ∙ ap (signed (coin && odd (pairing b a))) e)
