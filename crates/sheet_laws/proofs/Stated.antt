-- The values that a measurement states.
use Rattle.std.proofs.Common.{◌≡◌, ℕ, Bool, false, cond, ◌⊎◌, Some, None, Option, sym, refl, ap, ◌∙◌, ap₂, inl, inr, arith}
use Rattle.pauli.specs.declared.label.Label.{Label}
use Rattle.pauli.specs.Bits.{odd, xorb}
use Rattle.pauli.specs.Labels.{beta, pairing, plus, zero_label}
use Rattle.phase.specs.Sheets.{Valued}
use Rattle.sheet_laws.specs.Laws.{Stated, joined, stated}
use Rattle.pauli_laws.proofs.Algebra.{pairing_l, pairing_lt, pairing_r, pairing_self, pairing_zero, plus_cancel, plus_comm, plus_zero}
use Rattle.pauli_laws.proofs.Numbers.{bit_cases}
use Rattle.pauli_laws.proofs.Phases.{zero_beta}
use Rattle.pauli_laws.proofs.Signs.{xorb_assoc, xorb_comm}
use Rattle.phase.proofs.Unique.{not_both}
use Rattle.sheet_laws.proofs.Central.{plus_back}

pub states : Stated
states s L b v none = record { new = new; keep = keep; products = products; only = only }
  where
    at_0 : (a : Label) → pairing a b ≡ 0 → stated s.value b v a ≡ joined (s.value a) (s.value (plus a b)) (xorb v (odd (beta (plus a b) b)))
    at_0 a h = ap (λ (x : ℕ). cond (odd x) None (joined (s.value a) (s.value (plus a b)) (xorb v (odd (beta (plus a b) b))))) h

    keep : (a : Label) (u : Bool) → s.value a ≡ Some u → pairing a b ≡ 0 → stated s.value b v a ≡ Some u
    keep a u e h = at_0 a h ∙ ap (λ (o : Option Bool). joined o (s.value (plus a b)) (xorb v (odd (beta (plus a b) b)))) e

    -- a and its product with b are not both valued
    not_two : (a : Label) (u : Bool) → s.value a ≡ Some u → pairing a b ≡ 0 → s.value (plus a b) ≡ None
    not_two a u e h = go (s.value (plus a b)) refl
      where
        go : (o : Option Bool) → s.value (plus a b) ≡ o → s.value (plus a b) ≡ None
        go None q = q
        go (Some t) q =
            let p = L.product a (plus a b) u t e q (omega (arith, pairing_r a a b, pairing_self a)) in
            not_both (ap s.value (sym (plus_cancel a b)) ∙ p) none

    products : (a : Label) (u : Bool) → s.value a ≡ Some u → pairing a b ≡ 0 → stated s.value b v (plus a b) ≡ Some (xorb (xorb u v) (odd (beta a b)))
    products a u e h =
        at_0 (plus a b) (omega (arith, pairing_l a b b, pairing_self b))
        ∙ ap₂ (λ (o o' : Option Bool). joined o o' (xorb v (odd (beta (plus (plus a b) b) b)))) (not_two a u e h) (ap s.value (plus_back a b) ∙ e)
        ∙ ap Some (ap (λ (l : Label). xorb u (xorb v (odd (beta l b)))) (plus_back a b) ∙ sym (xorb_assoc u v (odd (beta a b))))

    new : stated s.value b v b ≡ Some v
    new = ap (stated s.value b v) (sym (plus_comm zero_label b ∙ plus_zero b)) ∙ products zero_label false L.zero (pairing_zero b)
        ∙ ap (λ (x : ℕ). Some (xorb v (odd x))) (zero_beta b) ∙ ap Some (xorb_comm v false)

    only : (a : Label) → Valued (stated s.value b v) a → (pairing a b ≡ 0) × (Valued s.value a ⊎ Valued s.value (plus a b))
    only a (t, e) = by (bit_cases (pairing a b) (pairing_lt a b))
      where
        from : (o o' : Option Bool) → s.value a ≡ o → s.value (plus a b) ≡ o' → joined o o' (xorb v (odd (beta (plus a b) b))) ≡ Some t → Valued s.value a ⊎ Valued s.value (plus a b)
        from (Some u) o' p q r = inl (u, p)
        from None (Some u) p q r = inr (u, q)
        from None None p q r = not_both r refl

        by : (pairing a b ≡ 0) ⊎ (pairing a b ≡ 1) → (pairing a b ≡ 0) × (Valued s.value a ⊎ Valued s.value (plus a b))
        by (inl h) = (h, from (s.value a) (s.value (plus a b)) refl refl (sym (at_0 a h) ∙ e))
        by (inr h) = not_both e (ap (λ (x : ℕ). cond (odd x) None (joined (s.value a) (s.value (plus a b)) (xorb v (odd (beta (plus a b) b))))) h)
