-- The fields of gates: by their first byte they are CX or a one-qubit gate.
use Rattle.std.proofs.Common.{◌≡◌, ℕ, ◌<◌, cond, eqb, List, ◌∷◌, ◌++◌, length, get_or, drop, sym, refl, ap, ◌∙◌, arith}
use Rattle.pauli.specs.declared.gate.OneQubit.{OneQubit}
use Rattle.pauli.specs.declared.gate.OneQubit.TheVariants.{H, S, X, Y, Z}
use Rattle.pauli.specs.declared.gate.Gate.{Gate}
use Rattle.pauli.specs.declared.gate.Gate.TheVariants.{One, Cx}
use Rattle.text.specs.Reading.{Hit, Miss}
use Rattle.text.specs.Texts.{gate_byte, turn_text, Turn, gate_text, Gated}

-- a name names one gate
unfoldable named : ℕ → OneQubit
named b = cond (eqb b 72) H (cond (eqb b 83) S (cond (eqb b 88) X (cond (eqb b 89) Y Z)))

named_back : (g : OneQubit) → named (gate_byte g) ≡ g
unfolding named
named_back H = refl
named_back S = refl
named_back X = refl
named_back Y = refl
named_back Z = refl

pub gate_same : (g h : OneQubit) → gate_byte g ≡ gate_byte h → g ≡ h
gate_same g h e = sym (named_back g) ∙ ap named e ∙ named_back h

-- no one-qubit gate's name begins with C
pub not_c : (g : OneQubit) → gate_byte g ≡ 67 → ⊥
not_c H e = omega arith
not_c S e = omega arith
not_c X e = omega arith
not_c Y e = omega arith
not_c Z e = omega arith

abbrev pub NotCx : List ℕ → Type 0
NotCx rest = 2 < length rest → get_or rest 0 0 ≡ 67 → get_or rest 1 0 ≡ 88 → get_or rest 2 0 ≡ 44 → ⊥

-- where `rest`, which stands from the place on, does not begin with `CX,`, a gate's field is a one-qubit gate's
module _ (t rest : List ℕ) (at end : ℕ) (here : rest ≡ drop at t) (other : NotCx rest) where
  no_cx : (c x : ℕ) (more : List ℕ) → drop at t ≡ gate_text (Cx c x) ++ end ∷ more → ⊥
  no_cx c x more d =
      let e = here ∙ d in
      other (omega (arith, ap length e)) (ap (λ l. get_or l 0 0) e) (ap (λ l. get_or l 1 0) e) (ap (λ l. get_or l 2 0) e)

  pub turn_hit : {p : OneQubit × ℕ} {to : ℕ} → Hit turn_text Turn end t at p to → Hit gate_text Gated end t at (One p.0 p.1) to
  turn_hit {p} {to} hit = record { law = hit.law; within = hit.within; is = hit.is; only = go }
    where
      go : (b : Gate) (more : List ℕ) → Gated b → drop at t ≡ gate_text b ++ end ∷ more → (b ≡ One p.0 p.1) × (more ≡ drop to t)
      go (One h r) more l d = let o = hit.only (h, r) more l d in (ap (λ q. One q.0 q.1) o.0, o.1)
      go (Cx c x) more l d = absurd (no_cx c x more d)

  pub turn_miss : Miss turn_text Turn end t at → Miss gate_text Gated end t at
  turn_miss miss = record { never = go }
    where
      go : (b : Gate) (more : List ℕ) → Gated b → drop at t ≡ gate_text b ++ end ∷ more → ⊥
      go (One h r) more l d = miss.never (h, r) more l d
      go (Cx c x) more l d = no_cx c x more d
