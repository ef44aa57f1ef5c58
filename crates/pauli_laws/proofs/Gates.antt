-- Every gate that n qubits accept carries their labels and rows.
use Rattle.std.proofs.Common.{◌≡◌, ℕ, ◌-◌, ◌<◌, false, cond, ◌&&◌, eqb, leb, ◌≢◌, Some, None, sym, ap, ◌∙◌, arith}
use Rattle.std.proofs.lemmas.Bool.Decides.{nat_tests}
use Rattle.pauli.specs.declared.fault.Fault.{Fault}
use Rattle.pauli.specs.declared.fault.Fault.TheVariants.{BadQubit, SameQubit}
use Rattle.pauli.specs.declared.label.Label.{Label}
use Rattle.pauli.specs.declared.row.Row.{Row}
use Rattle.pauli.specs.declared.gate.Gate.{Gate}
use Rattle.pauli.specs.declared.gate.Gate.TheVariants.{One, Cx}
use Rattle.pauli.specs.Labels.{plus, pairing, zero_label, at, Within}
use Rattle.pauli.specs.Rows.{times}
use Rattle.pauli.specs.Gates.{image_of, moved, flips, carry, gate_fault}
use Rattle.pauli_laws.specs.Carriers.{Carries}
use Rattle.pauli_laws.proofs.OneQubit.{turned_keeps, turned_again, put_within}
use Rattle.pauli_laws.proofs.TwoQubits.{crossed_keeps, crossed_again, crossed_within}
use Rattle.pauli_laws.proofs.Carriers.{Keeps, keeps_pairings, keeps_signs, carried_product, U_zero, d_zero}

-- what an accepted gate's qubits are
one_range : (n q : ℕ) (x : Fault) → cond (leb 1 q && leb q n) None (Some x) ≡ None → q - 1 < n
one_range n q x e = grind (arith, nat_tests)

two_range : (n c t : ℕ) (x y : Fault) → cond ((leb 1 c && leb c n) && (leb 1 t && leb t n)) (cond (eqb c t) (Some y) None) (Some x) ≡ None
    → (c - 1 < n) × (t - 1 < n) × (c - 1 ≢ t - 1)
two_range n c t x y e = (grind (arith, nat_tests), grind (arith, nat_tests), λ f. absurd (grind (arith, nat_tests)))

module _ (n : ℕ) where
  gate_keeps : (g : Gate) → gate_fault n g ≡ None → Keeps (moved g) (flips g)
  unfolding moved flips
  gate_keeps (One g q) e = turned_keeps g (q - 1)
  gate_keeps (Cx c t) e = crossed_keeps (c - 1) (t - 1) (two_range n c t BadQubit SameQubit e).2

  -- twice the same gate gives the label back
  pub gate_again : (g : Gate) → gate_fault n g ≡ None → (a : Label) → moved g (moved g a) ≡ a
  unfolding moved
  gate_again (One g q) e a = turned_again g (q - 1) a
  gate_again (Cx c t) e a = crossed_again (c - 1) (t - 1) (two_range n c t BadQubit SameQubit e).2 a

  pub gate_within : (g : Gate) → gate_fault n g ≡ None → (a : Label) → Within n a → Within n (moved g a)
  unfolding moved
  gate_within (One g q) e a h = put_within n a (q - 1) (image_of g (at a (q - 1))).letter h (one_range n q BadQubit e)
  gate_within (Cx c t) e a h = let r = two_range n c t BadQubit SameQubit e in crossed_within n (c - 1) (t - 1) a h r.0 r.1

  pub gate_sums : (g : Gate) → gate_fault n g ≡ None → (a b : Label) → moved g (plus a b) ≡ plus (moved g a) (moved g b)
  gate_sums g e = (gate_keeps g e).sums

  pub gate_pairings : (g : Gate) → gate_fault n g ≡ None → (a b : Label) → pairing (moved g a) (moved g b) ≡ pairing a b
  gate_pairings g e = keeps_pairings (moved g) (flips g) (gate_keeps g e)

  pub gate_inj : (g : Gate) → gate_fault n g ≡ None → (a b : Label) → moved g a ≡ moved g b → a ≡ b
  gate_inj g e a b p = sym (gate_again g e a) ∙ ap (moved g) p ∙ gate_again g e b

  pub gate_times : (g : Gate) → gate_fault n g ≡ None → (r s : Row) → pairing r.label s.label ≡ 0 → carry g (times r s) ≡ times (carry g r) (carry g s)
  gate_times g e r s h = carried_product (moved g) (flips g) r s (gate_sums g e r.label s.label) (keeps_signs (moved g) (flips g) (gate_keeps g e) r.label s.label h)

  pub gate_carries : (g : Gate) → gate_fault n g ≡ None → Carries n (moved g) (moved g) (flips g)
  gate_carries g e = record {
    there = gate_within g e;
    back = gate_within g e;
    onto = λ a h. gate_again g e a;
    sums = λ a b ha hb. gate_sums g e a b;
    pairings = λ a b ha hb. gate_pairings g e a b;
    signs = λ a b ha hb. keeps_signs (moved g) (flips g) (gate_keeps g e) a b;
  }

  -- the zero label stays, without a flip
  pub gate_zero : (g : Gate) → gate_fault n g ≡ None → moved g zero_label ≡ zero_label
  gate_zero g e = U_zero n (moved g) (moved g) (flips g) (gate_carries g e)

  pub flips_zero : (g : Gate) → gate_fault n g ≡ None → flips g zero_label ≡ false
  flips_zero g e = d_zero n (moved g) (moved g) (flips g) (gate_carries g e)
