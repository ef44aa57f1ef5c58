-- What a session records is lawful.
use Rattle.std.proofs.Common.{◌≡◌, ℕ, zero, suc, ◌+◌, ◌^◌, ◌<◌, ◌≤◌, Bool, true, false, cond, not, ◌&&◌, eqb, ltb, leb, ◌⊎◌, List, [], ◌∷◌, length, Some, None, Ok, Option, refl, ap, ◌∙◌, subst, inl, inr, arith, eq-eqb}
use mathlib.Core.Bool.{beq}
use Rattle.std.proofs.lemmas.Bool.Decides.{nat_tests}
use Rattle.std.proofs.lemmas.Option.{none-some, slice_get_within}
use Rattle.std.specs.Cmp.Derive.{both_true}
use Rattle.pauli.specs.declared.case.Case.{Case}
use Rattle.pauli.specs.declared.case.Case.TheVariants.{One, Two, Three, Four}
use Rattle.pauli.specs.declared.fault.Fault.{Fault}
use Rattle.pauli.specs.declared.fault.Fault.TheVariants.{BadSize, BadQubit, SameQubit, BadLabel, JournalFull}
use Rattle.pauli.specs.declared.gate.Gate.{Gate}
use Rattle.pauli.specs.declared.gate.Gate.TheVariants as G
use Rattle.pauli.specs.declared.gate.OneQubit.{OneQubit}
use Rattle.pauli.specs.declared.label.Label.{Label}
use Rattle.pauli.specs.Bits.{odd}
use Rattle.pauli.specs.Gates.{gate_fault, placing_fault, placeable}
use Rattle.pauli.specs.Labels.{fits, on_board, size_ok, Within}
use Rattle.pauli_laws.proofs.Texts.{fits_within}
use Rattle.phase.specs.Effects.{Effect, Measured, first_coin}
use Rattle.phase.specs.LabelCases.{Looked}
use Rattle.phase.specs.Sheets.{Sheet, Lawful}
use Rattle.phase.proofs.Unique.{one_look, few_coins}
use Rattle.sheet_laws.proofs.LabelCases.{case_laws}
use Rattle.journal_lines.specs.declared.event.Event.{Event}
use Rattle.journal_lines.specs.declared.event.Event.TheVariants as E
use Rattle.journal.specs.Journals.{kth, outcomes, answer}
use Rattle.journal_lines.specs.Lawful.{count_ok, first_ok, measured_ok, sound}
use Rattle.runs.specs.Refusals.{before}

-- ---- gates

size_right : (n : ℕ) → (1 ≤ n) × (n ≤ 64) → size_ok n ≡ true
size_right n h = let p = h.0 in let q = h.1 in grind (arith, nat_tests)

-- of a size from 1 to 64 only the qubits are refused
pub placing : (n : ℕ) (g : Gate) → (1 ≤ n) × (n ≤ 64) → placing_fault n g ≡ gate_fault n g
placing n g h = ap (λ w. cond w (gate_fault n g) (Some BadSize)) (size_right n h)

one_placeable : (n q : ℕ) (x : Fault) → n ≤ 64 → cond (leb 1 q && leb q n) None (Some x) ≡ None → (leb 1 q && leb q 64) ≡ true
one_placeable n q x h e = grind (arith, nat_tests)

two_placeable : (n c t : ℕ) (x y : Fault) → n ≤ 64 → cond ((leb 1 c && leb c n) && (leb 1 t && leb t n)) (cond (eqb c t) (Some y) None) (Some x) ≡ None
    → (((leb 1 c && leb c 64) && (leb 1 t && leb t 64)) && not (eqb c t)) ≡ true
two_placeable n c t x y h e = grind (arith, nat_tests)

pub accepted_placeable : (n : ℕ) (g : Gate) → n ≤ 64 → gate_fault n g ≡ None → placeable g ≡ true
accepted_placeable n (G.One g q) h e = both_true (one_placeable n q BadQubit h e) refl
accepted_placeable n (G.Cx c t) h e = two_placeable n c t BadQubit SameQubit h e

-- ---- conditional gates

pub there : (f : Fault) (o : Option Bool) (x : Bool) → Ok x ≡ answer f o → o ≡ Some x
there f (Some y) x e = cc
there f None x e = cc

kth_within : (xs : List Bool) (k : ℕ) (x : Bool) → kth xs k ≡ Some x → (1 ≤ k) × (k ≤ length xs)
kth_within xs zero x e = absurd (none-some x e)
kth_within xs (suc k) x e = let h = slice_get_within xs k x e in (omega arith, omega arith)

outcomes_fewer : (es : List Event) → length (outcomes es) ≤ length es
outcomes_fewer [] = omega arith
outcomes_fewer (E.Gate g ∷ es) = let h = outcomes_fewer es in omega arith
outcomes_fewer (E.Conditional d k g q ∷ es) = let h = outcomes_fewer es in omega arith
outcomes_fewer (E.Measurement m ∷ es) = let h = outcomes_fewer es in omega arith

-- an outcome's number is below that of the next entry
pub conditional_sound : (es : List Event) (k : ℕ) (o d : Bool) (g : OneQubit) (q : ℕ) → kth (outcomes es) k ≡ Some o → placeable (G.One g q) ≡ true
    → sound (length es + 1) (E.Conditional d k g q) ≡ true
conditional_sound es k o d g q e p =
    let w = kth_within (outcomes es) k o e in
    let h : 1 ≤ k = w.0 in
    let l : k < length es + 1 = omega (arith, w.1, outcomes_fewer es) in
    both_true {s = leb 1 k && ltb k (length es + 1)} (grind (arith, nat_tests)) (left (on_board 64 q) p)
  where
    left : (w : Bool) → (w && true) ≡ true → w ≡ true
    left true e = refl
    left false e = e

-- ---- measurements

-- a label of the point's, and room in the journal: no reason to refuse
pub allowed : (w : Bool) (m : ℕ) → w ≡ true → m < 512 → before (cond w None (Some BadLabel)) (cond (ltb m 512) None (Some JournalFull)) ≡ None
allowed w m p h = ap (λ v. before (cond v None (Some BadLabel)) (cond (ltb m 512) None (Some JournalFull))) p ∙ go m h
  where
    go : (m : ℕ) → m < 512 → cond (ltb m 512) None (Some JournalFull) ≡ None
    go m h = grind (arith, nat_tests)

-- a word holds the coins needed, so none is drawn only where fewer are left
pub too_few : (s : Sheet) → Lawful s → (b : Label) (c : Case) (k m : ℕ) → Looked s b c k → (64 < k) ⊎ (m < k) → m < k
too_few s L b c k m l (inl h) = absurd (go (few_coins s L b c k l) L.size.1 h)
  where
    go : k ≤ s.n → s.n ≤ 64 → 64 < k → ⊥
    go p q r = omega arith
too_few s L b c k m l (inr h) = h

-- what a measurement did is what the look foretold
pub as_looked : (s : Sheet) → Lawful s → (b : Label) (sign : Bool) (word : ℕ) (o : Bool) (t : Sheet) (c : Case) (k : ℕ) → Looked s b c k → Measured s b sign word o t
    → Effect s b sign (first_coin word) c k o t
as_looked s L b sign word o t c k l m =
    let w = one_look s L b m.case c m.count k m.looked l in
    subst (λ j. Effect s b sign (first_coin word) c j o t) w.1 (subst (λ (d : Case). Effect s b sign (first_coin word) d m.count o t) w.0 m.effect)

count_right : (s : Sheet) → Lawful s → (b : Label) → Within s.n b → (c : Case) (k : ℕ) → Looked s b c k → count_ok c s.n k ≡ true
count_right s L b W One k l = eq-eqb k 0 l.needs
count_right s L b W Two k l = eq-eqb k 1 l.needs
count_right s L b W Three k l =
    let w = case_laws.coins s L b W k l in
    let p : 1 ≤ k = w.0 in
    let q : k < s.n = omega (arith, w.1, L.narrow) in
    grind (arith, nat_tests)
count_right s L b W Four k l = eq-eqb k 1 l.needs

same_bit : (p q : Bool) → p ≡ q → beq p q ≡ true
same_bit p q e = subst (λ r. beq p r ≡ true) e (itself p)
  where
    itself : (p : Bool) → beq p p ≡ true
    itself true = refl
    itself false = refl

first_right : (s : Sheet) (b : Label) (sign : Bool) (word : ℕ) (c : Case) (k : ℕ) (o : Bool) (t : Sheet) → Effect s b sign (first_coin word) c k o t → first_ok c o word ≡ true
first_right s b sign word One k o t e = refl
first_right s b sign word Two k o t e = refl
first_right s b sign word Three k o t e = same_bit o (odd word) e.0
first_right s b sign word Four k o t e = same_bit o (odd word) e.0

pub measured_right : (s : Sheet) → Lawful s → (b : Label) (sign : Bool) (c : Case) (k word : ℕ) (o : Bool) (t : Sheet) → fits s.n b ≡ true → Looked s b c k → word < 2 ^ k
    → Effect s b sign (first_coin word) c k o t
    → measured_ok (record { sign = sign; size = s.n; label = b; case = c; outcome = o; count = k; coins = word }) ≡ true
unfolding measured_ok
measured_right s L b sign c k word o t f l h e =
    both_true (both_true (size_right s.n L.size) f)
    (both_true (both_true (count_right s L b (fits_within s.n b f) c k l) (below word (2 ^ k) h)) (first_right s b sign word c k o t e))
  where
    below : (m n : ℕ) → m < n → ltb m n ≡ true
    below m n h = grind (arith, nat_tests)
