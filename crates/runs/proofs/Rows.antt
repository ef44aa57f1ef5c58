-- Rows that stand are true to the sheet: each has its value there, and any two commute.
use Rattle.std.proofs.Common.{◌≡◌, ℕ, ◌+◌, ◌%◌, ◌≤◌, Bool, true, false, cond, ◌&&◌, List, [], ◌∷◌, map, Some, None, Option, sym, refl, ap, ◌∙◌, inl, inr, arith}
use Rattle.std.proofs.lemmas.Bool.Decides.{nat_tests}
use Rattle.pauli.specs.declared.case.Case.{Case}
use Rattle.pauli.specs.declared.case.Case.TheVariants.{One, Two, Three, Four}
use Rattle.pauli.specs.declared.gate.Gate.{Gate}
use Rattle.pauli.specs.declared.label.Label.{Label}
use Rattle.pauli.specs.declared.row.Row.{Row}
use Rattle.pauli.specs.Bits.{xorb, odd}
use Rattle.pauli.specs.Gates.{carry, moved, flips, gate_fault}
use Rattle.pauli.specs.Labels.{pairing}
use Rattle.pauli.specs.Rows.{row, product}
use Rattle.pauli_laws.proofs.Algebra.{pairing_comm, pairing_r, pairing_lt, pairing_self, pairing_zero_r}
use Rattle.pauli_laws.proofs.Gates.{gate_pairings}
use Rattle.pauli_laws.proofs.Signs.{xorb_comm, xorb_false}
use Rattle.phase.specs.Effects.{signed, Gated, Effect}
use Rattle.phase.specs.LabelCases.{InCase, Needs}
use Rattle.phase.specs.Sheets.{Sheet, Lawful}
use Rattle.phase.proofs.Unique.{not_both}
use Rattle.runs.specs.Promises.{twos, fours}
use Rattle.runs.specs.Standing.{In, Among, TrueTo, commuting}

pub stood_none : (f : Sheet) → TrueTo f []
stood_none f = record { value = λ r i. absurd i; commute = λ p q i j. absurd i }

-- ---- products

commutes_product : (f : Sheet) (rows : List Row) → TrueTo f rows → (p : Row) → In p rows → (ps : List Row) → Among ps rows
    → pairing p.label (product ps).label ≡ 0
commutes_product f rows S p i [] w = pairing_zero_r p.label
commutes_product f rows S p i (q ∷ qs) w =
    let e = S.commute p q i w.0 in
    let h = commutes_product f rows S p i qs w.1 in
    omega (arith, pairing_r p.label q.label (product qs).label)

-- a product of standing rows has its sign for its value
pub product_value : (f : Sheet) (rows : List Row) → Lawful f → TrueTo f rows → (ps : List Row) → Among ps rows → f.value (product ps).label ≡ Some (product ps).sign
product_value f rows L S [] w = L.zero
product_value f rows L S (p ∷ ps) w =
    L.product p.label (product ps).label p.sign (product ps).sign (S.value p w.0) (product_value f rows L S ps w.1)
    (commutes_product f rows S p w.0 ps w.1)

-- ---- what a measurement sets, keeps and answers

read_back : (v : Option Bool) (sign outcome : Bool) → signed sign v ≡ Some outcome → v ≡ Some (xorb sign outcome)
read_back None sign outcome e = not_both e refl
read_back (Some v) sign outcome e = ap Some (go v sign outcome (cc))
  where
    go : (v sign outcome : Bool) → xorb v sign ≡ outcome → v ≡ xorb sign outcome
    go v sign outcome e = grind arith

turned_zero : (coin : Bool) (m : ℕ) (v : Bool) → m ≡ 0 → signed (coin && odd m) (Some v) ≡ Some v
turned_zero true m v e = ap (λ (k : ℕ). Some (xorb v (odd k))) e ∙ ap Some (xorb_false v)
turned_zero false m v e = ap Some (xorb_false v)

pub effect_keep : (s : Sheet) (b : Label) (sign coin : Bool) (c : Case) (k : ℕ) (o : Bool) (t : Sheet) → Effect s b sign coin c k o t
    → (a : Label) (u : Bool) → s.value a ≡ Some u → pairing a b ≡ 0 → t.value a ≡ Some u
effect_keep s b sign coin One k o t e a u h m = e.1.values a ∙ h
effect_keep s b sign coin Two k o t e a u h m =
    e.1.values a ∙ ap (signed (coin && odd (pairing b a))) h ∙ turned_zero coin (pairing b a) u (pairing_comm b a ∙ m)
effect_keep s b sign coin Three k o t e a u h m = e.1.keep a u h m
effect_keep s b sign coin Four k o t e a u h m = e.1.kept.keep a u h m

pub effect_new : (s : Sheet) (b : Label) (sign coin : Bool) (c : Case) (k : ℕ) (o : Bool) (t : Sheet) → Effect s b sign coin c k o t → t.value b ≡ Some (xorb sign o)
effect_new s b sign coin One k o t e = e.1.values b ∙ read_back (s.value b) sign o e.0
effect_new s b sign coin Two k o t e =
    effect_keep s b sign coin Two k o t e b (xorb sign o) (read_back (s.value b) sign o e.0) (pairing_self b)
effect_new s b sign coin Three k o t e = e.1.new ∙ ap Some (xorb_comm coin sign ∙ ap (xorb sign) (sym e.0))
effect_new s b sign coin Four k o t e = e.1.kept.new ∙ ap Some (xorb_comm coin sign ∙ ap (xorb sign) (sym e.0))

-- a valued label answers its value plus the sign
pub effect_told : (s : Sheet) (b : Label) (sign coin : Bool) (c : Case) (k : ℕ) (o v : Bool) (t : Sheet) → Effect s b sign coin c k o t → InCase s.value b c
    → s.value b ≡ Some v → o ≡ xorb v sign
effect_told s b sign coin One k o v t e i h = cc (sym e.0 ∙ ap (signed sign) h)
effect_told s b sign coin Two k o v t e i h = cc (sym e.0 ∙ ap (signed sign) h)
effect_told s b sign coin Three k o v t e i h = not_both h i.0
effect_told s b sign coin Four k o v t e i h = not_both h i.0

-- the coins needed against the fall of the width
pub effect_width : (s : Sheet) (b : Label) (sign coin : Bool) (c : Case) (k : ℕ) (o : Bool) (t : Sheet) → Effect s b sign coin c k o t → Needs s b c k
    → (t.width ≤ s.width) × (k + t.width ≡ twos (c ∷ []) + fours (c ∷ []) + s.width)
effect_width s b sign coin One k o t e n = let w = e.1.same_width in (omega arith, omega arith)
effect_width s b sign coin Two k o t e n = let w = e.1.same_width in (omega arith, omega arith)
effect_width s b sign coin Three k o t e n = let w = e.1.narrower in (omega arith, omega arith)
effect_width s b sign coin Four k o t e n = let w = e.1.same_width in (omega arith, omega arith)

-- ---- the rows after a measurement

even : (m : ℕ) → odd m ≡ false → m % 2 ≡ 0
even m e = grind (arith, nat_tests)

in_commuting : (b : Label) (rows : List Row) (r : Row) → In r (commuting b rows) → In r rows × (pairing r.label b ≡ 0)
in_commuting b [] r i = absurd i
in_commuting b (x ∷ xs) r i = go (in_commuting b xs r) (odd (pairing x.label b)) refl i
  where
    go : (In r (commuting b xs) → In r xs × (pairing r.label b ≡ 0)) → (w : Bool) → odd (pairing x.label b) ≡ w
        → In r (cond w (commuting b xs) (x ∷ commuting b xs)) → In r (x ∷ xs) × (pairing r.label b ≡ 0)
    go rest true e j = let w = rest j in (inr w.0, w.1)
    go rest false e (inl p) =
        (inl p, ap (λ (y : Row). pairing y.label b) p ∙ omega (arith, even (pairing x.label b) e, pairing_lt x.label b))
    go rest false e (inr j) = let w = rest j in (inr w.0, w.1)

pub stood_measure : (s : Sheet) (b : Label) (sign coin : Bool) (c : Case) (k : ℕ) (o : Bool) (t : Sheet) (rows : List Row) → Effect s b sign coin c k o t → TrueTo s rows
    → TrueTo t (row b (xorb sign o) ∷ commuting b rows)
stood_measure s b sign coin c k o t rows e S = record { value = val; commute = pair }
  where
    val : (r : Row) → In r (row b (xorb sign o) ∷ commuting b rows) → t.value r.label ≡ Some r.sign
    val r (inl p) = ap (λ (y : Row). t.value y.label) p ∙ effect_new s b sign coin c k o t e ∙ ap (λ (y : Row). Some y.sign) (sym p)
    val r (inr j) = let w = in_commuting b rows r j in effect_keep s b sign coin c k o t e r.label r.sign (S.value r w.0) w.1

    pair : (p q : Row) → In p (row b (xorb sign o) ∷ commuting b rows) → In q (row b (xorb sign o) ∷ commuting b rows) → pairing p.label q.label ≡ 0
    pair p q (inl x) (inl y) = ap (λ (z : Row). pairing z.label q.label) x ∙ ap (λ (z : Row). pairing b z.label) y ∙ pairing_self b
    pair p q (inl x) (inr j) =
        ap (λ (z : Row). pairing z.label q.label) x ∙ pairing_comm b q.label ∙ (in_commuting b rows q j).1
    pair p q (inr i) (inl y) = ap (λ (z : Row). pairing p.label z.label) y ∙ (in_commuting b rows p i).1
    pair p q (inr i) (inr j) = S.commute p q (in_commuting b rows p i).0 (in_commuting b rows q j).0

-- ---- the rows after a gate

in_carried : (g : Gate) (rows : List Row) (r : Row) → In r (map (carry g) rows) → (p : Row) × In p rows × (r ≡ carry g p)
in_carried g [] r i = absurd i
in_carried g (x ∷ xs) r (inl e) = (x, inl refl, e)
in_carried g (x ∷ xs) r (inr j) = let w = in_carried g xs r j in (w.0, inr w.1, w.2)

pub stood_gate : (s : Sheet) (g : Gate) (t : Sheet) (rows : List Row) → Lawful s → gate_fault s.n g ≡ None → Gated s g t → TrueTo s rows → TrueTo t (map (carry g) rows)
stood_gate s g t rows L ok G S = record { value = val; commute = pair }
  where
    val : (r : Row) → In r (map (carry g) rows) → t.value r.label ≡ Some r.sign
    val r i =
        let w = in_carried g rows r i in
        let v = S.value w.0 w.1 in
        ap (λ (y : Row). t.value y.label) w.2
        ∙ G.carried w.0.label (L.within w.0.label (w.0.sign, v))
        ∙ ap (signed (flips g w.0.label)) v
        ∙ ap (λ (y : Row). Some y.sign) (sym w.2)

    pair : (p q : Row) → In p (map (carry g) rows) → In q (map (carry g) rows) → pairing p.label q.label ≡ 0
    pair p q i j =
        let v = in_carried g rows p i in
        let w = in_carried g rows q j in
        ap (λ (z : Row). pairing z.label q.label) v.2
        ∙ ap (λ (z : Row). pairing (moved g v.0.label) z.label) w.2
        ∙ gate_pairings s.n g ok v.0.label w.0.label
        ∙ S.commute v.0 w.0 v.1 w.1
