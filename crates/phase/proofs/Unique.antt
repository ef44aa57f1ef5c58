-- A look has one answer: a label has one case and one count, and the count is at most the size.
use Rattle.std.proofs.Common.{◌≡◌, ℕ, zero, suc, ◌+◌, ◌≤◌, Bool, Some, None, Option, sym, refl, ◌∙◌, subst, arith}
use Rattle.pauli.specs.declared.case.Case.{Case}
use Rattle.pauli.specs.declared.case.Case.TheVariants.{One, Two, Three, Four}
use Rattle.pauli.specs.declared.label.Label.{Label}
use Rattle.pauli.specs.Labels.{pairing}
use Rattle.phase.specs.LabelCases.{InCase, against, Against, Needs, Looked}
use Rattle.phase.specs.Sheets.{Values, Sheet, Lawful}

pub not_both : {X : Type 0} {o : Option Bool} {v : Bool} → o ≡ Some v → o ≡ None → X
not_both p q = absurd (go p q)
  where
    go : {o : Option Bool} {v : Bool} → o ≡ Some v → o ≡ None → ⊥
    go p q = let z : ◌≡◌ {A = ℕ} 0 1 = cc in omega arith

pub one_case : (f : Values) (b : Label) (c d : Case) → InCase f b c → InCase f b d → c ≡ d
one_case f b One One p q = refl
one_case f b One Two p q = absurd (q.outside p)
one_case f b One Three p q = not_both p.valued.1 q.0
one_case f b One Four p q = not_both p.valued.1 q.0
one_case f b Two One p q = absurd (p.outside q)
one_case f b Two Two p q = refl
one_case f b Two Three p q = not_both p.valued.1 q.0
one_case f b Two Four p q = not_both p.valued.1 q.0
one_case f b Three One p q = not_both q.valued.1 p.0
one_case f b Three Two p q = not_both q.valued.1 p.0
one_case f b Three Three p q = refl
one_case f b Three Four p q = absurd (q.1 p.1)
one_case f b Four One p q = not_both q.valued.1 p.0
one_case f b Four Two p q = not_both q.valued.1 p.0
one_case f b Four Three p q = absurd (p.1 q.1)
one_case f b Four Four p q = refl

one_number : (s : Sheet) → Lawful s → (b : Label) (t u : ℕ) → Against s b t → Against s b u → t ≡ u
one_number s L b t u p q =
    let R = L.rays p.wide in
    let x = p.count R in
    let y = q.count R in
    omega arith

one_need : (s : Sheet) → Lawful s → (b : Label) (c : Case) (j k : ℕ) → Needs s b c j → Needs s b c k → j ≡ k
one_need s L b One j k p q = p ∙ sym q
one_need s L b Two j k p q = p ∙ sym q
one_need s L b Three j k p q = one_number s L b j k p q
one_need s L b Four j k p q = p ∙ sym q

pub one_look : (s : Sheet) → Lawful s → (b : Label) (c d : Case) (j k : ℕ) → Looked s b c j → Looked s b d k → (c ≡ d) × (j ≡ k)
one_look s L b c d j k p q =
    let e = one_case s.value b c d p.kind q.kind in
    let q' : Needs s b c k = subst (λ (x : Case). Needs s b x k) (sym e) q.needs in
    (e, one_need s L b c j k p.needs q')

-- ---- no count passes the size

against_le : (J : ℕ → Label) (b : Label) (k : ℕ) → against J b k ≤ k
unfolding pairing
against_le J b zero = omega arith
against_le J b (suc k) = omega (arith, against_le J b k)

few_against : (s : Sheet) → Lawful s → (b : Label) (t : ℕ) → Against s b t → t ≤ s.width
few_against s L b t p =
    let R = L.rays p.wide in
    let x = p.count R in
    omega (arith, against_le (λ i. R.at i 0) b (s.width + s.width + 1))

pub few_coins : (s : Sheet) → Lawful s → (b : Label) (c : Case) (k : ℕ) → Looked s b c k → k ≤ s.n
few_coins s L b c k l = go c l.needs
  where
    go : (c : Case) → Needs s b c k → k ≤ s.n
    go One p = omega arith
    go Two p = omega (arith, L.size)
    go Three p = omega (arith, few_against s L b k p, L.narrow)
    go Four p = omega (arith, L.size)
