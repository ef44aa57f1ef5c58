-- The rows that Case 3 leaves, from its two passes.
use Rattle.std.proofs.Common.{◌≡◌, ℕ, zero, suc, ◌+◌, ◌-◌, ◌/◌, ◌<◌, ◌≤◌, Bool, true, false, cond, ltb, List, ◌++◌, length, set, take, get_or-append-add, get_or-take, length-take-le, sym, refl, ap, ◌∙◌, subst, ap₂, arith, get_or-set_other, get_or-set_same, ltb-false, ltb-true, le-ltb, lt-ltb}
use Rattle.std.proofs.Math.ListN.{get_or-append}
use Rattle.pauli.specs.declared.label.Label.{Label}
use Rattle.pauli.specs.declared.row.Row.{Row}
use Rattle.pauli.specs.Labels.{plus, zero_label}
use Rattle.pauli.specs.Rows.{row}
use Rattle.tableau_laws.specs.Places.{count, glue}
use Rattle.tableau_laws.specs.Rules.{Rows, SameRows, against_b, stab, dest, first_g, g_of, new_sign, three_rows}
use Rattle.tableau_laws.specs.Tableaux.{jw_count}
use Rattle.tableau_rows.specs.declared.store.Pair.{Pair}
use Rattle.tableau_rows.specs.Parts.{row_in, label_in, pair_in, zero_pair, Parted, Paired}
use Rattle.tableau_laws.proofs.Places.{count_not, count_against}
use Rattle.tableau_laws.proofs.Same.{total_same}
use Rattle.tableau_rows.proofs.Parts.{parted_whole}

glue_low : {A : Type 0} (m : ℕ) (f h : ℕ → A) (i : ℕ) → i < m → glue m f h i ≡ f i
glue_low m f h i lt = ap (λ (b : Bool). cond b (f i) (h (i - m))) (lt-ltb i m lt)

glue_high : {A : Type 0} (m : ℕ) (f h : ℕ → A) (i : ℕ) → m ≤ i → glue m f h i ≡ h (i - m)
glue_high m f h i le = ap (λ (b : Bool). cond b (f i) (h (i - m))) (le-ltb i m le)

-- what holds below m, and of m + i for each i below t, holds below m + t
glued : (m t : ℕ) (P : ℕ → Type 0) → ((i : ℕ) → i < m → P i) → ((i : ℕ) → m ≤ i → i < m + t → P i) → (i : ℕ) → i < m + t → P i
glued m t P low high i lt = go (ltb i m) refl
  where
    go : (b : Bool) → ltb i m ≡ b → P i
    go true e = low i (ltb-true i m e)
    go false e = high i (ltb-false i m e) lt

module _ (m w t found word : ℕ) (ps ys zs : List Pair) (xs rest : List Row) (ls : List Label) (b : Label) (v : Bool) (few : m ≤ length ps) where
  abbrev R : Rows
  R = record { m = m; w = w; D = λ i. (pair_in ps i).destabilizer; E = λ i. (pair_in ps i).stabilizer; J = row_in xs }

  abbrev first : Row
  first = first_g b v R

  abbrev g : ℕ → Label
  g = label_in (set ls 0 first.label)

  -- the pairs afterwards: the first m as they were, those of ys, and places that are not in use
  abbrev ps' : List Pair
  ps' = take m ps ++ (ys ++ zs)

  before : (i : ℕ) → i < m → pair_in ps' i ≡ pair_in ps i
  before i lt =
      let len : length (take m ps) ≡ m = length-take-le m ps few in
      get_or-append (take m ps) (ys ++ zs) zero_pair i (omega arith) ∙ get_or-take m ps i zero_pair lt

  after : (i : ℕ) → m ≤ i → i - m < length ys → pair_in ps' i ≡ pair_in ys (i - m)
  after i le lt =
      let len : length (take m ps) ≡ m = length-take-le m ps few in
      let at : length (take m ps) + (i - m) ≡ i = omega arith in
      ap (pair_in ps') (sym at) ∙ get_or-append-add (take m ps) (ys ++ zs) (i - m) zero_pair ∙ get_or-append ys zs zero_pair (i - m) lt

  three_done : (m' w' : ℕ) → m' ≡ m + t → w' ≡ w - t → 0 < length ls → t ≡ length ys → jw_count w (row_in xs) b ≡ t + t
      → Parted b first xs rest ls (w + w + 1) found → Paired g first word ys t
      → SameRows (three_rows t b v word R)
      (record { m = m'; w = w'; D = λ i. (pair_in ps' i).destabilizer; E = λ i. (pair_in ps' i).stabilizer; J = row_in rest })
  three_done m' w' em ew some made count_is parted paired =
      let T : ℕ → Bool = against_b (row_in xs) b in
      let n : count T (w + w + 1) ≡ t + t = count_against (row_in xs) b (w + w + 1) ∙ count_is in
      let both = count_not T (w + w + 1) in
      let same : (j : ℕ) → j < t + t → g j ≡ g_of b v R j = same_g parted some n in
      record {
        m_is = em;
        w_is = ew;
        D_is =
            glued m t (λ i. (pair_in ps' i).destabilizer ≡ glue m R.D (dest (g_of b v R)) i)
            (λ i lt. ap (λ (p : Pair). p.destabilizer) (before i lt) ∙ sym (glue_low m R.D (dest (g_of b v R)) i lt))
            (λ i le lt.
            ap (λ (p : Pair). p.destabilizer) (after i le (omega arith)) ∙ paired.D_new (i - m) (omega arith)
            ∙ ap₂ plus (same (i - m + (i - m) + 1) (omega arith)) (total_same g (g_of b v R) (i - m + (i - m)) (λ j lj. same j (omega arith)))
            ∙ sym (glue_high m R.D (dest (g_of b v R)) i le));
        E_is =
            glued m t (λ i. (pair_in ps' i).stabilizer ≡ glue m R.E (λ k. row (stab (g_of b v R) k) (new_sign first word k)) i)
            (λ i lt. ap (λ (p : Pair). p.stabilizer) (before i lt) ∙ sym (glue_low m R.E (λ k. row (stab (g_of b v R) k) (new_sign first word k)) i lt))
            (λ i le lt.
            ap (λ (p : Pair). p.stabilizer) (after i le (omega arith)) ∙ paired.E_new (i - m) (omega arith)
            ∙ ap (λ (l : Label). row l (new_sign first word (i - m)))
            (ap₂ plus (same (i - m + (i - m)) (omega arith)) (total_same g (g_of b v R) (i - m + (i - m)) (λ j lj. same j (omega arith))))
            ∙ sym (glue_high m R.E (λ k. row (stab (g_of b v R) k) (new_sign first word k)) i le));
        J_is = λ i lt. parted.qs i (omega arith);
      }
    where
      same_g : Parted b first xs rest ls (w + w + 1) found → 0 < length ls → count (against_b (row_in xs) b) (w + w + 1) ≡ t + t
          → (j : ℕ) → j < t + t → g j ≡ g_of b v R j
      same_g p h n zero lt = get_or-set_same ls 0 first.label zero_label h
      same_g p h n (suc j) lt = get_or-set_other ls 0 (suc j) first.label zero_label (λ e. omega arith) ∙ p.ps (suc j) (omega arith)

  -- the same from what the passes were given and answer: they see the rows in use, and g_1 by what was computed
  pub three_from : (n m' w' k : ℕ) (used : List Row) (h : Row) → m' ≡ n - (w - found / 2) → w' ≡ w - found / 2 → m ≡ n - w → k ≡ m → w ≤ n
      → 0 < length ls → length ys ≡ found / 2 → used ≡ take (w + w + 1) xs → length used ≡ w + w + 1 → h ≡ first
      → Parted b h used rest ls (length used) found → Paired (label_in (set ls 0 h.label)) h word ys (length ys) → jw_count w (row_in xs) b ≡ t + t
      → SameRows (three_rows t b v word R) (record {
        m = m';
        w = w';
        D = λ i. (pair_in (take k ps ++ (ys ++ zs)) i).destabilizer;
        E = λ i. (pair_in (take k ps ++ (ys ++ zs)) i).stabilizer;
        J = row_in rest;
      })
  three_from n m' w' k used h em ew mn km wn some made is len eh parted paired count_is =
      let P : List Row → Type 0 = λ l. Parted b h l rest ls (w + w + 1) found in
      let P' : ℕ → Type 0 = λ i. Parted b h used rest ls i found in
      let P'' : Row → Type 0 = λ f. Parted b f xs rest ls (w + w + 1) found in
      let Q : Row → Type 0 = λ f. Paired (label_in (set ls 0 f.label)) f word ys (length ys) in
      let Q' : ℕ → Type 0 = λ i. Paired g first word ys i in
      let S : ℕ → Type 0
      = λ i. SameRows (three_rows t b v word R) (record {
        m = m';
        w = w';
        D = λ j. (pair_in (take i ps ++ (ys ++ zs)) j).destabilizer;
        E = λ j. (pair_in (take i ps ++ (ys ++ zs)) j).stabilizer;
        J = row_in rest;
      }) in
      let p : Parted b first xs rest ls (w + w + 1) found
      = subst P'' eh (parted_whole b h xs rest ls (w + w + 1) found (subst P is (subst P' len parted))) in
      let c : found ≡ t + t = p.found_is ∙ count_against (row_in xs) b (w + w + 1) ∙ count_is in
      let both = count_not (against_b (row_in xs) b) (w + w + 1) in
      let fi = p.found_is in
      let less : t ≤ w = omega arith in
      let e : length ys ≡ t = omega arith in
      subst S (sym km) (three_done m' w' (omega arith) (omega arith) some (sym e) count_is p (subst Q' e (subst Q eh paired)))
