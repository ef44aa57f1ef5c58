-- Fields made of others: one value named by another, and one field after another.
use Rattle.std.proofs.Common.{◌≡◌, ℕ, ◌+◌, ◌<◌, List, ◌∷◌, ◌++◌, get_or, drop, sym, refl, ap, ◌∙◌, subst, append_assoc, add-zero, arith}
use Rattle.std.specs.Borrow.{Bor}
use Rattle.std.proofs.lemmas.List.{get_or-drop}
use Rattle.text.specs.Reading.{Hit, Miss}
use Rattle.text.specs.Texts.{Any, one}
use Rattle.text.proofs.Places.{peel, unpeel, present}

-- one byte, where `rest` is what stands from the place on
pub hit_byte : (t rest : List ℕ) (at end : ℕ) → 0 < end → rest ≡ drop at t → get_or rest 1 0 ≡ end → Hit one Any end t at (get_or rest 0 0) (at + 2)
hit_byte t rest at end some here f =
    let a : get_or t at 0 ≡ get_or rest 0 0 = ap (λ i. get_or t i 0) (sym (add-zero at)) ∙ sym (get_or-drop at t 0 0) ∙ ap (λ l. get_or l 0 0) (sym here) in
    let b : get_or t (at + 1) 0 ≡ end = sym (get_or-drop at t 1 0) ∙ ap (λ l. get_or l 1 0) (sym here) ∙ f in
    let l = present t (at + 1) (omega arith) in
    record {
      law = tt;
      within = omega arith;
      is = unpeel t at (at + 1) (get_or rest 0 0) _ refl (omega arith) a (unpeel t (at + 1) (at + 2) end _ (omega arith) l b refl);
      only = λ c more h d.
          let p = peel t at (at + 1) c (end ∷ more) refl d in
          let q = peel t (at + 1) (at + 2) end more (omega arith) p.1 in
          (sym p.0 ∙ a, sym q.1);
    }

-- a field stands in a text, whichever name the text goes by
module _ {A : Type 0} {w : A → List ℕ} {L : A → Type 0} {end : ℕ} {s t : Bor (List ℕ)} {at : ℕ} (e : s ≡ t) where
  pub hit_in : {a : A} {to : ℕ} → Hit w L end s.now at a to → Hit w L end t.now at a to
  hit_in {a} {to} h = subst (λ (x : Bor (List ℕ)). Hit w L end x.now at a to) e h

  pub miss_in : Miss w L end s.now at → Miss w L end t.now at
  miss_in h = subst (λ (x : Bor (List ℕ)). Miss w L end x.now at) e h

-- a field of A's text is one of B's, where f names a B for each A and no B twice
module _ {A B : Type 0} (v : B → List ℕ) (M : B → Type 0) (w : A → List ℕ) (L : A → Type 0) (f : A → B) (texts : (a : A) → w a ≡ v (f a)) (laws : (a : A) → L a → M (f a)) where
  pub named_hit : {end : ℕ} {t : List ℕ} {at : ℕ} {b : B} {to : ℕ} → ((x y : A) → f x ≡ f y → x ≡ y) → (a : A) → L a → b ≡ f a → Hit v M end t at b to → Hit w L end t at a to
  named_hit {end} {t} {at} {b} {to} apart a l e hit = record {
    law = l;
    within = hit.within;
    is = hit.is ∙ ap (λ x. x ++ end ∷ drop to t) (ap v e ∙ sym (texts a));
    only = λ c rest k d.
        let o = hit.only (f c) rest (laws c k) (d ∙ ap (λ x. x ++ end ∷ rest) (texts c)) in
        (apart c a (o.0 ∙ e), o.1);
  }

  pub named_miss : {end : ℕ} {t : List ℕ} {at : ℕ} → Miss v M end t at → Miss w L end t at
  named_miss {end} miss = record { never = λ a rest l d. miss.never (f a) rest (laws a l) (d ∙ ap (λ x. x ++ end ∷ rest) (texts a)) }

-- a field, a comma and a field
module _ {A B : Type 0} (w : A → List ℕ) (L : A → Type 0) (v : B → List ℕ) (M : B → Type 0) where
  abbrev pub both : A × B → List ℕ
  both p = w p.0 ++ 44 ∷ v p.1

  abbrev pub Both : A × B → Type 0
  Both p = L p.0 × M p.1

  pub both_hit : {end : ℕ} {t : List ℕ} {at : ℕ} {a : A} {mid : ℕ} {b : B} {to : ℕ} → Hit w L 44 t at a mid → Hit v M end t mid b to → Hit both Both end t at (a, b) to
  both_hit {end} {t} {at} {a} {mid} {b} {to} x y = record {
    law = (x.law, y.law);
    within = y.within;
    is = x.is ∙ ap (λ r. w a ++ 44 ∷ r) y.is ∙ sym (append_assoc (w a) (44 ∷ v b) (end ∷ drop to t));
    only = λ p rest l d.
        let o = x.only p.0 (v p.1 ++ end ∷ rest) l.0 (d ∙ append_assoc (w p.0) (44 ∷ v p.1) (end ∷ rest)) in
        let q = y.only p.1 rest l.1 (sym o.1) in
        ((λ i. (o.0 i, q.0 i)), q.1);
  }

  pub both_first : {end : ℕ} {t : List ℕ} {at : ℕ} → Miss w L 44 t at → Miss both Both end t at
  both_first {end} x = record { never = λ p rest l d. x.never p.0 (v p.1 ++ end ∷ rest) l.0 (d ∙ append_assoc (w p.0) (44 ∷ v p.1) (end ∷ rest)) }

  pub both_second : {end : ℕ} {t : List ℕ} {at : ℕ} {a : A} {mid : ℕ} → Hit w L 44 t at a mid → Miss v M end t mid → Miss both Both end t at
  both_second {end} x y = record {
    never = λ p rest l d.
        let o = x.only p.0 (v p.1 ++ end ∷ rest) l.0 (d ∙ append_assoc (w p.0) (44 ∷ v p.1) (end ∷ rest)) in
        y.never p.1 rest l.1 (sym o.1);
  }
