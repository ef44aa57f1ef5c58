-- Where a text is cut.
use Rattle.std.proofs.Common.{◌≡◌, ℕ, suc, ◌+◌, ◌<◌, ◌≢◌, List, [], ◌∷◌, ◌++◌, length, get_or, take, drop, sym, refl, ap, ◌∙◌, ap₂, arith, length-drop, length-append, take-append-drop}
use Rattle.std.proofs.lemmas.List.{drop-drop, drop_more, get_or_at, length-take-le, append_cancel_left}
use Rattle.std.proofs.Math.Seq.{take-append_seam}
use Rattle.text.specs.Reading.{Hit, Miss}
use Rattle.text.specs.Texts.{same, Long, Without}

module _ (end : ℕ) where
  tail : (b : ℕ) (l : List ℕ) → Without end (b ∷ l) → Without end l
  tail b l law = record { each = λ i h. law.each (suc i) (omega arith) }

  -- what stands before the first end is one text
  pub apart : (a b r s : List ℕ) → Without end a → Without end b → a ++ end ∷ r ≡ b ++ end ∷ s → (a ≡ b) × (r ≡ s)
  apart [] [] r s l k e = (refl, cc)
  apart [] (y ∷ ys) r s l k e = absurd (k.each 0 (omega arith) (cc))
  apart (x ∷ xs) [] r s l k e = absurd (l.each 0 (omega arith) (cc))
  apart (x ∷ xs) (y ∷ ys) r s l k e =
      let head : x ≡ y = cc in
      let o = apart xs ys r s (tail x xs l) (tail y ys k) (cc) in
      (ap₂ (λ (b : ℕ) (bs : List ℕ). b ∷ bs) head o.0, o.1)

-- a text is parted in one way where it is known how long the first part is
halves : (a b r s : List ℕ) → length a ≡ length b → a ++ r ≡ b ++ s → (a ≡ b) × (r ≡ s)
halves a b r s n e =
    let first : a ≡ b = sym (take-append_seam a r) ∙ ap (take (length a)) e ∙ ap (λ k. take k (b ++ s)) n ∙ take-append_seam b s in
    (first, append_cancel_left b r s (ap (λ l. l ++ r) (sym first) ∙ e))

-- a field of so many bytes
module _ (t rest : List ℕ) (at end count : ℕ) (here : rest ≡ drop at t) where
  pub bytes_hit : count < length rest → get_or rest count 0 ≡ end → Hit same (Long count) end t at (take count rest) (at + (count + 1))
  bytes_hit some stops =
      let after : drop count rest ≡ end ∷ drop (at + (count + 1)) t =
      drop_more rest count 0 some ∙ ap₂ (λ (b : ℕ) (bs : List ℕ). b ∷ bs) stops (ap (drop (count + 1)) here ∙ drop-drop (count + 1) at t) in
      let all : drop at t ≡ take count rest ++ end ∷ drop (at + (count + 1)) t =
      sym here ∙ sym (take-append-drop count rest) ∙ ap (λ r. take count rest ++ r) after in
      let long : length (take count rest) ≡ count = length-take-le count rest (omega arith) in
      record {
        law = long;
        within = omega (arith, ap length here, length-drop at t, some);
        is = all;
        only = λ l more k e.
            let o = halves l (take count rest) (end ∷ more) (end ∷ drop (at + (count + 1)) t) (k ∙ sym long) (sym e ∙ all) in
            (o.0, cc);
      }

  pub bytes_miss : (count < length rest → get_or rest count 0 ≢ end) → Miss same (Long count) end t at
  bytes_miss other = record {
    never = λ l more k e.
        let last : get_or rest count 0 ≡ end = ap (λ x. get_or x count 0) (here ∙ e) ∙ get_or_at l end more 0 count k in
        let long : length rest ≡ length l + (length more + 1) = omega (arith, ap length (here ∙ e), length-append l (end ∷ more)) in
        other (omega arith) last;
  }
