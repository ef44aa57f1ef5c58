-- A pass that changes each place of a list, one place more: P holds of what stood at each place before n in xs and stands there in ys, and
-- the others are as they were.
use Rattle.std.proofs.Common.{ℕ, ◌+◌, ◌<◌, ◌≤◌, ◌≡◌, List, ◌++◌, length, get_or, set, take, sym, ◌∙◌, subst, arith, get_or-set_other, get_or-set_same, get_or-take, length-take-le, below_more}
use Rattle.std.proofs.Math.ListN.{get_or-append}
use Rattle.std.proofs.lemmas.List.{get_or_default}

module _ {A : Type 0} (P : A → A → Type 0) (xs ys : List A) (n : ℕ) (rest : (d : A) (i : ℕ) → n ≤ i → get_or ys i d ≡ get_or xs i d) where
  -- what stands at n before its change, whatever it is read with
  pub here : (x d : A) → n < length ys → get_or ys n x ≡ get_or xs n d
  here x d lt = get_or_default ys n x d lt ∙ rest d n (omega arith)

  pub done_more : (v : A) → n < length ys → ((d : A) (i : ℕ) → i < n → P (get_or xs i d) (get_or ys i d)) → ((d : A) → P (get_or xs n d) v)
      → (d : A) (i : ℕ) → i < n + 1 → P (get_or xs i d) (get_or (set ys n v) i d)
  done_more v lt was now d =
      below_more (λ i. P (get_or xs i d) (get_or (set ys n v) i d)) n
      (λ i less. subst (P (get_or xs i d)) (sym (get_or-set_other ys n i v d (λ same. omega arith))) (was d i less))
      (subst (P (get_or xs n d)) (sym (get_or-set_same ys n v d lt)) (now d))

  pub rest_more : (v : A) (d : A) (i : ℕ) → n + 1 ≤ i → get_or (set ys n v) i d ≡ get_or xs i d
  rest_more v d i le = get_or-set_other ys n i v d (λ same. omega arith) ∙ rest d i (omega arith)

-- the same of the list that the places were cut out of
pub done_whole : {A : Type 0} (P : A → A → Type 0) (xs ys zs : List A) (k : ℕ) → k ≤ length xs → length ys ≡ length (take k xs)
    → ((d : A) (i : ℕ) → i < k → P (get_or (take k xs) i d) (get_or ys i d)) → (d : A) (i : ℕ) → i < k → P (get_or xs i d) (get_or (ys ++ zs) i d)
done_whole P xs ys zs k le len was d i lt =
    let n : length (take k xs) ≡ k = length-take-le k xs le in
    subst (λ x. P x (get_or (ys ++ zs) i d)) (get_or-take k xs i d lt)
    (subst (P (get_or (take k xs) i d)) (sym (get_or-append ys zs d i (omega arith))) (was d i lt))
