-- One line of a text told after another.
use Rattle.std.proofs.Common.{◌≡◌, ℕ, ◌+◌, ◌<◌, ◌≤◌, List, [], ◌∷◌, ◌++◌, length, drop, sym, ap, ◌∙◌, subst, append_assoc, add-one, arith, length-drop}
use Rattle.std.proofs.lemmas.List.{append-nil, drop_all}
use Rattle.journal_lines.specs.declared.entry.Entry.{Entry}
use Rattle.journal_lines.specs.Entries.{entry_line}
use Rattle.journal.specs.Explained.{Explained, stop_words}
use Rattle.journal.specs.Explained.Explained.{ends, tells, stops}
use Rattle.journal.specs.Words.{entry_words}

module _ (text : List ℕ) (line at : ℕ) (told : List ℕ) (so_far : (more : List ℕ) → Explained line (drop at text) more → Explained 1 text (told ++ more)) where
  pub told_more : (e : Entry) (to : ℕ) (next : List ℕ) → drop at text ≡ entry_line e ++ drop to text → next ≡ told ++ (entry_words e ++ 10 ∷ [])
      → (more : List ℕ) → Explained (line + 1) (drop to text) more → Explained 1 text (next ++ more)
  told_more e to next is n more x =
      let joined : told ++ (entry_words e ++ 10 ∷ more) ≡ next ++ more
      = sym (ap (λ l. l ++ more) n ∙ append_assoc told (entry_words e ++ 10 ∷ []) more ∙ ap (λ l. told ++ l) (append_assoc (entry_words e) (10 ∷ []) more)) in
      let rest = subst (λ k. Explained k (drop to text) more) (add-one line) x in
      subst (λ l. Explained 1 text l) joined (so_far (entry_words e ++ 10 ∷ more) (tells line (drop at text) e (drop to text) more is rest))

  pub told_stop : (next : List ℕ) → at < length text → ((e : Entry) (rest : List ℕ) → drop at text ≡ entry_line e ++ rest → ⊥) → next ≡ told ++ stop_words line → Explained 1 text next
  told_stop next h none n =
      subst (λ l. Explained 1 text l) (sym n) (so_far (stop_words line) (stops line (drop at text) (omega (arith, length-drop at text)) none))

  pub told_all : length text ≤ at → Explained 1 text told
  told_all h = subst (λ l. Explained 1 text l) (append-nil told) (so_far [] (subst (λ l. Explained line l []) (sym (drop_all at text h)) (ends line)))
