-- What commutes with every valued label is in the centre: the centre's generators, all rays but one and labels dual to these span all labels.
use Rattle.std.proofs.Common.{◌≡◌, ℕ, zero, suc, ◌+◌, ◌-◌, ◌%◌, ◌^◌, ◌<◌, ◌≤◌, false, ◌⊎◌, List, [], ◌∷◌, ◌++◌, length, sym, refl, ap, ◌∙◌, ap₂, inl, inr, lt_of_le_of_lt, mod-lt, mod-eq_of_lt, arith, length-append, pow_pos}
use lib.Bits.{and_le_l, and_mod, bit_and}
use lib.Count.{ones}
use Rattle.pauli.specs.declared.label.Label.{Label}
use Rattle.pauli.specs.Labels.{Within, pairing, plus, zero_label}
use Rattle.phase.specs.Sheets.{Central, Valued, Values}
use Rattle.pauli_laws.specs.Spaces.{All, Duals, Span}
use Rattle.sheet_laws.specs.Closed.{Closed}
use Rattle.sheet_laws.specs.Laws.{Maximal}
use Rattle.pauli_laws.proofs.Algebra.{pairing_comm, pairing_l, pairing_r, pairing_self, pairing_zero}
use Rattle.pauli_laws.proofs.Duals.{more, span_pairing}
use Rattle.pauli_laws.proofs.Spans.{spans}
use Rattle.sheet_laws.proofs.Central.{central_plus, opened}
use Rattle.sheet_laws.proofs.Counting.{Generators, all_map, generators, span_holds}

-- ---- labels cut to n qubits

pub cut : ℕ → Label → Label
cut n a = record { x = a.x % 2 ^ n; z = a.z % 2 ^ n }

pub cut_within : (n : ℕ) (a : Label) → Within n (cut n a)
unfolding cut
cut_within n a = record { x = mod-lt a.x (pow_pos n); z = mod-lt a.z (pow_pos n) }

and_cut : (n x z : ℕ) → x < 2 ^ n → bit_and x (z % 2 ^ n) ≡ bit_and x z
and_cut n x z h =
    ap (λ (y : ℕ). bit_and y (z % 2 ^ n)) (sym (mod-eq_of_lt h)) ∙ sym (and_mod x z n) ∙ mod-eq_of_lt (lt_of_le_of_lt (and_le_l x z) h)

cut_pairing : (n : ℕ) (r v : Label) → Within n r → pairing r (cut n v) ≡ pairing r v
unfolding cut pairing
cut_pairing n r v w = ap₂ (λ (p q : ℕ). (ones p + ones q) % 2) (and_cut n r.x v.z w.x) (and_cut n r.z v.x w.z)

abbrev cuts : ℕ → List Label → List Label
cuts n [] = []
cuts n (v ∷ vs) = cut n v ∷ cuts n vs

cuts_within : (n : ℕ) (vs : List Label) → All (Within n) (cuts n vs)
cuts_within n [] = tt
cuts_within n (v ∷ vs) = (cut_within n v, cuts_within n vs)

cuts_row : (n : ℕ) (r : Label) (vs : List Label) → Within n r → All (λ v. pairing r v ≡ 0) vs → All (λ v. pairing r v ≡ 0) (cuts n vs)
cuts_row n r [] w h = tt
cuts_row n r (v ∷ vs) w h = (cut_pairing n r v w ∙ h.0, cuts_row n r vs w h.1)

cuts_col : (n : ℕ) (rs : List Label) (v : Label) → All (Within n) rs → All (λ r. pairing r v ≡ 0) rs → All (λ r. pairing r (cut n v) ≡ 0) rs
cuts_col n [] v w h = tt
cuts_col n (r ∷ rs) v w h = (cut_pairing n r v w.0 ∙ h.0, cuts_col n rs v w.1 h.1)

cuts_duals : (n : ℕ) (rs vs : List Label) → All (Within n) rs → Duals rs vs → Duals rs (cuts n vs)
cuts_duals n [] [] w d = tt
cuts_duals n [] (v ∷ vs) w d = absurd d
cuts_duals n (r ∷ rs) [] w d = absurd d
cuts_duals n (r ∷ rs) (v ∷ vs) w d =
    (cut_pairing n r v w.0 ∙ d.0, cuts_row n r vs w.0 d.1, cuts_col n rs v w.1 d.2, cuts_duals n rs vs w.1 d.3)

pub duals_length : (rs vs : List Label) → Duals rs vs → length rs ≡ length vs
duals_length [] [] d = refl
duals_length [] (v ∷ vs) d = absurd d
duals_length (r ∷ rs) [] d = absurd d
duals_length (r ∷ rs) (v ∷ vs) d = ap suc (duals_length rs vs d.3)

pub all_append : (P : Label → Type 0) (xs ys : List Label) → All P xs → All P ys → All P (xs ++ ys)
all_append P [] ys h k = k
all_append P (x ∷ xs) ys h k = (h.0, all_append P xs ys h.1 k)

-- ---- labels cs that commute with some labels rs, and labels ws dual to rs: ws and cs together have duals, and what they span and
-- commutes with rs is spanned by cs

-- each of cs commutes with each of rs
abbrev pub Apart : List Label → List Label → Type 0
Apart cs rs = All (λ r. All (λ s. pairing s r ≡ 0) cs) rs

pub flip : (r : Label) (ws : List Label) → All (λ w. pairing r w ≡ 0) ws → All (λ w. pairing w r ≡ 0) ws
flip r [] h = tt
flip r (w ∷ ws) h = (pairing_comm w r ∙ h.0, flip r ws h.1)

lay : (cs vs : List Label) → Duals cs vs → (rs ws : List Label) → Duals rs ws → Apart cs rs → (us : List Label) × Duals (ws ++ cs) us
lay cs vs d [] [] e a = (vs, d)
lay cs vs d [] (w ∷ ws) e a = absurd e
lay cs vs d (r ∷ rs) [] e a = absurd e
lay cs vs d (r ∷ rs) (w ∷ ws) e a = go (lay cs vs d rs ws e.3 a.1)
  where
    go : (us : List Label) × Duals (ws ++ cs) us → (us : List Label) × Duals (w ∷ (ws ++ cs)) us
    go (us, q) = by (more w (ws ++ cs) us q)
      where
        by : Span (ws ++ cs) w ⊎ ((us : List Label) × Duals (w ∷ (ws ++ cs)) us) → (us : List Label) × Duals (w ∷ (ws ++ cs)) us
        by (inr p) = p
        by (inl s) =
            absurd (omega (arith, span_pairing (ws ++ cs) r w (all_append (λ x. pairing x r ≡ 0) ws cs (flip r ws e.1) a.0) s, pairing_comm w r, e.0))

peel : (cs rs ws : List Label) → Duals rs ws → Apart cs rs → (a : Label) → All (λ r. pairing r a ≡ 0) rs → Span (ws ++ cs) a → Span cs a
peel cs [] [] e q a h s = s
peel cs [] (w ∷ ws) e q a h s = absurd e
peel cs (r ∷ rs) [] e q a h s = absurd e
peel cs (r ∷ rs) (w ∷ ws) e q a h (inl s) = peel cs rs ws e.3 q.1 a h.1 s
peel cs (r ∷ rs) (w ∷ ws) e q a h (inr s) =
    absurd (omega (
      arith,
      span_pairing (ws ++ cs) r (plus w a) (all_append (λ x. pairing x r ≡ 0) ws cs (flip r ws e.1) q.0) s,
      pairing_l w a r,
      pairing_comm w r,
      e.0,
      pairing_comm a r,
      h.0,
    ))

-- ---- a closed sheet's rays and centre

abbrev pub front : (ℕ → Label) → ℕ → List Label → List Label
front J zero cs = cs
front J (suc m) cs = J m ∷ front J m cs

pub all_front : (P : Label → Type 0) (J : ℕ → Label) (m : ℕ) (cs : List Label) → ((i : ℕ) → i < m → P (J i)) → All P cs → All P (front J m cs)
all_front P J zero cs h k = k
all_front P J (suc m) cs h k = (h m (omega arith), all_front P J m cs (λ i l. h i (omega arith)) k)

length_front : (J : ℕ → Label) (m : ℕ) (cs : List Label) → length (front J m cs) ≡ m + length cs
length_front J zero cs = omega arith
length_front J (suc m) cs = omega (arith, length_front J m cs)

pub record Frame (n c v : ℕ) (f : Values) (J : ℕ → Label) : Type 0 where
  pub cs : List Label
  pub many : length cs ≡ c
  pub central : All (Central f) cs
  pub spanned : (a : Label) → Central f a → Span cs a
  pub ws : List Label
  pub ws_many : length ws ≡ v + v + c
  pub ws_within : All (Within n) ws
  pub duals : Duals (front J (v + v) cs) ws
  pub us : List Label
  pub both : Duals (ws ++ cs) us
  pub apart : Apart cs (front J (v + v) cs)

module _ (n c v : ℕ) (f : Values) (S : Closed n c (v + v + 1) f) where
  pub central_zero : Central f zero_label
  central_zero = record { valued = (false, S.zero); commutes = λ b w. pairing_zero b }

  G : Generators (Central f) c
  G = generators (Central f) c central_zero (central_plus f S.product) S.centre

  grow : (m : ℕ) → m ≤ v + v → (ws : List Label) × Duals (front S.J m G.rs) ws
  grow zero h = (G.vs, G.duals)
  grow (suc m) h = go (grow m (omega arith))
    where
      go : (ws : List Label) × Duals (front S.J m G.rs) ws → (ws : List Label) × Duals (S.J m ∷ front S.J m G.rs) ws
      go (ws, d) = by (more (S.J m) (front S.J m G.rs) ws d)
        where
          by : Span (front S.J m G.rs) (S.J m) ⊎ ((ws : List Label) × Duals (S.J m ∷ front S.J m G.rs) ws) → (ws : List Label) × Duals (S.J m ∷ front S.J m G.rs) ws
          by (inr p) = p
          by (inl s) =
              let zero_on : All (λ x. pairing x (plus (S.J (v + v)) (S.J m)) ≡ 0) (front S.J m G.rs)
              = all_front (λ x. pairing x (plus (S.J (v + v)) (S.J m)) ≡ 0) S.J m G.rs
              (λ i l. omega (arith, pairing_r (S.J i) (S.J (v + v)) (S.J m), S.apart i (v + v) (omega arith) (omega arith) (omega arith), S.apart i m (omega arith) (omega arith) (omega arith)))
              (all_map (Central f) (λ x. pairing x (plus (S.J (v + v)) (S.J m)) ≡ 0)
              (λ x q. omega (arith, pairing_r x (S.J (v + v)) (S.J m), q.commutes (S.J (v + v)) (S.stands (v + v) (omega arith)), q.commutes (S.J m) (S.stands m (omega arith)))) G.rs G.so) in
              absurd (omega (
                arith,
                span_pairing (front S.J m G.rs) (plus (S.J (v + v)) (S.J m)) (S.J m) zero_on s,
                pairing_r (S.J m) (S.J (v + v)) (S.J m),
                S.apart m (v + v) (omega arith) (omega arith) (omega arith),
                pairing_self (S.J m),
              ))

  rs_valued : All (Valued f) (front S.J (v + v) G.rs)
  rs_valued = all_front (Valued f) S.J (v + v) G.rs (λ i l. S.stands i (omega arith)) (all_map (Central f) (Valued f) (λ x q. q.valued) G.rs G.so)

  pub frame : Frame n c v f S.J
  frame =
      let rs = front S.J (v + v) G.rs in
      let g = grow (v + v) (omega arith) in
      let d = cuts_duals n rs g.0 (all_map (Valued f) (Within n) S.within rs rs_valued) g.1 in
      let ap' : Apart G.rs rs
      = all_map (Valued f) (λ r. All (λ s. pairing s r ≡ 0) G.rs) (λ r w. all_map (Central f) (λ s. pairing s r ≡ 0) (λ s q. q.commutes r w) G.rs G.so) rs rs_valued in
      let l = lay G.rs G.vs G.duals rs (cuts n g.0) d ap' in
      record {
        cs = G.rs;
        many = G.many;
        central = G.so;
        spanned = G.spans;
        ws = cuts n g.0;
        ws_many = omega (arith, duals_length rs (cuts n g.0) d, length_front S.J (v + v) G.rs, G.many);
        ws_within = cuts_within n g.0;
        duals = d;
        us = l.0;
        both = l.1;
        apart = ap';
      }

  -- a full sheet: what commutes with all is in the centre
  pub full : c + v ≡ n → (b : Label) → Within n b → ((a : Label) → Valued f a → pairing a b ≡ 0) → Central f b
  full e b w h =
      let F = frame in
      let rs = front S.J (v + v) F.cs in
      let s = spans n (F.ws ++ F.cs) F.us (omega (arith, length-append F.ws F.cs, F.many, F.ws_many))
      (all_append (Within n) F.ws F.cs F.ws_within (all_map (Central f) (Within n) (λ x q. S.within x q.valued) F.cs F.central))
      F.both b w in
      let p = peel F.cs rs F.ws F.duals F.apart b
      (all_front (λ r. pairing r b ≡ 0) S.J (v + v) F.cs (λ i l. h (S.J i) (S.stands i (omega arith)))
      (all_map (Central f) (λ r. pairing r b ≡ 0) (λ x q. h x q.valued) F.cs F.central)) s in
      span_holds (Central f) central_zero (central_plus f S.product) F.cs F.central b p

pub maximal : Maximal
maximal s L = full s.n (s.n - s.width) s.width s.value (opened s L) (omega (arith, L.narrow))
