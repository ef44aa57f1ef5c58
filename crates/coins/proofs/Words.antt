-- A word that takes one more coin at its top.
use Rattle.std.proofs.Common.{◌≡◌, ℕ, zero, suc, ◌+◌, ◌*◌, ◌/◌, ◌%◌, ◌^◌, ◌<◌, ◌≤◌, Bool, true, false, cond, List, [], ◌∷◌, ◌++◌, length, sym, refl, ap, ◌∙◌, append_assoc, mod-eq_of_lt, one-mul, zero-mul, add-one, arith, length-append}
use native.Mathlib.Nat.{pow-succ'}
use lib.Pow.{pow-lt}
use mir.Val.{bool_byte}
use Rattle.pauli.specs.Bits.{odd}
use Rattle.coins.specs.Coins.{bits}

pub length_bits : (k w : ℕ) → length (bits k w) ≡ k
length_bits zero w = refl
length_bits (suc k) w = ap suc (length_bits k (w / 2))

-- what a coin at place k is worth
abbrev pub worth : Bool → ℕ → ℕ
worth c k = cond c (2 ^ k) 0

worth_suc : (c : Bool) (k : ℕ) → worth c (suc k) ≡ 2 * worth c k
worth_suc true k = pow-succ' 2 k
worth_suc false k = refl

bits_more : (k w : ℕ) (c : Bool) → w < 2 ^ k → bits (suc k) (w + worth c k) ≡ bits k w ++ (c ∷ [])
bits_more zero w true h = let e : w ≡ 0 = omega arith in rw e refl
bits_more zero w false h = let e : w ≡ 0 = omega arith in rw e refl
bits_more (suc k) w c h =
    let p : 2 ^ suc k ≡ 2 * 2 ^ k = pow-succ' 2 k in
    let s = worth_suc c k in
    let q : (w + worth c (suc k)) % 2 ≡ w % 2 = omega arith in
    let r : (w + worth c (suc k)) / 2 ≡ w / 2 + worth c k = omega arith in
    rw (q, r) (ap (λ l. odd w ∷ l) (bits_more k (w / 2) c (omega arith)))

below_more : (k w : ℕ) (c : Bool) → w < 2 ^ k → w + worth c k < 2 ^ suc k
below_more k w true h = let p : 2 ^ suc k ≡ 2 * 2 ^ k = pow-succ' 2 k in omega arith
below_more k w false h = let p : 2 ^ suc k ≡ 2 * 2 ^ k = pow-succ' 2 k in omega arith

-- `all` is the k coins of a word below 2 ^ k, followed by what is left
abbrev pub Read : List Bool → ℕ → ℕ → List Bool → Type 0
Read all k w rest = (w < 2 ^ k) × (all ≡ bits k w ++ rest)

pub read_more : (all : List Bool) (k w : ℕ) (c : Bool) (rest after : List Bool) → Read all k w rest → rest ≡ c ∷ after → Read all (k + 1) (w + worth c k) after
read_more all k w c rest after r d =
    rw add-one (
      below_more k w c r.0,
      r.1 ∙ ap (λ l. bits k w ++ l) d ∙ sym (append_assoc (bits k w) (c ∷ []) after) ∙ ap (λ l. l ++ after) (sym (bits_more k w c r.0)),
    )

-- where more than k coins were there, the next one is
pub not_none : (all : List Bool) (k n w : ℕ) (rest : List Bool) → Read all k w rest → k < n → n ≤ length all → rest ≡ [] → ⊥
not_none all k n w rest r lt le e =
    let a : length all ≡ length (bits k w) + length rest = ap length r.1 ∙ length-append (bits k w) rest in
    let b : length rest ≡ 0 = ap length e in
    let l = length_bits k w in
    omega arith

-- a coin shifted to place k of a word of 64 bits
pub shifted : (c : Bool) (k : ℕ) → k < 64 → (bool_byte c * 2 ^ k) % 2 ^ 64 ≡ worth c k
shifted true k h =
    let b : 2 ^ k < 2 ^ 64 = pow-lt h in
    rw one-mul (mod-eq_of_lt b)
shifted false k h = rw zero-mul refl
