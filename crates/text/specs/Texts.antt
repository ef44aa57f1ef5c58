-- The text of a value that stands in a field, and which values a field takes.
use Rattle.std.specs.Prelude.{◌≡◌, ℕ, zero, suc, ◌+◌, ◌/◌, ◌%◌, ◌<◌, Bool, true, false, cond, ◌||◌, List, [], ◌∷◌, ◌++◌, length, take, Some, None, Ok, Err, decimal, Option, Result, ◌==◌, ◌≢◌, nat_lt, slice_index}
use Rattle.pauli.specs.declared.fault.Fault.{Fault}
use Rattle.pauli.specs.declared.fault.Fault.TheVariants.{BadForm}
use Rattle.pauli.specs.declared.gate.OneQubit.{OneQubit}
use Rattle.pauli.specs.declared.gate.Gate.{Gate}
use Rattle.pauli.specs.declared.gate.Gate.TheVariants.{One, Cx}
use Rattle.pauli.specs.Letters.{is_letter}
pub use Rattle.pauli.specs.Gates.{gate_byte}
pub use Rattle.pauli.specs.Names.{Named}

-- every value
abbrev pub Any : {A : Type 0} → A → Type 0
Any a = Unit {0}

-- one byte
abbrev pub one : ℕ → List ℕ
one b = b ∷ []

-- a number: its decimal digits, with no leading zero; zero is `0`
unfoldable pub num : ℕ → List ℕ
num n = decimal n

-- a field takes numbers of one to three digits
abbrev pub Short : ℕ → Type 0
Short n = n < 1000

-- these digits
abbrev pub digits : ℕ → List ℕ
digits n =
    cond (nat_lt n 10) ((48 + n) ∷ [])
    (cond (nat_lt n 100) ((48 + n / 10) ∷ (48 + n % 10) ∷ [])
    ((48 + n / 100) ∷ (48 + n / 10 % 10) ∷ (48 + n % 10) ∷ []))

-- a sign: `+`, or `-` for true
abbrev pub sign_byte : Bool → ℕ
sign_byte false = 43
sign_byte true = 45

abbrev pub sign_text : Bool → List ℕ
sign_text s = one (sign_byte s)

-- a whole text that is a value's
abbrev pub Spelled : {A : Type 0} (w : A → List ℕ) (L : A → Type 0) (t : List ℕ) → Result A Fault → Type 0
Spelled w L t (Ok a) = L a × (t ≡ w a)
Spelled {A} w L t (Err f) = (f ≡ BadForm) × ((a : A) → L a → t ≢ w a)

-- a number that a field takes stands first, and its end after it: how it is written, and where its end stands
abbrev pub NumberFirst : List ℕ → ℕ → Result (ℕ × ℕ) Fault → Type 0
NumberFirst t end (Ok p) = Short p.0 × (p.1 < length t) × (take p.1 t ≡ num p.0) × (slice_index t p.1 ≡ end)
NumberFirst t end (Err f) = (f ≡ BadForm) × ((n : ℕ) (more : List ℕ) → Short n → t ≢ num n ++ end ∷ more)

-- a one-qubit gate and its qubit, as `H,1`
abbrev pub turn_text : OneQubit × ℕ → List ℕ
turn_text p = gate_byte p.0 ∷ 44 ∷ num p.1

abbrev pub Turn : OneQubit × ℕ → Type 0
Turn p = Short p.1

-- two numbers, as `1,2`
abbrev pub pair_text : ℕ × ℕ → List ℕ
pair_text p = num p.0 ++ 44 ∷ num p.1

abbrev pub Pair : ℕ × ℕ → Type 0
Pair p = Short p.0 × Short p.1

-- a gate, as `H,1` or `CX,1,2`
abbrev pub gate_text : Gate → List ℕ
gate_text (One g q) = turn_text (g, q)
gate_text (Cx c t) = 67 ∷ 88 ∷ 44 ∷ pair_text (c, t)

abbrev pub Gated : Gate → Type 0
Gated (One g q) = Turn (g, q)
Gated (Cx c t) = Pair (c, t)

-- one of the letters I, X, Y and Z
abbrev pub Letter : ℕ → Type 0
Letter b = is_letter b ≡ true

-- one or more letters, written as they are
abbrev pub same : List ℕ → List ℕ
same l = l

pub record Letters (l : List ℕ) : Type 0 where
  pub some : 0 < length l
  pub each : (i : ℕ) → i < length l → Letter (slice_index l i)

-- how many letters a field may have, of so many that stand at its place: none are no field
abbrev pub some_first : Option ℕ → Option ℕ
some_first None = None
some_first (Some zero) = None
some_first (Some (suc n)) = Some (suc n)

-- a coin is written as a digit 0 or 1
abbrev pub is_coin : ℕ → Bool
is_coin b = b == 48 || b == 49

-- any number of coins, written as they are
pub record Coins (l : List ℕ) : Type 0 where
  pub each : (i : ℕ) → i < length l → is_coin (slice_index l i) ≡ true

-- n coins as digits, the first coin from the lowest bit
abbrev pub coins : ℕ → ℕ → List ℕ
coins zero c = []
coins (suc n) c = (48 + c % 2) ∷ coins n (c / 2)

-- no coins are `-`
unfoldable pub coin_text : ℕ → ℕ → List ℕ
coin_text n c = cond (n == 0) (45 ∷ []) (coins n c)

-- so many bytes, written as they are
abbrev pub Long : ℕ → List ℕ → Type 0
Long n l = length l ≡ n

-- any bytes, written as they are, but not that one
pub record Without (end : ℕ) (l : List ℕ) : Type 0 where
  pub each : (i : ℕ) → i < length l → slice_index l i ≢ end
