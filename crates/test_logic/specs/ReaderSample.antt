-- A sample grammar, which the tests read: a production of three lines, and one that uses every combinator.
use Rattle.std.specs.Prelude.{ℕ, zero, suc, List, [], ◌∷◌, ◌++◌, Option, Some, None, ℤ, codes, decimal, Bool, ◌||◌, ◌==◌}
use Rattle.xan_lin.specs.Linear.{bound}
use Rattle.std.specs.Char.{is_ascii_digit}
use Rattle.xan_read.specs.Reader.{Reader}
use Rattle.xan_read.specs.Combinators.{give, IsGiven, in_turn, InTurn, behind, IsBehind, where_comes, WhereComes, by_next, Either}
use Rattle.xan_read.specs.Lists.{repeated, IsRepeated, separated, IsSeparated, closed, IsClosed}
use Rattle.xan_read.specs.Numbers.{number, IsNumber}
use Rattle.xan_read.specs.Integers.{integer, IsInteger, signed, IsSigned}
use Rattle.xan_read.specs.Spelled.{Any, Spelled, IsBetween}
use Rattle.xan_read.specs.Words.{Table, word, IsWord}
use Rattle.xan_read.specs.Names.{name, IsName}

-- ---- transfer := "mv r" N " r" N, both from 0 to 15

unfoldable pub transfer : Reader (ℕ × ℕ)
transfer = behind (codes "mv r") (in_turn (number 0 15) (λ a. behind (codes " r") (in_turn (number 0 15) (λ b. give (a, b)))))

abbrev pub spelled_transfer : ℕ × ℕ → List ℕ
spelled_transfer (a, b) = codes "mv r" ++ (decimal a ++ (codes " r" ++ decimal b))

abbrev pub IsTransfer : ℕ × ℕ → List ℕ → Type 0
IsTransfer = Spelled Any (λ m. IsBetween 0 15 m.0 × IsBetween 0 15 m.1) spelled_transfer

-- ---- line := NAME [":" N] {"/" N} "=" ("int " [I] | "set (" [S {"," S}] ")" | "sum " S {"_" S}) "."

abbrev pub keywords : List (List ℕ)
keywords = codes "fun" ∷ codes "let" ∷ []

abbrev pub kinds : Table ℕ
kinds = (codes "int ", 0) ∷ (codes "set (", 1) ∷ (codes "sum ", 2) ∷ []

unfoldable pub register : Reader (Option ℕ)
register = where_comes 58 (in_turn (number 0 15) (λ n. give (Some n))) (give None)

unfoldable pub slots : Reader (List ℕ)
slots = repeated 47 2 (number 0 239)

unfoldable pub coefficient : Reader ℤ
coefficient = signed 0 bound

unfoldable pub one_integer : Reader (List ℤ)
one_integer = in_turn (integer 9223372036854775808 9223372036854775807) (λ z. give (z ∷ []))

abbrev pub begins_integer : ℕ → Bool
begins_integer b = is_ascii_digit b || (b == 45)

unfoldable pub optional_integer : Reader (List ℤ)
optional_integer = by_next begins_integer one_integer (give [])

unfoldable pub values : ℕ → Reader (List ℤ)
values zero = optional_integer
values (suc zero) = closed 44 41 3 coefficient
values (suc (suc n)) = separated 95 1 coefficient

pub record Line : Type 0 where
  pub name : List ℕ
  pub register : Option ℕ
  pub slots : List ℕ
  pub kind : ℕ
  pub values : List ℤ

unfoldable pub line : Reader Line
line = in_turn (name keywords) (λ n. in_turn register (λ r. in_turn slots (λ s. behind (codes "=") (in_turn (word kinds) (λ k. in_turn (values k) (λ zs.
    behind (codes ".") (give (record { name = n; register = r; slots = s; kind = k; values = zs }))))))))

-- the language of each part, by those of its parts
abbrev pub IsRegister : Option ℕ → List ℕ → Type 0
IsRegister = WhereComes 58 (InTurn (IsNumber 0 15) (λ n. IsGiven (Some n))) (IsGiven None)

abbrev pub AreSlots : List ℕ → List ℕ → Type 0
AreSlots = IsRepeated 47 2 (IsNumber 0 239)

abbrev pub AreValues : ℕ → List ℤ → List ℕ → Type 0
AreValues zero = Either (InTurn (IsInteger 9223372036854775808 9223372036854775807) (λ z. IsGiven (z ∷ []))) (IsGiven [])
AreValues (suc zero) = IsClosed 44 41 3 (IsSigned 0 bound)
AreValues (suc (suc n)) = IsSeparated 95 1 (IsSigned 0 bound)

abbrev pub IsEnd : Line → Line → List ℕ → Type 0
IsEnd made = IsBehind (codes ".") (IsGiven made)

abbrev pub IsLine : Line → List ℕ → Type 0
IsLine = InTurn (IsName keywords) (λ n. InTurn IsRegister (λ r. InTurn AreSlots (λ s. IsBehind (codes "=") (InTurn (IsWord kinds) (λ k. InTurn (AreValues k) (λ zs.
    IsEnd (record { name = n; register = r; slots = s; kind = k; values = zs })))))))
