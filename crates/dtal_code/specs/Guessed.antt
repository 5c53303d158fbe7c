-- The one instruction that two words may code, read off their bytes. Where its numbers are in range and its own words are these two, it is
-- what they code; elsewhere they code nothing.
use Rattle.std.specs.Prelude.{FitsSigned, ◌<◌, ◌^◌, ℕ, zero, suc, ◌/◌, ◌%◌, ◌==◌, List, [], ◌∷◌, nat_lt, Option, Some, None, if◌then◌else◌}
use Rattle.std.specs.Int.{w64, cast_signed}
use Rattle.dtal_code.specs.Grammar.{IsNumber, IsListed}
use Rattle.dtal_code.specs.Places.{IsPlace}
use Rattle.dtal_code.specs.declared.instruction.Cmp.{Cmp}
use Rattle.dtal_code.specs.declared.instruction.Cmp.TheVariants as cmp
use Rattle.dtal_code.specs.declared.limits.TheConstants.{MOST_LISTED}
use Rattle.dtal_code.specs.declared.object.RunOp.{RunOp}
use Rattle.dtal_code.specs.declared.object.RunOp.TheVariants as op

-- ---- parts

-- the byte of a word that is worth so much
abbrev pub byte_at : (worth word : ℕ) → ℕ
byte_at worth word = word / worth % 256

-- bytes 1, 2 and 3, and bytes 4 to 7
abbrev pub first_of : ℕ → ℕ
first_of word = byte_at 256 word

abbrev pub second_of : ℕ → ℕ
second_of word = byte_at 65536 word

abbrev pub third_of : ℕ → ℕ
third_of word = byte_at 16777216 word

abbrev pub high_of : ℕ → ℕ
high_of word = word / 4294967296

-- so many bytes of a word, the lowest first
unfoldable pub bytes_in : (count word : ℕ) → List ℕ
bytes_in zero word = []
bytes_in (suc count) word = word % 256 ∷ bytes_in count (word / 256)

abbrev pub comparison_of : ℕ → Cmp
comparison_of number = if number == 0 then cmp.Lt else if number == 1 then cmp.Le else if number == 2 then cmp.Eq else cmp.Ne

-- ---- instructions

-- those of two words that list places
abbrev pub listing : (opcode first second : ℕ) → Option RunOp
listing opcode first second =
    if nat_lt MOST_LISTED (second_of first) then None
    else if opcode == 14 then Some (op.Call (high_of first) (first_of first) (record { items = bytes_in (second_of first) second }))
    else if opcode == 20 then Some (op.Tup (first_of first) (high_of first) (record { items = bytes_in (second_of first) second }))
    else if opcode == 21 then Some (op.Untup (high_of first) (first_of first) (record { items = bytes_in (second_of first) second }))
    else None

-- those that go elsewhere, and the others behind them
abbrev pub going : (opcode first second : ℕ) → Option RunOp
going opcode first second =
    if opcode == 10 then Some (op.Br (comparison_of (first_of first)) (second_of first) (third_of first) second)
    else if opcode == 11 then Some (op.Bt (first_of first) second)
    else if opcode == 12 then Some (op.Bf (first_of first) second)
    else if opcode == 13 then Some (op.Jmp second)
    else if opcode == 15 then Some (op.Ret (first_of first))
    else if opcode == 16 then Some (op.Len (first_of first) (second_of first))
    else if opcode == 17 then Some (op.Ld (first_of first) (second_of first) (third_of first))
    else if opcode == 18 then Some (op.St (first_of first) (second_of first) (third_of first))
    else if opcode == 19 then Some (op.New (first_of first) (high_of first) (second_of first) (third_of first))
    else if opcode == 22 then Some (op.Print (first_of first))
    else listing opcode first second

abbrev pub guessed_at : (opcode first second : ℕ) → Option RunOp
guessed_at opcode first second =
    if opcode == 1 then Some (op.Li (first_of first) (cast_signed w64 second))
    else if opcode == 2 then Some (op.Lb (first_of first) (second_of first == 1))
    else if opcode == 3 then Some (op.Mv (first_of first) (second_of first))
    else if opcode == 4 then Some (op.Add (first_of first) (second_of first) (third_of first))
    else if opcode == 5 then Some (op.Sub (first_of first) (second_of first) (third_of first))
    else if opcode == 6 then Some (op.Mul (first_of first) (second_of first) (third_of first))
    else if opcode == 7 then Some (op.Div (first_of first) (second_of first) (third_of first))
    else if opcode == 8 then Some (op.Mod (first_of first) (second_of first) (third_of first))
    else if opcode == 9 then Some (op.Set (comparison_of (high_of first)) (first_of first) (second_of first) (third_of first))
    else going opcode first second

abbrev pub guessed : (first second : ℕ) → Option RunOp
guessed first second = guessed_at (first % 256) first second

-- what is in range of any instruction that was read off words: all but registers and numbers of types
abbrev pub IsWide : RunOp → Type 0
IsWide (op.Li rd number) = FitsSigned w64 number
IsWide (op.Mv p q) = IsPlace p × IsPlace q
IsWide (op.Br c ra rb to) = to < 2 ^ 64
IsWide (op.Bt ra to) = to < 2 ^ 64
IsWide (op.Bf ra to) = to < 2 ^ 64
IsWide (op.Jmp to) = to < 2 ^ 64
IsWide (op.Call fun p args) = IsNumber fun × IsPlace p × IsListed args.items
IsWide (op.Ret p) = IsPlace p
IsWide (op.Tup p number parts) = IsPlace p × IsListed parts.items
IsWide (op.Untup number q parts) = IsPlace q × IsListed parts.items
IsWide _ = Unit {0}
