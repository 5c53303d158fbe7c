-- The two words that an instruction is coded in, and a whole program's object.
use Rattle.std.specs.Prelude.{◌≡◌, ℕ, ◌+◌, ◌-◌, ◌*◌, ◌^◌, ◌<◌, ℤ, pos, negsuc, Bool as Truth, true, false, List, [], ◌∷◌, length, option_map, Some}
use Rattle.std.specs.Prelude.{FitsSigned}
use Rattle.std.specs.Int.{w64}
use Rattle.dtal_code.specs.declared.object.Object.{Object}
use Rattle.dtal_code.specs.declared.object.RunOp.{RunOp}
use Rattle.dtal_code.specs.declared.object.RunOp.TheVariants as op
use Rattle.dtal_code.specs.declared.program.DtalProgram.{DtalProgram}
use Rattle.dtal_code.specs.Declarations.{main_of}
use Rattle.dtal_code.specs.Grammar.{IsNumber, IsTypeNumber, IsListed, IsThree}
use Rattle.dtal_code.specs.Instructions.{comparison}
use Rattle.dtal_code.specs.ObjectCode.{code_of}
use Rattle.dtal_code.specs.Places.{IsRegister, IsPlace}

-- ---- bytes

-- the word of these bytes, the lowest first
unfoldable pub word_of : List ℕ → ℕ
word_of [] = 0
word_of (byte ∷ bytes) = byte + 256 * word_of bytes

-- the bits of a number with a sign
abbrev pub bits_of : ℤ → ℕ
bits_of (pos n) = n
bits_of (negsuc n) = 2 ^ 64 - 1 - n

abbrev pub truth_bit : Truth → ℕ
truth_bit true = 1
truth_bit false = 0

-- ---- words

-- Byte 0 of the first word is the number of the instruction, and a byte that is not used is 0.
abbrev pub words_of : RunOp → ℕ × ℕ
words_of (op.Li rd number) = (word_of (1 ∷ rd ∷ []), bits_of number)
words_of (op.Lb rd b) = (word_of (2 ∷ rd ∷ truth_bit b ∷ []), 0)
words_of (op.Mv p q) = (word_of (3 ∷ p ∷ q ∷ []), 0)
words_of (op.Add rd ra rb) = (word_of (4 ∷ rd ∷ ra ∷ rb ∷ []), 0)
words_of (op.Sub rd ra rb) = (word_of (5 ∷ rd ∷ ra ∷ rb ∷ []), 0)
words_of (op.Mul rd ra rb) = (word_of (6 ∷ rd ∷ ra ∷ rb ∷ []), 0)
words_of (op.Div rd ra rb) = (word_of (7 ∷ rd ∷ ra ∷ rb ∷ []), 0)
words_of (op.Mod rd ra rb) = (word_of (8 ∷ rd ∷ ra ∷ rb ∷ []), 0)
words_of (op.Set c rd ra rb) = (word_of (9 ∷ rd ∷ ra ∷ rb ∷ comparison c ∷ []), 0)
words_of (op.Br c ra rb to) = (word_of (10 ∷ comparison c ∷ ra ∷ rb ∷ []), to)
words_of (op.Bt ra to) = (word_of (11 ∷ ra ∷ []), to)
words_of (op.Bf ra to) = (word_of (12 ∷ ra ∷ []), to)
words_of (op.Jmp to) = (word_of (13 ∷ []), to)
words_of (op.Call fun p args) = (word_of (14 ∷ p ∷ length args.items ∷ 0 ∷ fun ∷ []), word_of args.items)
words_of (op.Ret p) = (word_of (15 ∷ p ∷ []), 0)
words_of (op.Len rd ra) = (word_of (16 ∷ rd ∷ ra ∷ []), 0)
words_of (op.Ld rd ra ri) = (word_of (17 ∷ rd ∷ ra ∷ ri ∷ []), 0)
words_of (op.St ra ri rv) = (word_of (18 ∷ ra ∷ ri ∷ rv ∷ []), 0)
words_of (op.New rd cells rn rv) = (word_of (19 ∷ rd ∷ rn ∷ rv ∷ cells ∷ []), 0)
words_of (op.Tup p number parts) = (word_of (20 ∷ p ∷ length parts.items ∷ 0 ∷ number ∷ []), word_of parts.items)
words_of (op.Untup number q parts) = (word_of (21 ∷ q ∷ length parts.items ∷ 0 ∷ number ∷ []), word_of parts.items)
words_of (op.Print ra) = (word_of (22 ∷ ra ∷ []), 0)

-- ---- the instructions that are coded

abbrev pub IsInstruction : ℕ → Type 0
IsInstruction number = number < 2 ^ 64

-- its numbers are in range
abbrev pub IsRunOp : RunOp → Type 0
IsRunOp (op.Li rd number) = IsRegister rd × FitsSigned w64 number
IsRunOp (op.Lb rd b) = IsRegister rd
IsRunOp (op.Mv p q) = IsPlace p × IsPlace q
IsRunOp (op.Add rd ra rb) = IsThree rd ra rb
IsRunOp (op.Sub rd ra rb) = IsThree rd ra rb
IsRunOp (op.Mul rd ra rb) = IsThree rd ra rb
IsRunOp (op.Div rd ra rb) = IsThree rd ra rb
IsRunOp (op.Mod rd ra rb) = IsThree rd ra rb
IsRunOp (op.Set c rd ra rb) = IsThree rd ra rb
IsRunOp (op.Br c ra rb to) = IsRegister ra × IsRegister rb × IsInstruction to
IsRunOp (op.Bt ra to) = IsRegister ra × IsInstruction to
IsRunOp (op.Bf ra to) = IsRegister ra × IsInstruction to
IsRunOp (op.Jmp to) = IsInstruction to
IsRunOp (op.Call fun p args) = IsNumber fun × IsPlace p × IsListed args.items
IsRunOp (op.Ret p) = IsPlace p
IsRunOp (op.Len rd ra) = IsRegister rd × IsRegister ra
IsRunOp (op.Ld rd ra ri) = IsThree rd ra ri
IsRunOp (op.St ra ri rv) = IsThree ra ri rv
IsRunOp (op.New rd cells rn rv) = IsRegister rd × IsTypeNumber cells × IsRegister rn × IsRegister rv
IsRunOp (op.Tup p number parts) = IsPlace p × IsTypeNumber number × IsListed parts.items
IsRunOp (op.Untup number q parts) = IsTypeNumber number × IsPlace q × IsListed parts.items
IsRunOp (op.Print ra) = IsRegister ra

-- the pair of words codes the instruction
pub record IsPair (first second : ℕ) (o : RunOp) : Type 0 where
  pub in_range : IsRunOp o
  pub is : (first, second) ≡ words_of o

-- ---- objects

-- the words of instructions, in order
unfoldable pub object_words : List RunOp → List ℕ
object_words [] = []
object_words (o ∷ ops) = (words_of o).0 ∷ (words_of o).1 ∷ object_words ops

-- the program's object
pub record IsObject (program : DtalProgram) (object : Object) : Type 0 where
  pub words : object.words ≡ object_words (code_of program).ops
  pub starts : object.starts ≡ (code_of program).starts
  pub main : option_map (λ main. main.0) (main_of program.funs) ≡ Some object.main
