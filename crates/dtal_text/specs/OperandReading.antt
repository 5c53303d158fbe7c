-- The reading of what stands behind the word of an instruction.
use Rattle.std.specs.Prelude.{ℕ, ℤ, Bool as Truth, true, false, List, [], ◌∷◌, codes}
use Rattle.arrayvec.specs.ArrayVec.{ArrayVec}
use Rattle.xan_lin.specs.Linear.{Linear}
use Rattle.xan_read.specs.Reader.{Reader}
use Rattle.xan_read.specs.Combinators.{made, behind}
use Rattle.xan_read.specs.Numbers.{number}
use Rattle.xan_read.specs.Integers.{integer}
use Rattle.xan_read.specs.Words.{Table, word}
use Rattle.dtal_code.specs.declared.instruction.Cmp.{Cmp}
use Rattle.dtal_code.specs.declared.instruction.Cmp.TheVariants as cmp
use Rattle.dtal_code.specs.declared.instruction.Op.{Op}
use Rattle.dtal_code.specs.declared.instruction.Op.TheVariants as op
use Rattle.dtal_code.specs.declared.limits.TheConstants.{LAST_NUMBER, MOST_LISTED}
use Rattle.dtal_text.specs.declared.word.OpWord.{OpWord}
use Rattle.dtal_text.specs.declared.word.OpWord.TheVariants as word_of
use Rattle.dtal_text.specs.Chains.{two}
use Rattle.dtal_text.specs.Places.{register, place}
use Rattle.dtal_text.specs.Listings.{bounded, rising}
use Rattle.dtal_text.specs.TypeReading.{whole_form, any_number, type_number}

-- ---- operands

abbrev pub comparisons : Table Cmp
comparisons = (codes "lt ", cmp.Lt) ∷ (codes "le ", cmp.Le) ∷ (codes "eq ", cmp.Eq) ∷ (codes "ne ", cmp.Ne) ∷ []

abbrev pub truths : Table Truth
truths = (codes "0", false) ∷ (codes "1", true) ∷ []

abbrev pub integer64 : Reader ℤ
integer64 = integer 9223372036854775808 9223372036854775807

abbrev pub two_of : {A B : Type 0} → Reader A → Reader B → Reader (A × B)
two_of p q = two p (codes " ") q

abbrev pub pair : Reader (ℕ × ℕ)
pair = two_of register register

abbrev pub three : Reader (ℕ × (ℕ × ℕ))
three = two_of register pair

abbrev pub as_array : List ℕ → ArrayVec ℕ
as_array places = record { items = places }

-- places in parentheses
unfoldable pub places : Reader (ArrayVec ℕ)
places = behind (codes "(") (made as_array (bounded 32 41 MOST_LISTED place))

-- ---- edges

-- the value of a variable from a number on
unfoldable pub value_from : ℕ → Reader (ℕ × Linear)
value_from low = behind (codes "v") (two (number low LAST_NUMBER) (codes "=") whole_form)

unfoldable pub edge : Reader (List (ℕ × Linear))
edge = behind (codes "{") (rising 44 125 LAST_NUMBER value_from)

-- ---- instructions: an operation, and the values that it lists

abbrev pub Way : Type 0
Way = Op × List (ℕ × Linear)

-- one that goes to no label
abbrev pub plain : {A : Type 0} → (A → Op) → Reader A → Reader Way
plain make p = made (λ x. (make x, [])) p

-- one that goes to a label
abbrev pub going : {A : Type 0} → (A → Op) → Reader A → Reader Way
going make p = made (λ x. (make x.0, x.1)) (two_of p edge)

abbrev pub on_three : (ℕ → ℕ → ℕ → Op) → Reader Way
on_three make = plain (λ x. make x.0 x.1.0 x.1.1) three

unfoldable pub operands : OpWord → Reader Way
operands word_of.Li = plain (λ x. op.Li x.0 x.1) (two_of register integer64)
operands word_of.Lb = plain (λ x. op.Lb x.0 x.1) (two_of register (word truths))
operands word_of.Mv = plain (λ x. op.Mv x.0 x.1) (two_of place place)
operands word_of.Add = on_three (λ rd ra rb. op.Add rd ra rb)
operands word_of.Sub = on_three (λ rd ra rb. op.Sub rd ra rb)
operands word_of.Mul = on_three (λ rd ra rb. op.Mul rd ra rb)
operands word_of.Div = on_three (λ rd ra rb. op.Div rd ra rb)
operands word_of.Mod = on_three (λ rd ra rb. op.Mod rd ra rb)
operands word_of.Set = plain (λ x. op.Set x.0 x.1.0 x.1.1.0 x.1.1.1) (two (word comparisons) [] three)
operands word_of.Br = going (λ x. op.Br x.0 x.1.0.0 x.1.0.1 x.1.1) (two (word comparisons) [] (two_of pair any_number))
operands word_of.Bt = going (λ x. op.Bt x.0 x.1) (two_of register any_number)
operands word_of.Bf = going (λ x. op.Bf x.0 x.1) (two_of register any_number)
operands word_of.Jmp = going (λ label. op.Jmp label) any_number
operands word_of.Call = plain (λ x. op.Call x.0 x.1.0 x.1.1) (two_of any_number (two_of place places))
operands word_of.Ret = plain (λ p. op.Ret p) place
operands word_of.Len = plain (λ x. op.Len x.0 x.1) pair
operands word_of.Ld = on_three (λ rd ra ri. op.Ld rd ra ri)
operands word_of.St = on_three (λ ra ri rv. op.St ra ri rv)
operands word_of.New = plain (λ x. op.New x.0 x.1.0 x.1.1.0 x.1.1.1) (two_of register (two_of type_number pair))
operands word_of.Tup = plain (λ x. op.Tup x.0 x.1.0 x.1.1) (two_of place (two_of type_number places))
operands word_of.Untup = plain (λ x. op.Untup x.0 x.1.0 x.1.1) (two_of type_number (two_of place places))
operands word_of.Print = plain (λ ra. op.Print ra) register
