-- The reading of types, quantifiers, type lines and signatures.
use Rattle.std.specs.Prelude.{ℕ, Bool as Truth, true, false, List, [], ◌∷◌, codes}
use Rattle.xan_lin.specs.Linear.{Linear}
use Rattle.xan_read.specs.Reader.{Reader}
use Rattle.xan_read.specs.Combinators.{give, in_turn, made, behind}
use Rattle.xan_read.specs.Numbers.{number}
use Rattle.xan_read.specs.Words.{Table, word}
use Rattle.proof_lines.specs.Reading.{form}
use Rattle.state_types.specs.declared.closed.Packed.{Packed}
use Rattle.state_types.specs.declared.closed.Signature.{Signature}
use Rattle.state_types.specs.declared.types.Ty.{Ty}
use Rattle.state_types.specs.declared.types.Ty.TheVariants as ty
use Rattle.dtal_code.specs.declared.limits.TheConstants.{LAST_NUMBER, LAST_TYPE, MOST_LISTED}
use Rattle.dtal_text.specs.declared.word.TyWord.{TyWord}
use Rattle.dtal_text.specs.declared.word.TyWord.TheVariants as ty_word
use Rattle.dtal_text.specs.Chains.{two}
use Rattle.dtal_text.specs.Listings.{unbounded, bounded, some_bounded}

abbrev pub whole_form : Reader Linear
whole_form = form 16 0

abbrev pub any_number : Reader ℕ
any_number = number 0 LAST_NUMBER

abbrev pub type_number : Reader ℕ
type_number = number 0 LAST_TYPE

-- ---- types

abbrev pub ty_words : Table TyWord
ty_words = (codes "int(", ty_word.Int) ∷ (codes "bool", ty_word.Bool) ∷ (codes "arr(", ty_word.Array) ∷ (codes "tup(", ty_word.Named) ∷ []

-- a value and a bracket
abbrev pub closed : {A : Type 0} → Reader A → Reader A
closed p = in_turn p (λ x. behind (codes ")") (give x))

-- what stands behind the word
unfoldable pub ty_behind : TyWord → Reader Ty
ty_behind ty_word.Int = made (λ form. ty.Int form) (closed whole_form)
ty_behind ty_word.Bool = give ty.Bool
ty_behind ty_word.Array = made (λ x. ty.Array x.0 x.1) (closed (two type_number (codes ",") whole_form))
ty_behind ty_word.Named = made (λ number. ty.Named number) (closed type_number)

unfoldable pub one_type : Reader Ty
one_type = in_turn (word ty_words) ty_behind

-- in parentheses, behind the opening one
unfoldable pub types : Reader (List Ty)
types = bounded 32 41 MOST_LISTED one_type

-- ---- quantifiers

unfoldable pub quantifier : Reader (ℕ × List Linear)
quantifier = behind (codes "{") (two any_number (codes "|") (unbounded 59 125 whole_form))

-- ---- type lines

abbrev pub kind_words : Table Truth
kind_words = (codes " tuple ", true) ∷ (codes " cell ", false) ∷ []

-- the parts, and the end of the line
unfoldable pub parts : (tuple : Truth) → Reader (List Ty)
parts true = some_bounded 32 10 MOST_LISTED one_type
parts false = in_turn one_type (λ t. behind (codes "\n") (give (t ∷ [])))

abbrev pub packed_of : ℕ × List Linear → (tuple : Truth) → List Ty → Packed
packed_of q tuple all = record { vars = q.0; rows = q.1; parts = all; tuple = tuple }

-- behind its first byte
unfoldable pub type_line : Reader Packed
type_line = behind (codes "ype ") (in_turn quantifier (λ q. in_turn (word kind_words) (λ tuple. in_turn (parts tuple) (λ all. give (packed_of q tuple all)))))

-- ---- signatures

abbrev pub signature_of : (ℕ × List Linear) × (List Ty × ((ℕ × List Linear) × Ty)) → Signature
signature_of x = record {
  vars = x.0.0;
  rows = x.0.1;
  params = x.1.0;
  result_vars = x.1.1.0.0;
  result_rows = x.1.1.0.1;
  result = x.1.1.1;
}

unfoldable pub signature : Reader Signature
signature = made signature_of (two quantifier (codes " (") (two types (codes " ") (two quantifier (codes " ") one_type)))
