-- The reading of lines: each part of a form, forms, and lines by their first byte.
use Rattle.std.specs.Prelude.{ℕ, zero, suc, ℤ, pos, Bool, ◌&&◌, not, nat_lt, List, [], ◌∷◌, ◌++◌, codes, Ok, if◌then◌else◌}
use Rattle.std.specs.Ordering.{int_eq}
use Rattle.xan_lin.specs.Linear.{Linear, bound}
use Rattle.xan_lin.specs.declared.term.Term.{Term}
use Rattle.xan_read.specs.Reader.{Read, Reader, ◌>>=◌}
use Rattle.xan_read.specs.Combinators.{give, in_turn, behind, where_comes}
use Rattle.xan_read.specs.Numbers.{number}
use Rattle.xan_read.specs.Integers.{integer, signed}
use Rattle.xan_read.specs.Lists.{separated}
use Rattle.xan_read.specs.Words.{Table, word}
use Rattle.proof_lines.specs.declared.line.Line.{Line}
use Rattle.proof_lines.specs.declared.line.Line.TheVariants as line
use Rattle.proof_lines.specs.declared.form_text.Part.{Part}
use Rattle.proof_lines.specs.declared.form_text.Part.TheVariants as part
use Rattle.proof_lines.specs.declared.line_text.Kind.{Kind}
use Rattle.proof_lines.specs.declared.line_text.Kind.TheVariants as kind

-- ---- forms

-- a variable may follow the number: it is not 0, and variables are left from `low` on
abbrev pub may_have_variable : ℕ → ℤ → Bool
may_have_variable low z = not (int_eq z (pos 0)) && nat_lt low 4294967296

abbrev pub term_of : ℤ → ℕ → Part
term_of z v = part.Term (record { var = v; coef = z })

-- what a number with a sign is: the coefficient of the variable behind it, or the constant
unfoldable pub after_number : ℕ → ℤ → Reader Part
after_number low z bytes =
    if may_have_variable low z
    then where_comes 118 (in_turn (number low 4294967295) (λ v. give (term_of z v))) (give (part.Constant z)) bytes
    else give (part.Constant z) bytes

unfoldable pub form_part : ℕ → Reader Part
form_part low = in_turn (signed 0 bound) (λ z. after_number low z)

abbrev pub with_front : Term → Linear → Linear
with_front t form = record { terms = t ∷ form.terms; constant = form.constant }

-- what follows a part, where `rest` reads the terms from a variable on and the constant
abbrev pub after_part : (ℕ → Reader Linear) → Part → Reader Linear
after_part rest (part.Term t) = in_turn (rest (suc t.var)) (λ form. give (with_front t form))
after_part rest (part.Constant z) = give (record { terms = []; constant = z })

abbrev pub constant_form : ℤ → Linear
constant_form z = record { terms = []; constant = z }

-- at most so many terms of rising variables from `low` on, and the constant
unfoldable pub form : ℕ → ℕ → Reader Linear
form zero low = in_turn (signed 0 bound) (λ z. give (constant_form z))
form (suc room) low = in_turn (form_part low) (after_part (form room))

-- ---- lines

unfoldable pub multiple : Reader (ℤ × ℕ)
multiple = in_turn (integer 9223372036854775808 9223372036854775807) (λ by. behind (codes " ") (in_turn (number 0 4294967295) (λ row. give (by, row))))

unfoldable pub two_multiples : Reader ((ℤ × ℕ) × (ℤ × ℕ))
two_multiples = in_turn multiple (λ left. behind (codes " ") (in_turn multiple (λ right. give (left, right))))

unfoldable pub division : Reader (ℕ × ℤ)
division = in_turn (number 0 4294967295) (λ row. behind (codes " ") (in_turn (integer 9223372036854775808 9223372036854775807) (λ by. give (row, by))))

-- what each line begins with
abbrev pub kinds : Table Kind
kinds = (codes "h ", kind.Hyp) ∷ (codes "g", kind.Goal) ∷ (codes "c ", kind.Comb) ∷ (codes "t ", kind.Cut) ∷ []

-- what stands behind that
unfoldable pub operands : Kind → Reader Line
operands kind.Hyp = in_turn (form 16 0) (λ e. give (line.Hyp e))
operands kind.Goal = give line.Goal
operands kind.Comb = in_turn two_multiples (λ x. give (line.Comb x.0.0 x.0.1 x.1.0 x.1.1))
operands kind.Cut = in_turn division (λ x. give (line.Cut x.0 x.1))

unfoldable pub one_line : Reader Line
one_line = in_turn (word kinds) operands

unfoldable pub lines : Reader (List Line)
lines = behind (codes "by ") (separated 59 4294967294 one_line)

-- ---- forms, as a loop reads them

-- the terms so far, and those that are read
abbrev pub onto_form : List Term → Read Linear → Read Linear
onto_form made read = read >>= λ x. let form : Linear = record { terms = made ++ x.0.terms; constant = x.0.constant } in Ok (form, x.1)
