-- What the parser's definition answers, by the relations; it has no want of memory.
use Rattle.std.proofs.Common.{◌≡◌, ℕ, Bool, true, false, cond, List, length, Result, Ok, Err, refl}
use Rattle.std.specs.Prelude.{nat_lt}
use Rattle.xanadu_lexer.specs.declared.token.Token.{Token}
use Rattle.xanadu_tree.specs.Nesting.{nesting}
use Rattle.xanadu_tree.specs.PlainTree as tree
use Rattle.xanadu_parser.specs.declared.error.ParseError.{ParseError}
use Rattle.xanadu_parser.specs.declared.error.ParseError.TheVariants as parse_error
use Rattle.xanadu_parser.specs.Declarations.{declarations}
use Rattle.xanadu_parser.specs.Faults.{IsAnswer}
use Rattle.xanadu_parser.specs.Kinds.{kinds_of}
use Rattle.xanadu_parser.specs.Parsing.{Answers, parsed, program, tree_or_fault}
use Rattle.expression_parser.specs.Reader.{Read}
use Rattle.xanadu_parser.proofs.ParsedPrograms.{meaning}

own : (answer : Result tree.Tree ParseError) → Answers (λ (t : tree.Tree). t) answer answer
own (Ok t) = refl
own (Err parse_error.Nesting) = refl
own (Err (parse_error.Fault at)) = refl
own (Err parse_error.Memory) = tt

pub answered : (tokens : List Token) (end : ℕ) → IsAnswer (λ (t : tree.Tree). t) tokens end (parsed tokens end)
answered tokens end = meaning tokens end (λ (t : tree.Tree). t) (parsed tokens end) (own (parsed tokens end))

read_told : (tokens : List Token) (end : ℕ) (read : Read (List tree.Declaration)) → tree_or_fault tokens end read ≡ Err parse_error.Memory → ⊥
read_told tokens end (Ok x) e = cc
read_told tokens end (Err left) e = cc

depth_told : (tokens : List Token) (end : ℕ) (deep : Bool) → cond deep (Err parse_error.Nesting) (program tokens end) ≡ Err parse_error.Memory → ⊥
depth_told tokens end true e = cc
depth_told tokens end false e = read_told tokens end (declarations (length tokens) tokens) e

pub never_memory : (tokens : List Token) (end : ℕ) → parsed tokens end ≡ Err parse_error.Memory → ⊥
unfolding parsed
never_memory tokens end e = depth_told tokens end (nat_lt 64 (nesting (kinds_of tokens))) e
