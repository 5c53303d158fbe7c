-- The reading of the lines of a function: which may come where, and what each is.
use Rattle.std.specs.Prelude.{ℕ, suc, ◌+◌, ◌-◌, Bool as Truth, true, false, ◌&&◌, List, [], ◌∷◌, ◌++◌, Option, Some, None, codes, decimal, nat_lt, if◌then◌else◌}
use Rattle.xan_lin.specs.Linear.{Linear}
use Rattle.xan_read.specs.Reader.{Reader}
use Rattle.xan_read.specs.Combinators.{give, in_turn, made, behind, where_comes}
use Rattle.xan_read.specs.Numbers.{number}
use Rattle.xan_read.specs.Words.{Table, word}
use Rattle.proof_lines.specs.declared.line.Line.{Line}
use Rattle.proof_lines.specs.Reading.{one_line}
use Rattle.state_types.specs.declared.types.Ty.{Ty}
use Rattle.dtal_code.specs.declared.limits.TheConstants.{LAST_NUMBER}
use Rattle.dtal_code.specs.declared.program.LabelState.{LabelState}
use Rattle.dtal_code.specs.Grammar.{is_last}
use Rattle.dtal_text.specs.declared.line.BodyLine.{BodyLine}
use Rattle.dtal_text.specs.declared.line.BodyLine.TheVariants as line_is
use Rattle.dtal_text.specs.declared.line.Lines.{Lines}
use Rattle.dtal_text.specs.declared.line.Stand.{Stand}
use Rattle.dtal_text.specs.declared.line.Stand.TheVariants as stand
use Rattle.dtal_text.specs.declared.line.Which.{Which}
use Rattle.dtal_text.specs.declared.line.Which.TheVariants as which
use Rattle.dtal_text.specs.declared.word.LineWord.{LineWord}
use Rattle.dtal_text.specs.declared.word.LineWord.TheVariants as line_word
use Rattle.dtal_text.specs.declared.word.OpWord.TheVariants as op_word
use Rattle.dtal_text.specs.Chains.{two, chain}
use Rattle.dtal_text.specs.Listings.{rising, some_bounded}
use Rattle.dtal_text.specs.OperandReading.{Way, operands}
use Rattle.dtal_text.specs.TypeReading.{one_type, quantifier}

-- ---- which lines may come

abbrev pub op_words : Table LineWord
op_words =
    (codes "li ", line_word.Op op_word.Li) ∷ (codes "lb ", line_word.Op op_word.Lb) ∷ (codes "mv ", line_word.Op op_word.Mv)
    ∷ (codes "add ", line_word.Op op_word.Add) ∷ (codes "sub ", line_word.Op op_word.Sub) ∷ (codes "mul ", line_word.Op op_word.Mul)
    ∷ (codes "div ", line_word.Op op_word.Div) ∷ (codes "mod ", line_word.Op op_word.Mod) ∷ (codes "set ", line_word.Op op_word.Set)
    ∷ (codes "br ", line_word.Op op_word.Br) ∷ (codes "bt ", line_word.Op op_word.Bt) ∷ (codes "bf ", line_word.Op op_word.Bf)
    ∷ (codes "jmp ", line_word.Op op_word.Jmp) ∷ (codes "call ", line_word.Op op_word.Call) ∷ (codes "ret ", line_word.Op op_word.Ret)
    ∷ (codes "len ", line_word.Op op_word.Len) ∷ (codes "ld ", line_word.Op op_word.Ld) ∷ (codes "st ", line_word.Op op_word.St)
    ∷ (codes "new ", line_word.Op op_word.New) ∷ (codes "tup ", line_word.Op op_word.Tup) ∷ (codes "untup ", line_word.Op op_word.Untup)
    ∷ (codes "print ", line_word.Op op_word.Print) ∷ []

abbrev pub last_words : Table LineWord
last_words = (codes "jmp ", line_word.Op op_word.Jmp) ∷ (codes "ret ", line_word.Op op_word.Ret) ∷ []

abbrev pub instr_words : Which → Table LineWord
instr_words which.Any = op_words
instr_words which.Last = last_words
instr_words which.Nothing = []

-- the word, where it may come
abbrev pub where_it_may : Truth → List ℕ × LineWord → Table LineWord
where_it_may true entry = entry ∷ []
where_it_may false entry = []

abbrev pub words_in : Which → (by label end : Truth) → Table LineWord
words_in instrs by label end =
    instr_words instrs
    ++ (where_it_may by (codes "by ", line_word.By) ++ (where_it_may label (codes "label ", line_word.Label) ++ where_it_may end (codes "end\n", line_word.End)))

-- behind so many instructions: the one that makes them as many as there may be has to be the last of its block
abbrev pub instrs_behind : (instrs : ℕ) → Which
instrs_behind instrs = if nat_lt (suc instrs) LAST_NUMBER then which.Any else if nat_lt instrs LAST_NUMBER then which.Last else which.Nothing

-- a label needs an instruction behind it
abbrev pub label_may : Lines → Truth
label_may state = nat_lt state.labels LAST_NUMBER && nat_lt state.instrs LAST_NUMBER

abbrev pub words_at : Stand → Lines → Table LineWord
words_at stand.First state = words_in (instrs_behind state.instrs) false false false
words_at stand.Within state = words_in (instrs_behind state.instrs) true false false
words_at stand.Last state = words_in (instrs_behind state.instrs) true (label_may state) true

abbrev pub words_where : Lines → Table LineWord
words_where state = words_at state.stand state

-- ---- what was read behind a line

abbrev pub stand_behind : (last : Truth) → Stand
stand_behind true = stand.Last
stand_behind false = stand.Within

abbrev pub behind_line : Lines → BodyLine → Lines
behind_line state (line_is.Instr op edge) = record { labels = state.labels; instrs = suc state.instrs; stand = stand_behind (is_last op) }
behind_line state (line_is.By lines) = state
behind_line state (line_is.Label label) = record { labels = suc state.labels; instrs = state.instrs; stand = stand.First }

-- ---- labels

-- a place from a number on
abbrev pub register_or_slot : (registers : Truth) → (low : ℕ) → Reader ℕ
register_or_slot true low = where_comes 114 (number low 15) (behind (codes "s") (made (λ n. n + 16) (number 0 239)))
register_or_slot false low = behind (codes "s") (made (λ n. n + 16) (number (low - 16) 239))

unfoldable pub place_from : (low : ℕ) → Reader ℕ
place_from low = register_or_slot (nat_lt low 16) low

unfoldable pub typed_place_from : (low : ℕ) → Reader (ℕ × Ty)
typed_place_from low = two (place_from low) (codes ":") one_type

abbrev pub state_of : (ℕ × List Linear) × List (ℕ × Ty) → LabelState
state_of x = record { vars = x.0.0; rows = x.0.1; places = x.1 }

-- the places of a label, and the end of its line
abbrev pub typed_places : Reader (List (ℕ × Ty))
typed_places = in_turn (rising 32 93 255 typed_place_from) (λ places. behind (codes "\n") (give places))

unfoldable pub label_state : Reader LabelState
label_state = made state_of (two quantifier (codes " [") typed_places)

-- ---- a line

-- at most as many lines as there may be, and the end of the line
unfoldable pub proof : Reader (List Line)
proof = some_bounded 59 10 LAST_NUMBER one_line

unfoldable pub instr_line : Reader Way → Reader (Option BodyLine)
instr_line p = in_turn p (λ x. behind (codes "\n") (give (Some (line_is.Instr x.0 x.1))))

-- what stands behind the word; the mark of a function's end stands alone
unfoldable pub line_behind : Lines → LineWord → Reader (Option BodyLine)
line_behind state (line_word.Op w) = instr_line (operands w)
line_behind state line_word.By = made (λ lines. Some (line_is.By lines)) proof
line_behind state line_word.Label = behind (decimal (suc state.labels) ++ codes " ") (made (λ label. Some (line_is.Label label)) label_state)
line_behind state line_word.End = give None

unfoldable pub line : Lines → Reader (Option BodyLine)
line state = in_turn (word (words_where state)) (line_behind state)

abbrev pub at_first : Lines
at_first = record { labels = 0; instrs = 0; stand = stand.First }

-- up to the end of the function
unfoldable pub lines : Reader (List BodyLine)
lines = chain line behind_line at_first
