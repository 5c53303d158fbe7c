-- How a program is spelled, piece by piece.
use Rattle.std.specs.Prelude.{ℕ, suc, Bool as Truth, true, false, List, [], ◌∷◌, ◌++◌, Option, Some, None, codes, decimal}
use Rattle.std.specs.Fmt.{signed_decimal}
use Rattle.xan_lin.specs.Linear.{Linear}
use Rattle.xan_lin.specs.Text.{form_text}
use Rattle.proof_lines.specs.declared.line.Line.{Line}
use Rattle.proof_lines.specs.Spelling.{lines_text}
use Rattle.state_types.specs.declared.closed.Packed.{Packed}
use Rattle.state_types.specs.declared.closed.Signature.{Signature}
use Rattle.state_types.specs.declared.types.Ty.{Ty}
use Rattle.state_types.specs.declared.types.Ty.TheVariants as ty
use Rattle.dtal_code.specs.declared.instruction.Cmp.{Cmp}
use Rattle.dtal_code.specs.declared.instruction.Cmp.TheVariants as cmp
use Rattle.dtal_code.specs.declared.instruction.Op.{Op}
use Rattle.dtal_code.specs.declared.instruction.Op.TheVariants as op
use Rattle.dtal_code.specs.declared.instruction.Instr.{Instr}
use Rattle.dtal_code.specs.declared.program.LabelState.{LabelState}
use Rattle.dtal_code.specs.declared.program.Block.{Block}
use Rattle.dtal_code.specs.declared.program.Function.{Function}
use Rattle.dtal_code.specs.declared.program.DtalProgram.{DtalProgram}
use Rattle.dtal_code.specs.Places.{place_text}

-- ---- lists

-- each behind a mark
unfoldable pub each_behind : {A : Type 0} → List ℕ → (A → List ℕ) → List A → List ℕ
each_behind mark text [] = []
each_behind mark text (x ∷ xs) = mark ++ (text x ++ each_behind mark text xs)

-- a mark between two
abbrev pub joined : {A : Type 0} → List ℕ → (A → List ℕ) → List A → List ℕ
joined mark text [] = []
joined mark text (x ∷ xs) = text x ++ each_behind mark text xs

-- one after the other
unfoldable pub each : {A : Type 0} → (A → List ℕ) → List A → List ℕ
each text [] = []
each text (x ∷ xs) = text x ++ each text xs

-- ---- types

abbrev pub ty_text : Ty → List ℕ
ty_text (ty.Int form) = codes "int(" ++ (form_text form ++ codes ")")
ty_text ty.Bool = codes "bool"
ty_text (ty.Array element form) = codes "arr(" ++ (decimal element ++ (codes "," ++ (form_text form ++ codes ")")))
ty_text (ty.Named number) = codes "tup(" ++ (decimal number ++ codes ")")

-- a space between two
abbrev pub types_text : List Ty → List ℕ
types_text types = joined (codes " ") ty_text types

-- how many variables there are, and the rows that hold of them
abbrev pub quantifier_text : (vars : ℕ) → (rows : List Linear) → List ℕ
quantifier_text vars rows = codes "{" ++ (decimal vars ++ (codes "|" ++ (joined (codes ";") form_text rows ++ codes "}")))

abbrev pub kind_text : (tuple : Truth) → List ℕ
kind_text true = codes " tuple "
kind_text false = codes " cell "

-- a written type and the end of its line
abbrev pub type_line : Packed → List ℕ
type_line packed =
    codes "type " ++ (quantifier_text packed.vars packed.rows ++ (kind_text packed.tuple ++ (types_text packed.parts ++ codes "\n")))

-- ---- instructions

-- places in parentheses, a space between two
abbrev pub list_text : List ℕ → List ℕ
list_text places = codes "(" ++ (joined (codes " ") place_text places ++ codes ")")

abbrev pub truth_text : Truth → List ℕ
truth_text true = codes "1"
truth_text false = codes "0"

abbrev pub comparison_text : Cmp → List ℕ
comparison_text cmp.Lt = codes "lt "
comparison_text cmp.Le = codes "le "
comparison_text cmp.Eq = codes "eq "
comparison_text cmp.Ne = codes "ne "

abbrev pub two_text : ℕ → ℕ → List ℕ
two_text p q = place_text p ++ (codes " " ++ place_text q)

abbrev pub three_text : ℕ → ℕ → ℕ → List ℕ
three_text p q r = place_text p ++ (codes " " ++ two_text q r)

-- a word, and its operands with a space between two
abbrev pub op_text : Op → List ℕ
op_text (op.Li rd number) = codes "li " ++ (place_text rd ++ (codes " " ++ signed_decimal number))
op_text (op.Lb rd b) = codes "lb " ++ (place_text rd ++ (codes " " ++ truth_text b))
op_text (op.Mv p q) = codes "mv " ++ two_text p q
op_text (op.Add rd ra rb) = codes "add " ++ three_text rd ra rb
op_text (op.Sub rd ra rb) = codes "sub " ++ three_text rd ra rb
op_text (op.Mul rd ra rb) = codes "mul " ++ three_text rd ra rb
op_text (op.Div rd ra rb) = codes "div " ++ three_text rd ra rb
op_text (op.Mod rd ra rb) = codes "mod " ++ three_text rd ra rb
op_text (op.Set c rd ra rb) = codes "set " ++ (comparison_text c ++ three_text rd ra rb)
op_text (op.Br c ra rb label) = codes "br " ++ (comparison_text c ++ (two_text ra rb ++ (codes " " ++ decimal label)))
op_text (op.Bt ra label) = codes "bt " ++ (place_text ra ++ (codes " " ++ decimal label))
op_text (op.Bf ra label) = codes "bf " ++ (place_text ra ++ (codes " " ++ decimal label))
op_text (op.Jmp label) = codes "jmp " ++ decimal label
op_text (op.Call fun p args) = codes "call " ++ (decimal fun ++ (codes " " ++ (place_text p ++ (codes " " ++ list_text args.items))))
op_text (op.Ret p) = codes "ret " ++ place_text p
op_text (op.Len rd ra) = codes "len " ++ two_text rd ra
op_text (op.Ld rd ra ri) = codes "ld " ++ three_text rd ra ri
op_text (op.St ra ri rv) = codes "st " ++ three_text ra ri rv
op_text (op.New rd cells rn rv) = codes "new " ++ (place_text rd ++ (codes " " ++ (decimal cells ++ (codes " " ++ two_text rn rv))))
op_text (op.Tup p number parts) = codes "tup " ++ (place_text p ++ (codes " " ++ (decimal number ++ (codes " " ++ list_text parts.items))))
op_text (op.Untup number q parts) = codes "untup " ++ (decimal number ++ (codes " " ++ (place_text q ++ (codes " " ++ list_text parts.items))))
op_text (op.Print ra) = codes "print " ++ place_text ra

-- ---- ways to labels

-- it goes to a label
abbrev pub has_edge : Op → Truth
has_edge (op.Br c ra rb label) = true
has_edge (op.Bt ra label) = true
has_edge (op.Bf ra label) = true
has_edge (op.Jmp label) = true
has_edge _ = false

-- the value of a variable
abbrev pub value_text : ℕ × Linear → List ℕ
value_text v = codes "v" ++ (decimal v.0 ++ (codes "=" ++ form_text v.1))

abbrev pub edge_text : List (ℕ × Linear) → List ℕ
edge_text values = codes "{" ++ (joined (codes ",") value_text values ++ codes "}")

-- where there is one, a space and the edge
abbrev pub way_text : (has : Truth) → List (ℕ × Linear) → List ℕ
way_text true values = codes " " ++ edge_text values
way_text false values = []

-- ---- lines

abbrev pub by_line : List Line → List ℕ
by_line lines = lines_text lines ++ codes "\n"

-- an instruction and the end of its line, and a line for each row that is proved
abbrev pub instr_text : Instr → List ℕ
instr_text i = op_text i.op ++ (way_text (has_edge i.op) i.edge ++ (codes "\n" ++ each by_line i.by))

abbrev pub code_text : List Instr → List ℕ
code_text code = each instr_text code

abbrev pub typed_place : ℕ × Ty → List ℕ
typed_place p = place_text p.0 ++ (codes ":" ++ ty_text p.1)

abbrev pub label_line : (label : ℕ) → LabelState → List ℕ
label_line label state =
    codes "label " ++ (decimal label ++ (codes " " ++ (quantifier_text state.vars state.rows ++ (codes " [" ++ (joined (codes " ") typed_place state.places ++ codes "]\n")))))

-- ---- functions

abbrev pub head_text : (label : ℕ) → Option LabelState → List ℕ
head_text label None = []
head_text label (Some state) = label_line label state

-- blocks from a number on, each behind the line of its label
unfoldable pub blocks_text : (label : ℕ) → List Block → List ℕ
blocks_text label [] = []
blocks_text label (block ∷ blocks) = head_text label block.state ++ (code_text block.code ++ blocks_text (suc label) blocks)

-- the types of the parameters, and what stands of the result
abbrev pub signature_text : Signature → List ℕ
signature_text sig =
    quantifier_text sig.vars sig.rows ++ (codes " (" ++ (types_text sig.params ++ (codes ") " ++ (quantifier_text sig.result_vars sig.result_rows ++ (codes " " ++ ty_text sig.result)))))

abbrev pub function_text : Function → List ℕ
function_text fun = codes "fun " ++ (fun.name ++ (codes " " ++ (signature_text fun.sig ++ (codes "\n" ++ (blocks_text 0 fun.blocks ++ codes "end\n")))))

-- ---- programs

abbrev pub program_text : DtalProgram → List ℕ
program_text program = codes "dtal 1\n" ++ (each type_line program.types ++ each function_text program.funs)
