-- The code over places of a whole core: labels become numbers, and each function has its name, its signature and its places.
use Rattle.std.specs.Prelude.{◌≡◌, ℕ, suc, ◌==◌, max, map, Bool as Truth, true, false, List, [], ◌∷◌, length, slice_get, Some}
use Rattle.state_types.specs.declared.closed.Signature.{Signature}
use Rattle.xanadu_tree.specs.Plain as core
use Rattle.xanadu_tree.specs.PlainOf.{plain_core}
use Rattle.typed_core.specs.Proving.{ElaboratedParts}
use Rattle.three_address.specs.Flow.{label_at}
use Rattle.three_address.specs.declared.function.LowFun.{LowFun}
use Rattle.three_address.specs.declared.function.Lowered.{Lowered}
use Rattle.three_address.specs.declared.instruction.LowInstr.{LowInstr}
use Rattle.three_address.specs.declared.instruction.Op22.{Op22}
use Rattle.three_address.specs.declared.instruction.Op22.TheVariants as op
use Rattle.value_lowering.specs.Frames.{frame_of}
use Rattle.lowering.specs.StatementCode.{block_code, block_labels}

-- ---- labels, which are numbered from 1 by position

-- whether it goes to a label
abbrev pub leads : Op22 → Truth
leads op.Br = true
leads op.Bt = true
leads op.Bf = true
leads op.Jmp = true
leads _ = false

abbrev pub next_number : (here : Truth) → (later : ℕ) → ℕ
next_number true later = 1
next_number false later = suc later

-- the number of the label at a position
unfoldable pub number_of : (labels : List ℕ) → (position : ℕ) → ℕ
number_of [] position = 0
number_of (label ∷ labels) position = next_number (label == position) (number_of labels position)

abbrev pub renumbered : (labels : List ℕ) → (leads : Truth) → LowInstr → LowInstr
renumbered labels true i = record i { target = number_of labels i.target }
renumbered labels false i = i

-- the code with the number of a label in place of each position to which it leads
abbrev pub numbered : (labels : List ℕ) → List LowInstr → List LowInstr
numbered labels code = map (λ i. renumbered labels (leads i.op) i) code

-- ---- places

-- one more than the greatest of some places, or 0
unfoldable pub places_reach : List ℕ → ℕ
places_reach [] = 0
places_reach (place ∷ places) = max (suc place) (places_reach places)

unfoldable pub code_reach : List LowInstr → ℕ
code_reach [] = 0
code_reach (i ∷ code) = max (places_reach i.places) (code_reach code)

-- ---- functions

pub record Body : Type 0 where
  -- those of the variables, and of the temporaries that are named
  pub places : ℕ
  pub code : List LowInstr
  pub labels : List ℕ

abbrev pub labels_of : core.Fun → List ℕ
labels_of f = block_labels f.body 0

-- with positions as targets
abbrev pub code_of : core.Program → core.Fun → List LowInstr
code_of program f = block_code (frame_of program f) f.body 0

abbrev pub body_of : core.Program → core.Fun → Body
body_of program f = record {
  places = max (length f.kinds) (code_reach (code_of program f));
  code = numbered (labels_of f) (code_of program f);
  labels = labels_of f;
}

-- The instruction that stands at a position is this one with the number of its label, and that label stands where this one leads.
pub record NamesPosition (body : Body) (at : ℕ) (instr : LowInstr) : Type 0 where
  pub there : slice_get body.code at ≡ Some (renumbered body.labels (leads instr.op) instr)
  pub named : leads instr.op ≡ true → label_at body.labels (number_of body.labels instr.target) ≡ Some instr.target

abbrev pub function_of : core.Program → core.Fun → Signature → LowFun
function_of program f sig =
    let body = body_of program f in
    record { name = f.name; sig = sig; places = body.places; code = body.code; labels = body.labels }

-- each function with its signature
unfoldable pub functions_of : core.Program → List core.Fun → List Signature → List LowFun
functions_of program [] sigs = []
functions_of program (f ∷ fs) [] = []
functions_of program (f ∷ fs) (sig ∷ sigs) = function_of program f sig ∷ functions_of program fs sigs

-- ---- a program

-- the code over places of a core with its closed types and signatures
abbrev pub lowered : ElaboratedParts → Lowered
lowered base =
    let program = plain_core base.core in
    record { funs = functions_of program program.funs base.made.sigs; table = base.made.table; main = base.core.main }
