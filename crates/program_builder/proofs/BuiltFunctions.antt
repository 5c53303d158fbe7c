-- The functions of typed code with what stands with each, side by side.
use Rattle.std.proofs.Common.{◌≡◌, ℕ, suc, ◌≤◌, List, [], ◌∷◌, length, Some, slice_get, refl, sym, subst}
use Rattle.std.proofs.lemmas.Option.{none-some, same_Some}
use Rattle.state_types.specs.declared.state.StateType.{StateType}
use Rattle.three_address.specs.Instructions.{Instruction, instruction_of}
use Rattle.three_address.specs.declared.function.LowFun.{LowFun}
use Rattle.three_address.specs.declared.instruction.LowInstr.{LowInstr}
use Rattle.three_address.specs.declared.typed.Edge.{Edge}
use Rattle.emission_laws.specs.ApartHomes.{AreSlots}
use Rattle.lowering.specs.Lowered.{code_reach}

-- an instruction has a form, with at most eight places of each sort
pub record HasForm (instr : LowInstr) : Type 0 where
  pub form : Instruction
  pub is : instruction_of instr ≡ Some form
  pub few_written : length form.writes ≤ 8
  pub few_read : length form.reads ≤ 8

unfoldable pub HaveForms : List LowInstr → Type 0
HaveForms [] = Unit {0}
HaveForms (i ∷ code) = HasForm i × HaveForms code

pub forms_of : (code : List LowInstr) → ((at : ℕ) (instr : LowInstr) → slice_get code at ≡ Some instr → HasForm instr) → HaveForms code
unfolding HaveForms
forms_of [] each = tt
forms_of (i ∷ code) each = (each 0 i refl, forms_of code (λ at instr e. each (suc at) instr e))

-- each place of a function is in a slot of its own, and its code names places of the function
pub record IsBuilt (fun : LowFun) (edges : List Edge) (homes : List ℕ) : Type 0 where
  pub slots : AreSlots homes fun.places
  pub forms : HaveForms fun.code
  pub edge_each : length edges ≡ length fun.code
  pub named : code_reach fun.code ≤ fun.places
  pub few_params : length fun.sig.params ≤ 8
  pub params : length fun.sig.params ≤ fun.places

-- so of each function, which has the states of its labels, edges and homes
unfoldable pub AreBuilt : List LowFun → List (List StateType) → List (List Edge) → List (List ℕ) → Type 0
AreBuilt [] states edges homes = Unit {0}
AreBuilt (fun ∷ funs) (labels ∷ states) (es ∷ edges) (hs ∷ homes) = IsBuilt fun es hs × AreBuilt funs states edges homes
AreBuilt (fun ∷ funs) [] edges homes = ⊥
AreBuilt (fun ∷ funs) (labels ∷ states) [] homes = ⊥
AreBuilt (fun ∷ funs) (labels ∷ states) (es ∷ edges) [] = ⊥

-- ---- by number

pub record IsBuiltAt (states : List (List StateType)) (edges : List (List Edge)) (homes : List (List ℕ)) (number : ℕ) (fun : LowFun) : Type 0 where
  pub labels : List StateType
  pub own_edges : List Edge
  pub own : List ℕ
  pub labels_there : slice_get states number ≡ Some labels
  pub edges_there : slice_get edges number ≡ Some own_edges
  pub homes_there : slice_get homes number ≡ Some own
  pub built : IsBuilt fun own_edges own

pub each_built : (funs : List LowFun) (states : List (List StateType)) (edges : List (List Edge)) (homes : List (List ℕ))
    → ((number : ℕ) (fun : LowFun) → slice_get funs number ≡ Some fun → IsBuiltAt states edges homes number fun) → AreBuilt funs states edges homes
unfolding AreBuilt
each_built [] states edges homes each = tt
each_built (fun ∷ funs) [] edges homes each = absurd (let it = each 0 fun refl in none-some it.labels it.labels_there)
each_built (fun ∷ funs) (labels ∷ states) [] homes each = absurd (let it = each 0 fun refl in none-some it.own_edges it.edges_there)
each_built (fun ∷ funs) (labels ∷ states) (es ∷ edges) [] each = absurd (let it = each 0 fun refl in none-some it.own it.homes_there)
each_built (fun ∷ funs) (labels ∷ states) (es ∷ edges) (hs ∷ homes) each = (
  let it = each 0 fun refl in
      subst (λ h. IsBuilt fun es h) (sym (same_Some hs it.own it.homes_there)) (subst (λ e. IsBuilt fun e it.own) (sym (same_Some es it.own_edges it.edges_there)) it.built),
  each_built funs states edges homes (λ number g e. let it = each (suc number) g e in record {
    labels = it.labels;
    own_edges = it.own_edges;
    own = it.own;
    labels_there = it.labels_there;
    edges_there = it.edges_there;
    homes_there = it.homes_there;
    built = it.built;
  }),
)
