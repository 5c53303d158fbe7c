-- Instructions one after the other, each of which its rule allows in the state type that the one before it leaves; and where they stand in a
-- function.
use Rattle.std.proofs.Common.{◌≡◌, ◌∙◌, ℕ, zero, suc, ◌+◌, ◌<◌, List, [], ◌∷◌, ◌++◌, length, slice_get, Some, refl, ap, subst, arith}
use Rattle.std.specs.List.{All}
use Rattle.lowering.specs.Lowered.{leads, renumbered}
use Rattle.operation_rules.specs.Rules.{Setting}
use Rattle.state_types.specs.declared.state.StateType.{StateType}
use Rattle.three_address.specs.Flow.{reads_at, writes_at, reads_of, writes_of, with_instruction, instruction_at}
use Rattle.three_address.specs.Instructions.{Instruction, instruction_of}
use Rattle.three_address.specs.Typing.{Allows}
use Rattle.three_address.specs.declared.function.LowFun.{LowFun}
use Rattle.three_address.specs.declared.instruction.LowInstr.{LowInstr}
use Rattle.three_address.specs.declared.typed.Edge.{Edge}

-- what stands throughout a function: how many places it has, the positions and states of its labels, and its code with numbers of labels
pub record Body : Type 0 where
  pub setting : Setting
  pub count : ℕ
  pub positions : List ℕ
  pub labels : List StateType
  pub fun : LowFun

-- an instruction as it stands in the function
abbrev pub placed : Body → LowInstr → LowInstr
placed b i = renumbered b.positions (leads i.op) i

-- ---- chains

pub data Chain (b : Body) : StateType → List LowInstr → List Edge → List StateType → StateType → Type 0 where
  Done : (s : StateType) → Chain b s [] [] [] s
  Next : (s next behind : StateType) (i : LowInstr) (is : List LowInstr) (e : Edge) (es : List Edge) (ss : List StateType)
      → Allows b.setting b.count b.labels s (placed b i) e (Some next) → Chain b next is es ss behind → Chain b s (i ∷ is) (e ∷ es) (s ∷ ss) behind

pub chain_on : (b : Body) (s t u : StateType) (is js : List LowInstr) (es fs : List Edge) (ss ts : List StateType)
    → Chain b s is es ss t → Chain b t js fs ts u → Chain b s (is ++ js) (es ++ fs) (ss ++ ts) u
chain_on b s t u is js es fs ss ts (Done _) later = later
chain_on b s t u is js es fs ss ts (Next _ next _ i more e others states allows one) later =
    Next s next u i (more ++ js) e (others ++ fs) (states ++ ts) allows (chain_on b next t u more js others fs states ts one later)

-- ---- where code stands

pub record CodeAt (b : Body) (p : ℕ) (code : List LowInstr) : Type 0 where
  pub each : (k : ℕ) (i : LowInstr) → slice_get code k ≡ Some i → slice_get b.fun.code (p + k) ≡ Some (placed b i)
  pub small : (k : ℕ) (i : LowInstr) → slice_get code k ≡ Some i → All (λ place. place < b.count) i.places

pub get_left : {A : Type 0} (xs ys : List A) (k : ℕ) (x : A) → slice_get xs k ≡ Some x → slice_get (xs ++ ys) k ≡ Some x
get_left [] ys k x e = absurd (let bad : ⊥ = cc in bad)
get_left (y ∷ xs) ys zero x e = e
get_left (y ∷ xs) ys (suc k) x e = get_left xs ys k x e

get_right : {A : Type 0} (xs ys : List A) (k n : ℕ) → n ≡ length xs + k → slice_get (xs ++ ys) n ≡ slice_get ys k
get_right [] ys k n e = ap (λ m. slice_get ys m) (omega (arith, e))
get_right (x ∷ xs) ys k n e = (let next : n ≡ suc (length xs + k) = omega (arith, e) in ap (λ m. slice_get (x ∷ (xs ++ ys)) m) next ∙ get_right xs ys k (length xs + k) refl)

pub code_left : (b : Body) (p : ℕ) (xs ys : List LowInstr) → CodeAt b p (xs ++ ys) → CodeAt b p xs
code_left b p xs ys c = record {
  each = λ k i e. c.each k i (get_left xs ys k i e);
  small = λ k i e. c.small k i (get_left xs ys k i e);
}

pub code_right : (b : Body) (p q : ℕ) (xs ys : List LowInstr) → q ≡ p + length xs → CodeAt b p (xs ++ ys) → CodeAt b q ys
code_right b p q xs ys same c = record {
  each = λ k i e. subst (λ n. slice_get b.fun.code n ≡ Some (placed b i)) (omega (arith, same)) (c.each (length xs + k) i (get_right xs ys k (length xs + k) refl ∙ e));
  small = λ k i e. c.small (length xs + k) i (get_right xs ys k (length xs + k) refl ∙ e);
}

-- ---- what is read and written where an instruction stands

pub record Stands (b : Body) (p : ℕ) (instr : LowInstr) (i : Instruction) : Type 0 where
  pub there : slice_get b.fun.code p ≡ Some instr
  pub is : instruction_of instr ≡ Some i

module _ (b : Body) (p : ℕ) (instr : LowInstr) (i : Instruction) (at : Stands b p instr i) where
  pub found : instruction_at b.fun.code p ≡ Some i
  unfolding instruction_at
  found = ap (λ o. with_instruction o instruction_of) at.there ∙ at.is

  pub reads_are : reads_at b.fun p ≡ i.reads
  unfolding reads_at
  reads_are = ap reads_of found

  pub writes_are : writes_at b.fun p ≡ i.writes
  unfolding writes_at
  writes_are = ap writes_of found
