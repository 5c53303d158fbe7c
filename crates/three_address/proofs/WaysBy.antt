-- Whether an instruction leads to a marked position, kind by kind, and whether a place is live at a position by what is marked.
use Rattle.std.proofs.Common.{◌≡◌, ℕ, zero, suc, ◌-◌, ℤ, pos, negsuc, Bool, true, false, not, ◌&&◌, ◌||◌, List, [], ◌∷◌, length, Option, Some, None, option_to_list, nat_lt, slice_get, if◌then◌else◌, refl, sym, ap, ◌∙◌}
use Rattle.std.specs.List.{list_any}
use Rattle.operation_rules.specs.declared.operation.Operation.{Operation}
use Rattle.operation_rules.specs.declared.operation.Operation.TheVariants.{Compare, Branch, BranchTruth, Jump, Return, New, Tuple, Untuple}
use Rattle.three_address.specs.Flow.{label_at, ways, with_instruction, instruction_at, reads_of, writes_of, ways_of, target_of, reads_at, writes_at, ways_from}
use Rattle.three_address.specs.Instructions.{Instruction, of_truth, of_comparison, of_type, operation_of, with_places, with_operation, instruction_of}
use Rattle.three_address.specs.LiveTables.{has}
use Rattle.three_address.specs.PlaceLives.{lives_by, lives_in, place_lives}
use Rattle.three_address.specs.Splits.{marked, marked_if, leads_by, parts_of}
use Rattle.three_address.specs.declared.function.LowFun.{LowFun}
use Rattle.three_address.specs.declared.instruction.LowInstr.{LowInstr}
use Rattle.three_address.specs.declared.instruction.Op22.{Op22}
use Rattle.three_address.specs.declared.instruction.Op22.TheVariants as op
use Rattle.three_address.proofs.SplitParts.{parts_in, parts_are}

-- whether some position to which it leads is marked; where it has no form, it leads nowhere
abbrev pub any_marked : List Bool → Option Instruction → (at : ℕ) → Option ℕ → Bool
any_marked marks i at label = list_any (λ next. marked marks next) (ways_of i at label)

or_false : (a : Bool) → (a || false) ≡ a
or_false true = refl
or_false false = refl

one_way : (marks : List Bool) (at : ℕ) → list_any (λ next. marked marks next) (at ∷ []) ≡ marked marks at
one_way marks at = or_false (marked marks at)

label_way : (marks : List Bool) (label : Option ℕ) → list_any (λ next. marked marks next) (option_to_list label) ≡ marked_if marks label
label_way marks None = refl
label_way marks (Some at) = one_way marks at

-- ---- where control goes, of a kind of instruction and of an operation

pub data Ways : Type 0 where
  Onward : Ways
  Elsewhere : Ways
  Either : Ways
  Nowhere : Ways

abbrev by_kind : Op22 → Ways
by_kind op.Br = Either
by_kind op.Bt = Either
by_kind op.Bf = Either
by_kind op.Jmp = Elsewhere
by_kind op.Ret = Nowhere
by_kind _ = Onward

abbrev by_operation : Operation → Ways
by_operation (Branch c) = Either
by_operation (BranchTruth b) = Either
by_operation Jump = Elsewhere
by_operation Return = Nowhere
by_operation _ = Onward

abbrev marked_by : Ways → List Bool → (label : Option ℕ) → (at : ℕ) → Bool
marked_by Onward marks label at = marked marks (suc at)
marked_by Elsewhere marks label at = marked_if marks label
marked_by Either marks label at = marked marks (suc at) || marked_if marks label
marked_by Nowhere marks label at = false

kind_leads : (o : Op22) (marks : List Bool) (labels : List ℕ) (target at : ℕ)
    → leads_by o marks labels target at ≡ marked_by (by_kind o) marks (label_at labels target) at
kind_leads op.Li marks labels target at = refl
kind_leads op.Lb marks labels target at = refl
kind_leads op.Mv marks labels target at = refl
kind_leads op.Add marks labels target at = refl
kind_leads op.Sub marks labels target at = refl
kind_leads op.Mul marks labels target at = refl
kind_leads op.Div marks labels target at = refl
kind_leads op.Mod marks labels target at = refl
kind_leads op.Set marks labels target at = refl
kind_leads op.Br marks labels target at = refl
kind_leads op.Bt marks labels target at = refl
kind_leads op.Bf marks labels target at = refl
kind_leads op.Jmp marks labels target at = refl
kind_leads op.Call marks labels target at = refl
kind_leads op.Ret marks labels target at = refl
kind_leads op.Len marks labels target at = refl
kind_leads op.Ld marks labels target at = refl
kind_leads op.St marks labels target at = refl
kind_leads op.New marks labels target at = refl
kind_leads op.Tup marks labels target at = refl
kind_leads op.Untup marks labels target at = refl
kind_leads op.Print marks labels target at = refl

either_way : (marks : List Bool) (at : ℕ) (label : Option ℕ)
    → list_any (λ next. marked marks next) (at ∷ option_to_list label) ≡ (marked marks at || marked_if marks label)
either_way marks at label = ap (λ b. marked marks at || b) (label_way marks label)

operation_leads : (o : Operation) (marks : List Bool) (label : Option ℕ) (at : ℕ)
    → list_any (λ next. marked marks next) (ways o at label) ≡ marked_by (by_operation o) marks label at
operation_leads (Branch c) marks label at = either_way marks (suc at) label
operation_leads (BranchTruth b) marks label at = either_way marks (suc at) label
operation_leads Jump marks label at = label_way marks label
operation_leads Return marks label at = refl
operation_leads o marks label at = one_way marks (suc at)

-- an operation of the kind
abbrev IsOfKind : Op22 → Option Operation → Type 0
IsOfKind o None = Unit {0}
IsOfKind o (Some p) = by_operation p ≡ by_kind o

comparison_is : (o : Op22) (p : ℕ → Operation) (number : ℤ) → ((n : ℕ) → by_operation (p n) ≡ by_kind o) → IsOfKind o (of_comparison number p)
comparison_is o p (pos n) h = by (nat_lt n 4)
  where
    by : (b : Bool) → IsOfKind o (if b then Some (p n) else None)
    by true = h n
    by false = tt
comparison_is o p (negsuc n) h = tt

type_is : (o : Op22) (p : ℕ → Operation) (number : ℤ) → ((n : ℕ) → by_operation (p n) ≡ by_kind o) → IsOfKind o (of_type number p)
type_is o p (pos n) h = h n
type_is o p (negsuc n) h = tt

kind_of_operation : (o : Op22) (number : ℤ) (target listed : ℕ) → IsOfKind o (operation_of o number target listed)
kind_of_operation op.Li number target listed = refl
kind_of_operation op.Lb number target listed = truth number
  where
    truth : (number : ℤ) → IsOfKind op.Lb (of_truth number)
    truth (pos zero) = refl
    truth (pos (suc zero)) = refl
    truth (pos (suc (suc n))) = tt
    truth (negsuc n) = tt
kind_of_operation op.Mv number target listed = refl
kind_of_operation op.Add number target listed = refl
kind_of_operation op.Sub number target listed = refl
kind_of_operation op.Mul number target listed = refl
kind_of_operation op.Div number target listed = refl
kind_of_operation op.Mod number target listed = refl
kind_of_operation op.Set number target listed = comparison_is op.Set Compare number (λ n. refl)
kind_of_operation op.Br number target listed = comparison_is op.Br Branch number (λ n. refl)
kind_of_operation op.Bt number target listed = refl
kind_of_operation op.Bf number target listed = refl
kind_of_operation op.Jmp number target listed = refl
kind_of_operation op.Call number target listed = refl
kind_of_operation op.Ret number target listed = refl
kind_of_operation op.Len number target listed = refl
kind_of_operation op.Ld number target listed = refl
kind_of_operation op.St number target listed = refl
kind_of_operation op.New number target listed = type_is op.New New number (λ n. refl)
kind_of_operation op.Tup number target listed = type_is op.Tup Tuple number (λ n. refl)
kind_of_operation op.Untup number target listed = type_is op.Untup (λ p. Untuple p (listed - 1)) number (λ n. refl)
kind_of_operation op.Print number target listed = refl

-- ---- an instruction

own_operation : (o : Operation) (places : List ℕ) → (with_places o places).operation ≡ o
own_operation (Untuple number count) places = refl
own_operation o places = refl

found_if : (b : Bool) (j i : Instruction) → (if b then Some j else None) ≡ Some i → j ≡ i
found_if true j i e = cc
found_if false j i e = cc

ways_of_kind : (o : Op22) (operation : Option Operation) (places : List ℕ) (i : Instruction) → IsOfKind o operation → with_operation operation places ≡ Some i
    → by_operation i.operation ≡ by_kind o
ways_of_kind o None places i is e = cc
ways_of_kind o (Some p) places i is e =
    ap by_operation (ap (λ j. j.operation) (sym (found_if _ (with_places p places) i e)) ∙ own_operation p places) ∙ is

leads_are : (i : LowInstr) (instruction : Instruction) → instruction_of i ≡ Some instruction → (marks : List Bool) (labels : List ℕ) (at : ℕ)
    → leads_by i.op marks labels i.target at ≡ list_any (λ next. marked marks next) (ways instruction.operation at (label_at labels i.target))
unfolding instruction_of
leads_are i instruction e marks labels at =
    kind_leads i.op marks labels i.target at
    ∙ ap (λ w. marked_by w marks (label_at labels i.target) at)
    (sym (ways_of_kind i.op _ i.places instruction (kind_of_operation i.op i.number i.target (length i.places)) e))
    ∙ sym (operation_leads instruction.operation marks (label_at labels i.target) at)

-- ---- a position

-- by what is read, written and led to at a position
abbrev pub lives_at : LowFun → (place : ℕ) → List Bool → (at : ℕ) → Bool
lives_at fun place marks at =
    has (reads_at fun at) place || (not (has (writes_at fun at) place) && list_any (λ next. marked marks next) (ways_from fun at))

abbrev lives_of : Option Instruction → (place : ℕ) → List Bool → (at : ℕ) → Option ℕ → Bool
lives_of i place marks at label = has (reads_of i) place || (not (has (writes_of i) place) && any_marked marks i at label)

lives_instruction : (i : LowInstr) (place : ℕ) (marks : List Bool) (labels : List ℕ) (at : ℕ)
    → lives_by (parts_of i) place (leads_by i.op marks labels i.target at) ≡ lives_of (instruction_of i) place marks at (label_at labels i.target)
lives_instruction i place marks labels at =
    ap (λ parts. lives_by parts place (leads_by i.op marks labels i.target at)) (parts_are i)
    ∙ elim (instruction_of i) as (λ o. instruction_of i ≡ o → lives_by (parts_in o) place (leads_by i.op marks labels i.target at) ≡ lives_of o place marks at (label_at labels i.target)) [
      | None ↦ λ e. refl
      | Some instruction ↦ λ e.
          ap (λ leads. has instruction.reads place || (not (has instruction.writes place) && leads)) (leads_are i instruction e marks labels at)
    ] refl

pub lives_are : (fun : LowFun) (place : ℕ) (marks : List Bool) (at : ℕ) → place_lives fun place marks at ≡ lives_at fun place marks at
unfolding place_lives reads_at writes_at ways_from instruction_at
lives_are fun place marks at =
    elim (slice_get fun.code at) as (λ o. lives_in o fun.labels place marks at ≡ lives_of (with_instruction o instruction_of) place marks at (label_at fun.labels (target_of o))) [
      | None ↦ refl
      | Some i ↦ lives_instruction i place marks fun.labels at
    ]
