-- Operands one after the other: the code so far runs, its demands are proved, and each operand is where it waits.
use Rattle.std.proofs.Common.{◌≡◌, ◌∙◌, false, ℕ, suc, ◌+◌, ◌<◌, ◌≤◌, List, [], ◌∷◌, ◌++◌, length, slice_get, Option, Some, None, Ok, refl, sym, ap, subst, arith, append_assoc, append-nil}
use Rattle.std.proofs.lemmas.List.{length-append}
use Rattle.operation_rules.specs.Rules.{rule}
use Rattle.operation_rules.specs.declared.operation.Operation.{Operation}
use Rattle.operation_rules.specs.declared.rule.Rule.{Rule}
use Rattle.state_types.specs.PlaceTypes.{type_at}
use Rattle.state_types.specs.declared.state.StateType.{StateType}
use Rattle.state_types.specs.declared.types.Ty.{Ty}
use Rattle.three_address.specs.Demands.{demands_of, AreProved}
use Rattle.three_address.specs.declared.instruction.LowInstr.{LowInstr}
use Rattle.three_address.specs.declared.typed.Edge.{Edge}
use Rattle.lowering.specs.Lowered.{leads}
use Rattle.index_sorts.specs.Context.{IndexContext}
use Rattle.three_address.specs.Typing.{Allows}
use Rattle.typed_core.specs.Constructs.{setting_of}
use Rattle.typed_core.specs.Growth.{Continues}
use Rattle.typed_core.specs.Proving.{ProveAll}
use Rattle.typed_core.specs.States.{Site, State}
use Rattle.typed_core.specs.declared.note.Note.{Note}
use Rattle.type_carrier.specs.CarriedValues.{Carried}
use Rattle.type_carrier.specs.ProvedRows.{Proofs}
use Rattle.carrier_laws.proofs.ChainsTyped.{Body, Chain, Done, Next, chain_on, get_left, placed}
use Rattle.carrier_laws.proofs.OperationsTyped.{Follows, follows_types, follows_few}
use Rattle.carrier_laws.proofs.ValuesPlaced.{Now, Temporaries, Where, InTemporary, InVariable, Came, Operates, one_written}

-- what stands throughout the walk over a function
pub record Walk : Type 0 where
  pub body : Body
  pub vars : ℕ
  pub site : Site
  pub proofs : Proofs
  pub notes : List Note

pub record IsWalk (w : Walk) : Type 0 where
  pub setting : w.body.setting ≡ setting_of w.site
  pub proved : ProveAll w.proofs.goals w.proofs.lines

-- what is made later stands behind
pub record Ahead (w : Walk) (st : State) : Type 0 where
  pub goals : Continues st.goals w.proofs.goals
  pub notes : Continues st.notes w.notes

-- the notes that are left are those that elaboration made from here on
abbrev pub IsLeft : Walk → State → List Note → Type 0
IsLeft w st left = w.notes ≡ st.notes ++ left

-- variables are those of the function
abbrev pub Within : Walk → List (ℕ × Ty) → Type 0
Within w types = (x : ℕ) (t : Ty) → type_at x types ≡ Some t → x < w.vars

-- ---- from one point to another

-- where code stands, elaboration is in this state, and so many temporaries wait
pub record Here (w : Walk) (p : ℕ) (s : StateType) (st : State) (ts : List Ty) (left : List Note) : Type 0 where
  pub now : Now w.body p s st
  pub waits : Temporaries w.vars s ts
  pub remains : IsLeft w st left
  pub within : Within w st.types
  pub few : st.ctx.vars ≤ 1024

-- the code runs from one state type to another, with these edges
pub record Runs (w : Walk) (s : StateType) (code : List LowInstr) (before after : List Edge) (t : StateType) : Type 0 where
  pub edges : List Edge
  pub are : after ≡ before ++ edges
  pub states : List StateType
  pub chain : Chain w.body s code edges states t

pub no_code : (w : Walk) (s : StateType) (before : List Edge) → Runs w s [] before before s
no_code w s before = record { edges = []; are = sym (append-nil before); states = []; chain = Done s }

pub runs_on : (w : Walk) (s t u : StateType) (is js : List LowInstr) (a b c : List Edge) → Runs w s is a b t → Runs w t js b c u → Runs w s (is ++ js) a c u
runs_on w s t u is js a b c one two = record {
  edges = one.edges ++ two.edges;
  are = two.are ∙ ap (λ es. es ++ two.edges) one.are ∙ append_assoc a one.edges two.edges;
  states = one.states ++ two.states;
  chain = chain_on w.body s t u is js one.edges two.edges one.states two.states one.chain two.chain;
}

-- operands wait behind it
pub record Waits (w : Walk) (p q : ℕ) (s : StateType) (code : List LowInstr) (c d : Carried) (st more : State) (ts us : List Ty) : Type 0 where
  pub end : StateType
  pub runs : Runs w s code c.edges d.edges end
  pub there : q ≡ p + length code
  pub here : Here w q end more us d.notes
  pub types : more.types ≡ st.types
  pub grows : Continues ts us

-- a value is in its place behind it
pub record Valued (w : Walk) (p : ℕ) (s : StateType) (code : List LowInstr) (c d : Carried) (st more : State) (ts : List Ty) (to : ℕ) (t : Ty) : Type 0 where
  pub end : StateType
  pub runs : Runs w s code c.edges d.edges end
  pub came : Came w.body w.vars (p + length code) end more ts to t
  pub left : IsLeft w more d.notes
  pub types : more.types ≡ st.types
  pub few : more.ctx.vars ≤ 1024

-- ---- lists

same_tail : {A : Type 0} (x : A) (ys zs : List A) → x ∷ ys ≡ x ∷ zs → ys ≡ zs
same_tail x ys zs e = cc

pub same_behind : {A : Type 0} (xs ys zs : List A) → xs ++ ys ≡ xs ++ zs → ys ≡ zs
same_behind [] ys zs e = e
same_behind (x ∷ xs) ys zs e = same_behind xs ys zs (same_tail x (xs ++ ys) (xs ++ zs) e)

pub get_more : {A : Type 0} (xs ys : List A) (k : ℕ) (x : A) → Continues xs ys → slice_get xs k ≡ Some x → slice_get ys k ≡ Some x
get_more xs ys k x more e = ap (λ l. slice_get l k) more.is ∙ get_left xs more.rest k x e

-- where an operand waits, it waits when more do
pub waits_more : (vars : ℕ) (ts us : List Ty) (types more : List (ℕ × Ty)) (place : ℕ) (t : Ty) → Continues ts us → more ≡ types → Where vars ts types place t → Where vars us more place t
waits_more vars ts us types more place t grows same (InTemporary k e there) = InTemporary k e (get_more ts us k t grows there)
waits_more vars ts us types more place t grows same (InVariable e) = InVariable (ap (λ es. type_at place es) same ∙ e)

pub fewer_wait : (vars : ℕ) (s : StateType) (ts us : List Ty) → Continues ts us → Temporaries vars s us → Temporaries vars s ts
fewer_wait vars s ts us grows all = record { each = λ k t e. all.each k t (get_more ts us k t grows e) }

-- ---- the operation behind its operands

-- no instruction that goes to a label
abbrev pub Stays : LowInstr → Type 0
Stays i = leads i.op ≡ false

module _ (w : Walk) (isw : IsWalk w) (p q : ℕ) (s : StateType) (code : List LowInstr) (c d : Carried) (st mid : State) (ts us : List Ty)
    (waits : Waits w p q s code c d st mid ts us) (instr : LowInstr) (o : Operation) (to : ℕ) (reads : List ℕ) (types : List Ty)
    (at : Operates w.body w.vars q mid ts us instr o to reads types) (as_is : placed w.body instr ≡ instr) where
  -- with what stands there
  pub behind_operands : (n : Option ℕ) (others : List Ty) (t : Ty) (more : State) (edge : Edge) (notes : List Note)
      → Follows w.site n o types mid (t ∷ others) more → edge.values ≡ []
      → ((r : Rule) → rule (setting_of w.site) o types mid.ctx.vars ≡ Ok r → AreProved mid.ctx (demands_of None r.demands) edge.by)
      → IsLeft w more notes → Valued w p s (code ++ instr ∷ []) c (record { edges = d.edges ++ edge ∷ []; notes = notes }) st more ts to t
  behind_operands n others t more edge notes f no_values proved left =
      let here = waits.here in
      let done = one_written w.body w.vars q waits.end mid ts us here.now (fewer_wait w.vars waits.end ts us waits.grows here.waits) here.waits w.site isw.setting
      instr o to reads types at n others t more edge f no_values proved in
      record {
        end = done.next;
        runs = runs_on w s waits.end done.next code (instr ∷ []) c.edges d.edges (d.edges ++ edge ∷ []) waits.runs (record {
          edges = edge ∷ [];
          are = refl;
          states = waits.end ∷ [];
          chain = Next waits.end done.next done.next instr [] edge [] []
              (subst (λ i. Allows w.body.setting w.body.count w.body.labels waits.end i edge (Some done.next)) (sym as_is) done.allows) (Done done.next);
        });
        came = subst (λ n. Came w.body w.vars n done.next more ts to t) (position waits.there) done.came;
        left = left;
        types = follows_types w.site n o types mid (t ∷ others) more f ∙ waits.types;
        few = subst (λ (c : IndexContext). c.vars ≤ 1024) (ap (λ (m : State). m.ctx) (sym f.more_is)) (follows_few w.site n o types mid (t ∷ others) more f);
      }
    where
      position : q ≡ p + length code → suc q ≡ p + length (code ++ instr ∷ [])
      position e = (let long = length-append code (instr ∷ []) in omega (arith, e, long))
