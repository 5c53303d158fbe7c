-- The whole of a program is typed, where each function is.
use Rattle.std.proofs.Common.{◌≡◌, ◌∙◌, ℕ, suc, ◌+◌, ◌<◌, List, [], ◌∷◌, length, map, get_or, slice_get, Option, Some, Ok, refl, sym, ap, ap₂, subst, arith}
use Rattle.std.proofs.lemmas.Option.{slice_get_within, slice_get-get_or, get_or_from_slice_get}
use Rattle.std.specs.List.{All}
use Rattle.state_types.specs.declared.closed.Packed.{Packed}
use Rattle.state_types.specs.declared.closed.Signature.{Signature}
use Rattle.state_types.specs.declared.state.StateType.{StateType}
use Rattle.state_types.proofs.Thens.{then_ok, ok_same}
use Rattle.lowering.specs.Lowered.{function_of, lowered}
use Rattle.operation_rules.specs.Sound.{IsSetting, IsHeader}
use Rattle.three_address.specs.LiveLabels.{AreAllColumns}
use Rattle.three_address.specs.Typing.{IsTyped, IsTypedFun, setting_of}
use Rattle.three_address.specs.declared.function.LowFun.{LowFun}
use Rattle.three_address.specs.declared.function.Lowered.{Lowered}
use Rattle.three_address.specs.declared.typed.Edge.{Edge}
use Rattle.three_address.specs.declared.typed.Typed.{Typed}
use Rattle.xanadu_tree.specs.Plain as core
use Rattle.xanadu_tree.specs.PlainOf.{plain_core}
use Rattle.xanadu_tree.specs.Shaped.{Shaped}
use Rattle.typed_core.specs.Goals.{Elaboration}
use Rattle.typed_core.specs.Goals as elaborated
use Rattle.typed_core.specs.Headers.{AreDeclared, few_declarations, table_of, signatures}
use Rattle.typed_core.specs.Proving.{ProvedParts, IsElaboration}
use Rattle.typed_core.specs.declared.goal.GoalAt.{GoalAt}
use Rattle.typed_core.specs.declared.note.Note.{Note}
use Rattle.typed_core.proofs.NamedPrograms.{declarations_are_closed}
use Rattle.type_carrier.specs.Carried.{Columns, Functions, Carries, function, no_functions, proofs_of, all_functions, carried}
use Rattle.carrier_laws.proofs.FunctionsCarried.{CarriedAt, function_carried}
use Rattle.carrier_laws.proofs.ProgramsTyped.{signatures_long, functions_long, same_signatures, lowered_at, carried_long, columns_at}

-- ---- what elaboration is made of

record SameHeaders (table : List Packed) (sigs : List Signature) (made : Elaboration) : Type 0 where
  table_is : made.table ≡ table
  sigs_are : made.sigs ≡ sigs

headers_kept : (table : List Packed) (sigs : List Signature) (fun : ℕ) (fs : List core.Fun) (goals : List GoalAt) (notes : List Note) (made : Elaboration)
    → elaborated.functions table sigs fun fs goals notes ≡ Ok made → SameHeaders table sigs made
unfolding elaborated.functions
headers_kept table sigs fun [] goals notes made e =
    (let same = ok_same _ made e in record { table_is = ap (λ (x : Elaboration). x.table) (sym same); sigs_are = ap (λ (x : Elaboration). x.sigs) (sym same) })
headers_kept table sigs fun (f ∷ fs) goals notes made e =
    (let a = then_ok (elaborated.function table sigs fun f goals notes) _ made e in headers_kept table sigs (suc fun) fs a.value.goals a.value.notes made a.second)

pub record IsMade (program : core.Program) (made : Elaboration) : Type 0 where
  pub types : table_of program.types ≡ Ok made.table
  pub headers : signatures program.funs [] ≡ Ok made.sigs
  pub bodies : elaborated.functions made.table made.sigs 0 program.funs [] [] ≡ Ok made

pub made_is : (program : core.Program) (made : Elaboration) → elaborated.elaborated program ≡ Ok made → IsMade program made
unfolding elaborated.elaborated
made_is program made e =
    let a = then_ok (few_declarations program) _ made e in
    let b = then_ok (table_of program.types) _ made a.second in
    let c = then_ok (signatures program.funs []) _ made b.second in
    let kept = headers_kept b.value c.value 0 program.funs [] [] made c.second in
    record {
      types = b.first ∙ ap Ok (sym kept.table_is);
      headers = c.first ∙ ap Ok (sym kept.sigs_are);
      bodies = ap₂ (λ t s. elaborated.functions t s 0 program.funs [] []) kept.table_is kept.sigs_are ∙ c.second;
    }

same_some : {A : Type 0} {o : Option A} {a b : A} → o ≡ Some a → o ≡ Some b → a ≡ b
same_some {A} {o} {a} {b} e f = same a b (sym e ∙ f)
  where
    same : (a b : A) → Some a ≡ Some b → a ≡ b
    same a b e = cc

-- ---- the whole

-- what is wanted of each function
abbrev pub FunctionsTyped : ProvedParts → Type 0
FunctionsTyped program =
    (number : ℕ) (f : core.Fun) (sig : Signature) (columns : Columns) (all : Functions) → slice_get (plain_core program.base.core).funs number ≡ Some f
    → slice_get program.base.made.sigs number ≡ Some sig → AreAllColumns (function_of (plain_core program.base.core) f sig) columns
    → (c : CarriedAt (proofs_of program) program.base.made.table program.base.made.sigs program.base.made number f columns all number)
    → IsTypedFun (lowered program.base) (function_of (plain_core program.base.core) f sig) (function (proofs_of program) columns f c.left).states (function (proofs_of program) columns f c.left).now.edges

module _ (program : ProvedParts) (is_shaped : Shaped (plain_core program.base.core)) (is : IsElaboration program.base.core program.base.made) where
  abbrev the : core.Program
  the = plain_core program.base.core

  abbrev made : Elaboration
  made = program.base.made

  abbrev low : Lowered
  low = lowered program.base

  pub parts : IsMade the made
  parts = made_is the made is

  pub declared : AreDeclared made.table made.sigs
  declared = declarations_are_closed the made.table made.sigs is_shaped parts.types parts.headers

  as_many : length made.sigs ≡ length the.funs
  as_many = signatures_long the.funs [] made.sigs parts.headers ∙ omega arith

  pub sigs_same : map (λ (fun : LowFun). fun.sig) low.funs ≡ made.sigs
  sigs_same = same_signatures the the.funs made.sigs as_many

  headers_at : (fun : LowFun) (k : ℕ) → k < length low.funs → get_or low.funs k fun ≡ fun → IsSetting (setting_of low fun.sig)
  headers_at fun k lt same =
      let it = lowered_at the the.funs made.sigs k fun (slice_get-get_or low.funs k fun lt ∙ ap Some same) in
      record {
        table = declared.closed;
        sigs = subst (λ xs. All IsHeader xs) (sym sigs_same) declared.headers;
        own = subst (λ (x : LowFun). IsHeader x.sig) (sym it.is) (subst IsHeader (get_or_from_slice_get made.sigs k it.sig it.sig it.signed) (declared.headers k it.sig (slice_get_within made.sigs k it.sig it.signed)));
      }

  pub program_typed : FunctionsTyped program → (typed : Typed) → Carries program low typed → IsTyped typed
  program_typed each typed carries = subst IsTyped (sym carries.is) whole
    where
      all : Functions
      all = all_functions program carries.columns

      whole : IsTyped (carried program low carries.columns)
      whole = record {
        main = (let h = slice_get_within the.funs the.main is_shaped.main_function is_shaped.main_number in let long = functions_long the the.funs made.sigs as_many in omega (arith, h, long));
        headers = λ fun c. headers_at fun c.0 c.1 c.2;
        states_each = (carried_long the (proofs_of program) AreAllColumns the.funs made.sigs carries.columns (no_functions made.notes) carries.live).states ∙ omega arith;
        edges_each = (carried_long the (proofs_of program) AreAllColumns the.funs made.sigs carries.columns (no_functions made.notes) carries.live).edges ∙ omega arith;
        funs = λ number fun labels edges there states_there edges_there. at_number number fun labels edges there states_there edges_there;
      }
        where
          at_number : (number : ℕ) (fun : LowFun) (labels : List StateType) (edges : List Edge) → slice_get low.funs number ≡ Some fun → slice_get all.states number ≡ Some labels
              → slice_get all.edges number ≡ Some edges → IsTypedFun low fun labels edges
          at_number number fun labels edges there states_there edges_there =
              let it = lowered_at the the.funs made.sigs number fun there in
              let columns = columns_at AreAllColumns low.funs carries.columns number fun carries.live there in
              let c = function_carried (proofs_of program) made.table made.sigs made the.funs carries.columns 0 [] [] (no_functions made.notes) parts.bodies refl refl number it.f columns.0 it.there columns.1 in
              let zero_on : 0 + number ≡ number = omega arith in
              let found = subst (λ n. CarriedAt (proofs_of program) made.table made.sigs made n it.f columns.0 all number) zero_on
              (subst (λ n. CarriedAt (proofs_of program) made.table made.sigs made (0 + number) it.f columns.0 all n) zero_on c) in
              let done = each number it.f it.sig columns.0 all it.there it.signed (subst (λ x. AreAllColumns x columns.0) it.is columns.2) found in
              subst (λ x. IsTypedFun low x labels edges) (sym it.is)
              (subst (λ x. IsTypedFun low (function_of the it.f it.sig) x edges) (same_some found.states states_there)
              (subst (λ x. IsTypedFun low (function_of the it.f it.sig) (function (proofs_of program) columns.0 it.f found.left).states x) (same_some found.edges edges_there) done))
