-- Carried code has a text, each of its places is in a slot, and it is what emission asks for.
use Rattle.std.proofs.Common.{◌≡◌, ◌∙◌, ℕ, zero, suc, ◌+◌, ◌≤◌, List, [], ◌∷◌, ◌++◌, length, slice_get, Some, refl, sym, subst, arith}
use Rattle.std.specs.Prelude.{IsTrue}
use Rattle.std.specs.List.{All, AllByRecursion, AllZip}
use Rattle.std.proofs.lemmas.Option.{none-some, same_Some, slice_get_within}
use Rattle.proof_lines.specs.declared.line.Line.{Line}
use Rattle.state_types.specs.declared.state.StateType.{StateType}
use Rattle.three_address.specs.LiveLabels.{AreAllColumns}
use Rattle.three_address.specs.Typing.{IsTyped}
use Rattle.three_address.specs.declared.assignment.Assignment.{Assignment}
use Rattle.three_address.specs.declared.function.LowFun.{LowFun}
use Rattle.three_address.specs.declared.function.Lowered.{Lowered}
use Rattle.three_address.specs.declared.instruction.LowInstr.{LowInstr}
use Rattle.three_address.specs.declared.typed.Edge.{Edge}
use Rattle.xanadu_tree.specs.Plain as core
use Rattle.xanadu_tree.specs.PlainOf.{plain_core}
use Rattle.xanadu_tree.specs.Shaped.{Shaped}
use Rattle.typed_core.specs.Goals.{Elaboration}
use Rattle.typed_core.specs.Proving.{ProvedParts, IsElaboration, ProveAll, ProveGoal}
use Rattle.typed_core.proofs.NamedPrograms.{each}
use Rattle.lowering.specs.Emitted.{HasFew}
use Rattle.lowering.specs.Lowered.{body_of, lowered}
use Rattle.type_carrier.specs.Carried.{Columns, Functions, all_functions, carried, function, no_functions, proofs_of}
use Rattle.dtal_code.specs.Grammar.{AreLinesIn, IsSignature}
use Rattle.dtal_code.specs.Lower.{is_lower}
use Rattle.dtal_code.specs.declared.limits.TheConstants.{LAST_NUMBER}
use Rattle.emission_laws.specs.ApartHomes.{AreSlots}
use Rattle.emission_laws.specs.EmittedRanges.{BlocksEnd, Each, IsRanged}
use Rattle.emission_acceptance.specs.ReadyCode.{IsShortCode}
use Rattle.lowered_acceptance.specs.FormedCode.{HaveForms}
use Rattle.lowered_acceptance.specs.SlottedCode.{HasSlots, IsSlotted}
use Rattle.lowered_acceptance.specs.TextedHeaders.{HaveTexts}
use Rattle.carrier_laws.proofs.FunctionsCarried.{function_carried}
use Rattle.carrier_laws.proofs.ProgramsTyped.{columns_at, lowered_at}
use Rattle.carrier_laws.proofs.WholeTyped.{made_is}
use Rattle.carried_acceptance.specs.WrittenParts.{AreWritten, HasNumbers, HaveNumbers, HaveMultipliers}
use Rattle.carried_acceptance.proofs.CodeRanged.{present}
use Rattle.carried_acceptance.proofs.FunctionsRanged.{forms_there, function_ranged, functions_ranged}
use Rattle.carried_acceptance.proofs.LabelsRanged.{label_own}
use Rattle.carried_acceptance.proofs.LinesWritten.{proof_written}
use Rattle.carried_acceptance.proofs.ProgramTexted.{program_texted}
use Rattle.carried_acceptance.proofs.TextedEdges.{IsCarriedIn, IsTextedLabel, function_in}
use Rattle.carried_acceptance.proofs.TextedNotes.{AreTexted, IsTextedGoal, IsTextedNote}

-- ---- lists

behind : {A : Type 0} (P : A → Type 0) (xs ys : List A) → AllByRecursion P (xs ++ ys) → AllByRecursion P ys
behind P [] ys all = all
behind P (x ∷ xs) ys all = behind P xs ys all.1

each_at : {A : Type 0} (P : A → Type 0) (xs : List A) (n : ℕ) (x : A) → Each P xs → slice_get xs n ≡ Some x → P x
each_at P [] n x all e = absurd (none-some x e)
each_at P (y ∷ xs) zero x all e = subst P (same_Some y x e) all.0
each_at P (y ∷ xs) (suc n) x all e = each_at P xs n x all.1 e

at_index : {A : Type 0} (P : A → Type 0) (xs : List A) (n : ℕ) (x : A) → AllByRecursion P xs → slice_get xs n ≡ Some x → P x
at_index P [] n x all e = absurd (none-some x e)
at_index P (y ∷ xs) zero x all e = subst P (same_Some y x e) all.0
at_index P (y ∷ xs) (suc n) x all e = at_index P xs n x all.1 e

record Beside {A B : Type 0} (R : A → B → Type 0) (xs : List A) (n : ℕ) (y : B) : Type 0 where
  value : A
  there : slice_get xs n ≡ Some value
  holds : R value y

beside : {A B : Type 0} (R : A → B → Type 0) (xs : List A) (ys : List B) (n : ℕ) (y : B) → AllZip R xs ys → slice_get ys n ≡ Some y → Beside R xs n y
beside R [] [] n y all e = absurd (none-some y e)
beside R [] (z ∷ ys) n y all e = absurd all
beside R (x ∷ xs) [] n y all e = absurd all
beside R (x ∷ xs) (z ∷ ys) zero y all e = record { value = x; there = refl; holds = subst (R x) (same_Some z y e) all.0 }
beside R (x ∷ xs) (z ∷ ys) (suc n) y all e = (let b = beside R xs ys n y all.1 e in record { value = b.value; there = b.there; holds = b.holds })

-- ---- what was carried

module _ (program : ProvedParts) (shape : Shaped (plain_core program.base.core)) (is : IsElaboration program.base.core program.base.made) (proved : ProveAll program.base.made.goals program.lines)
    (written : AreWritten (lowered program.base) program.lines) where
  abbrev the : core.Program
  the = plain_core program.base.core

  abbrev made : Elaboration
  made = program.base.made

  abbrev code : Lowered
  code = lowered program.base

  texts_of : AreTexted made.table made.notes made.goals
  texts_of = program_texted the made shape is

  lines_are : (number : ℕ) (lines : List Line) → slice_get (proofs_of program).lines number ≡ Some lines → AreLinesIn lines
  lines_are number lines e =
      let g = beside ProveGoal made.goals program.lines number lines proved e in
      let goal = g.value in
      proof_written goal.ctx.rows goal.row (at_index IsTextedGoal made.goals number goal texts_of.goals g.there) lines
      (each (λ (ls : List Line). length ls ≤ LAST_NUMBER) program.lines number lines written.short e) (each HaveMultipliers program.lines number lines written.multipliers e) g.holds

  module _ (columns : List Columns) (live : AllZip AreAllColumns code.funs columns) where
    abbrev all : Functions
    all = all_functions program columns

    function_carried_in : (number : ℕ) (fun : LowFun) (labels : List StateType) (edges : List Edge) → slice_get code.funs number ≡ Some fun → slice_get all.states number ≡ Some labels
        → slice_get all.edges number ≡ Some edges → IsCarriedIn made.table fun.places labels edges
    function_carried_in number fun labels edges there states_there edges_there =
        let it = lowered_at the the.funs made.sigs number fun there in
        let c = columns_at AreAllColumns code.funs columns number fun live there in
        let carry = function_carried (proofs_of program) made.table made.sigs made the.funs columns 0 [] [] (no_functions made.notes) (made_is the made is).bodies refl refl number it.f c.0 it.there c.1 in
        let left_in = behind (IsTextedNote made.table) carry.start.notes carry.left (subst (AllByRecursion (IsTextedNote made.table)) carry.is_left texts_of.notes) in
        let done = function_in (proofs_of program) lines_are made.table c.0 it.f carry.left left_in in
        let zero_on : 0 + number ≡ number = omega arith in
        let states : slice_get all.states number ≡ Some (function (proofs_of program) c.0 it.f carry.left).states = subst (λ n. slice_get all.states n ≡ Some (function (proofs_of program) c.0 it.f carry.left).states) zero_on carry.states in
        let own_edges : slice_get all.edges number ≡ Some (function (proofs_of program) c.0 it.f carry.left).now.edges = subst (λ n. slice_get all.edges n ≡ Some (function (proofs_of program) c.0 it.f carry.left).now.edges) zero_on carry.edges in
        subst (λ n. IsCarriedIn made.table n labels edges) c.2.each
        (subst (λ x. IsCarriedIn made.table (length c.0) x edges) (same_Some _ labels (sym states ∙ states_there))
        (subst (λ x. IsCarriedIn made.table (length c.0) (function (proofs_of program) c.0 it.f carry.left).states x) (same_Some _ edges (sym own_edges ∙ edges_there)) done))

    -- ---- the whole

    module _ (texts : HaveTexts code) (short : IsShortCode code)
        (blocks_end : (number : ℕ) (f : core.Fun) → slice_get the.funs number ≡ Some f → HaveForms (body_of the f).code → BlocksEnd 0 (body_of the f).labels (body_of the f).code)
        (few : All HasFew code.funs) (homes : Assignment)
        (slots : (number : ℕ) (fun : LowFun) → slice_get code.funs number ≡ Some fun → HasSlots homes number fun) where
      ends_at : (number : ℕ) (fun : LowFun) → slice_get code.funs number ≡ Some fun → HaveForms fun.code → BlocksEnd 0 fun.labels fun.code
      ends_at number fun there forms =
          let it = lowered_at the the.funs made.sigs number fun there in
          subst (λ (x : LowFun). BlocksEnd 0 x.labels x.code) (sym it.is) (blocks_end number it.f it.there (subst (λ (x : LowFun). HaveForms x.code) it.is forms))

      numbers_at : (number : ℕ) (fun : LowFun) → slice_get code.funs number ≡ Some fun → (at : ℕ) (instr : LowInstr) → slice_get fun.code at ≡ Some instr → HasNumbers instr
      numbers_at number fun there at instr e = each HasNumbers fun.code at instr (each HaveNumbers code.funs number fun written.numbers there) e

      pub carried_ranged : IsTyped (carried program code columns) → IsRanged (carried program code columns) homes
      carried_ranged typed = record {
        few_types = texts.few_types;
        types = texts.types;
        few_funs = texts.few_funs;
        funs = functions_ranged code.funs all.states all.edges homes.homes
            (λ n fun labels edges hs there labels_there edges_there homes_there.
            (let typed_fun = typed.funs n fun labels edges there labels_there edges_there in
            let has = slots n fun there in
            let own : has.own ≡ hs = same_Some has.own hs (sym has.there ∙ homes_there) in
            function_ranged code fun labels edges hs short.few_types (each_at (λ (x : LowFun). IsTrue (is_lower x.name)) code.funs n fun texts.names there) (each_at (λ (x : LowFun). IsSignature x.sig) code.funs n fun texts.sigs there)
            (subst (λ xs. AreSlots xs fun.places) own has.slots) (each HasFew code.funs n fun few there) (numbers_at n fun there)
            (ends_at n fun there (forms_there code fun labels edges typed_fun)) typed_fun (function_carried_in n fun labels edges there labels_there edges_there)));
      }

      pub carried_slotted : IsTyped (carried program code columns) → IsSlotted (carried program code columns) homes
      carried_slotted typed = record {
        slots = slots;
        labels = λ number fun labels before label there labels_there at.
            (let inside = slice_get_within code.funs number fun there in
            let long : length all.edges ≡ length code.funs = typed.edges_each in
            let own_edges = present all.edges number (omega (arith, inside, long)) in
            let c = function_carried_in number fun labels own_edges.value there labels_there own_edges.there in
            label_own made.table fun.places label (at_index (IsTextedLabel made.table fun.places) labels before label c.labels_in at));
      }
