-- The walk over a program's places finds the state types of an accepted program, and no others.
use Rattle.std.proofs.Common.{◌≡◌, ℕ, suc, ◌+◌, List, [], ◌∷◌, ◌++◌, drop, length, Ok, Err, refl, ap, subst, ◌∙◌}
use Rattle.std.specs.List.{All, AllZip}
use Rattle.std.proofs.lemmas.List.Elements.{All-nil, All-cons, All-head, All-tail}
use Rattle.state_types.specs.Answers.{◌>>=◌}
use Rattle.state_types.specs.declared.closed.Packed.{Packed}
use Rattle.state_types.specs.declared.closed.Signature.{Signature}
use Rattle.state_types.specs.declared.state.StateType.{StateType}
use Rattle.operation_rules.specs.Rules.{Setting}
use Rattle.dtal_code.specs.declared.instruction.Instr.{Instr}
use Rattle.dtal_code.specs.declared.program.Block.{Block}
use Rattle.dtal_code.specs.declared.program.Function.{Function}
use Rattle.dtal_code.specs.declared.program.DtalProgram.{DtalProgram}
use Rattle.dtal_code.specs.declared.refusal.Where.{Where}
use Rattle.dtal_code.specs.declared.refusal.Where.TheVariants as where_is
use Rattle.dtal_code.specs.Acceptance.{SignaturesPass, IsLabel, CodeStands, CodeEnds, CodeGoesOn, BlocksStand, BlocksEnd, BlocksGoOn, FunctionStands, Accepted}
use Rattle.dtal_code.specs.Declarations.{table_of, setting_of, packed_verdict, signature_verdict, program_verdict, first_state, label_verdict}
use Rattle.dtal_code.specs.Grammar.{InGrammar, IsFunction, AreBlocks}
use Rattle.dtal_code.specs.Passing.{instr_verdict}
use Rattle.dtal_code.specs.Refusing.{types_walked, signatures_walked, labels_walked, code_walked, blocks_walked, function_walked, functions_walked, verified}
use Rattle.dtal_code.specs.Verdicts.{Verdict, Walk, at_place}

-- ---- answers

-- both parts of a walk gave a value
record Then {A B : Type 0} (m : Walk A) (f : A → Walk B) (y : B) : Type 0 where
  value : A
  first : m ≡ Ok value
  second : f value ≡ Ok y

then_ok : {A B : Type 0} (m : Walk A) (f : A → Walk B) (y : B) → (m >>= f) ≡ Ok y → Then m f y
then_ok (Ok x) f y e = record { value = x; first = refl; second = e }
then_ok (Err refusal) f y e = absurd cc

-- and the other way
ok_then : {A B : Type 0} (m : Walk A) (f : A → Walk B) (x : A) (y : B) → m ≡ Ok x → f x ≡ Ok y → (m >>= f) ≡ Ok y
ok_then m f x y e g = ap (λ r. r >>= f) e ∙ g

place_ok : {A : Type 0} (place : Where) (verdict : Verdict A) (x : A) → at_place place verdict ≡ Ok x → verdict ≡ Ok x
place_ok place (Ok y) x e = cc
place_ok place (Err broken) x e = absurd cc

ok_place : {A : Type 0} (place : Where) (verdict : Verdict A) (x : A) → verdict ≡ Ok x → at_place place verdict ≡ Ok x
ok_place place verdict x e = ap (at_place place) e

value_is : {A : Type 0} (x y : A) (r : Walk A) → r ≡ Ok x → r ≡ Ok y → x ≡ y
value_is x y r e g = cc

-- ---- types and signatures

types_pass : (table : List Packed) (number : ℕ) (types : List Packed) → types_walked table number types ≡ Ok tt
    → All (λ packed. packed_verdict table packed ≡ Ok tt) types
unfolding types_walked
types_pass table number [] e = All-nil (λ packed. packed_verdict table packed ≡ Ok tt)
types_pass table number (packed ∷ types) e =
    let both = then_ok (at_place (where_is.Types number) (packed_verdict table packed)) (λ _. types_walked table (suc number) types) tt e in
    All-cons (λ packed. packed_verdict table packed ≡ Ok tt) packed types
    (place_ok (where_is.Types number) (packed_verdict table packed) tt both.first) (types_pass table (suc number) types both.second)

pass_types : (table : List Packed) (number : ℕ) (types : List Packed) → All (λ packed. packed_verdict table packed ≡ Ok tt) types
    → types_walked table number types ≡ Ok tt
unfolding types_walked
pass_types table number [] all = refl
pass_types table number (packed ∷ types) all =
    ok_then (at_place (where_is.Types number) (packed_verdict table packed)) (λ _. types_walked table (suc number) types) tt tt
    (ok_place (where_is.Types number) (packed_verdict table packed) tt (All-head (λ packed. packed_verdict table packed ≡ Ok tt) packed types all))
    (pass_types table (suc number) types (All-tail (λ packed. packed_verdict table packed ≡ Ok tt) packed types all))

signatures_pass : (table : List Packed) (number : ℕ) (before : List (List ℕ)) (funs : List Function) → signatures_walked table number before funs ≡ Ok tt
    → SignaturesPass table before funs
unfolding signatures_walked
signatures_pass table number before [] e = tt
signatures_pass table number before (fun ∷ funs) e =
    let both = then_ok (at_place (where_is.Signature number) (signature_verdict table before fun)) (λ _. signatures_walked table (suc number) (before ++ fun.name ∷ []) funs) tt e in
    (place_ok (where_is.Signature number) (signature_verdict table before fun) tt both.first, signatures_pass table (suc number) (before ++ fun.name ∷ []) funs both.second)

pass_signatures : (table : List Packed) (number : ℕ) (before : List (List ℕ)) (funs : List Function) → SignaturesPass table before funs
    → signatures_walked table number before funs ≡ Ok tt
unfolding signatures_walked
pass_signatures table number before [] all = refl
pass_signatures table number before (fun ∷ funs) all =
    ok_then (at_place (where_is.Signature number) (signature_verdict table before fun)) (λ _. signatures_walked table (suc number) (before ++ fun.name ∷ []) funs) tt tt
    (ok_place (where_is.Signature number) (signature_verdict table before fun) tt all.0) (pass_signatures table (suc number) (before ++ fun.name ∷ []) funs all.1)

-- ---- labels

labels_pass : (table : List Packed) (sig : Signature) (fun label : ℕ) (blocks : List Block) (states : List StateType)
    → labels_walked table sig fun label blocks ≡ Ok states → AllZip (IsLabel table sig) blocks states
unfolding labels_walked
labels_pass table sig fun label [] states e = subst (AllZip (IsLabel table sig) []) (value_is [] states (Ok []) refl e) tt
labels_pass table sig fun label (block ∷ blocks) states e =
    let one = then_ok (at_place (where_is.Label fun label) (label_verdict table sig block.state))
    (λ state. labels_walked table sig fun (suc label) blocks >>= λ others. Ok (state ∷ others)) states e in
    let more = then_ok (labels_walked table sig fun (suc label) blocks) (λ others. Ok (one.value ∷ others)) states one.second in
    subst (AllZip (IsLabel table sig) (block ∷ blocks)) (value_is (one.value ∷ more.value) states (Ok (one.value ∷ more.value)) refl more.second) (
      record { is = place_ok (where_is.Label fun label) (label_verdict table sig block.state) one.value one.first },
      labels_pass table sig fun (suc label) blocks more.value more.first,
    )

pass_labels : (table : List Packed) (sig : Signature) (fun label : ℕ) (blocks : List Block) (states : List StateType)
    → AllZip (IsLabel table sig) blocks states → labels_walked table sig fun label blocks ≡ Ok states
unfolding labels_walked
pass_labels table sig fun label [] [] all = refl
pass_labels table sig fun label [] (state ∷ states) all = absurd all
pass_labels table sig fun label (block ∷ blocks) [] all = absurd all
pass_labels table sig fun label (block ∷ blocks) (state ∷ states) all =
    ok_then (at_place (where_is.Label fun label) (label_verdict table sig block.state))
    (λ s. labels_walked table sig fun (suc label) blocks >>= λ others. Ok (s ∷ others)) state (state ∷ states)
    (ok_place (where_is.Label fun label) (label_verdict table sig block.state) state all.0.is)
    (ok_then (labels_walked table sig fun (suc label) blocks) (λ others. Ok (state ∷ others)) states (state ∷ states)
    (pass_labels table sig fun (suc label) blocks states all.1) refl)

-- ---- code

code_passes : (st : Setting) (labels : List StateType) (fun at : ℕ) (state : StateType) (code : List Instr) (states : List StateType)
    → code_walked st labels fun at state code ≡ Ok states → CodeStands st labels state code states
unfolding code_walked
code_passes st labels fun at state [] states e = subst (CodeStands st labels state []) (value_is [] states (Ok []) refl e) (CodeEnds state)
code_passes st labels fun at state (instr ∷ code) states e =
    let one = then_ok (at_place (where_is.Instr fun at) (instr_verdict st labels state instr))
    (λ next. code_walked st labels fun (suc at) next code >>= λ others. Ok (state ∷ others)) states e in
    let more = then_ok (code_walked st labels fun (suc at) one.value code) (λ others. Ok (state ∷ others)) states one.second in
    subst (CodeStands st labels state (instr ∷ code)) (value_is (state ∷ more.value) states (Ok (state ∷ more.value)) refl more.second)
    (CodeGoesOn state one.value instr code more.value (place_ok (where_is.Instr fun at) (instr_verdict st labels state instr) one.value one.first)
    (code_passes st labels fun (suc at) one.value code more.value more.first))

pass_code : (st : Setting) (labels : List StateType) (fun at : ℕ) (state : StateType) (code : List Instr) (states : List StateType)
    → CodeStands st labels state code states → code_walked st labels fun at state code ≡ Ok states
unfolding code_walked
pass_code st labels fun at _ _ _ (CodeEnds state) = refl
pass_code st labels fun at _ _ _ (CodeGoesOn state next instr code states e more) =
    ok_then (at_place (where_is.Instr fun at) (instr_verdict st labels state instr))
    (λ s. code_walked st labels fun (suc at) s code >>= λ others. Ok (state ∷ others)) next (state ∷ states)
    (ok_place (where_is.Instr fun at) (instr_verdict st labels state instr) next e)
    (ok_then (code_walked st labels fun (suc at) next code) (λ others. Ok (state ∷ others)) states (state ∷ states)
    (pass_code st labels fun (suc at) next code states more) refl)

-- ---- blocks

blocks_pass : (st : Setting) (labels : List StateType) (fun at : ℕ) (begins : List StateType) (blocks : List Block) (states : List StateType)
    → length begins ≡ length blocks → blocks_walked st labels fun at begins blocks ≡ Ok states → BlocksStand st labels begins blocks states
unfolding blocks_walked
blocks_pass st labels fun at [] [] states same e = subst (BlocksStand st labels [] []) (value_is [] states (Ok []) refl e) BlocksEnd
blocks_pass st labels fun at [] (block ∷ blocks) states same e = absurd cc
blocks_pass st labels fun at (state ∷ begins) [] states same e = absurd cc
blocks_pass st labels fun at (state ∷ begins) (block ∷ blocks) states same e =
    let one = then_ok (code_walked st labels fun at state block.code)
    (λ first. blocks_walked st labels fun (at + length block.code) begins blocks >>= λ others. Ok (first ++ others)) states e in
    let more = then_ok (blocks_walked st labels fun (at + length block.code) begins blocks) (λ others. Ok (one.value ++ others)) states one.second in
    subst (BlocksStand st labels (state ∷ begins) (block ∷ blocks)) (value_is (one.value ++ more.value) states (Ok (one.value ++ more.value)) refl more.second)
    (BlocksGoOn state begins block blocks one.value more.value (code_passes st labels fun at state block.code one.value one.first)
    (blocks_pass st labels fun (at + length block.code) begins blocks more.value (suc_same (length begins) (length blocks) same) more.first))
  where
    suc_same : (m n : ℕ) → suc m ≡ suc n → m ≡ n
    suc_same m n e = cc

pass_blocks : (st : Setting) (labels : List StateType) (fun at : ℕ) (begins : List StateType) (blocks : List Block) (states : List StateType)
    → BlocksStand st labels begins blocks states → blocks_walked st labels fun at begins blocks ≡ Ok states
unfolding blocks_walked
pass_blocks st labels fun at _ _ _ BlocksEnd = refl
pass_blocks st labels fun at _ _ _ (BlocksGoOn state begins block blocks states others stands more) =
    ok_then (code_walked st labels fun at state block.code)
    (λ first. blocks_walked st labels fun (at + length block.code) begins blocks >>= λ others. Ok (first ++ others)) states (states ++ others)
    (pass_code st labels fun at state block.code states stands)
    (ok_then (blocks_walked st labels fun (at + length block.code) begins blocks) (λ later. Ok (states ++ later)) others (states ++ others)
    (pass_blocks st labels fun (at + length block.code) begins blocks others more) refl)

-- ---- functions

-- a function has as many first states as blocks
as_many : (table : List Packed) (sig : Signature) (first : StateType) (blocks : List Block) (labels : List StateType) → AreBlocks blocks
    → AllZip (IsLabel table sig) (drop 1 blocks) labels → length (first ∷ labels) ≡ length blocks
as_many table sig first [] labels are zip = absurd are
as_many table sig first (block ∷ blocks) labels are zip = ap suc (same blocks labels zip)
  where
    same : (bs : List Block) (ss : List StateType) → AllZip (IsLabel table sig) bs ss → length ss ≡ length bs
    same [] [] h = refl
    same [] (s ∷ ss) h = absurd h
    same (b ∷ bs) [] h = absurd h
    same (b ∷ bs) (s ∷ ss) h = ap suc (same bs ss h.1)

function_passes : (program : DtalProgram) (number : ℕ) (fun : Function) (states : List StateType) → IsFunction fun
    → function_walked program number fun ≡ Ok states → FunctionStands program fun states
unfolding function_walked
function_passes program number fun states is e =
    let one = then_ok (at_place (where_is.Signature number) (first_state fun.sig))
    (λ first. labels_walked (table_of program) fun.sig number 1 (drop 1 fun.blocks) >>= λ labels. blocks_walked (setting_of program fun.sig) labels number 0 (first ∷ labels) fun.blocks) states e in
    let two = then_ok (labels_walked (table_of program) fun.sig number 1 (drop 1 fun.blocks))
    (λ labels. blocks_walked (setting_of program fun.sig) labels number 0 (one.value ∷ labels) fun.blocks) states one.second in
    let each = labels_pass (table_of program) fun.sig number 1 (drop 1 fun.blocks) two.value two.first in
    record {
      first = one.value;
      is_first = place_ok (where_is.Signature number) (first_state fun.sig) one.value one.first;
      labels = two.value;
      label_each = each;
      blocks = blocks_pass (setting_of program fun.sig) two.value number 0 (one.value ∷ two.value) fun.blocks states
          (as_many (table_of program) fun.sig one.value fun.blocks two.value is.blocks each) two.second;
    }

pass_function : (program : DtalProgram) (number : ℕ) (fun : Function) (states : List StateType) → FunctionStands program fun states
    → function_walked program number fun ≡ Ok states
unfolding function_walked
pass_function program number fun states stands =
    ok_then (at_place (where_is.Signature number) (first_state fun.sig))
    (λ first. labels_walked (table_of program) fun.sig number 1 (drop 1 fun.blocks) >>= λ labels. blocks_walked (setting_of program fun.sig) labels number 0 (first ∷ labels) fun.blocks)
    stands.first states (ok_place (where_is.Signature number) (first_state fun.sig) stands.first stands.is_first)
    (ok_then (labels_walked (table_of program) fun.sig number 1 (drop 1 fun.blocks))
    (λ labels. blocks_walked (setting_of program fun.sig) labels number 0 (stands.first ∷ labels) fun.blocks) stands.labels states
    (pass_labels (table_of program) fun.sig number 1 (drop 1 fun.blocks) stands.labels stands.label_each)
    (pass_blocks (setting_of program fun.sig) stands.labels number 0 (stands.first ∷ stands.labels) fun.blocks states stands.blocks))

functions_pass : (program : DtalProgram) (number : ℕ) (funs : List Function) (states : List (List StateType)) → All IsFunction funs
    → functions_walked program number funs ≡ Ok states → AllZip (FunctionStands program) funs states
unfolding functions_walked
functions_pass program number [] states all e = subst (AllZip (FunctionStands program) []) (value_is [] states (Ok []) refl e) tt
functions_pass program number (fun ∷ funs) states all e =
    let one = then_ok (function_walked program number fun) (λ first. functions_walked program (suc number) funs >>= λ others. Ok (first ∷ others)) states e in
    let more = then_ok (functions_walked program (suc number) funs) (λ others. Ok (one.value ∷ others)) states one.second in
    subst (AllZip (FunctionStands program) (fun ∷ funs)) (value_is (one.value ∷ more.value) states (Ok (one.value ∷ more.value)) refl more.second) (
      function_passes program number fun one.value (All-head IsFunction fun funs all) one.first,
      functions_pass program (suc number) funs more.value (All-tail IsFunction fun funs all) more.first,
    )

pass_functions : (program : DtalProgram) (number : ℕ) (funs : List Function) (states : List (List StateType)) → AllZip (FunctionStands program) funs states
    → functions_walked program number funs ≡ Ok states
unfolding functions_walked
pass_functions program number [] [] all = refl
pass_functions program number [] (own ∷ states) all = absurd all
pass_functions program number (fun ∷ funs) [] all = absurd all
pass_functions program number (fun ∷ funs) (own ∷ states) all =
    ok_then (function_walked program number fun) (λ first. functions_walked program (suc number) funs >>= λ others. Ok (first ∷ others)) own (own ∷ states)
    (pass_function program number fun own all.0)
    (ok_then (functions_walked program (suc number) funs) (λ others. Ok (own ∷ others)) states (own ∷ states) (pass_functions program (suc number) funs states all.1) refl)

-- ---- programs

-- a program that the walk does not refuse is accepted, with these state types
pub record IsAcceptedWith (program : DtalProgram) (states : List (List StateType)) : Type 0 where
  pub accepted : Accepted program
  pub same : accepted.states ≡ states

pub verified_is_accepted : (program : DtalProgram) (states : List (List StateType)) → InGrammar program → verified program ≡ Ok states
    → IsAcceptedWith program states
unfolding verified
verified_is_accepted program states grammar e =
    let one = then_ok (types_walked (table_of program) 2 program.types)
    (λ _. signatures_walked (table_of program) 0 [] program.funs >>= λ _. at_place where_is.Program (program_verdict program) >>= λ _. functions_walked program 0 program.funs) states e in
    let two = then_ok (signatures_walked (table_of program) 0 [] program.funs)
    (λ _. at_place where_is.Program (program_verdict program) >>= λ _. functions_walked program 0 program.funs) states one.second in
    let three = then_ok (at_place where_is.Program (program_verdict program)) (λ _. functions_walked program 0 program.funs) states two.second in
    record {
      accepted = record {
        grammar = grammar;
        types = types_pass (table_of program) 2 program.types one.first;
        signatures = signatures_pass (table_of program) 0 [] program.funs two.first;
        main = place_ok where_is.Program (program_verdict program) tt three.first;
        states = states;
        funs = functions_pass program 0 program.funs states grammar.funs three.second;
      };
      same = refl;
    }

-- and of an accepted program the walk gives the state types
pub accepted_is_verified : (program : DtalProgram) (accepted : Accepted program) → verified program ≡ Ok accepted.states
unfolding verified
accepted_is_verified program accepted =
    ok_then (types_walked (table_of program) 2 program.types)
    (λ _. signatures_walked (table_of program) 0 [] program.funs >>= λ _. at_place where_is.Program (program_verdict program) >>= λ _. functions_walked program 0 program.funs)
    tt accepted.states (pass_types (table_of program) 2 program.types accepted.types)
    (ok_then (signatures_walked (table_of program) 0 [] program.funs)
    (λ _. at_place where_is.Program (program_verdict program) >>= λ _. functions_walked program 0 program.funs)
    tt accepted.states (pass_signatures (table_of program) 0 [] program.funs accepted.signatures)
    (ok_then (at_place where_is.Program (program_verdict program)) (λ _. functions_walked program 0 program.funs)
    tt accepted.states (ok_place where_is.Program (program_verdict program) tt accepted.main)
    (pass_functions program 0 program.funs accepted.states accepted.funs)))
