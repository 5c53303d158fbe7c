-- The last instruction of each construct of an expression, behind its operands.
use Rattle.std.proofs.Common.{◌≡◌, ℕ, suc, ℤ, List, [], ◌∷◌, slice_get, Bool as Flag, true, Some, Ok, refl, sym, subst}
use Rattle.std.specs.List.{AllZip}
use Rattle.operation_rules.specs.Effects.{Effect, Writes, effect, truth_word}
use Rattle.operation_rules.specs.FlatWords.{Flat, flat_words}
use Rattle.operation_rules.specs.declared.operation.Operation.{Operation}
use Rattle.operation_rules.specs.declared.operation.Operation.TheVariants as operation
use Rattle.three_address.specs.Instructions.{instruction_of}
use Rattle.three_address.specs.declared.function.LowFun.{LowFun}
use Rattle.three_address.specs.declared.instruction.LowInstr.{LowInstr}
use Rattle.three_address.specs.declared.instruction.Op22.TheVariants as op22
use Rattle.xanadu_tree.specs.declared.expr.Op.{Op}
use Rattle.xanadu_tree.specs.declared.expr.Rel.{Rel}
use Rattle.xanadu_tree.specs.declared.expr.Rel.TheVariants as rel
use Rattle.typed_core.specs.Operators.{operation_of}
use Rattle.typed_core.specs.SourceOperands.{no_cells, value_by, arithmetic, related, cell_read, measured, tuple_made, array_made}
use Rattle.typed_core.specs.SourceRuns.{Run, Answer, Env, one_of}
use Rattle.typed_core.specs.SourceValues.{Tag, Number, Truth, Array, Tuple, Value, Blocks, number, words_of, have_tags, tag_at, cell_tag, separate}
use Rattle.value_lowering.specs.OneInstruction.{literal, truth, unary, binary, op_of, tuple_made as tuple_instr, array_made as array_instr, compared as compared_instr}
use Rattle.lowering_simulation.proofs.CodeStands.{IsCode, Here, config}
use Rattle.lowering_simulation.proofs.EffectsAlike.{AlikeWord, alike_same, literal_alike, truth_alike, arithmetic_alike, compare_alike, length_alike, load_alike, tuple_alike, array_alike}
use Rattle.lowering_simulation.proofs.InstructionForms.{form, literal_form, truth_form, move_form, length_form, arithmetic_form, load_form, array_form, tuple_form}
use Rattle.lowering_simulation.proofs.RunsAhead.{Arrives}
use Rattle.lowering_simulation.proofs.StepsMade.{Valued, word_step, if_tags}
use Rattle.lowering_simulation.proofs.StoresHold.{StoreHolds, PlacesHold, Keeps, AtPlaces, sizes}
use Rattle.lowering_simulation.proofs.TagsAsked.{tags_asked, number_word, array_address, alike_none, alike_one, alike_two}
use Rattle.lowering_simulation.proofs.WordsFit.{Fits}

module _ {L : Type 0} (funs : List LowFun) (here : Here) (code : List LowInstr) (is : IsCode funs here.fun code) (base : List ℕ) (limit : ℕ) (all whole : Env) (at to : ℕ)
    (st : Run L) (flat : Flat) (regs : List ℤ) (keeps : Keeps all whole) (store : StoreHolds base limit st flat) (hold : PlacesHold (sizes st) whole regs) where
  -- the value comes to its place
  abbrev pub ComesTo : Answer L Value → Type 0
  ComesTo answer = Arrives funs st.units (config here st.printed flat at regs) (Valued here base limit all (suc at) to) answer

  abbrev step : (rest : List ℕ) (i : LowInstr) (o : Operation) (reads : List ℕ) → slice_get code at ≡ Some i → i.places ≡ to ∷ rest → instruction_of i ≡ form o (to ∷ []) reads
      → (vs : List Value) → AtPlaces whole reads vs → (gives : Tag) (one : Effect Blocks)
      → ((words : List ℤ) → AllZip (Fits (sizes st)) vs words → AlikeWord gives st.store one (effect flat_words o words flat)) → ComesTo (one_of gives st one)
  step rest i o reads there places is_form = word_step funs here code is base limit all whole at to rest i o reads st flat regs there places is_form keeps store hold

  -- ---- without operands, and a variable

  pub literal_step : (n : ℤ) → slice_get code at ≡ Some (literal to n) → ComesTo (Ok (number n, st))
  literal_step n there =
      step [] (literal to n) (operation.Literal n) [] there refl (literal_form to n) [] tt Number (effect (separate no_cells) (operation.Literal n) [] st.store)
      (alike_none (sizes st) Number st.store flat _ (operation.Literal n) (literal_alike st.store flat store.is n))

  pub truth_step : (b : Flag) → slice_get code at ≡ Some (truth to b) → ComesTo (Ok (record { tag = Truth; word = truth_word b }, st))
  truth_step b there =
      step [] (truth to b) (operation.Truth b) [] there refl (truth_form to b) [] tt Truth (effect (separate no_cells) (operation.Truth b) [] st.store)
      (alike_none (sizes st) Truth st.store flat _ (operation.Truth b) (truth_alike st.store flat store.is b))

  pub move_step : (x : ℕ) (v : Value) → slice_get code at ≡ Some (unary op22.Mv to x) → slice_get whole x ≡ Some (Some v) → ComesTo (Ok (v, st))
  move_step x v there has =
      step (x ∷ []) (unary op22.Mv to x) operation.Move (x ∷ []) there refl (move_form to x) (v ∷ []) (has, tt) v.tag (Writes (v.word ∷ []) st.store)
      (alike_one (sizes st) v.tag st.store flat _ operation.Move v (λ w fits. alike_same v.tag st.store flat v.word w store.is fits))

  -- ---- numbers

  numbers_alike : (o : Operation) (gives : Tag) (one : Effect Blocks) (x y : Value) → have_tags (x ∷ y ∷ []) (Number ∷ Number ∷ []) ≡ true
      → AlikeWord gives st.store one (effect flat_words o (x.word ∷ y.word ∷ []) flat) → (words : List ℤ) → AllZip (Fits (sizes st)) (x ∷ y ∷ []) words
      → AlikeWord gives st.store one (effect flat_words o words flat)
  numbers_alike o gives one x y fit same words all =
      let first = tags_asked x (y ∷ []) Number (Number ∷ []) fit in
      let second = tags_asked y [] Number [] first.1 in
      alike_two (sizes st) gives st.store flat one o x y
      (λ v w fv fw.
      subst (λ u. AlikeWord gives st.store one (effect flat_words o (u ∷ w ∷ []) flat)) (sym (number_word (sizes st) x v fv first.0))
      (subst (λ u. AlikeWord gives st.store one (effect flat_words o (x.word ∷ u ∷ []) flat)) (sym (number_word (sizes st) y w fw second.0)) same)) words all

  pub numbers_step : (rest : List ℕ) (i : LowInstr) (o : Operation) (reads : List ℕ) → slice_get code at ≡ Some i → i.places ≡ to ∷ rest → instruction_of i ≡ form o (to ∷ []) reads
      → (gives : Tag) (x y : Value) → AtPlaces whole reads (x ∷ y ∷ [])
      → AlikeWord gives st.store (effect (separate no_cells) o (x.word ∷ y.word ∷ []) st.store) (effect flat_words o (x.word ∷ y.word ∷ []) flat)
      → ComesTo (value_by o (Number ∷ Number ∷ []) gives (x ∷ y ∷ []) st)
  unfolding value_by words_of
  numbers_step rest i o reads there places is_form gives x y have same =
      if_tags funs here code is base limit st.units _ _ (have_tags (x ∷ y ∷ []) (Number ∷ Number ∷ [])) no_cells o gives (x ∷ y ∷ []) st
      (λ fit.
      step rest i o reads there places is_form (x ∷ y ∷ []) have gives (effect (separate no_cells) o (x.word ∷ y.word ∷ []) st.store)
      (numbers_alike o gives _ x y fit same))

  pub arithmetic_step : (o : Op) (left right : ℕ) (x y : Value) → slice_get code at ≡ Some (binary (op_of o) to left right) → AtPlaces whole (left ∷ right ∷ []) (x ∷ y ∷ [])
      → ComesTo (arithmetic o x y st)
  arithmetic_step o left right x y there have =
      numbers_step (left ∷ right ∷ []) (binary (op_of o) to left right) (operation_of o) (left ∷ right ∷ []) there refl (arithmetic_form o to left right) Number x y have
      (arithmetic_alike st.store flat store.is o x.word y.word)

  set_step : (c : ℕ) (i : LowInstr) (left right : ℕ) (x y : Value) → slice_get code at ≡ Some i → i.places ≡ to ∷ left ∷ right ∷ []
      → instruction_of i ≡ form (operation.Compare c) (to ∷ []) (left ∷ right ∷ []) → AtPlaces whole (left ∷ right ∷ []) (x ∷ y ∷ [])
      → ComesTo (value_by (operation.Compare c) (Number ∷ Number ∷ []) Truth (x ∷ y ∷ []) st)
  set_step c i left right x y there places is_form have =
      numbers_step (left ∷ right ∷ []) i (operation.Compare c) (left ∷ right ∷ []) there places is_form Truth x y have
      (compare_alike st.store flat store.is c x.word y.word)

  pub related_step : (r : Rel) (left right : ℕ) (x y : Value) → slice_get code at ≡ Some (compared_instr r to left right) → slice_get whole left ≡ Some (Some x)
      → slice_get whole right ≡ Some (Some y) → ComesTo (related r x y st)
  unfolding instruction_of
  related_step rel.Lt left right x y there one two = set_step 0 _ left right x y there refl refl (one, (two, tt))
  related_step rel.Le left right x y there one two = set_step 1 _ left right x y there refl refl (one, (two, tt))
  related_step rel.Gt left right x y there one two = set_step 0 _ right left y x there refl refl (two, (one, tt))
  related_step rel.Ge left right x y there one two = set_step 1 _ right left y x there refl refl (two, (one, tt))
  related_step rel.Eq left right x y there one two = set_step 2 _ left right x y there refl refl (one, (two, tt))
  related_step rel.Ne left right x y there one two = set_step 3 _ left right x y there refl refl (one, (two, tt))

  -- ---- blocks

  pub load_step : (left right : ℕ) (x y : Value) → slice_get code at ≡ Some (binary op22.Ld to left right) → AtPlaces whole (left ∷ right ∷ []) (x ∷ y ∷ [])
      → ComesTo (cell_read x y st)
  unfolding value_by words_of
  load_step left right x y there have =
      let gives = cell_tag st.store x.word y.word in
      if_tags funs here code is base limit st.units _ _ (have_tags (x ∷ y ∷ []) (Array ∷ Number ∷ [])) no_cells operation.Load gives (x ∷ y ∷ []) st
      (λ fit.
      let first = tags_asked x (y ∷ []) Array (Number ∷ []) fit in
      let second = tags_asked y [] Number [] first.1 in
      step (left ∷ right ∷ []) (binary op22.Ld to left right) operation.Load (left ∷ right ∷ []) there refl (load_form to left right) (x ∷ y ∷ []) have gives
      (effect (separate no_cells) operation.Load (x.word ∷ y.word ∷ []) st.store)
      (alike_two (sizes st) gives st.store flat _ operation.Load x y
      (λ v w fv fw.
      subst (λ u. AlikeWord gives st.store (effect (separate no_cells) operation.Load (x.word ∷ y.word ∷ []) st.store) (effect flat_words operation.Load (v ∷ u ∷ []) flat))
      (sym (number_word (sizes st) y w fw second.0))
      (load_alike st.store flat store.is x.word v y.word (array_address (sizes st) x v fv first.0)))))

  pub length_step : (place : ℕ) (x : Value) → slice_get code at ≡ Some (unary op22.Len to place) → slice_get whole place ≡ Some (Some x) → ComesTo (measured x st)
  unfolding value_by words_of
  length_step place x there has =
      if_tags funs here code is base limit st.units _ _ (have_tags (x ∷ []) (Array ∷ [])) no_cells operation.Length Number (x ∷ []) st
      (λ fit.
      step (place ∷ []) (unary op22.Len to place) operation.Length (place ∷ []) there refl (length_form to place) (x ∷ []) (has, tt) Number
      (effect (separate no_cells) operation.Length (x.word ∷ []) st.store)
      (alike_one (sizes st) Number st.store flat _ operation.Length x
      (λ v fv. length_alike st.store flat store.is x.word v (array_address (sizes st) x v fv (tags_asked x [] Array [] fit).0))))

  pub tuple_step : (t : ℕ) (reads : List ℕ) (vs : List Value) → slice_get code at ≡ Some (tuple_instr t to reads) → AtPlaces whole reads vs → ComesTo (tuple_made t vs st)
  tuple_step t reads vs there have =
      step reads (tuple_instr t to reads) (operation.Tuple t) reads there refl (tuple_form t to reads) vs have Tuple
      (effect (separate (tag_at vs)) (operation.Tuple t) (words_of vs) st.store) (tuple_alike st.store flat store.is t vs)

  pub array_step : (c : ℕ) (len fill : ℕ) (x y : Value) → slice_get code at ≡ Some (array_instr c to len fill) → AtPlaces whole (len ∷ fill ∷ []) (x ∷ y ∷ [])
      → ComesTo (array_made c x y st)
  unfolding words_of
  array_step c len fill x y there have =
      if_tags funs here code is base limit st.units _ _ (have_tags (x ∷ []) (Number ∷ [])) (λ n. y.tag) (operation.New c) Array (x ∷ y ∷ []) st
      (λ fit.
      step (len ∷ fill ∷ []) (array_instr c to len fill) (operation.New c) (len ∷ fill ∷ []) there refl (array_form c to len fill) (x ∷ y ∷ []) have Array
      (effect (separate (λ n. y.tag)) (operation.New c) (x.word ∷ y.word ∷ []) st.store)
      (alike_two (sizes st) Array st.store flat _ (operation.New c) x y
      (λ v w fv fw.
      subst (λ u. AlikeWord Array st.store (effect (separate (λ n. y.tag)) (operation.New c) (x.word ∷ y.word ∷ []) st.store) (effect flat_words (operation.New c) (u ∷ w ∷ []) flat))
      (sym (number_word (sizes st) x v fv (tags_asked x [] Number [] fit).0))
      (array_alike st.store flat store.is c x.word y.tag y.word w fw))))
