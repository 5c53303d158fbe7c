-- Constructs that read or make blocks, and calls, go well.
use Rattle.std.proofs.Common.{◌≡◌, ◌∙◌, ℕ, ◌+◌, ◌*◌, ℤ, pos, negsuc, List, [], ◌∷◌, ◌++◌, length, replicate, Bool as Truth, true, false, Some, Ok, sym, ap, subst, arith}
use Rattle.std.specs.Prelude.{nat_le, slice_get}
use Rattle.std.specs.List.{AllZip}
use Rattle.std.proofs.lemmas.Int.{ints}
use Rattle.std.proofs.lemmas.Option.{same_Some}
use Rattle.index_sorts.specs.Entails.{AllHold}
use Rattle.state_types.specs.Words.{Header, Headers, HasType}
use Rattle.state_types.specs.declared.closed.Packed.{Packed}
use Rattle.state_types.specs.declared.closed.Signature.{Signature}
use Rattle.state_types.specs.declared.types.Ty.{Ty}
use Rattle.state_types.specs.declared.types.Ty.TheVariants as ty
use Rattle.operation_rules.specs.Effects.{makes_equal, makes_array, makes_tuple}
use Rattle.operation_rules.specs.Rules.{cell_at, tuple_at}
use Rattle.operation_rules.specs.Sound.{IsSetting}
use Rattle.operation_rules.specs.declared.operation.Operation.TheVariants as operation
use Rattle.operation_rules.proofs.RuleFacts.{parts_of}
use Rattle.typed_core.specs.Constructs.{setting_of, type_by, first_type}
use Rattle.typed_core.specs.SourceOperands.{no_cells, value_if, cell_read, tuple_made, array_made}
use Rattle.typed_core.specs.SourceRuns.{Run, Env, Calls}
use Rattle.typed_core.specs.SourceValues.{Tag, Number, Array, Tuple, Value, Block, Blocks, words_of, have_tags, tags_of, tag_at, header_in, separate, used, cell_tag}
use Rattle.typed_core.specs.States.{Site, State}
use Rattle.source_safety.specs.Values.{tag_for, tags_for, headers_of, HasValue, HaveValues, AreTagged}
use Rattle.source_safety.specs.Standing.{GoalsHold, CallsFare, Fares, Operands}
use Rattle.source_safety.proofs.BlockRules.{load_rule, new_rule, tuple_rule, call_rule}
use Rattle.source_safety.proofs.BlockTags.{one_more_tagged, array_tagged, tuple_tagged, tags_have}
use Rattle.source_safety.proofs.EffectsFare.{OneWord, typed_by, type_known, only_type, one_type, noted_demands, tags_there, value_by_fares, act_fares, effect_fares, first_has}
use Rattle.source_safety.proofs.FaredOn.{fares_on, goes_with}
use Rattle.source_safety.proofs.OneWords.{CellTags, load_one}
use Rattle.source_safety.proofs.RuleTags.{given_tags}
use Rattle.source_safety.proofs.ValuesMade.{GivesFrom}

-- ---- one block more

module _ (table : List Packed) (t : Ty) where
  equal_one : (g : Tag) → Array ≡ tag_for t → (cells : ℕ) (packed : Packed) → cell_at table cells ≡ Ok packed → tags_for packed.parts ≡ g ∷ [] → (store : Blocks) → AreTagged table store
      → (room : Truth) (n : ℕ) (w : ℤ) → OneWord Array t table (makes_equal (separate (λ n. g)) room (2 * cells) n w store)
  equal_one g tag cells packed there tags store all true n w = (one_more_tagged table store _ all (array_tagged table cells packed g (replicate n w) there tags), tag)
  equal_one g tag cells packed there tags store all false n w = tt

  array_one : (g : Tag) → Array ≡ tag_for t → (cells : ℕ) (packed : Packed) → cell_at table cells ≡ Ok packed → tags_for packed.parts ≡ g ∷ [] → (store : Blocks) → AreTagged table store
      → (n w : ℤ) → OneWord Array t table (makes_array (separate (λ n. g)) cells n w store)
  array_one g tag cells packed there tags store all (pos n) w = equal_one g tag cells packed there tags store all (nat_le (used store.blocks + (n + 2)) store.heap) n w
  array_one g tag cells packed there tags store all (negsuc n) w = tt

  tuple_one : Tuple ≡ tag_for t → (number : ℕ) (packed : Packed) (vs : List Value) → tuple_at table number ≡ Ok packed → tags_for packed.parts ≡ tags_of vs → (store : Blocks)
      → AreTagged table store → (room : Truth) → OneWord Tuple t table (makes_tuple (separate (tag_at vs)) room number (words_of vs) store)
  tuple_one tag number packed vs there tags store all true = (one_more_tagged table store _ all (tuple_tagged table number packed vs there tags), tag)
  tuple_one tag number packed vs there tags store all false = tt

-- values that have words of their types, and the tags of these
pub have_from : (headers : Headers) (assignment : List ℤ) (vs : List Value) (ts : List Ty) → AllZip (HasType headers assignment) (words_of vs) ts → tags_of vs ≡ tags_for ts
    → HaveValues headers assignment vs ts
unfolding words_of tags_of tags_for
have_from headers assignment [] [] has tags = tt
have_from headers assignment [] (t ∷ ts) has tags = absurd has
have_from headers assignment (v ∷ vs) [] has tags = absurd has
have_from headers assignment (v ∷ vs) (t ∷ ts) has tags =
    (record { tagged = first_of v.tag (tag_for t) (tags_of vs) (tags_for ts) tags; typed = has.0 }, have_from headers assignment vs ts has.1 (rest_of v.tag (tag_for t) (tags_of vs) (tags_for ts) tags))
  where
    first_of : (a b : Tag) (xs ys : List Tag) → a ∷ xs ≡ b ∷ ys → a ≡ b
    first_of a b xs ys e = cc

    rest_of : (a b : Tag) (xs ys : List Tag) → a ∷ xs ≡ b ∷ ys → xs ≡ ys
    rest_of a b xs ys e = cc

-- ---- the block that an array is

pub descriptor_is : (b : Block) (d : ℕ) (cells : ℤ) → header_in (Some b) ≡ Some (record { descriptor = pos d; cells = cells }) → b.descriptor ≡ d
descriptor_is b d cells e = omega (arith, ints, (ap (λ (x : Header). x.descriptor) (same_Some _ _ e)))

-- values that fit the signature of a function, for some values of its variables
pub record Entering (sigs : List Signature) (headers : Headers) (fun : ℕ) (vs : List Value) : Type 0 where
  pub sig : Signature
  pub there : slice_get sigs fun ≡ Some sig
  pub values : List ℤ
  pub one_each : length values ≡ sig.vars
  pub hold : AllHold values sig.rows
  pub have : HaveValues headers values vs sig.params

module _ {L : Type 0} (site : Site) (setting : IsSetting (setting_of site)) (env : Env) (st : State) (t : Ty) (more : State) (assignment : List ℤ) (run : Run L) (goals : GoalsHold more.goals) where
  cell_tags : (element : ℕ) (count : _) (packed : Packed) (given : List Ty) (a : Value) → HasValue (headers_of run.store) assignment a (ty.Array element count)
      → cell_at site.table element ≡ Ok packed → AreTagged site.table run.store → first_type given ≡ Ok t → tags_for packed.parts ≡ tags_for given → CellTags t run.store a.word
  cell_tags element count packed given a has there all first tags = record {
    by = λ address b index v word at get.
        let same : address ≡ has.typed.address = omega (arith, ints, (sym word ∙ has.typed.is)) in
        let begins = ap (λ n. headers_of run.store n) same ∙ has.typed.begins in
        let d = descriptor_is b (2 * element) _ (sym (ap header_in at) ∙ begins) in
        let one = (all.by address b at).arrays element packed index v d there get in
        (one_type v.tag given t first (sym one ∙ tags)).1;
  }

  pub load_fares : (u w : Ty) (a i : Value) (at : ℕ) → Operands site st env assignment run.store (u ∷ w ∷ []) (a ∷ i ∷ []) → type_by site (Some at) operation.Load (u ∷ w ∷ []) st ≡ Ok (t, more)
      → Fares (GivesFrom site setting env more assignment run t) (cell_read a i run)
  unfolding tags_for
  load_fares u w a i at it is =
      let typed = typed_by site (Some at) operation.Load (u ∷ w ∷ []) st t more is in
      let typing = type_known site setting (Some at) operation.Load (u ∷ w ∷ []) st t more it.stands.own it.stands.named it.below is in
      let r = load_rule (setting_of site) st.ctx.vars (u ∷ w ∷ []) typed.by.r typed.by.is in
      let made = given_tags (tags_for r.packed.parts) typed.by.r.given typed.given r.makes (parts_of typed.by.r st.ctx _ typed.by.does).given in
      let have : HaveValues (headers_of run.store) assignment (a ∷ i ∷ []) (ty.Array r.element r.count ∷ ty.Int r.index ∷ []) =
      subst (λ ts. HaveValues (headers_of run.store) assignment (a ∷ i ∷ []) ts) r.is it.have in
      let tags = cell_tags r.element r.count r.packed typed.given a have.0 r.there it.stands.holds.tagged typed.first made in
      value_by_fares site setting env (Some at) operation.Load (u ∷ w ∷ []) st t more typed typing (Array ∷ Number ∷ []) (cell_tag run.store a.word i.word) (sym (ap tags_for r.is))
      assignment run (a ∷ i ∷ []) it.stands it.have it.below (noted_demands site operation.Load (u ∷ w ∷ []) st t more assignment at typed goals it.stands.hold)
      (load_one site.table t run a i it.stands.holds.tagged tags)

  pub new_fares : (cells : ℕ) (u w : Ty) (n v : Value) (at : ℕ) → Operands site st env assignment run.store (u ∷ w ∷ []) (n ∷ v ∷ [])
      → type_by site (Some at) (operation.New cells) (u ∷ w ∷ []) st ≡ Ok (t, more) → Fares (GivesFrom site setting env more assignment run t) (array_made cells n v run)
  unfolding tags_for words_of
  new_fares cells u w n v at it is =
      let types = u ∷ w ∷ [] in
      let typed = typed_by site (Some at) (operation.New cells) types st t more is in
      let typing = type_known site setting (Some at) (operation.New cells) types st t more it.stands.own it.stands.named it.below is in
      let r = new_rule (setting_of site) st.ctx.vars types typed.by.r cells typed.by.is in
      let tag = (only_type site (Some at) (operation.New cells) types st t more Array typed r.makes).1 in
      let have : HaveValues (headers_of run.store) assignment (n ∷ v ∷ []) (ty.Int r.count ∷ r.fill ∷ []) = subst (λ ts. HaveValues (headers_of run.store) assignment (n ∷ v ∷ []) ts) r.is it.have in
      let fit : have_tags (n ∷ []) (Number ∷ []) ≡ true = tags_there (headers_of run.store) assignment (n ∷ []) (ty.Int r.count ∷ []) (have.0, tt) in
      subst (λ b. Fares (GivesFrom site setting env more assignment run t) (value_if b (λ k. v.tag) (operation.New cells) Array (n ∷ v ∷ []) run)) (sym fit)
      (act_fares site setting env (λ k. v.tag) (Some at) (operation.New cells) types st t more typed typing Array assignment run (n ∷ v ∷ []) it.stands it.have it.below
      (noted_demands site (operation.New cells) types st t more assignment at typed goals it.stands.hold)
      (array_one site.table t v.tag tag cells r.packed r.there (r.tags ∙ ap (λ g. g ∷ []) (sym have.1.0.tagged)) run.store it.stands.holds.tagged n.word v.word))

  pub tuple_fares : (number : ℕ) (types : List Ty) (vs : List Value) (at : ℕ) → Operands site st env assignment run.store types vs
      → type_by site (Some at) (operation.Tuple number) types st ≡ Ok (t, more) → Fares (GivesFrom site setting env more assignment run t) (tuple_made number vs run)
  tuple_fares number types vs at it is =
      let typed = typed_by site (Some at) (operation.Tuple number) types st t more is in
      let typing = type_known site setting (Some at) (operation.Tuple number) types st t more it.stands.own it.stands.named it.below is in
      let r = tuple_rule (setting_of site) st.ctx.vars types typed.by.r number typed.by.is in
      let tag = (only_type site (Some at) (operation.Tuple number) types st t more Tuple typed r.makes).1 in
      act_fares site setting env (tag_at vs) (Some at) (operation.Tuple number) types st t more typed typing Tuple assignment run vs it.stands it.have it.below
      (noted_demands site (operation.Tuple number) types st t more assignment at typed goals it.stands.hold)
      (tuple_one site.table t tag number r.packed vs r.there (r.tags ∙ sym (tags_have (headers_of run.store) assignment vs types it.have)) run.store it.stands.holds.tagged
      (nat_le (used run.store.blocks + (length (words_of vs) + 2)) run.store.heap))

  -- ---- calls

  -- the function that is called begins with arguments that fit its signature
  pub call_enters : (fun : ℕ) (types : List Ty) (vs : List Value) (at : ℕ) → Operands site st env assignment run.store types vs
      → type_by site (Some at) (operation.Call fun) types st ≡ Ok (t, more) → Entering site.sigs (headers_of run.store) fun vs
  call_enters fun types vs at it is =
      let typed = typed_by site (Some at) (operation.Call fun) types st t more is in
      let r = call_rule (setting_of site) st.ctx.vars types typed.by.r fun typed.by.is in
      let calling = effect_fares site setting env no_cells (Some at) (operation.Call fun) types st typed.given more typed.by assignment run.store vs it.stands it.stands.holds.fits it.have it.below
      (noted_demands site (operation.Call fun) types st t more assignment at typed goals it.stands.hold) in
      let same : r.sig ≡ calling.sig = same_Some r.sig calling.sig (sym r.there ∙ calling.there) in
      record {
        sig = calling.sig;
        there = calling.there;
        values = calling.values;
        one_each = calling.one_each;
        hold = calling.hold;
        have = have_from (headers_of run.store) calling.values vs calling.sig.params calling.fit
            (tags_have (headers_of run.store) assignment vs types it.have ∙ sym r.tags ∙ ap (λ s. tags_for s.params) same);
      }

  pub call_fares : (call : Calls L) → CallsFare site.table site.sigs call → (fun : ℕ) (types : List Ty) (vs : List Value) (at : ℕ) → Operands site st env assignment run.store types vs
      → type_by site (Some at) (operation.Call fun) types st ≡ Ok (t, more) → Fares (GivesFrom site setting env more assignment run t) (call fun vs run)
  unfolding goes_with
  call_fares call calls fun types vs at it is =
      let typed = typed_by site (Some at) (operation.Call fun) types st t more is in
      let typing = type_known site setting (Some at) (operation.Call fun) types st t more it.stands.own it.stands.named it.below is in
      let r = call_rule (setting_of site) st.ctx.vars types typed.by.r fun typed.by.is in
      let tag = (only_type site (Some at) (operation.Call fun) types st t more (tag_for r.sig.result) typed r.makes).1 in
      let calling = effect_fares site setting env no_cells (Some at) (operation.Call fun) types st typed.given more typed.by assignment run.store vs it.stands it.stands.holds.fits it.have it.below
      (noted_demands site (operation.Call fun) types st t more assignment at typed goals it.stands.hold) in
      let same : r.sig ≡ calling.sig = same_Some r.sig calling.sig (sym r.there ∙ calling.there) in
      let have = have_from (headers_of run.store) calling.values vs calling.sig.params calling.fit
      (tags_have (headers_of run.store) assignment vs types it.have ∙ sym r.tags ∙ ap (λ s. tags_for s.params) same) in
      fares_on (call fun vs run)
      (λ v new came.
      let written = calling.back (headers_of new.store) came.own v.word came.one_each came.hold came.has.typed in
      let goes = goes_with site env st more assignment written.own run.store new.store it.stands typing.grown typing.named written.grows.one_each written.grows.hold came.keeps came.holds in
      let has = first_has (headers_of new.store) (assignment ++ written.own) v.word [] typed.given t typed.first written.typed in
      record { goes = goes; has = record { tagged = came.has.tagged ∙ ap (λ s. tag_for s.result) (sym same) ∙ tag; typed = has }; below = typing.below })
      (calls.by fun calling.sig calling.values vs run calling.there calling.one_each calling.hold have it.stands.holds)
