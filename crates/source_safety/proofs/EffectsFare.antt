-- An operation on values: its effect goes well where its demands hold, and what it gives has its type and its tag.
use Rattle.std.proofs.Common.{◌≡◌, ◌∙◌, ◌⊎◌, inl, inr, ℕ, zero, suc, ◌≤◌, ℤ, List, [], ◌∷◌, ◌++◌, length, true, Option, Some, Ok, refl, sym, ap, subst}
use Rattle.std.specs.List.{All, AllZip}
use Rattle.index_sorts.specs.Entails.{AllHold}
use Rattle.state_types.specs.Types.{TypeBelow}
use Rattle.state_types.specs.Words.{Header, Headers, HasType}
use Rattle.state_types.specs.declared.types.Ty.{Ty}
use Rattle.state_types.proofs.Thens.{then_ok, ok_same}
use Rattle.operation_rules.specs.Applied.{Ruled}
use Rattle.operation_rules.specs.Effects.{Effect, Writes, Prints, Takes, Calls, Gives as Returns, Ends, effect, cells_from}
use Rattle.operation_rules.specs.Sound as sound
use Rattle.operation_rules.specs.Sound.{IsSetting, EndsWell}
use Rattle.operation_rules.specs.Stored.{StoreFits, CellFits, ArrayFits, TupleFits}
use Rattle.state_types.specs.declared.closed.Packed.{Packed}
use Rattle.operation_rules.specs.declared.operation.Operation.{Operation}
use Rattle.operation_rules.specs.declared.rule.Rule.{Rule}
use Rattle.operation_rules.proofs.OperationsFare.{operation_fares}
use Rattle.operation_rules.proofs.RuleFacts.{parts_of}
use Rattle.std.proofs.lemmas.List.Elements.{All-nil}
use Rattle.xan_lin.specs.Value.{Holds}
use Rattle.typed_core.specs.Constructs.{setting_of, types_by, first_type, type_by}
use Rattle.typed_core.specs.Growth.{Grown, NamesSoFar}
use Rattle.typed_core.specs.SourceOperands.{no_cells, acts, value_if, value_by}
use Rattle.typed_core.specs.SourceRuns.{Run, Env, one_of}
use Rattle.typed_core.specs.SourceValues.{Tag, Number, Truth as Flag, Array, Tuple, Value, Blocks, same_tag, words_of, have_tags, separate}
use Rattle.typed_core.specs.States.{Site, State}
use Rattle.typed_core.proofs.GrownContexts.{type_by_goes}
use Rattle.typed_core.proofs.NamedStates.{answered, Typed, typed_on, type_by_stays}
use Rattle.typed_core.proofs.SeparateStores.{separate_is}
use Rattle.source_safety.specs.Values.{tag_for, tags_for, headers_of, HaveValues, AreTagged}
use Rattle.source_safety.specs.Standing.{GoalsHold, Stands, Gives, Fares}
use Rattle.source_safety.proofs.Demanded.{Acts, acts_by, demands_hold}
use Rattle.source_safety.proofs.FaredOn.{goes_with}
use Rattle.source_safety.proofs.RuleTags.{IsFree, TagsAre, given_tags}

-- ---- tags and words of values

same_tags : (a : Tag) → same_tag a a ≡ true
same_tags Number = refl
same_tags Flag = refl
same_tags Array = refl
same_tags Tuple = refl

pub tags_there : (headers : Headers) (assignment : List ℤ) (vs : List Value) (ts : List Ty) → HaveValues headers assignment vs ts → have_tags vs (tags_for ts) ≡ true
unfolding have_tags tags_for
tags_there headers assignment [] [] have = refl
tags_there headers assignment [] (t ∷ ts) have = absurd have
tags_there headers assignment (v ∷ vs) [] have = absurd have
tags_there headers assignment (v ∷ vs) (t ∷ ts) have =
    let here : same_tag v.tag (tag_for t) ≡ true = subst (λ g. same_tag v.tag g ≡ true) have.0.tagged (same_tags v.tag) in
    let rest = tags_there headers assignment vs ts have.1 in
    rw here rest

pub words_have : (headers : Headers) (assignment : List ℤ) (vs : List Value) (ts : List Ty) → HaveValues headers assignment vs ts → AllZip (HasType headers assignment) (words_of vs) ts
unfolding words_of
words_have headers assignment [] [] have = tt
words_have headers assignment [] (t ∷ ts) have = absurd have
words_have headers assignment (v ∷ vs) [] have = absurd have
words_have headers assignment (v ∷ vs) (t ∷ ts) have = (have.0.typed, words_have headers assignment vs ts have.1)

-- ---- effects

abbrev pub ruled_by : Rule → State → List Ty → Ruled
ruled_by r more given = record { demands = r.demands; ctx = more.ctx; types = given }

module _ (site : Site) (setting : IsSetting (setting_of site)) (env : Env) where
  pub effect_fares : (tags : ℕ → Tag) (at : Option ℕ) (o : Operation) (types : List Ty) (st : State) (given : List Ty) (more : State) (by : Acts site at o types st given more)
      (assignment : List ℤ) (store : Blocks) (vs : List Value) → Stands site st env assignment store → StoreFits (separate tags) site.table store
      → HaveValues (headers_of store) assignment vs types → All (TypeBelow st.ctx.vars) types → AllHold assignment by.r.demands
      → sound.Fares (separate tags) (setting_of site) o types store assignment st.ctx (ruled_by by.r more given) (effect (separate tags) o (words_of vs) store)
  effect_fares tags at o types st given more by assignment store vs stands fits have below demands =
      operation_fares (separate tags) (setting_of site) o types st.ctx by.r (ruled_by by.r more given) assignment (words_of vs) store (separate_is tags) setting stands.own by.is by.does
      (record { one_each = stands.one_each; hold = stands.hold; typed = words_have (headers_of store) assignment vs types have; named = stands.named.rows; below = below }) fits demands

-- what is known of a construct's type
pub record Typing (st : State) (t : Ty) (more : State) : Type 0 where
  pub grown : Grown st more
  pub named : NamesSoFar more
  pub below : TypeBelow more.ctx.vars t

pub type_known : (site : Site) → IsSetting (setting_of site) → (at : Option ℕ) (o : Operation) (types : List Ty) (st : State) (t : Ty) (more : State) → site.own.vars ≤ st.ctx.vars
    → NamesSoFar st → All (TypeBelow st.ctx.vars) types → type_by site at o types st ≡ Ok (t, more) → Typing st t more
type_known site setting at o types st t more le names below is =
    let typed : Typed site.own.vars st = record { own_vars = le; types = names.types } in
    let went = answered (type_by site at o types st) (t, more) (type_by_stays site setting.table at o types st le below) is in
    let onward = answered (type_by site at o types st) (t, more) (type_by_goes site at o types st) is in
    record {
      grown = onward.grown;
      named = record { rows = onward.named setting.table names.rows; types = (typed_on site.own.vars st more went.0 typed).types };
      below = went.1;
    }

-- ---- one value

-- one word of the type's tag, and a store whose cells have their tags
abbrev pub OneWord : (given : Tag) → Ty → List Packed → Effect Blocks → Type 0
OneWord g t table (Writes [] new) = ⊥
OneWord g t table (Writes (w ∷ []) new) = AreTagged table new × (g ≡ tag_for t)
OneWord g t table (Writes (w ∷ v ∷ ws) new) = ⊥
OneWord g t table (Prints n) = ⊥
OneWord g t table (Takes b) = ⊥
OneWord g t table (Calls fun ws) = ⊥
OneWord g t table (Returns w) = ⊥
OneWord g t table (Ends how) = Unit {0}

first_tag : (a b : Tag) → a ∷ [] ≡ b ∷ [] → a ≡ b
first_tag a b e = cc

pub one_type : (g : Tag) (given : List Ty) (t : Ty) → first_type given ≡ Ok t → g ∷ [] ≡ tags_for given → (given ≡ t ∷ []) × (g ≡ tag_for t)
unfolding tags_for
one_type g [] t e h = absurd (let bad : ⊥ = cc in bad)
one_type g (u ∷ []) t e h = (ap (λ x. x ∷ []) (ok_same u t e), first_tag g (tag_for u) h ∙ ap tag_for (ok_same u t e))
one_type g (u ∷ w ∷ ts) t e h = absurd (let bad : ⊥ = cc in bad)

-- the cells of a block do not depend on it
read_as : (one two : ℕ → Tag) (store : Blocks) (address index count : ℕ) → cells_from (separate two) store address index count ≡ cells_from (separate one) store address index count
unfolding cells_from
read_as one two store address index zero = refl
read_as one two store address index (suc count) =
    let later = read_as one two store address (suc index) count in
    rw later refl

pub first_has : (headers : Headers) (assignment : List ℤ) (w : ℤ) (ws : List ℤ) (given : List Ty) (t : Ty) → first_type given ≡ Ok t → AllZip (HasType headers assignment) (w ∷ ws) given
    → HasType headers assignment w t
first_has headers assignment w ws [] t e has = absurd has
first_has headers assignment w ws (u ∷ us) t e has = subst (λ x. HasType headers assignment w x) (ok_same u t e) has.0

-- a kind of separate blocks does not matter where none is made
pub fits_as : (one two : ℕ → Tag) (table : List Packed) (store : Blocks) → StoreFits (separate one) table store → StoreFits (separate two) table store
fits_as one two table store fits = record {
  whole = refl;
  blocks = λ block header e. block_as block header (fits.blocks block header e);
}
  where
    cell_as : (packed : Packed) (block number : ℕ) → CellFits (separate one) table store packed block number → CellFits (separate two) table store packed block number
    cell_as packed block number c = record { word = c.word; there = c.there; packs = c.packs }

    block_as : (block : ℕ) (header : Header) → ArrayFits (separate one) table store block header ⊎ TupleFits (separate one) table store block header
        → ArrayFits (separate two) table store block header ⊎ TupleFits (separate two) table store block header
    block_as block header (inl a) = inl (record {
      element = a.element;
      count = a.count;
      is = a.is;
      packed = a.packed;
      there = a.there;
      cells = λ number h. cell_as a.packed block number (a.cells number h);
    })
    block_as block header (inr t) = inr (record {
      number = t.number;
      packed = t.packed;
      there = t.there;
      is = t.is;
      words = t.words;
      cells = read_as one two store block 0 (length t.packed.parts) ∙ t.cells;
      packs = t.packs;
    })

module _ {L : Type 0} (site : Site) (env : Env) where
  pub one_fares : (tags : ℕ → Tag) (o : Operation) (types : List Ty) (r : Rule) (given : List Ty) (st : State) (t : Ty) (more : State) (g : Tag) (assignment : List ℤ) (run : Run L)
      (done : Effect Blocks) → Stands site st env assignment run.store → Typing st t more → first_type given ≡ Ok t → OneWord g t site.table done
      → sound.Fares (separate tags) (setting_of site) o types run.store assignment st.ctx (ruled_by r more given) done
      → Fares (λ v (new : Run L). Gives site more env assignment run.store t v new.store) (one_of g run done)
  unfolding goes_with
  one_fares tags o types r given st t more g assignment run (Writes [] new) stands typing first one fares = absurd one
  one_fares tags o types r given st t more g assignment run (Writes (w ∷ v ∷ ws) new) stands typing first one fares = absurd one
  one_fares tags o types r given st t more g assignment run (Prints n) stands typing first one fares = absurd one
  one_fares tags o types r given st t more g assignment run (Takes b) stands typing first one fares = absurd one
  one_fares tags o types r given st t more g assignment run (Calls fun ws) stands typing first one fares = absurd one
  one_fares tags o types r given st t more g assignment run (Returns w) stands typing first one fares = absurd one
  one_fares tags o types r given st t more g assignment run (Ends how) stands typing first one fares = record { is = fares }
  one_fares tags o types r given st t more g assignment run (Writes (w ∷ []) new) stands typing first one fares =
      let goes = goes_with site env st more assignment fares.written.own run.store new stands typing.grown typing.named fares.written.grows.one_each fares.written.grows.hold
      (record { keeps = λ address header e. fares.keeps.keeps address header e }) (record { fits = fits_as tags no_cells site.table new fares.fits; tagged = one.0 }) in
      let typed : HasType (headers_of new) (assignment ++ fares.written.own) w t = first_has (headers_of new) (assignment ++ fares.written.own) w [] given t first fares.written.typed in
      record { is = record { goes = goes; has = record { tagged = one.1; typed = typed }; below = typing.below } }

-- ---- an operation by which a construct has its type

pub record TypedBy (site : Site) (at : Option ℕ) (o : Operation) (types : List Ty) (st : State) (t : Ty) (more : State) : Type 0 where
  pub given : List Ty
  pub by : Acts site at o types st given more
  pub first : first_type given ≡ Ok t

pub typed_by : (site : Site) (at : Option ℕ) (o : Operation) (types : List Ty) (st : State) (t : Ty) (more : State) → type_by site at o types st ≡ Ok (t, more)
    → TypedBy site at o types st t more
unfolding type_by
typed_by site at o types st t more e =
    let s = then_ok (types_by site at o types st) _ (t, more) e in
    let f = then_ok (first_type s.value.0) _ (t, more) s.second in
    let same = ok_same (f.value, s.value.1) (t, more) f.second in
    subst (λ (p : Ty × State). TypedBy site at o types st p.0 p.1) same (record { given = s.value.0; by = acts_by site at o types st s.value.0 s.value.1 s.first; first = f.first })

-- the one type that has this tag
pub only_type : (site : Site) (at : Option ℕ) (o : Operation) (types : List Ty) (st : State) (t : Ty) (more : State) (g : Tag) (typed : TypedBy site at o types st t more)
    → TagsAre (g ∷ []) typed.by.r.given → (typed.given ≡ t ∷ []) × (g ≡ tag_for t)
only_type site at o types st t more g typed makes =
    one_type g typed.given t typed.first (given_tags (g ∷ []) typed.by.r.given typed.given makes (parts_of typed.by.r st.ctx _ typed.by.does).given)

module _ (site : Site) (o : Operation) (types : List Ty) (st : State) (t : Ty) (more : State) (assignment : List ℤ) where
  -- its demands hold, since there are none, or since they were noted
  pub free_demands : (at : Option ℕ) (typed : TypedBy site at o types st t more) → IsFree typed.by.r → AllHold assignment typed.by.r.demands
  free_demands at typed free = subst (λ rows. AllHold assignment rows) (sym free) (All-nil (Holds assignment))

  pub noted_demands : (at : ℕ) (typed : TypedBy site (Some at) o types st t more) → GoalsHold more.goals → AllHold assignment st.ctx.rows → AllHold assignment typed.by.r.demands
  noted_demands at typed hold rows = demands_hold site at typed.by.r.demands st assignment (subst GoalsHold typed.by.asks hold) rows

module _ {L : Type 0} (site : Site) (setting : IsSetting (setting_of site)) (env : Env) where
  -- with the tags that are given for the cells of a new block
  pub act_fares : (tags : ℕ → Tag) (at : Option ℕ) (o : Operation) (types : List Ty) (st : State) (t : Ty) (more : State) (typed : TypedBy site at o types st t more) → Typing st t more
      → (g : Tag) (assignment : List ℤ) (run : Run L) (vs : List Value) → Stands site st env assignment run.store → HaveValues (headers_of run.store) assignment vs types
      → All (TypeBelow st.ctx.vars) types → AllHold assignment typed.by.r.demands → OneWord g t site.table (acts tags o vs run)
      → Fares (λ v (new : Run L). Gives site more env assignment run.store t v new.store) (one_of g run (acts tags o vs run))
  act_fares tags at o types st t more typed typing g assignment run vs stands have below demands one =
      one_fares site env tags o types typed.by.r typed.given st t more g assignment run (acts tags o vs run) stands typing typed.first one
      (effect_fares site setting env tags at o types st typed.given more typed.by assignment run.store vs stands (fits_as no_cells tags site.table run.store stands.holds.fits) have below demands)

  pub value_by_fares : (at : Option ℕ) (o : Operation) (types : List Ty) (st : State) (t : Ty) (more : State) (typed : TypedBy site at o types st t more) → Typing st t more
      → (wants : List Tag) (g : Tag) → wants ≡ tags_for types
      → (assignment : List ℤ) (run : Run L) (vs : List Value) → Stands site st env assignment run.store → HaveValues (headers_of run.store) assignment vs types
      → All (TypeBelow st.ctx.vars) types → AllHold assignment typed.by.r.demands → OneWord g t site.table (acts no_cells o vs run)
      → Fares (λ v (new : Run L). Gives site more env assignment run.store t v new.store) (value_by o wants g vs run)
  unfolding value_by
  value_by_fares at o types st t more typed typing wants g takes assignment run vs stands have below demands one =
      let fit : have_tags vs wants ≡ true = subst (λ ws. have_tags vs ws ≡ true) (sym takes) (tags_there (headers_of run.store) assignment vs types have) in
      subst (λ b. Fares (λ v (new : Run L). Gives site more env assignment run.store t v new.store) (value_if b no_cells o g vs run)) (sym fit)
      (act_fares no_cells at o types st t more typed typing g assignment run vs stands have below demands one)
