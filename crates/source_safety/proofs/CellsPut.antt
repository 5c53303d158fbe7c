-- A write of a cell goes well: the cell is there, and has the tag of what is written.
use Rattle.std.proofs.Common.{◌≡◌, ◌∙◌, ℕ, zero, suc, ◌*◌, ◌<◌, ℤ, pos, negsuc, List, [], ◌∷◌, length, Bool as Truth, true, false, Option, Some, None, Ok, refl, sym, ap, subst, arith}
use Rattle.std.specs.Prelude.{slice_get, nat_lt}
use Rattle.std.proofs.lemmas.Bool.{ltb-true}
use Rattle.std.proofs.lemmas.Int.{ints}
use Rattle.state_types.specs.declared.types.Ty.{Ty}
use Rattle.state_types.specs.declared.types.Ty.TheVariants as ty
use Rattle.state_types.proofs.Thens.{then_ok}
use Rattle.operation_rules.specs.Effects.{Effect, Writes, Ends, puts, puts_into}
use Rattle.operation_rules.specs.Applied.{Ruled}
use Rattle.operation_rules.specs.Sound as sound
use Rattle.operation_rules.specs.Sound.{IsSetting}
use Rattle.operation_rules.specs.declared.operation.Operation.TheVariants as operation
use Rattle.xan_io.specs.Outcome.{Stuck}
use Rattle.xanadu_tree.specs.Plain as core
use Rattle.typed_core.specs.Constructs.{setting_of, state_by}
use Rattle.typed_core.specs.Operands.{operand}
use Rattle.typed_core.specs.SourceOperands.{no_cells, value}
use Rattle.typed_core.specs.SourceRuns.{Run, Env, Place, Recorder, Calls, all_of}
use Rattle.typed_core.specs.SourceStatements.{statement, cell_put, cell_put_if}
use Rattle.typed_core.specs.SourceValues.{Tag, Number, Array, Value, Block, Blocks, words_of, have_tags, header_in, separate, cell_tag, tag_or, blocks_with}
use Rattle.typed_core.specs.States.{Site, State}
use Rattle.typed_core.specs.Statements.{store}
use Rattle.source_safety.specs.Values.{headers_of, HaveValues, tag_for, tags_for}
use Rattle.source_safety.specs.Standing.{GoalsHold, Stands, Goes, CallsFare, Fares, Leaves, Operands}
use Rattle.source_safety.proofs.BlockRules.{store_rule}
use Rattle.source_safety.proofs.BlocksFare.{descriptor_is}
use Rattle.source_safety.proofs.BlockTags.{written_tagged}
use Rattle.source_safety.proofs.BranchesFare.{stated_by, state_grown}
use Rattle.source_safety.proofs.Demanded.{demands_hold}
use Rattle.source_safety.proofs.EffectsFare.{tags_there, effect_fares}
use Rattle.source_safety.proofs.ExpressionsFare.{value_fares, expression_grown, grown_goals, one_operand, more_operands}
use Rattle.source_safety.proofs.FaredOn.{fares_then, goes_on, goes_behind, goes_with}
use Rattle.source_safety.proofs.SimpleStatements.{state_known}

-- a write that is not stuck is of a cell that is there
pub record Puts (store : Blocks) (a i w : ℤ) : Type 0 where
  pub address : ℕ
  pub index : ℕ
  pub b : Block
  pub v : Value
  pub named : a ≡ pos address
  pub at : i ≡ pos index
  pub there : slice_get store.blocks address ≡ Some b
  pub get : slice_get b.cells index ≡ Some v
  pub puts : puts (separate no_cells) a i w store ≡ Writes [] (record store { blocks = blocks_with store.blocks address index w })

item_there : {A : Type 0} (xs : List A) (index : ℕ) → index < length xs → (x : A) × (slice_get xs index ≡ Some x)
item_there [] index h = absurd (let bad : ⊥ = omega (arith, h) in bad)
item_there (x ∷ xs) zero h = (x, refl)
item_there (x ∷ xs) (suc index) h = item_there xs index (omega (arith, h))

module _ (store : Blocks) (F : Effect Blocks → Type 0) (alive : F (Ends Stuck) → ⊥) (w : ℤ) where
  put_index : (address index : ℕ) (b : Block) → slice_get store.blocks address ≡ Some b → (within : Truth) → nat_lt index (length b.cells) ≡ within
      → F (puts_into (separate no_cells) (header_in (Some b)) address (pos index) w store)
      → Puts store (pos address) (pos index) w
  put_index address index b there false e = rw e (λ f. absurd (alive f))
  put_index address index b there true e = λ f.
      let item = item_there b.cells index (ltb-true index (length b.cells) e) in
      record {
        address = address;
        index = index;
        b = b;
        v = item.0;
        named = refl;
        at = refl;
        there = there;
        get = item.1;
        puts = rw there (rw e refl);
      }

  put_block : (address : ℕ) (i : ℤ) (o : Option Block) → slice_get store.blocks address ≡ o → F (puts_into (separate no_cells) (header_in o) address i w store) → Puts store (pos address) i w
  put_block address i None e f = absurd (alive f)
  put_block address (pos index) (Some b) e f = put_index address index b e (nat_lt index (length b.cells)) refl f
  put_block address (negsuc n) (Some b) e f = absurd (alive f)

  pub put_there : (a i : ℤ) → F (puts (separate no_cells) a i w store) → Puts store a i w
  put_there (pos address) i f = put_block address i (slice_get store.blocks address) refl f
  put_there (negsuc n) i f = absurd (alive f)

-- ---- a write of a cell

same_tags_give : (cells : Tag) (new : Tag) → cells ∷ [] ≡ new ∷ [] → cells ≡ new
same_tags_give a b e = cc

module _ {L : Type 0} (site : Site) (setting : IsSetting (setting_of site)) (env : Env) (st more : State) (goals : GoalsHold more.goals) where
  -- the operation, over values that have their types
  put_fares : (t u w : Ty) (a i v : Value) (at : ℕ) (assignment : List ℤ) (run : Run L) → state_by site (Some at) operation.Store (t ∷ u ∷ w ∷ []) st ≡ Ok more
      → Operands site st env assignment run.store (t ∷ u ∷ w ∷ []) (a ∷ i ∷ v ∷ [])
      → Fares (λ none (new : Run L). Goes site more env assignment run.store new.store) (cell_put a i v run)
  unfolding words_of tags_for cell_put
  put_fares t u w a i v at assignment run is it =
      let types = t ∷ u ∷ w ∷ [] in
      let s = stated_by site (Some at) operation.Store types st more is in
      let r = store_rule (setting_of site) st.ctx.vars types s.by.r s.by.is in
      let known = state_known site setting (Some at) operation.Store types st more it.stands.own it.stands.named it.below is in
      let ruled = (let x : Ruled = record { demands = s.by.r.demands; ctx = more.ctx; types = s.given } in x) in
      let F : Effect Blocks → Type 0 = λ done. sound.Fares (separate no_cells) (setting_of site) operation.Store types run.store assignment st.ctx ruled done in
      let fares = effect_fares site setting env no_cells (Some at) operation.Store types st s.given more s.by assignment run.store (a ∷ i ∷ v ∷ []) it.stands it.stands.holds.fits it.have it.below
      (demands_hold site at s.by.r.demands st assignment (subst GoalsHold s.by.asks goals) it.stands.hold) in
      let p = put_there run.store F (λ bad. bad) v.word a.word i.word fares in
      let have : HaveValues (headers_of run.store) assignment (a ∷ i ∷ v ∷ []) (ty.Array r.element r.count ∷ ty.Int r.index ∷ r.new ∷ []) =
      subst (λ ts. HaveValues (headers_of run.store) assignment (a ∷ i ∷ v ∷ []) ts) r.is it.have in
      let address : p.address ≡ have.0.typed.address = omega (arith, ints, (sym p.named ∙ have.0.typed.is)) in
      let d = descriptor_is p.b (2 * r.element) _ (sym (ap header_in p.there) ∙ ap (λ n. headers_of run.store n) address ∙ have.0.typed.begins) in
      let cell = same_tags_give _ _ (sym ((it.stands.holds.tagged.by p.address p.b p.there).arrays r.element r.packed p.index p.v d r.there p.get) ∙ r.tags) in
      let tag : cell_tag run.store a.word i.word ≡ tag_for r.new =
      ap (λ n. cell_tag run.store n i.word) p.named ∙ ap (λ n. cell_tag run.store (pos p.address) n) p.at ∙ ap (λ o. tag_or (slice_get (cells_found o) p.index)) p.there ∙ ap tag_or p.get ∙ cell in
      let fit : have_tags (a ∷ i ∷ v ∷ []) (Array ∷ Number ∷ cell_tag run.store a.word i.word ∷ []) ≡ true =
      subst (λ g. have_tags (a ∷ i ∷ v ∷ []) (Array ∷ Number ∷ g ∷ []) ≡ true) (sym tag) (tags_there (headers_of run.store) assignment (a ∷ i ∷ v ∷ []) (ty.Array r.element r.count ∷ ty.Int r.index ∷ r.new ∷ []) have) in
      let wrote = subst F p.puts fares in
      let goes = goes_with site env st more assignment wrote.written.own run.store _ it.stands known.grown known.named wrote.written.grows.one_each wrote.written.grows.hold
      (record { keeps = λ block header e. wrote.keeps.keeps block header e })
      (record { fits = wrote.fits; tagged = written_tagged site.table run.store p.address p.index v.word it.stands.holds.tagged }) in
      subst (λ b. Fares (λ none (new : Run L). Goes site more env assignment run.store new.store) (cell_put_if b a i v run)) (sym fit)
      (subst (λ done. Fares (λ none (new : Run L). Goes site more env assignment run.store new.store) (all_of [] run done)) (sym p.puts) (record { is = goes }))
    where
      cells_found : Option Block → List Value
      cells_found None = []
      cells_found (Some b) = b.cells

module _ {L : Type 0} (site : Site) (setting : IsSetting (setting_of site)) (recorder : Recorder L) (call : Calls L) (calls : CallsFare site.table site.sigs call) (fun bound : ℕ) (place : Place)
    (env : Env) (st more : State) (assignment : List ℤ) (run : Run L) (stands : Stands site st env assignment run.store) (goals : GoalsHold more.goals) where
  pub store_fares : (array index e : core.Expr) (at : ℕ) → store site array index e at st ≡ Ok more
      → Fares (Leaves site more (length env) assignment run.store) (statement recorder call fun bound place (core.Store array index e at) env run)
  unfolding store statement goes_behind goes_on
  store_fares array index e at is =
      let s = then_ok (operand site array st) _ more is in
      let t = s.value.0 in
      let one = s.value.1 in
      let k = then_ok (operand site index one) _ more s.second in
      let u = k.value.0 in
      let two = k.value.1 in
      let n = then_ok (operand site e two) _ more k.second in
      let w = n.value.0 in
      let three = n.value.1 in
      let hold = grown_goals three more (state_grown site (Some at) operation.Store (t ∷ u ∷ w ∷ []) three more n.second) goals in
      let later = expression_grown site e two w three n.first in
      let onward = expression_grown site index one u two k.first in
      let hold_two = grown_goals two three later hold in
      fares_then (value call env array run) _ (value_fares site setting call calls env array st t one s.first (grown_goals one two onward hold_two) assignment run stands)
      (λ p g. fares_then (value call env index p.1) _ (value_fares site setting call calls env index one u two k.first hold_two g.goes.given p.1 g.goes.stands)
      (λ q h. fares_then (value call env e q.1) _ (value_fares site setting call calls env e two w three n.first hold h.goes.given q.1 h.goes.stands)
      (λ r f.
      let both = more_operands site env one two g.goes.given p.1.store q.1.store (t ∷ []) (p.0 ∷ []) u q.0 onward.later.vars (one_operand site env one assignment run.store p.1.store t p.0 g) h in
      let it = more_operands site env two three h.goes.given q.1.store r.1.store (t ∷ u ∷ []) (p.0 ∷ q.0 ∷ []) w r.0 later.later.vars both f in
      let middle = goes_behind site env one two assignment run.store p.1.store q.1.store g.goes h.goes in
      let last = goes_behind site env two three assignment run.store q.1.store r.1.store middle f.goes in
      fares_then (cell_put p.0 q.0 r.0 r.1) _ (put_fares site setting env three more goals t u w p.0 q.0 r.0 at f.goes.given r.1 n.second it)
      (λ d c. record { is = (goes_behind site env three more assignment run.store r.1.store d.1.store last c, refl) }))))
