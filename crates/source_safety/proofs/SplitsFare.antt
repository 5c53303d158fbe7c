-- A split of a tuple goes well: the variables have the values of its parts.
use Rattle.std.proofs.Common.{◌≡◌, ◌∙◌, ℕ, ◌+◌, ◌*◌, ◌<◌, ℤ, pos, negsuc, List, [], ◌∷◌, ◌++◌, length, Bool as Truth, true, false, Option, Some, None, Ok, refl, sym, ap, subst, arith}
use Rattle.std.specs.Prelude.{slice_get, nat_le}
use Rattle.std.specs.List.{All}
use Rattle.std.proofs.lemmas.Int.{ints}
use Rattle.std.proofs.lemmas.List.Elements.{All-nil}
use Rattle.xan_lin.specs.Value.{Holds}
use Rattle.index_sorts.specs.Entails.{AllHold}
use Rattle.state_types.specs.Words.{cell_count}
use Rattle.state_types.specs.declared.types.Ty.{Ty}
use Rattle.state_types.specs.declared.types.Ty.TheVariants as ty
use Rattle.state_types.proofs.Thens.{then_ok, ok_same}
use Rattle.operation_rules.specs.Applied.{Ruled}
use Rattle.operation_rules.specs.Effects.{Effect, Writes, Ends, splits, splits_block, splits_if, splits_cells, cells_from}
use Rattle.operation_rules.specs.Sound as sound
use Rattle.operation_rules.specs.Sound.{IsSetting}
use Rattle.operation_rules.specs.declared.operation.Operation.TheVariants as operation
use Rattle.operation_rules.proofs.RuleFacts.{parts_of}
use Rattle.xan_io.specs.Outcome.{Stuck}
use Rattle.xanadu_tree.specs.Plain as core
use Rattle.typed_core.specs.Constructs.{setting_of, types_by}
use Rattle.typed_core.specs.Growth.{NamesSoFar}
use Rattle.typed_core.specs.Operands.{operand}
use Rattle.typed_core.specs.SourceOperands.{no_cells, value}
use Rattle.typed_core.specs.SourceRuns.{Run, Env, Place, Recorder, Calls, all_of}
use Rattle.typed_core.specs.SourceStatements.{statement, parts_read, parts_if, set_all}
use Rattle.typed_core.specs.SourceValues.{Tuple, Value, Block, Blocks, words_of, have_tags, header_in, separate, cells_of, tags_of}
use Rattle.typed_core.specs.States.{Site, State, as_tuple, given}
use Rattle.typed_core.specs.Statements.{split, all_given}
use Rattle.typed_core.proofs.GrownContexts.{types_by_goes}
use Rattle.typed_core.proofs.NamedStates.{answered, Typed, typed_on, types_by_stays}
use Rattle.source_safety.specs.Values.{headers_of, HaveValues, tags_for}
use Rattle.source_safety.specs.Standing.{GoalsHold, Stands, Goes, GiveAll, CallsFare, Fares, Leaves, Operands}
use Rattle.source_safety.proofs.BlockRules.{split_rule}
use Rattle.source_safety.proofs.BlocksFare.{descriptor_is}
use Rattle.source_safety.proofs.Demanded.{acts_by}
use Rattle.source_safety.proofs.EffectsFare.{tags_there, effect_fares}
use Rattle.source_safety.proofs.ExpressionsFare.{value_fares, grown_goals, one_operand}
use Rattle.source_safety.proofs.FaredOn.{fares_then, goes_on, goes_behind, goes_with, keeps_all}
use Rattle.source_safety.proofs.PartsSet.{tagged_have, parts_set}
use Rattle.source_safety.proofs.RuleTags.{given_tags}
use Rattle.source_safety.proofs.SimpleStatements.{given_is}

-- no goals are made where variables are given types
pub given_goals : (xs : List ℕ) (ts : List Ty) (st more : State) → all_given xs ts st ≡ Ok more → more.goals ≡ st.goals
unfolding all_given
given_goals [] [] st more e = ap (λ (s : State). s.goals) (sym (ok_same st more e))
given_goals [] (t ∷ ts) st more e = absurd (let bad : ⊥ = cc in bad)
given_goals (x ∷ xs) [] st more e = absurd (let bad : ⊥ = cc in bad)
given_goals (x ∷ xs) (t ∷ ts) st more e =
    let s = then_ok (given x t st) _ more e in
    given_goals xs ts s.value more s.second ∙ ap (λ (m : State). m.goals) (sym (given_is x t st s.value s.first))

-- a split that is not stuck is of a block that is there, and leaves the store as it is
record SplitsBlock (store : Blocks) (a : ℤ) (count : ℕ) : Type 0 where
  address : ℕ
  b : Block
  words : List ℤ
  named : a ≡ pos address
  there : slice_get store.blocks address ≡ Some b
  splits_are : splits (separate no_cells) a count store ≡ Writes words store

module _ (store : Blocks) (count : ℕ) (F : Effect Blocks → Type 0) (alive : F (Ends Stuck) → ⊥) where
  cells_split : (address : ℕ) (o : Option (List ℤ)) → F (splits_cells (separate no_cells) o store) → (words : List ℤ) × (splits_cells (separate no_cells) o store ≡ Writes words store)
  cells_split address None f = absurd (alive f)
  cells_split address (Some words) f = (words, refl)

  enough_split : (address : ℕ) (enough : Truth) → F (splits_if (separate no_cells) enough address count store)
      → (words : List ℤ) × (splits_if (separate no_cells) enough address count store ≡ Writes words store)
  enough_split address true f = cells_split address (cells_from (separate no_cells) store address 0 count) f
  enough_split address false f = absurd (alive f)

  block_split : (address : ℕ) (o : Option Block) → slice_get store.blocks address ≡ o → F (splits_block (separate no_cells) (header_in o) address count store) → SplitsBlock store (pos address) count
  block_split address None e f = absurd (alive f)
  block_split address (Some b) e f =
      let w = enough_split address (nat_le count (cell_count (pos (length b.cells)))) f in
      record {
        address = address;
        b = b;
        words = w.0;
        named = refl;
        there = e;
        splits_are = ap (λ o. splits_block (separate no_cells) (header_in o) address count store) e ∙ w.1;
      }

  split_there : (a : ℤ) → F (splits (separate no_cells) a count store) → SplitsBlock store a count
  split_there (pos address) f = block_split address (slice_get store.blocks address) refl f
  split_there (negsuc n) f = absurd (alive f)

module _ {L : Type 0} (site : Site) (setting : IsSetting (setting_of site)) (env : Env) where
  read_fares : (number count : ℕ) (t : Ty) (v : Value) (st : State) (given : List Ty) (more : State) (assignment : List ℤ) (run : Run L)
      → types_by site None (operation.Untuple number count) (t ∷ []) st ≡ Ok (given, more) → Operands site st env assignment run.store (t ∷ []) (v ∷ [])
      → Fares (λ vs (new : Run L). GiveAll site more env assignment run.store given vs new.store) (parts_read count v run)
  unfolding words_of tags_for parts_read goes_with
  read_fares number count t v st given more assignment run is it =
      let types = t ∷ [] in
      let o = operation.Untuple number count in
      let by = acts_by site None o types st given more is in
      let r = split_rule (setting_of site) st.ctx.vars types by.r number count by.is in
      let typed : Typed site.own.vars st = record { own_vars = it.stands.own; types = it.stands.named.types } in
      let went = answered (types_by site None o types st) (given, more) (types_by_stays site setting.table None o types st it.stands.own it.below) is in
      let onward = answered (types_by site None o types st) (given, more) (types_by_goes site None o types st) is in
      let named : NamesSoFar more = record { rows = onward.named setting.table it.stands.named.rows; types = (typed_on site.own.vars st more went.0 typed).types } in
      let F : Effect Blocks → Type 0 = λ done. sound.Fares (separate no_cells) (setting_of site) o types run.store assignment st.ctx (let x : Ruled = record { demands = by.r.demands; ctx = more.ctx; types = given } in x) done in
      let fares = effect_fares site setting env no_cells None o types st given more by assignment run.store (v ∷ []) it.stands it.stands.holds.fits it.have it.below
      (subst (λ rows. AllHold assignment rows) (sym r.free) (All-nil (Holds assignment))) in
      let p = split_there run.store count F (λ bad. bad) v.word fares in
      let have : HaveValues (headers_of run.store) assignment (v ∷ []) (ty.Named number ∷ []) = subst (λ ts. HaveValues (headers_of run.store) assignment (v ∷ []) ts) r.is it.have in
      let block = have.0.typed.1 in
      let address : p.address ≡ block.address = omega (arith, ints, (sym p.named ∙ block.is)) in
      let d = descriptor_is p.b (2 * number + 1) _ (sym (ap header_in p.there) ∙ ap (λ n. headers_of run.store n) address ∙ block.begins) in
      let tags : tags_of (cells_of run.store v.word) ≡ tags_for given =
      ap (λ n. tags_of (cells_of run.store n)) p.named ∙ ap (λ b. tags_of (found b)) p.there ∙ (it.stands.holds.tagged.by p.address p.b p.there).tuples number r.packed d r.there
      ∙ given_tags (tags_for r.packed.parts) by.r.given given r.makes (parts_of by.r st.ctx _ by.does).given in
      let fit : have_tags (v ∷ []) (Tuple ∷ []) ≡ true = tags_there (headers_of run.store) assignment (v ∷ []) (ty.Named number ∷ []) have in
      let wrote = subst F p.splits_are fares in
      let goes = goes_with site env st more assignment wrote.written.own run.store run.store it.stands onward.grown named wrote.written.grows.one_each wrote.written.grows.hold
      (keeps_all (headers_of run.store)) it.stands.holds in
      subst (λ b. Fares (λ vs (new : Run L). GiveAll site more env assignment run.store given vs new.store) (parts_if b count v run)) (sym fit)
      (subst (λ done. Fares (λ vs (new : Run L). GiveAll site more env assignment run.store given vs new.store) (all_of (tags_of (cells_of run.store v.word)) run done)) (sym p.splits_are)
      (record {
        is = record {
          goes = goes;
          have = tagged_have (headers_of run.store) (assignment ++ wrote.written.own) (tags_of (cells_of run.store v.word)) p.words given tags wrote.written.typed;
          below = went.1;
        };
      }))
    where
      found : Option Block → List Value
      found None = []
      found (Some b) = b.cells

module _ {L : Type 0} (site : Site) (setting : IsSetting (setting_of site)) (recorder : Recorder L) (call : Calls L) (calls : CallsFare site.table site.sigs call) (fun bound : ℕ) (place : Place)
    (env : Env) (st more : State) (assignment : List ℤ) (run : Run L) (stands : Stands site st env assignment run.store) (goals : GoalsHold more.goals) where
  pub split_fares : (xs : List ℕ) (e : core.Expr) (at : ℕ) → All (λ x. x < length env) xs → split site xs e st ≡ Ok more
      → Fares (Leaves site more (length env) assignment run.store) (statement recorder call fun bound place (core.Split xs e at) env run)
  unfolding split statement goes_behind goes_on
  split_fares xs e at within is =
      let s = then_ok (operand site e st) _ more is in
      let t = s.value.0 in
      let one = s.value.1 in
      let n = then_ok (as_tuple t) _ more s.second in
      let o = operation.Untuple n.value (length xs) in
      let k = then_ok (types_by site None o (t ∷ []) one) _ more n.second in
      let two = k.value.1 in
      let onward = answered (types_by site None o (t ∷ []) one) k.value (types_by_goes site None o (t ∷ []) one) k.first in
      let hold = grown_goals one two onward.grown (subst GoalsHold (given_goals xs k.value.0 two more k.second) goals) in
      fares_then (value call env e run) _ (value_fares site setting call calls env e st t one s.first hold assignment run stands)
      (λ p g. fares_then (parts_read (length xs) p.0 p.1) _
      (read_fares site setting env n.value (length xs) t p.0 one k.value.0 two g.goes.given p.1 k.first (one_operand site env one assignment run.store p.1.store t p.0 g))
      (λ q h.
      let whole = goes_behind site env one two assignment run.store p.1.store q.1.store g.goes h.goes in
      fares_then (set_all env xs q.0 q.1) _ (parts_set site h.goes.given xs k.value.0 q.0 env two more q.1 k.second within h.goes.stands h.have h.below)
      (λ r d. record {
        is = (
          subst (λ (z : Run L). Goes site more r.0 assignment run.store z.store) d.1
              (record { given = whole.given; front = whole.front; stands = d.0.0; keeps = whole.keeps }),
          d.0.1,
        );
      })))
