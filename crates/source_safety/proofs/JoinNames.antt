-- What a join states names index variables so far.
use Rattle.std.proofs.Common.{◌≡◌, ℕ, ◌+◌, ◌≤◌, List, [], ◌∷◌, ◌++◌, length, length-append, Bool as Truth, true, false, Some, Ok, sym, ap, subst, arith}
use Rattle.std.specs.List.{All}
use Rattle.std.proofs.lemmas.List.Elements.{All-nil, All-head, All-tail, All-push}
use Rattle.xan_lin.specs.Linear.{Linear, NamesBelow, variable_form}
use Rattle.state_types.specs.Naming.{ValuesBelow}
use Rattle.state_types.specs.PlaceTypes.{with_type}
use Rattle.state_types.specs.Types.{TypeBelow}
use Rattle.state_types.specs.declared.state.StateType.{StateType}
use Rattle.state_types.specs.declared.types.Ty.{Ty}
use Rattle.state_types.specs.declared.types.Ty.TheVariants as ty
use Rattle.state_types.proofs.FormNames.{below-variable}
use Rattle.operation_rules.specs.Applied.{all_assuming}
use Rattle.operation_rules.specs.Forms.{variables_from}
use Rattle.operation_rules.proofs.RowsNamed.{values-both}
use Rattle.xanadu_tree.specs.declared.stmt.Clause.{Clause}
use Rattle.xanadu_tree.specs.declared.types.CoreTy.{CoreTy}
use Rattle.typed_core.specs.Growth.{NamesSoFar}
use Rattle.typed_core.specs.Joins.{with_index, Renewed, is_renewed, with_entry, renewed, with_types, Joint, joined}
use Rattle.typed_core.specs.States.{Site, State, noting_state}
use Rattle.typed_core.proofs.GrownContexts.{all_add}
use Rattle.typed_core.proofs.GrownJoins.{joined_goes}
use Rattle.typed_core.proofs.NamedJoins.{values_more, typed_with}
use Rattle.typed_core.proofs.NamedStates.{answered, types_more}
use Rattle.source_safety.proofs.JoinParts.{IsJoined, joined_is}
use Rattle.source_safety.proofs.JoinTypes.{renewed_longer, EntryBelow, stated_below}

indexed_under : (n : ℕ) (t : Ty) (form : Linear) → NamesBelow n form → TypeBelow n (with_index t form)
indexed_under n (ty.Int e) form h = h
indexed_under n ty.Bool form h = tt
indexed_under n (ty.Array element e) form h = h
indexed_under n (ty.Named number) form h = tt

module _ (changed : ℕ → Truth) (vars : List (ℕ × CoreTy)) (first n : ℕ) where
  entry_under : (b : Truth) (e : ℕ × Ty) (made : Renewed) → first + length (with_entry b first e made).others ≤ n → TypeBelow n e.1 → All (EntryBelow n) made.types
      → All (EntryBelow n) (with_entry b first e made).types
  entry_under false e made le h all = All-push (EntryBelow n) made.types e all h
  entry_under true e made le h all =
      let many = length-append made.others (e.0 ∷ []) in
      let form = variable_form (first + length made.others) in
      All-push (EntryBelow n) made.types (e.0, with_index e.1 form) all (indexed_under n e.1 form (below-variable n (first + length made.others) (omega (arith, le, many))))

  renewed_under : (entries : List (ℕ × Ty)) (made : Renewed) → first + length (renewed changed vars first entries made).others ≤ n → All (EntryBelow n) entries
      → All (EntryBelow n) made.types → All (EntryBelow n) (renewed changed vars first entries made).types
  unfolding renewed
  renewed_under [] made le entries all = all
  renewed_under (e ∷ es) made le entries all =
      let next = with_entry (is_renewed changed vars e) first e made in
      let long = renewed_longer changed vars first es next in
      let many = ap length long.others.is in
      let parts = length-append next.others long.others.rest in
      renewed_under es next le (All-tail (EntryBelow n) e es entries)
      (entry_under (is_renewed changed vars e) e made (omega (arith, le, many, parts)) (All-head (EntryBelow n) e es entries) all)

all_with : (n : ℕ) (wanted types : List (ℕ × Ty)) → All (EntryBelow n) wanted → All (EntryBelow n) types → All (EntryBelow n) (with_types wanted types)
unfolding with_types
all_with n [] types all others = others
all_with n (w ∷ ws) types all others =
    all_with n ws (with_type w.0 w.1 types) (All-tail (EntryBelow n) w ws all) (typed_with n w.0 w.1 types (All-head (EntryBelow n) w ws all) others)

module _ (site : Site) (clause : Clause) (changed : ℕ → Truth) (before : StateType) (latest : State) (own : site.own.vars ≤ latest.ctx.vars)
    (listed : ValuesBelow latest.ctx.vars latest.naming) (rows : All (NamesBelow latest.ctx.vars) before.ctx.rows) (types : All (EntryBelow latest.ctx.vars) before.places) where
  types_named : (p : Joint × State) → IsJoined site clause changed before latest p → All (EntryBelow p.1.ctx.vars) p.1.types
  unfolding noting_state
  types_named p j =
      let first = latest.ctx.vars in
      let count = clause.quant.count in
      let n = j.known.ctx.vars in
      let kept_vars = (answered (all_assuming j.rows j.fresh.ctx) j.known.ctx (all_add j.rows j.fresh.ctx) j.assumes).vars in
      let wide = j.widens.vars in
      let ids : ValuesBelow n (latest.naming ++ variables_from clause.first first count) =
      values-both n latest.naming clause.first first count (values_more first n latest.naming (omega (arith, kept_vars, wide)) listed) (omega (arith, kept_vars, wide)) in
      let names = subst (ValuesBelow n) (sym j.naming) (subst (λ vs. ValuesBelow n (vs ++ variables_from clause.first first count)) (sym j.widens.naming) ids) in
      let wanted = stated_below n site.own.vars j.known.naming (omega (arith, own, kept_vars, wide)) names clause.vars [] j.wanted j.states (All-nil (EntryBelow n)) in
      let kept = subst (λ (k : Renewed). (first + count) + length k.others ≤ n → All (EntryBelow n) k.types) j.keeps
      (λ le. renewed_under changed clause.vars (first + count) n before.places (record { types = []; others = [] }) le (types_more first n before.places (omega (arith, kept_vars, wide)) types)
      (All-nil (EntryBelow n)))
      (omega (arith, kept_vars, wide)) in
      subst (λ (q : Joint × State). All (EntryBelow q.1.ctx.vars) q.1.types) j.is (all_with n j.wanted j.kept.types wanted kept)

  pub joined_named : (joint : Joint) (start : State) → joined site clause changed before latest ≡ Ok (joint, start) → NamesSoFar start
  joined_named joint start is =
      let p : Joint × State = (joint, start) in
      let meets = answered (joined site clause changed before latest) p (joined_goes (Unit {0}) site (Some clause) changed before latest (λ u. rows)) is in
      record { rows = meets.named tt; types = types_named p (joined_is site clause changed before latest p is) }
