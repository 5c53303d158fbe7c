-- What the rules of loads, of new blocks and of calls say of types and tags.
use Rattle.std.proofs.Common.{◌≡◌, ◌∙◌, ℕ, List, [], ◌∷◌, ◌++◌, Some, Ok, refl, ap, subst, ◌+◌, length}
use Rattle.std.specs.Prelude.{slice_get}
use Rattle.xan_lin.specs.Linear.{Linear, excess_of}
use Rattle.state_types.specs.Types.{subst_ty}
use Rattle.state_types.specs.declared.closed.Packed.{Packed}
use Rattle.state_types.specs.declared.closed.Signature.{Signature}
use Rattle.state_types.specs.declared.types.Ty.{Ty}
use Rattle.state_types.specs.declared.types.Ty.TheVariants as ty
use Rattle.state_types.proofs.Thens.{then_ok, ok_same}
use Rattle.operation_rules.specs.Faults.{needed, or_fault}
use Rattle.operation_rules.specs.declared.error.Fault.TheVariants.{NoTarget}
use Rattle.operation_rules.specs.Forms.{variables_from}
use Rattle.operation_rules.specs.Rules.{Setting, two_types, as_number, as_array, tuple_at, cell_at, matching, matching_packed, loaded, allocated, constructed, called, rule, returned, stored, split, three_types, one_type, of_kinds, as_many, as_tuple}
use Rattle.operation_rules.specs.declared.operation.Operation.TheVariants as operation
use Rattle.operation_rules.specs.declared.rule.Rule.{Rule}
use Rattle.operation_rules.proofs.RuleFacts.{or_fault_ok}
use Rattle.operation_rules.proofs.WordsRead.{two_types_is, as_number_is, as_array_is, three_types_is, one_type_is}
use Rattle.typed_core.specs.SourceValues.{Array, Tuple}
use Rattle.operation_rules.proofs.BlocksFound.{as_many_is}
use Rattle.operation_rules.proofs.BlocksRead.{as_tuple_is}
use Rattle.source_safety.specs.Values.{tag_for, tags_for}
use Rattle.source_safety.proofs.MatchTags.{matching_tags, shifted_tags, subst_tag, result_tags}
use Rattle.source_safety.proofs.RuleTags.{TagsAre}

pub record LoadRule (table : List Packed) (types : List Ty) (r : Rule) : Type 0 where
  pub element : ℕ
  pub count : Linear
  pub index : Linear
  pub is : types ≡ ty.Array element count ∷ ty.Int index ∷ []
  pub packed : Packed
  pub there : cell_at table element ≡ Ok packed
  pub makes : TagsAre (tags_for packed.parts) r.given

pub record NewRule (table : List Packed) (cells : ℕ) (types : List Ty) (r : Rule) : Type 0 where
  pub count : Linear
  pub fill : Ty
  pub is : types ≡ ty.Int count ∷ fill ∷ []
  pub packed : Packed
  pub there : cell_at table cells ≡ Ok packed
  pub tags : tags_for packed.parts ≡ tag_for fill ∷ []
  pub makes : TagsAre (Array ∷ []) r.given

pub record TupleRule (table : List Packed) (number : ℕ) (types : List Ty) (r : Rule) : Type 0 where
  pub packed : Packed
  pub there : tuple_at table number ≡ Ok packed
  pub tags : tags_for packed.parts ≡ tags_for types
  pub makes : TagsAre (Tuple ∷ []) r.given

pub record CallRule (sigs : List Signature) (fun : ℕ) (types : List Ty) (r : Rule) : Type 0 where
  pub sig : Signature
  pub there : slice_get sigs fun ≡ Some sig
  pub tags : tags_for sig.params ≡ tags_for types
  pub makes : TagsAre (tag_for sig.result ∷ []) r.given

pub record StoreRule (table : List Packed) (types : List Ty) : Type 0 where
  pub element : ℕ
  pub count : Linear
  pub index : Linear
  pub new : Ty
  pub is : types ≡ ty.Array element count ∷ ty.Int index ∷ new ∷ []
  pub packed : Packed
  pub there : cell_at table element ≡ Ok packed
  pub tags : tags_for packed.parts ≡ tag_for new ∷ []

pub record SplitRule (table : List Packed) (number count : ℕ) (types : List Ty) (r : Rule) : Type 0 where
  pub is : types ≡ ty.Named number ∷ []
  pub packed : Packed
  pub there : tuple_at table number ≡ Ok packed
  pub many : length packed.parts ≡ count
  pub free : r.demands ≡ []
  pub makes : TagsAre (tags_for packed.parts) r.given

module _ (st : Setting) (first : ℕ) (types : List Ty) (r : Rule) where
  pub load_rule : rule st operation.Load types first ≡ Ok r → LoadRule st.table types r
  unfolding rule loaded
  load_rule e =
      let s = then_ok (two_types types) _ r e in
      let t = then_ok (as_array s.value.0) _ r s.second in
      let u = then_ok (as_number s.value.1) _ r t.second in
      let v = then_ok (needed (excess_of t.value.1 u.value)) _ r u.second in
      let w = then_ok (cell_at st.table t.value.0) _ r v.second in
      subst (λ x. LoadRule st.table types x) (ok_same _ r w.second) (record {
        element = t.value.0;
        count = t.value.1;
        index = u.value;
        is = two_types_is types s.value s.first ∙ ap (λ x. x ∷ s.value.1 ∷ []) (as_array_is s.value.0 t.value t.first)
            ∙ ap (λ x. ty.Array t.value.0 t.value.1 ∷ x ∷ []) (as_number_is s.value.1 u.value u.first);
        packed = w.value;
        there = w.first;
        makes = shifted_tags first w.value.parts;
      })

  pub new_rule : (cells : ℕ) → rule st (operation.New cells) types first ≡ Ok r → NewRule st.table cells types r
  unfolding rule allocated tags_for
  new_rule cells e =
      let s = then_ok (cell_at st.table cells) _ r e in
      let t = then_ok (two_types types) _ r s.second in
      let u = then_ok (as_number t.value.0) _ r t.second in
      let v = then_ok (matching_packed s.value (t.value.1 ∷ [])) _ r u.second in
      subst (λ x. NewRule st.table cells types x) (ok_same _ r v.second) (record {
        count = u.value;
        fill = t.value.1;
        is = two_types_is types t.value t.first ∙ ap (λ x. x ∷ t.value.1 ∷ []) (as_number_is t.value.0 u.value u.first);
        packed = s.value;
        there = s.first;
        tags = matching_tags 0 s.value.vars s.value.rows s.value.parts (t.value.1 ∷ []) v.value v.first;
        makes = (refl, tt);
      })

  pub tuple_rule : (number : ℕ) → rule st (operation.Tuple number) types first ≡ Ok r → TupleRule st.table number types r
  unfolding rule constructed
  tuple_rule number e =
      let s = then_ok (tuple_at st.table number) _ r e in
      let t = then_ok (matching_packed s.value types) _ r s.second in
      subst (λ x. TupleRule st.table number types x) (ok_same _ r t.second) (record {
        packed = s.value;
        there = s.first;
        tags = matching_tags 0 s.value.vars s.value.rows s.value.parts types t.value t.first;
        makes = (refl, tt);
      })

  pub call_rule : (fun : ℕ) → rule st (operation.Call fun) types first ≡ Ok r → CallRule st.sigs fun types r
  unfolding rule called
  call_rule fun e =
      let s = then_ok (or_fault NoTarget (slice_get st.sigs fun)) _ r e in
      let sig = s.value in
      let t = then_ok (matching 0 sig.vars sig.rows sig.params types) _ r s.second in
      let all = t.value.values ++ variables_from sig.vars first sig.result_vars in
      subst (λ x. CallRule st.sigs fun types x) (ok_same _ r t.second) (record {
        sig = sig;
        there = or_fault_ok NoTarget (slice_get st.sigs fun) sig s.first;
        tags = matching_tags 0 sig.vars sig.rows sig.params types t.value t.first;
        makes = result_tags sig.result (subst_ty all 0 sig.result) (λ u is. subst_tag all 0 sig.result u is);
      })

  -- the value has the tag of the function's result
  pub return_tags : rule st operation.Return types first ≡ Ok r → tags_for (st.own.result ∷ []) ≡ tags_for types
  unfolding rule returned
  return_tags e =
      let own = st.own in
      let s = then_ok (matching own.vars (own.vars + own.result_vars) own.result_rows (own.result ∷ []) types) _ r e in
      matching_tags own.vars (own.vars + own.result_vars) own.result_rows (own.result ∷ []) types s.value s.first

  -- ---- what a cell is given, and the parts of a tuple

  pub store_rule : rule st operation.Store types first ≡ Ok r → StoreRule st.table types
  unfolding rule stored tags_for
  store_rule e =
      let s = then_ok (three_types types) _ r e in
      let t = then_ok (as_array s.value.0) _ r s.second in
      let u = then_ok (as_number s.value.1) _ r t.second in
      let w = then_ok (cell_at st.table t.value.0) _ r u.second in
      let kinds = then_ok (of_kinds w.value.parts (s.value.2 ∷ [])) _ r w.second in
      let v = then_ok (needed (excess_of t.value.1 u.value)) _ r kinds.second in
      let x = then_ok (matching_packed w.value (s.value.2 ∷ [])) _ r v.second in
      record {
        element = t.value.0;
        count = t.value.1;
        index = u.value;
        new = s.value.2;
        is = three_types_is types s.value s.first ∙ ap (λ y. y ∷ s.value.1 ∷ s.value.2 ∷ []) (as_array_is s.value.0 t.value t.first)
            ∙ ap (λ y. ty.Array t.value.0 t.value.1 ∷ y ∷ s.value.2 ∷ []) (as_number_is s.value.1 u.value u.first);
        packed = w.value;
        there = w.first;
        tags = matching_tags 0 w.value.vars w.value.rows w.value.parts (s.value.2 ∷ []) x.value x.first;
      }

  pub split_rule : (number count : ℕ) → rule st (operation.Untuple number count) types first ≡ Ok r → SplitRule st.table number count types r
  unfolding rule split
  split_rule number count e =
      let s = then_ok (tuple_at st.table number) _ r e in
      let t = then_ok (one_type types) _ r s.second in
      let u = then_ok (as_many (length s.value.parts) count) _ r t.second in
      let v = then_ok (as_tuple number t.value) _ r u.second in
      subst (λ x. SplitRule st.table number count types x) (ok_same _ r v.second) (record {
        is = one_type_is types t.value t.first ∙ ap (λ x. x ∷ []) (as_tuple_is number t.value v.value v.first);
        packed = s.value;
        there = s.first;
        many = as_many_is (length s.value.parts) count u.value u.first;
        free = refl;
        makes = shifted_tags first s.value.parts;
      })
