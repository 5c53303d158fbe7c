-- New arrays, new tuples and writes of cells go well.
use Rattle.std.proofs.Common.{◌≡◌, ℕ, zero, suc, ◌+◌, ◌*◌, ◌<◌, ℤ, pos, negsuc, ◌-ℤ◌, ◌≤ℤ◌, List, [], ◌∷◌, length, replicate, Bool as Truth, true, false, Ok, Option, Some, refl, sym, ◌∙◌, ap, subst, arith, inl, inr}
use Rattle.std.specs.Prelude.{slice_get}
use Rattle.std.proofs.lemmas.Int.{ints}
use Rattle.std.proofs.lemmas.List.{length-replicate}
use Rattle.std.proofs.lemmas.List.Elements.{All-head, All-tail}
use Rattle.std.proofs.lemmas.Slice.Zip.{AllZip-long}
use Rattle.index_sorts.specs.Context.{IndexContext}
use Rattle.index_sorts.specs.Entails.{AllHold}
use Rattle.xan_lin.specs.Linear.{Linear}
use Rattle.xan_lin.specs.Value.{value_of, Holds}
use Rattle.state_types.specs.Words.{Header, HasType, IsBlock, cell_count}
use Rattle.state_types.specs.declared.closed.Packed.{Packed}
use Rattle.state_types.specs.declared.types.Ty.{Ty}
use Rattle.state_types.specs.declared.types.Ty.TheVariants as ty
use Rattle.state_types.proofs.Thens.{then_ok, ok_same}
use Rattle.operation_rules.specs.Applied.{Ruled}
use Rattle.operation_rules.specs.Effects.{Stores, Effect, cells_from, index_within, puts_at, puts_into, puts, makes_equal, makes_array, makes_tuple, effect}
use Rattle.operation_rules.specs.Faults.{needed}
use Rattle.xan_lin.specs.Linear.{excess_of}
use Rattle.operation_rules.specs.Operations.{Store, New, Tuple}
use Rattle.operation_rules.specs.Rules.{Setting, Rule, gives, two_types, three_types, as_number, as_array, tuple_at, cell_at, of_kinds, matching_packed, stored, allocated, constructed, rule}
use Rattle.operation_rules.specs.Sound.{Fares, Goes}
use Rattle.operation_rules.specs.Stored.{IsWritten, IsMade, Packs}
use Rattle.operation_rules.proofs.BlocksFound.{within_is, array_at, index_by, cell_closed, tuple_closed, packs_of}
use Rattle.operation_rules.proofs.BlocksRead.{InBounds, bounds_hold}
use Rattle.operation_rules.proofs.RuleFacts.{Meets, meets_gives, needed_ok}
use Rattle.operation_rules.proofs.StoresGrown.{packs_stay, cells_read, made_fits, written_keeps, written_fits}
use Rattle.operation_rules.proofs.WordsRead.{two_types_is, three_types_is, as_number_is, as_array_is, with_two_is, with_three_is, Acts, written_by}

replicate_get : (n j : ℕ) (x : ℤ) → j < n → slice_get (replicate n x) j ≡ Some x
replicate_get zero j x h = absurd (omega arith)
replicate_get (suc n) zero x h = refl
replicate_get (suc n) (suc j) x h = replicate_get n j x (omega arith)

module _ {S : Type 0} (stores : Stores S) (st : Setting) (store : S) (assignment : List ℤ) (ctx : IndexContext) where
  -- ---- arrays

  array_made : (types : List Ty) (words : List ℤ) (r : Rule) (ruled : Ruled) (p n : ℕ) (e : Linear) (demands : List Linear) (packed : Packed) (fill : ℤ) (new : S) (address : ℕ)
      → Acts stores st store assignment ctx types words r ruled → gives demands (ty.Array p e ∷ []) ≡ r → cell_at st.table p ≡ Ok packed
      → Packs (stores.headers store) packed (fill ∷ []) → pos n ≡ value_of assignment e → IsMade stores store (2 * p) (replicate n fill) address new
      → Goes stores st store assignment ctx ruled (pos address ∷ []) new
  array_made types words r ruled p n e demands packed fill new address acts is there packs count made =
      let many : length (replicate n fill) ≡ n = length-replicate n fill in
      let begins : stores.headers new address ≡ Some (record { descriptor = pos (2 * p); cells = value_of assignment e }) =
      made.begins ∙ ap (λ m. let o : Option Header = Some (record { descriptor = pos (2 * p); cells = pos m }) in o) many
      ∙ ap (λ c. let o : Option Header = Some (record { descriptor = pos (2 * p); cells = c }) in o) count in
      let block : IsBlock (stores.headers new) (pos address) (2 * p) (value_of assignment e) = record { address = address; is = refl; begins = begins } in
      let now = packs_stay (stores.headers store) (stores.headers new) packed (fill ∷ []) made.keeps packs in
      record {
        written = written_by stores st store assignment ctx types words (pos address ∷ []) r ruled (stores.headers new) acts
            (subst (λ x. Meets (stores.headers new) assignment x (pos address ∷ [])) is
            (meets_gives (stores.headers new) assignment (pos address ∷ []) demands (ty.Array p e ∷ []) (block, tt)));
        keeps = made.keeps;
        fits = made_fits stores st.table store new (2 * p) address (replicate n fill) acts.fits made (λ header h. inl (record {
          element = p;
          count = n;
          is = ap (λ m. let x : Header = record { descriptor = pos (2 * p); cells = pos m } in x) (sym many) ∙ h;
          packed = packed;
          there = there;
          cells = λ number k. record {
            word = fill;
            there = made.fresh number (subst (λ m. number < m) (sym many) k) ∙ replicate_get n number fill k;
            packs = now;
          };
        }));
      }

  equal_fares : (room : Truth) (types : List Ty) (words : List ℤ) (r : Rule) (ruled : Ruled) (p n : ℕ) (e : Linear) (demands : List Linear) (packed : Packed) (fill : ℤ)
      → Acts stores st store assignment ctx types words r ruled → gives demands (ty.Array p e ∷ []) ≡ r → cell_at st.table p ≡ Ok packed
      → Packs (stores.headers store) packed (fill ∷ []) → pos n ≡ value_of assignment e
      → Fares stores st (New p) types store assignment ctx ruled (makes_equal stores room (2 * p) n fill store)
  equal_fares true types words r ruled p n e demands packed fill acts is there packs count =
      array_made types words r ruled p n e demands packed fill (stores.made store (2 * p) (replicate n fill)).1 (stores.made store (2 * p) (replicate n fill)).0 acts is there packs count
      (acts.laws.makes store (2 * p) (replicate n fill) acts.fits.whole)
  equal_fares false types words r ruled p n e demands packed fill acts is there packs count = tt

  array_fares : (types : List Ty) (words : List ℤ) (r : Rule) (ruled : Ruled) (p : ℕ) (e : Linear) (demands : List Linear) (packed : Packed) (n fill : ℤ)
      → Acts stores st store assignment ctx types words r ruled → gives demands (ty.Array p e ∷ []) ≡ r → cell_at st.table p ≡ Ok packed
      → Packs (stores.headers store) packed (fill ∷ []) → n ≡ value_of assignment e → pos 0 ≤ℤ n
      → Fares stores st (New p) types store assignment ctx ruled (makes_array stores p n fill store)
  array_fares types words r ruled p e demands packed (pos n) fill acts is there packs count least =
      equal_fares (stores.room store (n + 2)) types words r ruled p n e demands packed fill acts is there packs count
  array_fares types words r ruled p e demands packed (negsuc n) fill acts is there packs count least = absurd (omega (arith, ints))

  pub new_fares : (p : ℕ) (types : List Ty) (words : List ℤ) (r : Rule) (ruled : Ruled) → Acts stores st store assignment ctx types words r ruled
      → rule st (New p) types ctx.vars ≡ Ok r → Fares stores st (New p) types store assignment ctx ruled (effect stores (New p) words store)
  unfolding rule allocated
  new_fares p types words r ruled acts e =
      let s = then_ok (cell_at st.table p) _ r e in
      let t = then_ok (two_types types) _ r s.second in
      let u = then_ok (as_number t.value.0) _ r t.second in
      let v = then_ok (matching_packed s.value (t.value.1 ∷ [])) _ r u.second in
      let made : gives (u.value ∷ v.value.rows) (ty.Array p u.value ∷ []) ≡ r = ok_same _ r v.second in
      let asked : AllHold assignment (u.value ∷ v.value.rows) = subst (λ (ds : List Linear). AllHold assignment ds) (ap (λ x. x.demands) (sym made)) acts.demands in
      let is : types ≡ ty.Int u.value ∷ t.value.1 ∷ [] = two_types_is types t.value t.first ∙ ap (λ x. x ∷ t.value.1 ∷ []) (as_number_is t.value.0 u.value u.first) in
      with_two_is stores (Fares stores st (New p) types store assignment ctx ruled) (stores.headers store) assignment words types (ty.Int u.value) t.value.1 _ is acts.stands.typed
      (λ n fill x y. array_fares types words r ruled p u.value (u.value ∷ v.value.rows) s.value n fill acts made s.first
      (packs_of (stores.headers store) assignment (fill ∷ []) s.value (t.value.1 ∷ []) v.value v.first (cell_closed st.table p s.value acts.setting.table s.first)
      (All-tail (Holds assignment) u.value v.value.rows asked) (y, tt))
      x (subst (λ m. pos 0 ≤ℤ m) (sym x) (All-head (Holds assignment) u.value v.value.rows asked)))

  -- ---- tuples

  tuple_made : (types : List Ty) (words : List ℤ) (r : Rule) (ruled : Ruled) (number : ℕ) (demands : List Linear) (packed : Packed) (new : S) (address : ℕ)
      → Acts stores st store assignment ctx types words r ruled → gives demands (ty.Named number ∷ []) ≡ r → tuple_at st.table number ≡ Ok packed
      → Packs (stores.headers store) packed words → IsMade stores store (2 * number + 1) words address new
      → Goes stores st store assignment ctx ruled (pos address ∷ []) new
  tuple_made types words r ruled number demands packed new address acts is there packs made =
      let many : length packed.parts ≡ length words = AllZip-long (HasType (stores.headers store) packs.own) words packed.parts packs.fit in
      record {
        written = written_by stores st store assignment ctx types words (pos address ∷ []) r ruled (stores.headers new) acts
            (subst (λ x. Meets (stores.headers new) assignment x (pos address ∷ [])) is
            (meets_gives (stores.headers new) assignment (pos address ∷ []) demands (ty.Named number ∷ [])
            ((pos (length words), record { address = address; is = refl; begins = made.begins }), tt)));
        keeps = made.keeps;
        fits = made_fits stores st.table store new (2 * number + 1) address words acts.fits made (λ header h. inr (record {
          number = number;
          packed = packed;
          there = there;
          is = ap (λ m. let x : Header = record { descriptor = pos (2 * number + 1); cells = pos m } in x) many ∙ h;
          words = words;
          cells = subst (λ m. cells_from stores new address 0 m ≡ Some words) (sym many)
              (cells_read stores new address 0 words (λ j k. ap (λ i. stores.cell new address i) (let e : 0 + j ≡ j = omega arith in e) ∙ made.fresh j k));
          packs = packs_stay (stores.headers store) (stores.headers new) packed words made.keeps packs;
        }));
      }

  room_fares : (room : Truth) (types : List Ty) (words : List ℤ) (r : Rule) (ruled : Ruled) (number : ℕ) (demands : List Linear) (packed : Packed)
      → Acts stores st store assignment ctx types words r ruled → gives demands (ty.Named number ∷ []) ≡ r → tuple_at st.table number ≡ Ok packed
      → Packs (stores.headers store) packed words → Fares stores st (Tuple number) types store assignment ctx ruled (makes_tuple stores room number words store)
  room_fares true types words r ruled number demands packed acts is there packs =
      tuple_made types words r ruled number demands packed (stores.made store (2 * number + 1) words).1 (stores.made store (2 * number + 1) words).0 acts is there packs
      (acts.laws.makes store (2 * number + 1) words acts.fits.whole)
  room_fares false types words r ruled number demands packed acts is there packs = tt

  pub tuple_fares : (number : ℕ) (types : List Ty) (words : List ℤ) (r : Rule) (ruled : Ruled) → Acts stores st store assignment ctx types words r ruled
      → rule st (Tuple number) types ctx.vars ≡ Ok r → Fares stores st (Tuple number) types store assignment ctx ruled (effect stores (Tuple number) words store)
  unfolding rule constructed
  tuple_fares number types words r ruled acts e =
      let s = then_ok (tuple_at st.table number) _ r e in
      let t = then_ok (matching_packed s.value types) _ r s.second in
      let made : gives t.value.rows (ty.Named number ∷ []) ≡ r = ok_same _ r t.second in
      let asked : AllHold assignment t.value.rows = subst (λ (ds : List Linear). AllHold assignment ds) (ap (λ x. x.demands) (sym made)) acts.demands in
      room_fares (stores.room store (length words + 2)) types words r ruled number t.value.rows s.value acts made s.first
      (packs_of (stores.headers store) assignment words s.value types t.value t.first (tuple_closed st.table number s.value acts.setting.table s.first) asked acts.stands.typed)

  -- ---- writes of cells

  put_goes : (types : List Ty) (words : List ℤ) (r : Rule) (ruled : Ruled) (p : ℕ) (e i : Linear) (demands : List Linear) (packed : Packed) (a k word : ℤ)
      → Acts stores st store assignment ctx types words r ruled → gives demands [] ≡ r → cell_at st.table p ≡ Ok packed → InBounds assignment e i
      → IsBlock (stores.headers store) a (2 * p) (value_of assignment e) → k ≡ value_of assignment i → Packs (stores.headers store) packed (word ∷ [])
      → Fares stores st Store types store assignment ctx ruled (puts stores a k word store)
  put_goes types words r ruled p e i demands packed a k word acts is there bounds block same packs =
      let F : Effect S → Type 0 = λ x. Fares stores st Store types store assignment ctx ruled x in
      let it = array_at stores st.table store p block.address (value_of assignment e) acts.fits block.begins in
      let at = index_by it.count k (subst (λ n. pos 0 ≤ℤ n) (sym same) bounds.low)
      (subst (λ n. pos 0 ≤ℤ ((n -ℤ k) -ℤ pos 1)) it.is (subst (λ n. pos 0 ≤ℤ ((value_of assignment e -ℤ n) -ℤ pos 1)) (sym same) bounds.high)) in
      let new = stores.written store block.address at.number word in
      let written : IsWritten stores store block.address at.number word new =
      acts.laws.writes store block.address at.number word _ acts.fits.whole block.begins (subst (λ n. at.number < cell_count n) (sym it.is) at.within) in
      let goes : Goes stores st store assignment ctx ruled [] new = record {
        written = written_by stores st store assignment ctx types words [] r ruled (stores.headers new) acts
            (subst (λ x. Meets (stores.headers new) assignment x []) is (meets_gives (stores.headers new) assignment [] demands [] tt));
        keeps = written_keeps stores store new block.address at.number word written;
        fits = written_fits stores st.table store new block.address at.number word p (value_of assignment e) packed acts.fits written packs there block.begins;
      } in
      subst (λ w. F (puts stores w k word store)) (sym block.is)
      (subst (λ o. F (puts_into stores o block.address k word store)) (sym block.begins)
      (subst (λ n. F (puts_at stores (index_within stores n k) block.address word store)) (sym it.is)
      (subst (λ j. F (puts_at stores (index_within stores (pos it.count) j) block.address word store)) (sym at.is)
      (subst (λ o. F (puts_at stores o block.address word store)) (sym (within_is stores it.count at.number at.within)) goes))))

  pub store_fares : (types : List Ty) (words : List ℤ) (r : Rule) (ruled : Ruled) → Acts stores st store assignment ctx types words r ruled
      → rule st Store types ctx.vars ≡ Ok r → Fares stores st Store types store assignment ctx ruled (effect stores Store words store)
  unfolding rule stored
  store_fares types words r ruled acts e =
      let s = then_ok (three_types types) _ r e in
      let t = then_ok (as_array s.value.0) _ r s.second in
      let u = then_ok (as_number s.value.1) _ r t.second in
      let w = then_ok (cell_at st.table t.value.0) _ r u.second in
      let kinds = then_ok (of_kinds w.value.parts (s.value.2 ∷ [])) _ r w.second in
      let v = then_ok (needed (excess_of t.value.1 u.value)) _ r kinds.second in
      let x = then_ok (matching_packed w.value (s.value.2 ∷ [])) _ r v.second in
      let made : gives (u.value ∷ v.value ∷ x.value.rows) [] ≡ r = ok_same _ r x.second in
      let asked : AllHold assignment (u.value ∷ v.value ∷ x.value.rows) = subst (λ (ds : List Linear). AllHold assignment ds) (ap (λ y. y.demands) (sym made)) acts.demands in
      let bounds = bounds_hold assignment t.value.1 u.value v.value x.value.rows (needed_ok (excess_of t.value.1 u.value) v.value v.first) asked in
      let rows = All-tail (Holds assignment) v.value x.value.rows (All-tail (Holds assignment) u.value (v.value ∷ x.value.rows) asked) in
      let is : types ≡ ty.Array t.value.0 t.value.1 ∷ ty.Int u.value ∷ s.value.2 ∷ [] = three_types_is types s.value s.first
      ∙ ap (λ y. y ∷ s.value.1 ∷ s.value.2 ∷ []) (as_array_is s.value.0 t.value t.first)
      ∙ ap (λ y. ty.Array t.value.0 t.value.1 ∷ y ∷ s.value.2 ∷ []) (as_number_is s.value.1 u.value u.first) in
      with_three_is stores (Fares stores st Store types store assignment ctx ruled) (stores.headers store) assignment words types
      (ty.Array t.value.0 t.value.1) (ty.Int u.value) s.value.2 _ is acts.stands.typed
      (λ a k c f g h. put_goes types words r ruled t.value.0 t.value.1 u.value (u.value ∷ v.value ∷ x.value.rows) w.value a k c acts made w.first bounds f g
      (packs_of (stores.headers store) assignment (c ∷ []) w.value (s.value.2 ∷ []) x.value x.first (cell_closed st.table t.value.0 w.value acts.setting.table w.first) rows (h, tt)))
