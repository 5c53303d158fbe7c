-- The types, the signatures and the names of lowered code have texts.
use Rattle.std.proofs.Common.{◌≡◌, ◌≢◌, inl, inr, ℕ, zero, suc, ◌+◌, ◌<◌, ◌≤◌, ℤ, Bool as Truth, true, false, not, ◌||◌, IsTrue, List, [], ◌∷◌, length, map, Option, Some, None, Result, Ok, Err, nat_lt, if◌then◌else◌, slice_get, refl, sym, ap, subst, arith}
use Rattle.std.specs.Prelude.{bytes_eq}
use Rattle.std.specs.List.{All, AllZip, AllByRecursion, list_all, list_any}
use Rattle.std.specs.Option.{option_and_then}
use Rattle.std.specs.Char.{is_ascii_lowercase}
use Rattle.std.proofs.lemmas.Bool.Decides.{nat_tests}
use Rattle.std.proofs.lemmas.Bool.{and_from, and_parts}
use Rattle.std.proofs.lemmas.Slice.Eq.{bytes_eq-Decides}
use Rattle.std.proofs.lemmas.Option.{none-some}
use Rattle.std.proofs.lemmas.List.Elements.{All-nil, All-cons}
use Rattle.xan_lin.specs.Linear.{Linear, sized, are_within}
use Rattle.xan_lin.specs.Terms.{IsRising}
use Rattle.xan_lin.specs.declared.term.Term.{Term}
use Rattle.xan_lin.specs.declared.term.TooLarge.{TooLarge}
use Rattle.xan_lin.specs.declared.term.TooLarge.TheVariants.{Terms, Magnitude}
use Rattle.proof_lines.specs.Spelling.{AreVariables}
use Rattle.state_types.specs.declared.closed.Packed.{Packed}
use Rattle.state_types.specs.declared.closed.Signature.{Signature}
use Rattle.state_types.specs.declared.types.Ty.{Ty}
use Rattle.state_types.proofs.Thens.{then_ok, ok_same}
use Rattle.xanadu_lexer.specs.Rules as lexer
use Rattle.xanadu_lexer.specs.Spelling.{keyword_text}
use Rattle.xanadu_lexer.specs.declared.keyword.Keyword.{Keyword}
use Rattle.xanadu_lexer.specs.declared.keyword.Keyword.TheVariants as keyword
use Rattle.xanadu_tree.specs.declared.linear.Linear.{Linear as Exact}
use Rattle.xanadu_tree.specs.declared.types.CoreTy.{CoreTy}
use Rattle.xanadu_tree.specs.declared.types.CoreTy.TheVariants as core_ty
use Rattle.xanadu_tree.specs.declared.types.Packing.{Packing}
use Rattle.xanadu_tree.specs.BodyRules.{IsType}
use Rattle.xanadu_tree.specs.IndexRules as index
use Rattle.xanadu_tree.specs.IndexRules.{Stretch, Reaches, AreRising}
use Rattle.xanadu_tree.specs.KindRules.{Header, if_tuple, tuple_type}
use Rattle.xanadu_tree.specs.Plain as core
use Rattle.xanadu_tree.specs.Shaped.{IsPacking, IsFunction, HasParts}
use Rattle.typed_core.specs.Forms.{term_of, form_of, type_of}
use Rattle.dtal_code.specs.Grammar.{IsFormIn, IsTyIn, IsPartCount, IsTypeIn, IsSignature}
use Rattle.dtal_code.specs.Lower.{is_small_letter, is_word_byte, keywords, is_lower}
use Rattle.lowered_acceptance.proofs.HeadersDeclared.{element_there}
use Rattle.lowered_acceptance.proofs.TypesDeclared.{IsFormOf, IsTypeOf, IsPackedOf, IsSignatureOf, as_long}

-- ---- forms

rising : (low : ℕ) (ts : List (ℤ × ℕ)) → AreRising low ts → IsRising low (map term_of ts)
rising low [] r = tt
rising low (t ∷ ts) r = (r.0, r.1, rising (suc t.1) ts r.2)

variables : (ts : List (ℤ × ℕ)) (reach : List Stretch) → ((x : ℕ) → Reaches reach x → x ≤ 1024) → AllByRecursion (λ t. Reaches reach t.1) ts → AreVariables (map term_of ts)
variables [] reach bound all = tt
variables (t ∷ ts) reach bound all = (let h = bound t.1 all.0 in omega (arith, h), variables ts reach bound all.1)

-- what is within the bounds
record IsSized (ts : List Term) (constant : ℤ) (form : Linear) : Type 0 where
  few : length ts ≤ 16
  small : are_within ts constant ≡ true
  is : (let f : Linear = record { terms = ts; constant = constant } in f) ≡ form

sized_by : (a b : Truth) (ts : List Term) (constant : ℤ) (form : Linear) → nat_lt 16 (length ts) ≡ a → are_within ts constant ≡ b
    → (let r : Result Linear TooLarge = (if a then Err Terms else if b then Ok (record { terms = ts; constant = constant }) else Err Magnitude) in r) ≡ Ok form → IsSized ts constant form
sized_by true b ts constant form e f g = absurd (let bad : ⊥ = cc in bad)
sized_by false false ts constant form e f g = absurd (let bad : ⊥ = cc in bad)
sized_by false true ts constant form e f g = record { few = grind (arith, nat_tests); small = f; is = ok_same _ form g }

sized_is : (ts : List Term) (constant : ℤ) (form : Linear) → sized ts constant ≡ Ok form → IsSized ts constant form
unfolding sized
sized_is ts constant form e = sized_by (nat_lt 16 (length ts)) (are_within ts constant) ts constant form refl refl e

form_in : (reach : List Stretch) (form : Exact) (made : Linear) → ((x : ℕ) → Reaches reach x → x ≤ 1024) → index.IsForm reach form → IsFormOf form made → IsFormIn made
form_in reach form made bound is e =
    let s = sized_is (map term_of form.terms) form.constant made e in
    let small = and_parts _ _ s.small in
    subst IsFormIn s.is (record {
      is_form = record { rising = rising 0 form.terms is.rising; few = s.few; small = small.0; small_constant = small.1 };
      variables = variables form.terms reach bound is.names;
    })

forms_in : (reach : List Stretch) (forms : List Exact) (made : List Linear) → ((x : ℕ) → Reaches reach x → x ≤ 1024) → AllByRecursion (index.IsForm reach) forms → AllZip IsFormOf forms made
    → All IsFormIn made
forms_in reach [] [] bound is all = All-nil IsFormIn
forms_in reach [] (m ∷ made) bound is all = absurd all
forms_in reach (form ∷ forms) [] bound is all = absurd all
forms_in reach (form ∷ forms) (m ∷ made) bound is all = All-cons IsFormIn m made (form_in reach form m bound is.0 all.0) (forms_in reach forms made bound is.1 all.1)

-- ---- types

module _ (types : List Packing) (rest : List Packed) (each : AllZip IsPackedOf types rest) (few : length types ≤ 1024) where
  number_by : (n : ℕ) (found : Option Packing) (packing : Packing) → slice_get types n ≡ found → option_and_then if_tuple found ≡ Some packing → n < length types
  number_by n None packing is e = absurd (none-some packing e)
  number_by n (Some p) packing is e = there types n p is
    where
      there : {A : Type 0} (xs : List A) (n : ℕ) (x : A) → slice_get xs n ≡ Some x → n < length xs
      there [] n x e = absurd (none-some x e)
      there (y ∷ xs) zero x e = omega arith
      there (y ∷ xs) (suc n) x e = (let h = there xs n x e in omega (arith, h))

  number_in : (number : ℕ) (packing : Packing) → tuple_type types number ≡ Some packing → number ≤ 65535
  number_in zero packing e = omega arith
  number_in (suc zero) packing e = omega arith
  number_in (suc (suc n)) packing e = (let h = number_by n (slice_get types n) packing refl e in omega (arith, h, few))

  type_in : (reach : List Stretch) (t : CoreTy) (u : Ty) → ((x : ℕ) → Reaches reach x → x ≤ 1024) → IsType types reach t → IsTypeOf t u → IsTyIn u
  unfolding type_of
  type_in reach (core_ty.Int form) u bound is e = (let a = then_ok (form_of form) _ u e in subst IsTyIn (ok_same _ u a.second) (form_in reach form a.value bound is a.first))
  type_in reach core_ty.Bool u bound is e = subst IsTyIn (ok_same _ u e) tt
  type_in reach (core_ty.Array element form) u bound is e =
      (let a = then_ok (form_of form) _ u e in
      let below = element_there types rest each element is.0.0 is.0.1 in
      let long = as_long IsPackedOf types rest each in
      let small : element ≤ 65535 = omega (arith, below, long, few) in
      subst IsTyIn (ok_same _ u a.second) (small, form_in reach form a.value bound is.1 a.first))
  type_in reach (core_ty.Named number) u bound is e = subst IsTyIn (ok_same _ u e) (number_in number is.0 is.1)

  types_in : (reach : List Stretch) (ts : List CoreTy) (us : List Ty) → ((x : ℕ) → Reaches reach x → x ≤ 1024) → AllByRecursion (IsType types reach) ts → AllZip IsTypeOf ts us → All IsTyIn us
  types_in reach [] [] bound is all = All-nil IsTyIn
  types_in reach [] (u ∷ us) bound is all = absurd all
  types_in reach (t ∷ ts) [] bound is all = absurd all
  types_in reach (t ∷ ts) (u ∷ us) bound is all = All-cons IsTyIn u us (type_in reach t u bound is.0 all.0) (types_in reach ts us bound is.1 all.1)

  -- ---- closed types

  part_count : (tuple : Truth) (parts : List CoreTy) → HasParts tuple parts → length parts ≤ 8 → IsPartCount tuple (length parts)
  part_count tuple [] has short = absurd has
  part_count true (p ∷ []) has short = (omega arith, omega arith)
  part_count false (p ∷ []) has short = refl
  part_count true (p ∷ q ∷ parts) has short = (omega arith, short)
  part_count false (p ∷ q ∷ parts) has short = absurd (let bad : ⊥ = (let e : false ≡ true = has in cc) in bad)

  closed_in : (packing : Packing) (packed : Packed) → IsPacking types packing → IsPackedOf packing packed → length packing.parts ≤ 8 → IsTypeIn packed
  closed_in packing packed is of short =
      let count = as_long IsTypeOf packing.parts packed.parts of.parts in
      let vars = of.vars in
      let most = of.few_vars in record {
        quantifier = record { few = omega (arith, most); are = forms_in _ packing.quant.rows packed.rows (own_bound packing.quant.count (omega (arith, vars, most))) is.quantified.forms of.rows };
        count = subst (λ n. IsPartCount packed.tuple n) (sym count) (subst (λ t. IsPartCount t (length packing.parts)) (sym of.tuple) (part_count packing.tuple packing.parts is.many short));
        parts = types_in _ packing.parts packed.parts (own_bound packing.quant.count (omega (arith, vars, most))) is.parts of.parts;
      }
    where
      own_bound : (count : ℕ) → count ≤ 1024 → (x : ℕ) → Reaches (record { first = 0; count = count } ∷ []) x → x ≤ 1024
      own_bound count h x (inl r) = (let l = r.1 in omega (arith, l, h))
      own_bound count h x (inr r) = absurd r

  pub all_closed_in : (packings : List Packing) (packs : List Packed) → AllByRecursion (IsPacking types) packings → AllZip IsPackedOf packings packs
      → AllByRecursion (λ (packing : Packing). length packing.parts ≤ 8) packings → All IsTypeIn packs
  all_closed_in [] [] is all short = All-nil IsTypeIn
  all_closed_in [] (packed ∷ packs) is all short = absurd all
  all_closed_in (packing ∷ packings) [] is all short = absurd all
  all_closed_in (packing ∷ packings) (packed ∷ packs) is all short =
      All-cons IsTypeIn packed packs (closed_in packing packed is.0 all.0 short.0) (all_closed_in packings packs is.1 all.1 short.1)

  -- ---- signatures

  pub signature_in : (headers : List Header) (f : core.Fun) (sig : Signature) → IsFunction types headers f → IsSignatureOf f sig → length f.params ≤ 8 → IsSignature sig
  signature_in headers f sig is of short =
      let count = as_long IsTypeOf f.params sig.params of.params in
      let vars = of.vars in
      let result_vars = of.result_vars in
      let most = of.few_vars in
      let own : f.quant.count ≤ 1024 = omega (arith, vars, most) in
      let both : f.quant.count + f.result_quant.count ≤ 1024 = omega (arith, vars, result_vars, most) in record {
        quantifier = record { few = omega (arith, most); are = forms_in _ f.quant.rows sig.rows (own_bound f.quant.count own) is.quantified.forms of.rows };
        few = omega (arith, count, short);
        params = types_in _ f.params sig.params (own_bound f.quant.count own) is.params of.params;
        result_quantifier = record { few = omega (arith, most); are = forms_in _ f.result_quant.rows sig.result_rows (result_bound f.quant.count f.result_quant.count both) is.result_quantified.forms of.result_rows };
        result = type_in _ f.result sig.result (result_bound f.quant.count f.result_quant.count both) is.result of.result;
      }
    where
      own_bound : (count : ℕ) → count ≤ 1024 → (x : ℕ) → Reaches (record { first = 0; count = count } ∷ []) x → x ≤ 1024
      own_bound count h x (inl r) = (let l = r.1 in omega (arith, l, h))
      own_bound count h x (inr r) = absurd r

      result_bound : (count result : ℕ) → count + result ≤ 1024 → (x : ℕ) → Reaches (record { first = count; count = result } ∷ record { first = 0; count = count } ∷ []) x → x ≤ 1024
      result_bound count result h x (inl r) = (let l = r.1 in omega (arith, l, h))
      result_bound count result h x (inr (inl r)) = (let l = r.1 in omega (arith, l, h))
      result_bound count result h x (inr (inr r)) = absurd r

-- ---- names

small_letter : (byte : ℕ) → is_ascii_lowercase byte ≡ true → is_small_letter byte ≡ true
small_letter byte e = e

words : (bytes : List ℕ) → lexer.Each lexer.is_word bytes → list_all is_word_byte bytes ≡ true
words [] all = refl
words (byte ∷ bytes) all = and_from _ _ (word_same byte all.0) (words bytes all.1)
  where
    word_same : (byte : ℕ) → lexer.is_word byte ≡ true → is_word_byte byte ≡ true
    word_same byte e = grind (arith, nat_tests)

other_than : (name word : List ℕ) → name ≢ word → bytes_eq name word ≡ false
other_than name word differ = by_test (bytes_eq name word) refl
  where
    by_test : (t : Truth) → bytes_eq name word ≡ t → t ≡ false
    by_test true e = absurd (differ ((bytes_eq-Decides name word).0 e))
    by_test false e = refl

both_false : (a b : Truth) → a ≡ false → b ≡ false → (a || b) ≡ false
both_false true b e f = e
both_false false b e f = f

no_keyword : (name : List ℕ) → ((word : Keyword) → name ≢ keyword_text word) → list_any (bytes_eq name) keywords ≡ false
no_keyword name other =
    let no = λ (word : Keyword). other_than name (keyword_text word) (other word) in
    both_false _ _ (no keyword.Fun) (both_false _ _ (no keyword.Type) (both_false _ _ (no keyword.Var) (both_false _ _ (no keyword.Let) (both_false _ _ (no keyword.If)
    (both_false _ _ (no keyword.Else) (both_false _ _ (no keyword.Join) (both_false _ _ (no keyword.While) (both_false _ _ (no keyword.With) (both_false _ _ (no keyword.Return)
    (both_false _ _ (no keyword.Print) (both_false _ _ (no keyword.New) (both_false _ _ (no keyword.Len) (both_false _ _ (no keyword.True) (both_false _ _ (no keyword.False)
    (both_false _ _ (no keyword.Int) (both_false _ _ (no keyword.Nat) (both_false _ _ (no keyword.Bool) (both_false _ _ (no keyword.Unit) refl))))))))))))))))))

pub name_in : (name : List ℕ) → lexer.IsLower name → IsTrue (is_lower name)
name_in [] is = absurd is.word
name_in (first ∷ more) is =
    and_from _ _ (and_from _ _ (small_letter first is.word.0) (words more is.word.1)) (ap not (no_keyword (first ∷ more) is.other))
