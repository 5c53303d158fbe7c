-- Values that have the tags that are asked, and their words.
use Rattle.std.proofs.Common.{◌≡◌, ◌∙◌, ℕ, ℤ, List, [], ◌∷◌, Bool as Flag, true, false, cond, refl, sym, subst}
use Rattle.std.specs.List.{AllZip}
use Rattle.operation_rules.specs.Effects.{Effect, effect}
use Rattle.operation_rules.specs.FlatWords.{Flat, flat_words}
use Rattle.operation_rules.specs.declared.operation.Operation.{Operation}
use Rattle.typed_core.specs.SourceValues.{Tag, Number, Truth, Array, Tuple, Value, Blocks, same_tag, have_tags}
use Rattle.lowering_simulation.proofs.EffectsAlike.{AlikeWord}
use Rattle.lowering_simulation.proofs.WordsFit.{Fits, FitsTag, IsAddress, IsTruth}

same_is : (a b : Tag) → same_tag a b ≡ true → a ≡ b
same_is Number Number e = refl
same_is Truth Truth e = refl
same_is Array Array e = refl
same_is Tuple Tuple e = refl
same_is Number Truth e = cc
same_is Number Array e = cc
same_is Number Tuple e = cc
same_is Truth Number e = cc
same_is Truth Array e = cc
same_is Truth Tuple e = cc
same_is Array Number e = cc
same_is Array Truth e = cc
same_is Array Tuple e = cc
same_is Tuple Number e = cc
same_is Tuple Truth e = cc
same_is Tuple Array e = cc

first_asked : (v : Value) (vs : List Value) (t : Tag) (ts : List Tag) (b : Flag) → same_tag v.tag t ≡ b → have_tags (v ∷ vs) (t ∷ ts) ≡ cond b (have_tags vs ts) false
unfolding have_tags
first_asked v vs t ts true e = rw e refl
first_asked v vs t ts false e = rw e refl

pub tags_asked : (v : Value) (vs : List Value) (t : Tag) (ts : List Tag) → have_tags (v ∷ vs) (t ∷ ts) ≡ true → (v.tag ≡ t) × (have_tags vs ts ≡ true)
tags_asked v vs t ts e = by (same_tag v.tag t) refl
  where
    by : (b : Flag) → same_tag v.tag t ≡ b → (v.tag ≡ t) × (have_tags vs ts ≡ true)
    by true s = (same_is v.tag t s, sym (first_asked v vs t ts true s) ∙ e)
    by false s = (let bad : false ≡ true = sym (first_asked v vs t ts false s) ∙ e in let no : ⊥ = cc in absurd no)

-- ---- their words

module _ (ns : List ℕ) (v : Value) (w : ℤ) (fits : Fits ns v w) where
  pub number_word : v.tag ≡ Number → w ≡ v.word
  number_word e = subst (λ t. FitsTag ns t v.word w) e fits.is

  pub truth_of : v.tag ≡ Truth → IsTruth v.word w
  truth_of e = subst (λ t. FitsTag ns t v.word w) e fits.is

  pub array_address : v.tag ≡ Array → IsAddress ns v.word w
  array_address e = subst (λ t. FitsTag ns t v.word w) e fits.is

  pub tuple_address : v.tag ≡ Tuple → IsAddress ns v.word w
  tuple_address e = subst (λ t. FitsTag ns t v.word w) e fits.is

-- ---- one word, and two

module _ (ns : List ℕ) (gives : Tag) (store : Blocks) (flat : Flat) (one : Effect Blocks) (o : Operation) where
  pub alike_none : AlikeWord gives store one (effect flat_words o [] flat) → (words : List ℤ) → AllZip (Fits ns) [] words → AlikeWord gives store one (effect flat_words o words flat)
  alike_none h [] all = h
  alike_none h (x ∷ ws) all = absurd all

  pub alike_one : (a : Value) → ((x : ℤ) → Fits ns a x → AlikeWord gives store one (effect flat_words o (x ∷ []) flat)) → (words : List ℤ) → AllZip (Fits ns) (a ∷ []) words
      → AlikeWord gives store one (effect flat_words o words flat)
  alike_one a h [] all = absurd all
  alike_one a h (x ∷ []) all = h x all.0
  alike_one a h (x ∷ y ∷ ws) all = absurd all.1

  pub alike_two : (a b : Value) → ((x y : ℤ) → Fits ns a x → Fits ns b y → AlikeWord gives store one (effect flat_words o (x ∷ y ∷ []) flat)) → (words : List ℤ)
      → AllZip (Fits ns) (a ∷ b ∷ []) words → AlikeWord gives store one (effect flat_words o words flat)
  alike_two a b h [] all = absurd all
  alike_two a b h (x ∷ []) all = absurd all.1
  alike_two a b h (x ∷ y ∷ []) all = h x y all.0 all.1.0
  alike_two a b h (x ∷ y ∷ z ∷ ws) all = absurd all.1.1
