-- What is read behind the word of an instruction is spelled so, and what is spelled so is read.
use Rattle.std.proofs.Common.{◌≡◌, ℕ, ◌-◌, ◌≤◌, Bool, true, false, nat_lt, FitsSigned, List, [], ◌++◌, length, None, codes, decimal, refl, sym, ap, subst, ◌∙◌, append-nil, arith, inl, inr}
use Rattle.std.specs.Fmt.{signed_decimal}
use Rattle.std.specs.Int.{w64}
use Rattle.std.specs.List.{All}
use Rattle.arrayvec.specs.ArrayVec.{ArrayVec}
use Rattle.xan_lin.specs.Linear.{Linear}
use Rattle.xan_lin.specs.Text.{form_text}
use Rattle.xan_read.specs.Reader.{Reader, Exact}
use Rattle.xan_read.specs.Combinators.{IsMade, after}
use Rattle.xan_read.specs.Numbers.{NoDigit, number}
use Rattle.xan_read.specs.Spelled.{Any, Spelled, IsBetween, Both}
use Rattle.xan_read.specs.Words.{IsWord, word}
use Rattle.xan_read.proofs.ReaderLaws.{exact-made, exact_as, after_other}
use Rattle.xan_read.proofs.SpelledLaws.{spelled_number, spelled_behind}
use Rattle.xan_read.proofs.WordLaws.{exact-word}
use Rattle.xan_io.proofs.ArgumentLaws.{exact-integer64}
use Rattle.proof_lines.proofs.Forms.{Stops}
use Rattle.dtal_code.specs.declared.instruction.Cmp.{Cmp}
use Rattle.dtal_code.specs.declared.instruction.Cmp.TheVariants as cmp
use Rattle.dtal_code.specs.declared.instruction.Op.{Op}
use Rattle.dtal_code.specs.declared.instruction.Op.TheVariants as op
use Rattle.dtal_code.specs.declared.limits.TheConstants.{LAST_NUMBER, MOST_LISTED}
use Rattle.dtal_code.specs.Grammar.{IsNumber, IsTypeNumber, IsFormIn, IsListed, IsOpIn, IsValue, IsEdge, IsWay, is_last}
use Rattle.dtal_code.specs.Spelling.{joined, list_text, truth_text, comparison_text, op_text, has_edge, value_text, edge_text, way_text}
use Rattle.dtal_code.specs.Places.{place_text, IsRegister, IsPlace}
use Rattle.dtal_text.specs.declared.word.OpWord.{OpWord}
use Rattle.dtal_text.specs.declared.word.OpWord.TheVariants as word_of
use Rattle.dtal_text.specs.Places.{register, place}
use Rattle.dtal_text.specs.OperandCode.{listed_places}
use Rattle.dtal_text.specs.OperandReading.{comparisons, truths, integer64, two_of, pair, three, as_array, places, value_from, edge, Way, plain, going, operands}
use Rattle.dtal_text.specs.TypeReading.{whole_form, any_number, type_number}
use Rattle.dtal_text.proofs.ListingLaws.{spelled-bounded, spelled-rising}
use Rattle.dtal_text.proofs.PlaceTexts.{exact-register, exact-place}
use Rattle.dtal_text.proofs.SpelledValues.{joined_by, spelled_two, spelled_made}
use Rattle.dtal_text.proofs.SpelledTypes.{Anything, spelled-number, spelled-type_number, spelled-whole_form}

-- ---- words

abbrev Each : {A : Type 0} → A → Type 0
Each x = Unit {0}

truth_is : (b : Bool) (text : List ℕ) → IsWord truths b text → text ≡ truth_text b
truth_is b text (inl p) = p.1 ∙ ap truth_text (sym p.0)
truth_is b text (inr (inl p)) = p.1 ∙ ap truth_text (sym p.0)
truth_is b text (inr (inr never)) = absurd never

is_truth : (b : Bool) → IsWord truths b (truth_text b)
is_truth false = inl (refl, refl)
is_truth true = inr (inl (refl, refl))

spelled-truth : Exact (word truths) (Spelled Any Each truth_text) Anything
spelled-truth = exact_as _ (IsWord truths) _ Anything Anything (exact-word _ _ refl)
    (λ b text i. record { known = tt; fits = tt; is = truth_is b text i }) (λ b text s. subst (IsWord truths b) (sym s.is) (is_truth b)) (λ _ h. h)

comparison_is : (c : Cmp) (text : List ℕ) → IsWord comparisons c text → text ≡ comparison_text c
comparison_is c text (inl p) = p.1 ∙ ap comparison_text (sym p.0)
comparison_is c text (inr (inl p)) = p.1 ∙ ap comparison_text (sym p.0)
comparison_is c text (inr (inr (inl p))) = p.1 ∙ ap comparison_text (sym p.0)
comparison_is c text (inr (inr (inr (inl p)))) = p.1 ∙ ap comparison_text (sym p.0)
comparison_is c text (inr (inr (inr (inr never)))) = absurd never

is_comparison : (c : Cmp) → IsWord comparisons c (comparison_text c)
is_comparison cmp.Lt = inl (refl, refl)
is_comparison cmp.Le = inr (inl (refl, refl))
is_comparison cmp.Eq = inr (inr (inl (refl, refl)))
is_comparison cmp.Ne = inr (inr (inr (inl (refl, refl))))

spelled-comparison : Exact (word comparisons) (Spelled Any Each comparison_text) Anything
spelled-comparison = exact_as _ (IsWord comparisons) _ Anything Anything (exact-word _ _ refl)
    (λ c text i. record { known = tt; fits = tt; is = comparison_is c text i }) (λ c text s. subst (IsWord comparisons c) (sym s.is) (is_comparison c)) (λ _ h. h)

-- ---- two values with a space between

module _ {A B : Type 0} (p : Reader A) (q : Reader B) (P : A → Type 0) (Q : B → Type 0) (first : A → List ℕ) (second : B → List ℕ) (After : List ℕ → Type 0)
    (one : Exact p (Spelled Any P first) NoDigit) (other : Exact q (Spelled Any Q second) After) where
  spelled_of : Exact (two_of p q) (Spelled Any (Both P Q) (joined_by first (codes " ") second)) After
  spelled_of = spelled_two p (codes " ") q P Q first second NoDigit After one other (λ b rest _ _. refl)

abbrev pair_text : ℕ × ℕ → List ℕ
pair_text = joined_by place_text (codes " ") place_text

abbrev IsPair : ℕ × ℕ → Type 0
IsPair = Both IsRegister IsRegister

spelled-pair : Exact pair (Spelled Any IsPair pair_text) NoDigit
spelled-pair = spelled_of register register IsRegister IsRegister place_text place_text NoDigit exact-register exact-register

abbrev triple_text : ℕ × (ℕ × ℕ) → List ℕ
triple_text = joined_by place_text (codes " ") pair_text

abbrev IsTriple : ℕ × (ℕ × ℕ) → Type 0
IsTriple = Both IsRegister IsPair

spelled-three : Exact three (Spelled Any IsTriple triple_text) NoDigit
spelled-three = spelled_of register pair IsRegister IsPair place_text pair_text NoDigit exact-register spelled-pair

-- ---- lists of places

-- a place begins with its letter
pub place_first : (byte p : ℕ) (rest : List ℕ) → byte ≤ 113 → after byte (place_text p ++ rest) ≡ None
place_first byte p rest low = go (nat_lt p 16) refl
  where
    go : (b : Bool) → nat_lt p 16 ≡ b → after byte (place_text p ++ rest) ≡ None
    go true e = rw e (after_other byte 114 (decimal p ++ rest) (λ c. omega arith))
    go false e = rw e (after_other byte 115 (decimal (p - 16) ++ rest) (λ c. omega arith))

pub place_some : (p : ℕ) → 1 ≤ length (place_text p)
place_some p = go (nat_lt p 16) refl
  where
    go : (b : Bool) → nat_lt p 16 ≡ b → 1 ≤ length (place_text p)
    go true e = rw e (omega arith)
    go false e = rw e (omega arith)

abbrev array_text : ArrayVec ℕ → List ℕ
array_text v = list_text v.items

abbrev ArrayFits : ArrayVec ℕ → Type 0
ArrayFits v = IsListed v.items

abbrev FewPlaces : List ℕ → Type 0
FewPlaces xs = (length xs ≤ MOST_LISTED) × All IsPlace xs

pub spelled-listed : Exact listed_places (Spelled Any FewPlaces (λ xs. joined (codes " ") place_text xs ++ codes ")")) Anything
spelled-listed =
    spelled-bounded 32 41 place IsPlace place_text NoDigit exact-place (λ e. omega arith) (λ p _. place_some p) (λ p rest _. place_first 41 p rest (omega arith)) (λ _. refl) (λ _. refl) MOST_LISTED

spelled-places : Exact places (Spelled Any ArrayFits array_text) Anything
unfolding places
spelled-places = spelled_behind (codes "(") _ Any ArrayFits (λ v. joined (codes " ") place_text v.items ++ codes ")") Anything
    (spelled_made as_array (λ v. v.items) _ FewPlaces ArrayFits (λ xs. joined (codes " ") place_text xs ++ codes ")") (λ v. joined (codes " ") place_text v.items ++ codes ")") Anything
    spelled-listed
    (λ xs h. record { few = h.0; are = h.1 }) (λ v h. (h.few, h.are)) (λ v _. refl) (λ _. refl))

-- ---- edges

spelled-value : (low : ℕ) → low ≤ LAST_NUMBER → Exact (value_from low) (Spelled Any (λ x. (low ≤ x.0) × IsValue x) value_text) Stops
unfolding value_from
spelled-value low few = exact_as _ (Spelled Any (Both (IsBetween low LAST_NUMBER) IsFormIn) (λ x. codes "v" ++ joined_by decimal (codes "=") form_text x)) _ Stops Stops
    (spelled_behind (codes "v") _ _ _ _ Stops
    (spelled_two _ (codes "=") whole_form (IsBetween low LAST_NUMBER) IsFormIn decimal form_text NoDigit Stops (spelled_number low LAST_NUMBER few (omega arith)) spelled-whole_form (λ b rest _ _. refl)))
    (λ x text s. record { known = tt; fits = (s.fits.0.0, (s.fits.0.1, s.fits.1)); is = s.is })
    (λ x text s. record { known = tt; fits = ((s.fits.0, s.fits.1.0), s.fits.1.1); is = s.is }) (λ _ h. h)

spelled-edge : Exact edge (Spelled Any IsEdge edge_text) Anything
unfolding edge
spelled-edge = exact_as _ (Spelled Any _ edge_text) _ Anything Anything
    (spelled_behind (codes "{") _ _ _ (λ xs. joined (codes ",") value_text xs ++ codes "}") Anything
    (spelled-rising 44 125 LAST_NUMBER value_from IsValue value_text Stops spelled-value (λ x h. h.0) (λ e. omega arith) (λ x _. omega arith)
    (λ x rest _. after_other 125 118 _ (λ e. omega arith))
    (λ rest. record { item = refl; list = after_other 118 44 rest (λ e. omega arith) }) (λ rest. record { item = refl; list = after_other 118 125 rest (λ e. omega arith) })))
    (λ xs text s. record { known = tt; fits = record { rise = s.fits.0; are = s.fits.1 }; is = s.is })
    (λ xs text s. record { known = tt; fits = (s.fits.rise, s.fits.are); is = s.is }) (λ _ _. tt)

-- ---- instructions

abbrev IsPlain : {A : Type 0} → (A → Op) → (A → Type 0) → (A → List ℕ) → Way → List ℕ → Type 0
IsPlain make Fits text = IsMade (λ x. (make x, [])) (Spelled Any Fits text)

abbrev IsGoing : {A : Type 0} → (A → Op) → (A → Type 0) → (A → List ℕ) → Way → List ℕ → Type 0
IsGoing make Fits text = IsMade (λ x. (make x.0, x.1)) (Spelled Any (Both Fits IsEdge) (joined_by text (codes " ") edge_text))

abbrev OnThree : (ℕ → ℕ → ℕ → Op) → Way → List ℕ → Type 0
OnThree make = IsPlain (λ x. make x.0 x.1.0 x.1.1) IsTriple triple_text

abbrev label_text : ℕ × ℕ → List ℕ
label_text = joined_by place_text (codes " ") decimal

unfoldable pub IsOperands : OpWord → Way → List ℕ → Type 0
IsOperands word_of.Li = IsPlain (λ x. op.Li x.0 x.1) (Both IsRegister (FitsSigned w64)) (joined_by place_text (codes " ") signed_decimal)
IsOperands word_of.Lb = IsPlain (λ x. op.Lb x.0 x.1) (Both IsRegister Each) (joined_by place_text (codes " ") truth_text)
IsOperands word_of.Mv = IsPlain (λ x. op.Mv x.0 x.1) (Both IsPlace IsPlace) pair_text
IsOperands word_of.Add = OnThree (λ rd ra rb. op.Add rd ra rb)
IsOperands word_of.Sub = OnThree (λ rd ra rb. op.Sub rd ra rb)
IsOperands word_of.Mul = OnThree (λ rd ra rb. op.Mul rd ra rb)
IsOperands word_of.Div = OnThree (λ rd ra rb. op.Div rd ra rb)
IsOperands word_of.Mod = OnThree (λ rd ra rb. op.Mod rd ra rb)
IsOperands word_of.Set = IsPlain (λ x. op.Set x.0 x.1.0 x.1.1.0 x.1.1.1) (Both Each IsTriple) (joined_by comparison_text [] triple_text)
IsOperands word_of.Br = IsGoing (λ x. op.Br x.0 x.1.0.0 x.1.0.1 x.1.1) (Both Each (Both IsPair IsNumber)) (joined_by comparison_text [] (joined_by pair_text (codes " ") decimal))
IsOperands word_of.Bt = IsGoing (λ x. op.Bt x.0 x.1) (Both IsRegister IsNumber) label_text
IsOperands word_of.Bf = IsGoing (λ x. op.Bf x.0 x.1) (Both IsRegister IsNumber) label_text
IsOperands word_of.Jmp = IsGoing (λ label. op.Jmp label) IsNumber decimal
IsOperands word_of.Call = IsPlain (λ x. op.Call x.0 x.1.0 x.1.1) (Both IsNumber (Both IsPlace ArrayFits)) (joined_by decimal (codes " ") (joined_by place_text (codes " ") array_text))
IsOperands word_of.Ret = IsPlain (λ p. op.Ret p) IsPlace place_text
IsOperands word_of.Len = IsPlain (λ x. op.Len x.0 x.1) IsPair pair_text
IsOperands word_of.Ld = OnThree (λ rd ra ri. op.Ld rd ra ri)
IsOperands word_of.St = OnThree (λ ra ri rv. op.St ra ri rv)
IsOperands word_of.New = IsPlain (λ x. op.New x.0 x.1.0 x.1.1.0 x.1.1.1) (Both IsRegister (Both IsTypeNumber IsPair)) (joined_by place_text (codes " ") (joined_by decimal (codes " ") pair_text))
IsOperands word_of.Tup = IsPlain (λ x. op.Tup x.0 x.1.0 x.1.1) (Both IsPlace (Both IsTypeNumber ArrayFits)) (joined_by place_text (codes " ") (joined_by decimal (codes " ") array_text))
IsOperands word_of.Untup = IsPlain (λ x. op.Untup x.0 x.1.0 x.1.1) (Both IsTypeNumber (Both IsPlace ArrayFits)) (joined_by decimal (codes " ") (joined_by place_text (codes " ") array_text))
IsOperands word_of.Print = IsPlain (λ ra. op.Print ra) IsRegister place_text

module _ {A : Type 0} (make : A → Op) (p : Reader A) (Fits : A → Type 0) (text : A → List ℕ) where
  exact-plain : Exact p (Spelled Any Fits text) NoDigit → Exact (plain make p) (IsPlain make Fits text) NoDigit
  exact-plain exact = exact-made (λ x. (make x, [])) p _ NoDigit exact

  exact-closed : Exact p (Spelled Any Fits text) Anything → Exact (plain make p) (IsPlain make Fits text) NoDigit
  exact-closed exact = exact_as _ _ _ Anything NoDigit (exact-made (λ x. (make x, [])) p _ Anything exact) (λ _ _ h. h) (λ _ _ h. h) (λ _ _. tt)

  exact-going : Exact p (Spelled Any Fits text) NoDigit → Exact (going make p) (IsGoing make Fits text) NoDigit
  exact-going exact = exact_as _ _ _ Anything NoDigit
      (exact-made (λ (x : A × List (ℕ × Linear)). (make x.0, x.1)) (two_of p edge) _ Anything (spelled_of p edge Fits IsEdge text edge_text Anything exact spelled-edge)) (λ _ _ h. h) (λ _ _ h. h) (λ _ _. tt)

exact-on_three : (make : ℕ → ℕ → ℕ → Op) → Exact (plain (λ x. make x.0 x.1.0 x.1.1) three) (OnThree make) NoDigit
exact-on_three make = exact-plain (λ x. make x.0 x.1.0 x.1.1) three IsTriple triple_text spelled-three

pub exact-operands : (w : OpWord) → Exact (operands w) (IsOperands w) NoDigit
unfolding operands IsOperands
exact-operands word_of.Li = exact-plain (λ x. op.Li x.0 x.1) _ _ _ (spelled_of register integer64 IsRegister (FitsSigned w64) place_text signed_decimal NoDigit exact-register exact-integer64)
exact-operands word_of.Lb = exact-closed (λ x. op.Lb x.0 x.1) _ _ _ (spelled_of register (word truths) IsRegister Each place_text truth_text Anything exact-register spelled-truth)
exact-operands word_of.Mv = exact-plain (λ x. op.Mv x.0 x.1) _ _ _ (spelled_of place place IsPlace IsPlace place_text place_text NoDigit exact-place exact-place)
exact-operands word_of.Add = exact-on_three (λ rd ra rb. op.Add rd ra rb)
exact-operands word_of.Sub = exact-on_three (λ rd ra rb. op.Sub rd ra rb)
exact-operands word_of.Mul = exact-on_three (λ rd ra rb. op.Mul rd ra rb)
exact-operands word_of.Div = exact-on_three (λ rd ra rb. op.Div rd ra rb)
exact-operands word_of.Mod = exact-on_three (λ rd ra rb. op.Mod rd ra rb)
exact-operands word_of.Set = exact-plain (λ x. op.Set x.0 x.1.0 x.1.1.0 x.1.1.1) _ _ _
    (spelled_two (word comparisons) [] three Each IsTriple comparison_text triple_text Anything NoDigit spelled-comparison spelled-three (λ _ _ _ _. tt))
exact-operands word_of.Br = exact-going (λ x. op.Br x.0 x.1.0.0 x.1.0.1 x.1.1) _ _ _
    (spelled_two (word comparisons) [] _ Each (Both IsPair IsNumber) comparison_text (joined_by pair_text (codes " ") decimal) Anything NoDigit spelled-comparison
    (spelled_of pair any_number IsPair IsNumber pair_text decimal NoDigit spelled-pair spelled-number) (λ _ _ _ _. tt))
exact-operands word_of.Bt = exact-going (λ x. op.Bt x.0 x.1) _ _ _ (spelled_of register any_number IsRegister IsNumber place_text decimal NoDigit exact-register spelled-number)
exact-operands word_of.Bf = exact-going (λ x. op.Bf x.0 x.1) _ _ _ (spelled_of register any_number IsRegister IsNumber place_text decimal NoDigit exact-register spelled-number)
exact-operands word_of.Jmp = exact-going (λ label. op.Jmp label) any_number IsNumber decimal spelled-number
exact-operands word_of.Call = exact-closed (λ x. op.Call x.0 x.1.0 x.1.1) _ _ _
    (spelled_of any_number _ IsNumber (Both IsPlace ArrayFits) decimal (joined_by place_text (codes " ") array_text) Anything spelled-number
    (spelled_of place places IsPlace ArrayFits place_text array_text Anything exact-place spelled-places))
exact-operands word_of.Ret = exact-plain (λ p. op.Ret p) place IsPlace place_text exact-place
exact-operands word_of.Len = exact-plain (λ x. op.Len x.0 x.1) pair IsPair pair_text spelled-pair
exact-operands word_of.Ld = exact-on_three (λ rd ra ri. op.Ld rd ra ri)
exact-operands word_of.St = exact-on_three (λ ra ri rv. op.St ra ri rv)
exact-operands word_of.New = exact-plain (λ x. op.New x.0 x.1.0 x.1.1.0 x.1.1.1) _ _ _
    (spelled_of register _ IsRegister (Both IsTypeNumber IsPair) place_text (joined_by decimal (codes " ") pair_text) NoDigit exact-register
    (spelled_of type_number pair IsTypeNumber IsPair decimal pair_text NoDigit spelled-type_number spelled-pair))
exact-operands word_of.Tup = exact-closed (λ x. op.Tup x.0 x.1.0 x.1.1) _ _ _
    (spelled_of place _ IsPlace (Both IsTypeNumber ArrayFits) place_text (joined_by decimal (codes " ") array_text) Anything exact-place
    (spelled_of type_number places IsTypeNumber ArrayFits decimal array_text Anything spelled-type_number spelled-places))
exact-operands word_of.Untup = exact-closed (λ x. op.Untup x.0 x.1.0 x.1.1) _ _ _
    (spelled_of type_number _ IsTypeNumber (Both IsPlace ArrayFits) decimal (joined_by place_text (codes " ") array_text) Anything spelled-type_number
    (spelled_of place places IsPlace ArrayFits place_text array_text Anything exact-place spelled-places))
exact-operands word_of.Print = exact-plain (λ ra. op.Print ra) register IsRegister place_text exact-register

-- ---- the word and its operands are an instruction

unfoldable pub op_word_text : OpWord → List ℕ
op_word_text word_of.Li = codes "li "
op_word_text word_of.Lb = codes "lb "
op_word_text word_of.Mv = codes "mv "
op_word_text word_of.Add = codes "add "
op_word_text word_of.Sub = codes "sub "
op_word_text word_of.Mul = codes "mul "
op_word_text word_of.Div = codes "div "
op_word_text word_of.Mod = codes "mod "
op_word_text word_of.Set = codes "set "
op_word_text word_of.Br = codes "br "
op_word_text word_of.Bt = codes "bt "
op_word_text word_of.Bf = codes "bf "
op_word_text word_of.Jmp = codes "jmp "
op_word_text word_of.Call = codes "call "
op_word_text word_of.Ret = codes "ret "
op_word_text word_of.Len = codes "len "
op_word_text word_of.Ld = codes "ld "
op_word_text word_of.St = codes "st "
op_word_text word_of.New = codes "new "
op_word_text word_of.Tup = codes "tup "
op_word_text word_of.Untup = codes "untup "
op_word_text word_of.Print = codes "print "

-- a word of a jump or a return
unfoldable pub IsLastWord : OpWord → Type 0
IsLastWord word_of.Jmp = Unit {0}
IsLastWord word_of.Ret = Unit {0}
IsLastWord _ = ⊥

abbrev pub way_of : Way → List ℕ
way_of v = op_text v.0 ++ way_text (has_edge v.0) v.1

pub record IsWayText (w : OpWord) (v : Way) (text : List ℕ) : Type 0 where
  pub fits : IsOpIn v.0
  pub way : IsWay (has_edge v.0) v.1
  pub is : op_word_text w ++ text ≡ way_of v
  pub last : IsLastWord w → is_last v.0 ≡ true

module _ {A : Type 0} (w : OpWord) (make : A → Op) (Fits : A → Type 0) (text : A → List ℕ) (fits : (x : A) → Fits x → IsOpIn (make x))
    (last : (x : A) → IsLastWord w → is_last (make x) ≡ true) where
  plain_line : ((x : A) → op_word_text w ++ text x ≡ op_text (make x)) → ((x : A) → has_edge (make x) ≡ false) → (v : Way) (t : List ℕ) → IsPlain make Fits text v t → IsWayText w v t
  plain_line spells stays v t i = subst (λ (u : Way). IsWayText w u t) (sym i.made) (record {
    fits = fits i.value i.is.fits;
    way = subst (λ (b : Bool). IsWay b []) (sym (stays i.value)) refl;
    is = ap (λ (u : List ℕ). op_word_text w ++ u) i.is.is ∙ spells i.value ∙ sym (append-nil (op_text (make i.value)))
        ∙ ap (λ (b : Bool). op_text (make i.value) ++ way_text b []) (sym (stays i.value));
    last = last i.value;
  })

  going_line : ((x : A) (e : List ℕ) → op_word_text w ++ (text x ++ e) ≡ op_text (make x) ++ e) → ((x : A) → has_edge (make x) ≡ true) → (v : Way) (t : List ℕ) → IsGoing make Fits text v t → IsWayText w v t
  going_line spells goes v t i = subst (λ (u : Way). IsWayText w u t) (sym i.made) (record {
    fits = fits i.value.0 i.is.fits.0;
    way = subst (λ (b : Bool). IsWay b i.value.1) (sym (goes i.value.0)) i.is.fits.1;
    is = ap (λ (u : List ℕ). op_word_text w ++ u) i.is.is ∙ spells i.value.0 (codes " " ++ edge_text i.value.1)
        ∙ ap (λ (b : Bool). op_text (make i.value.0) ++ way_text b i.value.1) (sym (goes i.value.0));
    last = last i.value.0;
  })

pub made_way : (w : OpWord) (v : Way) (text : List ℕ) → IsOperands w v text → IsWayText w v text
unfolding IsOperands op_word_text IsLastWord
made_way word_of.Li v t i = plain_line word_of.Li (λ x. op.Li x.0 x.1) _ _ (λ x h. h) (λ x never. absurd never) (λ x. refl) (λ x. refl) v t i
made_way word_of.Lb v t i = plain_line word_of.Lb (λ x. op.Lb x.0 x.1) _ _ (λ x h. h.0) (λ x never. absurd never) (λ x. refl) (λ x. refl) v t i
made_way word_of.Mv v t i = plain_line word_of.Mv (λ x. op.Mv x.0 x.1) _ _ (λ x h. h) (λ x never. absurd never) (λ x. refl) (λ x. refl) v t i
made_way word_of.Add v t i = plain_line word_of.Add (λ x. op.Add x.0 x.1.0 x.1.1) _ _ (λ x h. (h.0, h.1.0, h.1.1)) (λ x never. absurd never) (λ x. refl) (λ x. refl) v t i
made_way word_of.Sub v t i = plain_line word_of.Sub (λ x. op.Sub x.0 x.1.0 x.1.1) _ _ (λ x h. (h.0, h.1.0, h.1.1)) (λ x never. absurd never) (λ x. refl) (λ x. refl) v t i
made_way word_of.Mul v t i = plain_line word_of.Mul (λ x. op.Mul x.0 x.1.0 x.1.1) _ _ (λ x h. (h.0, h.1.0, h.1.1)) (λ x never. absurd never) (λ x. refl) (λ x. refl) v t i
made_way word_of.Div v t i = plain_line word_of.Div (λ x. op.Div x.0 x.1.0 x.1.1) _ _ (λ x h. (h.0, h.1.0, h.1.1)) (λ x never. absurd never) (λ x. refl) (λ x. refl) v t i
made_way word_of.Mod v t i = plain_line word_of.Mod (λ x. op.Mod x.0 x.1.0 x.1.1) _ _ (λ x h. (h.0, h.1.0, h.1.1)) (λ x never. absurd never) (λ x. refl) (λ x. refl) v t i
made_way word_of.Set v t i = plain_line word_of.Set (λ x. op.Set x.0 x.1.0 x.1.1.0 x.1.1.1) _ _ (λ x h. (h.1.0, h.1.1.0, h.1.1.1)) (λ x never. absurd never) (λ x. refl) (λ x. refl) v t i
made_way word_of.Br v t i = going_line word_of.Br (λ x. op.Br x.0 x.1.0.0 x.1.0.1 x.1.1) _ _ (λ x h. (h.1.0.0, h.1.0.1, h.1.1)) (λ x never. absurd never)
    (λ x e. br_spells (comparison_text x.0) (pair_text x.1.0) (decimal x.1.1) e) (λ x. refl) v t i
  where
    br_spells : (c p l e : List ℕ) → codes "br " ++ ((c ++ (p ++ (codes " " ++ l))) ++ e) ≡ (codes "br " ++ (c ++ (p ++ (codes " " ++ l)))) ++ e
    br_spells c p l e = refl
made_way word_of.Bt v t i = going_line word_of.Bt (λ x. op.Bt x.0 x.1) _ _ (λ x h. h) (λ x never. absurd never) (λ x e. refl) (λ x. refl) v t i
made_way word_of.Bf v t i = going_line word_of.Bf (λ x. op.Bf x.0 x.1) _ _ (λ x h. h) (λ x never. absurd never) (λ x e. refl) (λ x. refl) v t i
made_way word_of.Jmp v t i = going_line word_of.Jmp (λ label. op.Jmp label) _ _ (λ x h. h) (λ x _. refl) (λ x e. refl) (λ x. refl) v t i
made_way word_of.Call v t i = plain_line word_of.Call (λ x. op.Call x.0 x.1.0 x.1.1) _ _ (λ x h. (h.0, h.1.0, h.1.1)) (λ x never. absurd never) (λ x. refl) (λ x. refl) v t i
made_way word_of.Ret v t i = plain_line word_of.Ret (λ p. op.Ret p) _ _ (λ x h. h) (λ x _. refl) (λ x. refl) (λ x. refl) v t i
made_way word_of.Len v t i = plain_line word_of.Len (λ x. op.Len x.0 x.1) _ _ (λ x h. h) (λ x never. absurd never) (λ x. refl) (λ x. refl) v t i
made_way word_of.Ld v t i = plain_line word_of.Ld (λ x. op.Ld x.0 x.1.0 x.1.1) _ _ (λ x h. (h.0, h.1.0, h.1.1)) (λ x never. absurd never) (λ x. refl) (λ x. refl) v t i
made_way word_of.St v t i = plain_line word_of.St (λ x. op.St x.0 x.1.0 x.1.1) _ _ (λ x h. (h.0, h.1.0, h.1.1)) (λ x never. absurd never) (λ x. refl) (λ x. refl) v t i
made_way word_of.New v t i = plain_line word_of.New (λ x. op.New x.0 x.1.0 x.1.1.0 x.1.1.1) _ _ (λ x h. (h.0, h.1.0, h.1.1.0, h.1.1.1)) (λ x never. absurd never) (λ x. refl) (λ x. refl) v t i
made_way word_of.Tup v t i = plain_line word_of.Tup (λ x. op.Tup x.0 x.1.0 x.1.1) _ _ (λ x h. (h.0, h.1.0, h.1.1)) (λ x never. absurd never) (λ x. refl) (λ x. refl) v t i
made_way word_of.Untup v t i = plain_line word_of.Untup (λ x. op.Untup x.0 x.1.0 x.1.1) _ _ (λ x h. (h.0, h.1.0, h.1.1)) (λ x never. absurd never) (λ x. refl) (λ x. refl) v t i
made_way word_of.Print v t i = plain_line word_of.Print (λ ra. op.Print ra) _ _ (λ x h. h) (λ x never. absurd never) (λ x. refl) (λ x. refl) v t i

-- ---- an instruction has a word and operands

pub record HasWord (v : Way) : Type 0 where
  pub kind : OpWord
  pub text : List ℕ
  pub are : IsOperands kind v text
  pub last : is_last v.0 ≡ true → IsLastWord kind

abbrev way : Op → List (ℕ × Linear) → Way
way o values = (o, values)

module _ {A : Type 0} (w : OpWord) (make : A → Op) (Fits : A → Type 0) (text : A → List ℕ) where
  has_plain : (x : A) (values : List (ℕ × Linear)) → Fits x → values ≡ [] → IsPlain make Fits text (way (make x) values) (text x)
  has_plain x values h e = record { value = x; made = ap (way (make x)) e; is = record { known = tt; fits = h; is = refl } }

  has_going : (x : A) (values : List (ℕ × Linear)) → Fits x → IsEdge values → IsGoing make Fits text (way (make x) values) (joined_by text (codes " ") edge_text (x, values))
  has_going x values h e = record { value = (x, values); made = refl; is = record { known = tt; fits = (h, e); is = refl } }

pub has_word : (o : Op) (values : List (ℕ × Linear)) → IsOpIn o → IsWay (has_edge o) values → HasWord (way o values)
unfolding IsOperands IsLastWord
has_word (op.Li rd n) values h e = record { kind = word_of.Li; text = _; are = has_plain word_of.Li (λ x. op.Li x.0 x.1) _ _ (rd, n) values h e; last = λ never. absurd cc }
has_word (op.Lb rd b) values h e = record { kind = word_of.Lb; text = _; are = has_plain word_of.Lb (λ x. op.Lb x.0 x.1) _ _ (rd, b) values (h, tt) e; last = λ never. absurd cc }
has_word (op.Mv p q) values h e = record { kind = word_of.Mv; text = _; are = has_plain word_of.Mv (λ x. op.Mv x.0 x.1) _ _ (p, q) values h e; last = λ never. absurd cc }
has_word (op.Add rd ra rb) values h e = record { kind = word_of.Add; text = _; are = has_plain word_of.Add (λ x. op.Add x.0 x.1.0 x.1.1) _ _ (rd, (ra, rb)) values (h.0, (h.1, h.2)) e; last = λ never. absurd cc }
has_word (op.Sub rd ra rb) values h e = record { kind = word_of.Sub; text = _; are = has_plain word_of.Sub (λ x. op.Sub x.0 x.1.0 x.1.1) _ _ (rd, (ra, rb)) values (h.0, (h.1, h.2)) e; last = λ never. absurd cc }
has_word (op.Mul rd ra rb) values h e = record { kind = word_of.Mul; text = _; are = has_plain word_of.Mul (λ x. op.Mul x.0 x.1.0 x.1.1) _ _ (rd, (ra, rb)) values (h.0, (h.1, h.2)) e; last = λ never. absurd cc }
has_word (op.Div rd ra rb) values h e = record { kind = word_of.Div; text = _; are = has_plain word_of.Div (λ x. op.Div x.0 x.1.0 x.1.1) _ _ (rd, (ra, rb)) values (h.0, (h.1, h.2)) e; last = λ never. absurd cc }
has_word (op.Mod rd ra rb) values h e = record { kind = word_of.Mod; text = _; are = has_plain word_of.Mod (λ x. op.Mod x.0 x.1.0 x.1.1) _ _ (rd, (ra, rb)) values (h.0, (h.1, h.2)) e; last = λ never. absurd cc }
has_word (op.Set c rd ra rb) values h e = record { kind = word_of.Set; text = _; are = has_plain word_of.Set (λ x. op.Set x.0 x.1.0 x.1.1.0 x.1.1.1) _ _ (c, (rd, (ra, rb))) values (tt, (h.0, (h.1, h.2))) e; last = λ never. absurd cc }
has_word (op.Br c ra rb label) values h e = record { kind = word_of.Br; text = _; are = has_going word_of.Br (λ x. op.Br x.0 x.1.0.0 x.1.0.1 x.1.1) _ _ (c, ((ra, rb), label)) values (tt, ((h.0, h.1), h.2)) e; last = λ never. absurd cc }
has_word (op.Bt ra label) values h e = record { kind = word_of.Bt; text = _; are = has_going word_of.Bt (λ x. op.Bt x.0 x.1) _ _ (ra, label) values h e; last = λ never. absurd cc }
has_word (op.Bf ra label) values h e = record { kind = word_of.Bf; text = _; are = has_going word_of.Bf (λ x. op.Bf x.0 x.1) _ _ (ra, label) values h e; last = λ never. absurd cc }
has_word (op.Jmp label) values h e = record { kind = word_of.Jmp; text = _; are = has_going word_of.Jmp (λ l. op.Jmp l) _ _ label values h e; last = λ _. tt }
has_word (op.Call fun p args) values h e = record { kind = word_of.Call; text = _; are = has_plain word_of.Call (λ x. op.Call x.0 x.1.0 x.1.1) _ _ (fun, (p, args)) values (h.0, (h.1, h.2)) e; last = λ never. absurd cc }
has_word (op.Ret p) values h e = record { kind = word_of.Ret; text = _; are = has_plain word_of.Ret (λ q. op.Ret q) _ _ p values h e; last = λ _. tt }
has_word (op.Len rd ra) values h e = record { kind = word_of.Len; text = _; are = has_plain word_of.Len (λ x. op.Len x.0 x.1) _ _ (rd, ra) values h e; last = λ never. absurd cc }
has_word (op.Ld rd ra ri) values h e = record { kind = word_of.Ld; text = _; are = has_plain word_of.Ld (λ x. op.Ld x.0 x.1.0 x.1.1) _ _ (rd, (ra, ri)) values (h.0, (h.1, h.2)) e; last = λ never. absurd cc }
has_word (op.St ra ri rv) values h e = record { kind = word_of.St; text = _; are = has_plain word_of.St (λ x. op.St x.0 x.1.0 x.1.1) _ _ (ra, (ri, rv)) values (h.0, (h.1, h.2)) e; last = λ never. absurd cc }
has_word (op.New rd cells rn rv) values h e = record { kind = word_of.New; text = _; are = has_plain word_of.New (λ x. op.New x.0 x.1.0 x.1.1.0 x.1.1.1) _ _ (rd, (cells, (rn, rv))) values (h.0, (h.1, (h.2, h.3))) e; last = λ never. absurd cc }
has_word (op.Tup p number parts) values h e = record { kind = word_of.Tup; text = _; are = has_plain word_of.Tup (λ x. op.Tup x.0 x.1.0 x.1.1) _ _ (p, (number, parts)) values (h.0, (h.1, h.2)) e; last = λ never. absurd cc }
has_word (op.Untup number q parts) values h e = record { kind = word_of.Untup; text = _; are = has_plain word_of.Untup (λ x. op.Untup x.0 x.1.0 x.1.1) _ _ (number, (q, parts)) values (h.0, (h.1, h.2)) e; last = λ never. absurd cc }
has_word (op.Print ra) values h e = record { kind = word_of.Print; text = _; are = has_plain word_of.Print (λ r. op.Print r) _ _ ra values h e; last = λ never. absurd cc }
