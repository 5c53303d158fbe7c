-- What is read as types, quantifiers, type lines and signatures is spelled so, and what is spelled so is read.
use Rattle.std.proofs.Common.{◌≡◌, ◌⊎◌, ℕ, suc, ◌≤◌, Bool, true, false, List, [], ◌∷◌, ◌++◌, length, None, codes, decimal, refl, sym, ap, subst, ◌∙◌, append_assoc, append-nil, arith, inl, inr}
use Rattle.std.specs.List.{All}
use Rattle.std.proofs.lemmas.List.Elements.{All-nil, All-cons, All-head}
use Rattle.xan_lin.specs.Linear.{Linear}
use Rattle.xan_lin.specs.Text.{number_text, terms_text, form_text}
use Rattle.xan_lin.specs.declared.term.Term.{Term}
use Rattle.std.proofs.Common.{ℤ, pos, negsuc}
use Rattle.xan_read.specs.Reader.{Reader, Exact}
use Rattle.xan_read.specs.Combinators.{IsGiven, InTurn, IsMade, IsBehind, after}
use Rattle.xan_read.specs.Numbers.{NoDigit, number}
use Rattle.xan_read.specs.Spelled.{Any, Spelled, IsBetween, Both}
use Rattle.xan_read.specs.Words.{IsWord}
use Rattle.xan_read.proofs.ReaderLaws.{given, exact-made, exact-in_turn, exact-behind, exact_as, after_other}
use Rattle.xan_read.proofs.SpelledLaws.{spelled_number, spelled_behind}
use Rattle.xan_read.proofs.WordLaws.{exact-word}
use Rattle.proof_lines.proofs.Forms.{Stops, IsFormLine, spelled-form}
use Rattle.state_types.specs.declared.closed.Packed.{Packed}
use Rattle.state_types.specs.declared.closed.Signature.{Signature}
use Rattle.state_types.specs.declared.types.Ty.{Ty}
use Rattle.state_types.specs.declared.types.Ty.TheVariants as ty
use Rattle.dtal_code.specs.declared.limits.TheConstants.{LAST_NUMBER, LAST_TYPE, MOST_LISTED}
use Rattle.dtal_code.specs.Grammar.{IsNumber, IsTypeNumber, IsFormIn, IsTyIn, IsQuantifier, IsPartCount, IsTypeIn, IsSignature}
use Rattle.dtal_code.specs.Spelling.{each_behind, joined, ty_text, types_text, quantifier_text, kind_text, type_line as type_line_text, signature_text}
use Rattle.dtal_text.specs.declared.word.TyWord.{TyWord}
use Rattle.dtal_text.specs.declared.word.TyWord.TheVariants as ty_word
use Rattle.dtal_text.specs.Chains.{two}
use Rattle.dtal_text.specs.TypeReading.{whole_form, any_number, type_number, ty_words, closed, ty_behind, one_type, types, quantifier, kind_words, parts, packed_of, type_line, signature_of, signature}
use Rattle.dtal_text.proofs.ListingLaws.{spelled-unbounded, spelled-bounded, spelled-some_bounded}
use Rattle.dtal_text.proofs.SpelledValues.{joined_by, spelled_two, spelled_made}

abbrev pub Anything : List ℕ → Type 0
Anything rest = Unit {0}

-- ---- numbers and forms

abbrev up_to : ℕ → ℕ → Type 0
up_to most n = n ≤ most

spelled-up_to : (most : ℕ) → most ≤ 4294967295 → Exact (number 0 most) (Spelled Any (up_to most) decimal) NoDigit
spelled-up_to most few = exact_as _ (Spelled Any (IsBetween 0 most) decimal) _ NoDigit NoDigit (spelled_number 0 most (omega arith) (omega arith))
    (λ n text s. record { known = tt; fits = s.fits.1; is = s.is }) (λ n text s. record { known = tt; fits = (omega arith, s.fits); is = s.is }) (λ _ h. h)

pub spelled-number : Exact any_number (Spelled Any IsNumber decimal) NoDigit
spelled-number = spelled-up_to LAST_NUMBER (omega arith)

pub spelled-type_number : Exact type_number (Spelled Any IsTypeNumber decimal) NoDigit
spelled-type_number = spelled-up_to LAST_TYPE (omega arith)

pub spelled-whole_form : Exact whole_form (Spelled Any IsFormIn form_text) Stops
spelled-whole_form = exact_as _ (Spelled Any IsFormLine form_text) _ Stops Stops spelled-form
    (λ e text s. record { known = tt; fits = record { is_form = s.fits.0; variables = s.fits.1 }; is = s.is })
    (λ e text s. record { known = tt; fits = (s.fits.is_form, s.fits.variables); is = s.is }) (λ _ h. h)

-- a form begins with a sign
pub record SignFirst (text : List ℕ) : Type 0 where
  pub sign : ℕ
  pub rest : List ℕ
  pub is : text ≡ sign ∷ rest
  pub either : (sign ≡ 43) ⊎ (sign ≡ 45)

sign_of_number : (n : ℤ) (back : List ℕ) → SignFirst (number_text n ++ back)
sign_of_number (pos n) back = record { sign = 43; rest = decimal n ++ back; is = refl; either = inl refl }
sign_of_number (negsuc n) back = record { sign = 45; rest = decimal (suc n) ++ back; is = refl; either = inr refl }

pub sign_first : (form : Linear) (back : List ℕ) → SignFirst (form_text form ++ back)
unfolding terms_text
sign_first form back = go form.terms form.constant
  where
    go : (ts : List Term) (n : ℤ) → SignFirst ((terms_text ts ++ number_text n) ++ back)
    go [] n = sign_of_number n back
    go (t ∷ ts) n = subst SignFirst (sym (regroup (number_text t.coef) (codes "v") (decimal t.var) (terms_text ts) (number_text n) back))
        (sign_of_number t.coef (codes "v" ++ (decimal t.var ++ (terms_text ts ++ (number_text n ++ back)))))
      where
        regroup : (a b c d e f : List ℕ) → (((a ++ b ++ c) ++ d) ++ e) ++ f ≡ a ++ (b ++ (c ++ (d ++ (e ++ f))))
        regroup a b c d e f = simp append_assoc refl

-- a byte that is no sign does not come first
pub no_sign : (byte : ℕ) (form : Linear) (back : List ℕ) → (43 ≡ byte → ⊥) → (45 ≡ byte → ⊥) → after byte (form_text form ++ back) ≡ None
no_sign byte form back plus minus =
    let s = sign_first form back in ap (after byte) s.is ∙ after_other byte s.sign s.rest (λ e. differ s.sign e s.either)
  where
    differ : (sign : ℕ) → sign ≡ byte → (sign ≡ 43) ⊎ (sign ≡ 45) → ⊥
    differ sign e (inl f) = plus (sym f ∙ e)
    differ sign e (inr f) = minus (sym f ∙ e)

pub form_some : (form : Linear) → 1 ≤ length (form_text form)
form_some form =
    let s = sign_first form [] in omega (arith, ap length (sym (append-nil (form_text form)) ∙ s.is))

-- ---- types

-- a value and a bracket
module _ {A : Type 0} (p : Reader A) (Fits : A → Type 0) (text : A → List ℕ) (Between : List ℕ → Type 0) (exact : Exact p (Spelled Any Fits text) Between)
    (close : (rest : List ℕ) → Between (41 ∷ rest)) where
  spelled-closed : Exact (closed p) (Spelled Any Fits (λ x. text x ++ codes ")")) Anything
  spelled-closed = exact_as _ (InTurn (Spelled Any Fits text) (λ x. IsBehind (codes ")") (IsGiven x))) _ Anything Anything
      (exact-in_turn _ _ (Spelled Any Fits text) _ Between Anything exact (λ x _ _. exact-behind (codes ")") _ _ Anything (given x Anything))
      (λ x y back rest i _. subst (λ (t : List ℕ). Between (t ++ rest)) (sym i.parts) (close (i.back ++ rest))))
      (λ x t i. record {
        known = tt;
        fits = subst Fits (sym i.second.is.value) i.first.fits;
        is = i.parts ∙ ap (λ (u : List ℕ). i.front ++ u) (i.second.parts ∙ ap (λ (u : List ℕ). 41 ∷ u) i.second.is.nothing)
            ∙ ap (λ (u : List ℕ). u ++ codes ")") i.first.is ∙ ap (λ (y : A). text y ++ codes ")") (sym i.second.is.value);
      })
      (λ x t s. record {
        value = x;
        front = text x;
        back = codes ")";
        first = record { known = tt; fits = s.fits; is = refl };
        second = record { back = []; is = record { value = refl; nothing = refl }; parts = refl };
        parts = s.is;
      }) (λ _ _. tt)

abbrev array_text : ℕ × Linear → List ℕ
array_text = joined_by decimal (codes ",") form_text

abbrev IsBehindTy : TyWord → Ty → List ℕ → Type 0
IsBehindTy ty_word.Int = IsMade (λ form. ty.Int form) (Spelled Any IsFormIn (λ e. form_text e ++ codes ")"))
IsBehindTy ty_word.Bool = IsGiven ty.Bool
IsBehindTy ty_word.Array = IsMade (λ x. ty.Array x.0 x.1) (Spelled Any (Both IsTypeNumber IsFormIn) (λ x. array_text x ++ codes ")"))
IsBehindTy ty_word.Named = IsMade (λ number. ty.Named number) (Spelled Any IsTypeNumber (λ n. decimal n ++ codes ")"))

exact-ty_behind : (w : TyWord) → Exact (ty_behind w) (IsBehindTy w) Anything
unfolding ty_behind
exact-ty_behind ty_word.Int = exact-made (λ form. ty.Int form) _ _ Anything (spelled-closed whole_form IsFormIn form_text Stops spelled-whole_form (λ rest. record { item = refl; list = after_other 118 41 rest (λ e. omega arith) }))
exact-ty_behind ty_word.Bool = given ty.Bool Anything
exact-ty_behind ty_word.Array = exact-made (λ x. ty.Array x.0 x.1) _ _ Anything
    (spelled-closed (two type_number (codes ",") whole_form) (Both IsTypeNumber IsFormIn) array_text Stops
    (spelled_two type_number (codes ",") whole_form IsTypeNumber IsFormIn decimal form_text NoDigit Stops spelled-type_number spelled-whole_form (λ b rest _ _. refl))
    (λ rest. record { item = refl; list = after_other 118 41 rest (λ e. omega arith) }))
exact-ty_behind ty_word.Named = exact-made (λ number. ty.Named number) _ _ Anything (spelled-closed type_number IsTypeNumber decimal NoDigit spelled-type_number (λ rest. refl))

ty_word_text : TyWord → List ℕ
ty_word_text ty_word.Int = codes "int("
ty_word_text ty_word.Bool = codes "bool"
ty_word_text ty_word.Array = codes "arr("
ty_word_text ty_word.Named = codes "tup("

ty_word_is : (w : TyWord) (text : List ℕ) → IsWord ty_words w text → text ≡ ty_word_text w
unfolding ty_word_text
ty_word_is w text (inl p) = p.1 ∙ ap ty_word_text (sym p.0)
ty_word_is w text (inr (inl p)) = p.1 ∙ ap ty_word_text (sym p.0)
ty_word_is w text (inr (inr (inl p))) = p.1 ∙ ap ty_word_text (sym p.0)
ty_word_is w text (inr (inr (inr (inl p)))) = p.1 ∙ ap ty_word_text (sym p.0)
ty_word_is w text (inr (inr (inr (inr never)))) = absurd never

is_ty_word : (w : TyWord) → IsWord ty_words w (ty_word_text w)
unfolding ty_word_text
is_ty_word ty_word.Int = inl (refl, refl)
is_ty_word ty_word.Bool = inr (inl (refl, refl))
is_ty_word ty_word.Array = inr (inr (inl (refl, refl)))
is_ty_word ty_word.Named = inr (inr (inr (inl (refl, refl))))

array_regroup : (a b c : List ℕ) → (a ++ (codes "," ++ b)) ++ c ≡ a ++ (codes "," ++ (b ++ c))
array_regroup a b c = append_assoc a (codes "," ++ b) c

made_ty : (w : TyWord) (t : Ty) (text : List ℕ) → IsBehindTy w t text → Spelled Any IsTyIn ty_text t (ty_word_text w ++ text)
unfolding ty_word_text
made_ty ty_word.Int t text i = record {
  known = tt;
  fits = subst IsTyIn (sym i.made) i.is.fits;
  is = ap (λ (u : List ℕ). codes "int(" ++ u) i.is.is ∙ ap ty_text (sym i.made);
}
made_ty ty_word.Bool t text i = record {
  known = tt;
  fits = subst IsTyIn (sym i.value) tt;
  is = ap (λ (u : List ℕ). codes "bool" ++ u) i.nothing ∙ ap ty_text (sym i.value);
}
made_ty ty_word.Array t text i = record {
  known = tt;
  fits = subst IsTyIn (sym i.made) i.is.fits;
  is = ap (λ (u : List ℕ). codes "arr(" ++ u) (i.is.is ∙ array_regroup (decimal i.value.0) (form_text i.value.1) (codes ")")) ∙ ap ty_text (sym i.made);
}
made_ty ty_word.Named t text i = record {
  known = tt;
  fits = subst IsTyIn (sym i.made) i.is.fits;
  is = ap (λ (u : List ℕ). codes "tup(" ++ u) i.is.is ∙ ap ty_text (sym i.made);
}

record HasTyWord (t : Ty) : Type 0 where
  kind : TyWord
  text : List ℕ
  are : IsBehindTy kind t text

has_ty_word : (t : Ty) → IsTyIn t → HasTyWord t
has_ty_word (ty.Int e) h = record { kind = ty_word.Int; text = form_text e ++ codes ")"; are = record { value = e; made = refl; is = record { known = tt; fits = h; is = refl } } }
has_ty_word ty.Bool h = record { kind = ty_word.Bool; text = []; are = record { value = refl; nothing = refl } }
has_ty_word (ty.Array p e) h = record { kind = ty_word.Array; text = array_text (p, e) ++ codes ")"; are = record { value = (p, e); made = refl; is = record { known = tt; fits = h; is = refl } } }
has_ty_word (ty.Named p) h = record { kind = ty_word.Named; text = decimal p ++ codes ")"; are = record { value = p; made = refl; is = record { known = tt; fits = h; is = refl } } }

pub spelled-type : Exact one_type (Spelled Any IsTyIn ty_text) Anything
unfolding one_type
spelled-type = exact_as _ (InTurn (IsWord ty_words) IsBehindTy) _ Anything Anything
    (exact-in_turn _ _ (IsWord ty_words) IsBehindTy Anything Anything (exact-word _ _ refl) (λ w _ _. exact-ty_behind w) (λ _ _ _ _ _ _. tt))
    (λ t text i. let m = made_ty i.value t i.back i.second in
    record { known = tt; fits = m.fits; is = i.parts ∙ ap (λ (u : List ℕ). u ++ i.back) (ty_word_is i.value i.front i.first) ∙ m.is })
    (λ t text s. (let w = has_ty_word t s.fits in
    record { value = w.kind; front = ty_word_text w.kind; back = w.text; first = is_ty_word w.kind; second = w.are; parts = s.is ∙ sym (made_ty w.kind t w.text w.are).is }))
    (λ _ _. tt)

-- a type begins with none of the marks
pub type_first : (byte : ℕ) (t : Ty) (rest : List ℕ) → byte ≤ 96 → after byte (ty_text t ++ rest) ≡ None
type_first byte (ty.Int e) rest low = after_other byte 105 _ (λ e. omega arith)
type_first byte ty.Bool rest low = after_other byte 98 _ (λ e. omega arith)
type_first byte (ty.Array p e) rest low = after_other byte 97 _ (λ e. omega arith)
type_first byte (ty.Named p) rest low = after_other byte 116 _ (λ e. omega arith)

pub type_some : (t : Ty) → 1 ≤ length (ty_text t)
type_some (ty.Int e) = omega arith
type_some ty.Bool = omega arith
type_some (ty.Array p e) = omega arith
type_some (ty.Named p) = omega arith

abbrev FewTypes : List Ty → Type 0
FewTypes all = (length all ≤ MOST_LISTED) × All IsTyIn all

pub spelled-types : Exact types (Spelled Any FewTypes (λ all. types_text all ++ codes ")")) Anything
unfolding types
spelled-types = spelled-bounded 32 41 one_type IsTyIn ty_text Anything spelled-type (λ e. omega arith) (λ t _. type_some t) (λ t rest _. type_first 41 t rest (omega arith)) (λ _. tt) (λ _. tt) MOST_LISTED

-- ---- quantifiers

abbrev rows_text : List Linear → List ℕ
rows_text rows = joined (codes ";") form_text rows ++ codes "}"

abbrev pub IsQuantified : ℕ × List Linear → Type 0
IsQuantified q = IsQuantifier q.0 q.1

abbrev pub quantified_text : ℕ × List Linear → List ℕ
quantified_text q = quantifier_text q.0 q.1

pub spelled-quantifier : Exact quantifier (Spelled Any IsQuantified quantified_text) Anything
unfolding quantifier
spelled-quantifier = exact_as _ (Spelled Any (Both IsNumber (All IsFormIn)) (λ q. codes "{" ++ joined_by decimal (codes "|") rows_text q)) _ Anything Anything
    (spelled_behind (codes "{") _ _ _ _ Anything
    (spelled_two any_number (codes "|") _ IsNumber (All IsFormIn) decimal rows_text NoDigit Anything spelled-number
    (spelled-unbounded 59 125 whole_form IsFormIn form_text Stops spelled-whole_form (λ e. omega arith) (λ e _. form_some e)
    (λ e rest _. no_sign 125 e rest (λ c. omega arith) (λ c. omega arith))
    (λ rest. record { item = refl; list = after_other 118 59 rest (λ e. omega arith) }) (λ rest. record { item = refl; list = after_other 118 125 rest (λ e. omega arith) }))
    (λ b rest _ _. refl)))
    (λ q text s. record { known = tt; fits = record { few = s.fits.0; are = s.fits.1 }; is = s.is })
    (λ q text s. record { known = tt; fits = (s.fits.few, s.fits.are); is = s.is }) (λ _ _. tt)

-- ---- type lines

kind_is : (tuple : Bool) (text : List ℕ) → IsWord kind_words tuple text → text ≡ kind_text tuple
kind_is tuple text (inl p) = p.1 ∙ ap kind_text (sym p.0)
kind_is tuple text (inr (inl p)) = p.1 ∙ ap kind_text (sym p.0)
kind_is tuple text (inr (inr never)) = absurd never

is_kind : (tuple : Bool) → IsWord kind_words tuple (kind_text tuple)
is_kind true = inl (refl, refl)
is_kind false = inr (inl (refl, refl))

abbrev PartsFit : Bool → List Ty → Type 0
PartsFit tuple all = IsPartCount tuple (length all) × All IsTyIn all

abbrev line_of : List Ty → List ℕ
line_of all = types_text all ++ codes "\n"

exact-parts : (tuple : Bool) → Exact (parts tuple) (Spelled Any (PartsFit tuple) line_of) Anything
unfolding parts each_behind
exact-parts true = exact_as _ (Spelled Any (λ all. (1 ≤ length all) × (length all ≤ MOST_LISTED) × All IsTyIn all) line_of) _ Anything Anything
    (spelled-some_bounded 32 10 one_type IsTyIn ty_text Anything spelled-type (λ e. omega arith) (λ t _. type_some t) (λ t rest _. type_first 10 t rest (omega arith)) (λ _. tt) (λ _. tt) 7)
    (λ all text s. record { known = tt; fits = ((s.fits.0, s.fits.1), s.fits.2); is = s.is })
    (λ all text s. record { known = tt; fits = (s.fits.0.0, s.fits.0.1, s.fits.1); is = s.is }) (λ _ _. tt)
exact-parts false = exact_as _ (InTurn (Spelled Any IsTyIn ty_text) (λ t. IsBehind (codes "\n") (IsGiven (t ∷ [])))) _ Anything Anything
    (exact-in_turn _ _ (Spelled Any IsTyIn ty_text) _ Anything Anything spelled-type (λ t _ _. exact-behind (codes "\n") _ _ Anything (given (t ∷ []) Anything)) (λ _ _ _ _ _ _. tt))
    (λ all text i. subst (λ (ts : List Ty). Spelled Any (PartsFit false) line_of ts text) (sym i.second.is.value) (record {
      known = tt;
      fits = (refl, All-cons IsTyIn i.value [] i.first.fits (All-nil IsTyIn));
      is = i.parts ∙ ap (λ (u : List ℕ). i.front ++ u) (i.second.parts ∙ ap (λ (u : List ℕ). 10 ∷ u) i.second.is.nothing)
          ∙ ap (λ (u : List ℕ). u ++ codes "\n") (i.first.is ∙ sym (one_text i.value));
    }))
    (λ all text s. back all text s.fits.0 s.fits.1 s.is) (λ _ _. tt)
  where
    one_text : (t : Ty) → types_text (t ∷ []) ≡ ty_text t
    one_text t = append-nil (ty_text t)

    back : (all : List Ty) (text : List ℕ) → length all ≡ 1 → All IsTyIn all → text ≡ line_of all → InTurn (Spelled Any IsTyIn ty_text) (λ t. IsBehind (codes "\n") (IsGiven (t ∷ []))) all text
    back [] text one h e = absurd cc
    back (t ∷ []) text one h e = record {
      value = t;
      front = ty_text t;
      back = codes "\n";
      first = record { known = tt; fits = All-head IsTyIn t [] h; is = refl };
      second = record { back = []; is = record { value = refl; nothing = refl }; parts = refl };
      parts = e ∙ ap (λ (u : List ℕ). u ++ codes "\n") (one_text t);
    }
    back (t ∷ u ∷ all) text one h e = absurd (omega (arith, one))

abbrev IsTypeParts : Packed → List ℕ → Type 0
IsTypeParts = InTurn (Spelled Any IsQuantified quantified_text) (λ q. InTurn (IsWord kind_words) (λ tuple. InTurn (Spelled Any (PartsFit tuple) line_of) (λ all. IsGiven (packed_of q tuple all))))

-- behind its first byte
pub record IsTypeLine (packed : Packed) (text : List ℕ) : Type 0 where
  pub fits : IsTypeIn packed
  pub is : 116 ∷ text ≡ type_line_text packed

type_from : (packed : Packed) (text : List ℕ) → IsBehind (codes "ype ") IsTypeParts packed text → IsTypeLine packed text
type_from packed text i = go i.is.second.second
  where
    go : (last : InTurn (Spelled Any (PartsFit i.is.second.value) line_of) (λ all. IsGiven (packed_of i.is.value i.is.second.value all)) packed i.is.second.back) → IsTypeLine packed text
    go last =
        let q = i.is.first in
        let one : IsTypeIn (packed_of i.is.value i.is.second.value last.value) = record { quantifier = q.fits; count = last.first.fits.0; parts = last.first.fits.1 } in
        record {
          fits = subst IsTypeIn (sym last.second.value) one;
          is = ap (λ (u : List ℕ). 116 ∷ u) i.parts
              ∙ ap (λ (u : List ℕ). codes "type " ++ u) (i.is.parts ∙ ap (λ (u : List ℕ). u ++ i.is.back) q.is
              ∙ ap (λ (u : List ℕ). quantified_text i.is.value ++ u) (i.is.second.parts ∙ ap (λ (u : List ℕ). u ++ i.is.second.back) (kind_is i.is.second.value i.is.second.front i.is.second.first)
              ∙ ap (λ (u : List ℕ). kind_text i.is.second.value ++ u) (last.parts ∙ ap (λ (u : List ℕ). last.front ++ u) last.second.nothing ∙ append-nil last.front ∙ last.first.is)))
              ∙ ap type_line_text (sym last.second.value);
        }

type_to : (packed : Packed) (text : List ℕ) → IsTypeLine packed text → IsBehind (codes "ype ") IsTypeParts packed text
type_to packed text l = record {
  back = quantifier_text packed.vars packed.rows ++ (kind_text packed.tuple ++ line_of packed.parts);
  parts = tail_is 116 text (codes "ype " ++ (quantifier_text packed.vars packed.rows ++ (kind_text packed.tuple ++ line_of packed.parts))) l.is;
  is = record {
    value = (packed.vars, packed.rows);
    front = quantifier_text packed.vars packed.rows;
    back = kind_text packed.tuple ++ line_of packed.parts;
    first = record { known = tt; fits = l.fits.quantifier; is = refl };
    parts = refl;
    second = record {
      value = packed.tuple;
      front = kind_text packed.tuple;
      back = line_of packed.parts;
      first = is_kind packed.tuple;
      parts = refl;
      second = record {
        value = packed.parts;
        front = line_of packed.parts;
        back = [];
        first = record { known = tt; fits = (l.fits.count, l.fits.parts); is = refl };
        second = record { value = refl; nothing = refl };
        parts = sym (append-nil (line_of packed.parts));
      };
    };
  };
}
  where
    tail_is : (c : ℕ) (a b : List ℕ) → c ∷ a ≡ c ∷ b → a ≡ b
    tail_is c a b e = cc

pub exact-type_line : Exact type_line IsTypeLine Anything
unfolding type_line
exact-type_line = exact_as _ (IsBehind (codes "ype ") IsTypeParts) _ Anything Anything
    (exact-behind (codes "ype ") _ IsTypeParts Anything
    (exact-in_turn _ _ (Spelled Any IsQuantified quantified_text) _ Anything Anything spelled-quantifier
    (λ q _ _. exact-in_turn _ _ (IsWord kind_words) _ Anything Anything (exact-word _ _ refl)
    (λ tuple _ _. exact-in_turn _ _ (Spelled Any (PartsFit tuple) line_of) _ Anything Anything (exact-parts tuple) (λ all _ _. given (packed_of q tuple all) Anything) (λ _ _ _ _ _ _. tt))
    (λ _ _ _ _ _ _. tt)) (λ _ _ _ _ _ _. tt)))
    type_from type_to (λ _ _. tt)

-- ---- signatures

abbrev closed_types : List Ty → List ℕ
closed_types all = types_text all ++ codes ")"

abbrev last_text : (ℕ × List Linear) × Ty → List ℕ
last_text = joined_by quantified_text (codes " ") ty_text

abbrev back_text : List Ty × ((ℕ × List Linear) × Ty) → List ℕ
back_text = joined_by closed_types (codes " ") last_text

abbrev parts_text : (ℕ × List Linear) × (List Ty × ((ℕ × List Linear) × Ty)) → List ℕ
parts_text = joined_by quantified_text (codes " (") back_text

abbrev PartsIn : (ℕ × List Linear) × (List Ty × ((ℕ × List Linear) × Ty)) → Type 0
PartsIn = Both IsQuantified (Both FewTypes (Both IsQuantified IsTyIn))

abbrev parts_of : Signature → (ℕ × List Linear) × (List Ty × ((ℕ × List Linear) × Ty))
parts_of sig = ((sig.vars, sig.rows), (sig.params, ((sig.result_vars, sig.result_rows), sig.result)))

signature_spells : (x : (ℕ × List Linear) × (List Ty × ((ℕ × List Linear) × Ty))) → parts_text x ≡ signature_text (signature_of x)
signature_spells x = ap (λ (u : List ℕ). quantified_text x.0 ++ (codes " (" ++ u)) (append_assoc (types_text x.1.0) (codes ")") (codes " " ++ last_text x.1.1))

pub spelled-signature : Exact signature (Spelled Any IsSignature signature_text) Anything
unfolding signature
spelled-signature = spelled_made signature_of parts_of _ PartsIn IsSignature parts_text signature_text Anything
    (spelled_two quantifier (codes " (") _ IsQuantified (Both FewTypes (Both IsQuantified IsTyIn)) quantified_text back_text Anything Anything spelled-quantifier
    (spelled_two types (codes " ") _ FewTypes (Both IsQuantified IsTyIn) closed_types last_text Anything Anything spelled-types
    (spelled_two quantifier (codes " ") one_type IsQuantified IsTyIn quantified_text ty_text Anything Anything spelled-quantifier spelled-type (λ _ _ _ _. tt)) (λ _ _ _ _. tt)) (λ _ _ _ _. tt))
    (λ x h. record { quantifier = h.0; few = h.1.0.0; params = h.1.0.1; result_quantifier = h.1.1.0; result = h.1.1.1 })
    (λ sig h. (h.quantifier, ((h.few, h.params), (h.result_quantifier, h.result))))
    (λ sig _. refl) signature_spells
