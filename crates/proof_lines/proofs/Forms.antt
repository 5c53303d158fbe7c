-- What is read as a form is spelled so, and what is spelled so is read.
use Rattle.std.proofs.Common.{◌≡◌, ◌≢◌, inl, inr, ℕ, zero, suc, ◌≤◌, ℤ, pos, negsuc, nat_abs, not, Bool, true, false, cond, nat_lt, List, [], ◌∷◌, ◌++◌, length, None, codes, decimal, refl, sym, ap, subst, ◌∙◌, append_assoc, arith}
use Rattle.std.specs.Ordering.{int_eq}
use Rattle.std.proofs.lemmas.List.{append-nil}
use Rattle.std.proofs.lemmas.Bool.Decides.{nat_tests, Decides-int_eq}
use Rattle.xan_lin.specs.Terms.{IsRising}
use Rattle.xan_lin.specs.Linear.{Linear, IsForm, is_within, all_within, bound}
use Rattle.xan_lin.specs.Text.{number_text, term_text, terms_text, form_text}
use Rattle.xan_lin.specs.declared.term.Term.{Term}
use Rattle.xan_read.specs.Reader.{Reader, Exact}
use Rattle.xan_read.specs.Combinators.{give, IsGiven, in_turn, InTurn, WhereComes, where_comes, after}
use Rattle.xan_read.specs.Lists.{Ends}
use Rattle.xan_read.specs.Numbers.{IsNumber, NoDigit, number}
use Rattle.xan_read.specs.Integers.{IsSigned, with_sign, signed}
use Rattle.xan_read.specs.Spelled.{Any, Spelled}
use Rattle.xan_read.proofs.ReaderLaws.{given, passed, exact-in_turn, exact-where_comes, exact_as, after_other}
use Rattle.xan_read.proofs.NumberLaws.{exact-number}
use Rattle.xan_read.proofs.IntegerLaws.{exact-signed}
use Rattle.proof_lines.specs.declared.form_text.Part.{Part}
use Rattle.proof_lines.specs.declared.form_text.Part.TheVariants as part
use Rattle.proof_lines.specs.Spelling.{AreVariables}
use Rattle.proof_lines.specs.Reading.{may_have_variable, term_of, after_number, form_part, with_front, after_part, constant_form, form}
use Rattle.proof_lines.proofs.Proper.{both, join}

-- what may follow a form
abbrev pub Stops : List ℕ → Type 0
Stops = Ends NoDigit 118

abbrev number_of : Reader ℤ
number_of = signed 0 bound

exact-number_of : Exact number_of (IsSigned 0 bound) NoDigit
exact-number_of = exact-signed 0 bound (omega arith) (omega arith) (omega arith)

-- ---- a number, and perhaps its variable

abbrev variable_of : ℤ → ℕ → Reader Part
variable_of z low = in_turn (number low 4294967295) (λ v. give (term_of z v))

abbrev IsVariableOf : ℤ → ℕ → Part → List ℕ → Type 0
IsVariableOf z low = InTurn (IsNumber low 4294967295) (λ v. IsGiven (term_of z v))

abbrev IsAfter : Bool → ℕ → ℤ → Part → List ℕ → Type 0
IsAfter true low z = WhereComes 118 (IsVariableOf z low) (IsGiven (part.Constant z))
IsAfter false low z = IsGiven (part.Constant z)

exact-variable : (z : ℤ) (low : ℕ) → low ≤ 4294967295 → Exact (variable_of z low) (IsVariableOf z low) Stops
exact-variable z low h = exact-in_turn _ _ (IsNumber low 4294967295) (λ v. IsGiven (term_of z v)) NoDigit Stops (exact-number low 4294967295 h (omega arith))
    (λ v _ _. given (term_of z v) Stops) (λ v y back rest g h. passed (term_of z v) y NoDigit back rest g h.item)

exact-after_number : (low : ℕ) (z : ℤ) → Exact (after_number low z) (IsAfter (may_have_variable low z) low z) Stops
unfolding after_number
exact-after_number low z = go (may_have_variable low z) refl
  where
    go : (b : Bool) → may_have_variable low z ≡ b
        → Exact (λ bytes. cond b (where_comes 118 (variable_of z low) (give (part.Constant z)) bytes) (give (part.Constant z) bytes)) (IsAfter b low z) Stops
    go true e =
        let parts = both (not (int_eq z (pos 0))) (nat_lt low 4294967296) e in
        let few : low ≤ 4294967295 = below low parts.1 in
        exact-where_comes 118 (variable_of z low) (give (part.Constant z)) (IsVariableOf z low) (IsGiven (part.Constant z)) Stops Stops
        (exact-variable z low few) (given (part.Constant z) Stops)
        (λ x text rest g h. (h, subst (λ (t : List ℕ). after 118 (t ++ rest) ≡ None) (sym g.nothing) h.list))
      where
        below : (n : ℕ) → nat_lt n 4294967296 ≡ true → n ≤ 4294967295
        below n h = grind (arith, nat_tests)
    go false e = given (part.Constant z) Stops

-- ---- parts

pub record TermAt (low : ℕ) (t : Term) (text : List ℕ) : Type 0 where
  pub nonzero : t.coef ≢ pos 0
  pub small : nat_abs t.coef ≤ bound
  pub at_least : low ≤ t.var
  pub at_most : t.var ≤ 4294967295
  pub is : text ≡ with_sign t.coef ++ (118 ∷ decimal t.var)

abbrev pub IsPart : ℕ → Part → List ℕ → Type 0
IsPart low (part.Term t) text = TermAt low t text
IsPart low (part.Constant z) text = IsSigned 0 bound z text

abbrev IsPartInTurn : ℕ → Part → List ℕ → Type 0
IsPartInTurn low = InTurn (IsSigned 0 bound) (λ z. IsAfter (may_have_variable low z) low z)

follows_number : (b : Bool) (low : ℕ) (z : ℤ) (y : Part) (back rest : List ℕ) → IsAfter b low z y back → Stops rest → NoDigit (back ++ rest)
follows_number true low z y back rest (inl i) h = subst (λ (t : List ℕ). NoDigit (t ++ rest)) (sym i.parts) refl
follows_number true low z y back rest (inr g) h = passed (part.Constant z) y NoDigit back rest g h.item
follows_number false low z y back rest g h = passed (part.Constant z) y NoDigit back rest g h.item

part_from_constant : (low : ℕ) (z : ℤ) (y : Part) (front back text : List ℕ) → IsSigned 0 bound z front → IsGiven (part.Constant z) y back → text ≡ front ++ back → IsPart low y text
part_from_constant low z y front back text i g parts =
    subst (λ (p : Part). IsPart low p text) (sym g.value)
    (subst (IsSigned 0 bound z) (sym (parts ∙ ap (λ (t : List ℕ). front ++ t) g.nothing ∙ append-nil front)) i)

nonzero_from : (z : ℤ) → not (int_eq z (pos 0)) ≡ true → z ≢ pos 0
nonzero_from z e h = let same = (Decides-int_eq z (pos 0)).1 h in absurd (differ (int_eq z (pos 0)) e same)
  where
    differ : (b : Bool) → not b ≡ true → b ≡ true → ⊥
    differ true e f = cc
    differ false e f = cc

nonzero_to : (z : ℤ) → z ≢ pos 0 → not (int_eq z (pos 0)) ≡ true
nonzero_to z h = go (int_eq z (pos 0)) refl
  where
    go : (b : Bool) → int_eq z (pos 0) ≡ b → not b ≡ true
    go true e = absurd (h ((Decides-int_eq z (pos 0)).0 e))
    go false e = refl

part_from : (low : ℕ) (y : Part) (text : List ℕ) → IsPartInTurn low y text → IsPart low y text
part_from low y text i = go (may_have_variable low i.value) refl i.second
  where
    go : (b : Bool) → may_have_variable low i.value ≡ b → IsAfter b low i.value y i.back → IsPart low y text
    go true e (inl v) =
        let number_is = v.is.first in
        let nonzero = nonzero_from i.value (both (not (int_eq i.value (pos 0))) (nat_lt low 4294967296) e).0 in
        subst (λ (p : Part). IsPart low p text) (sym v.is.second.value) (record {
          nonzero = nonzero;
          small = i.first.at_most;
          at_least = number_is.at_least;
          at_most = number_is.at_most;
          is = i.parts ∙ ap (λ (t : List ℕ). t ++ i.back) i.first.is
              ∙ ap (λ (t : List ℕ). with_sign i.value ++ t) (v.parts ∙ ap (λ (t : List ℕ). 118 ∷ t) (v.is.parts ∙ ap (λ (t : List ℕ). v.is.front ++ t) v.is.second.nothing ∙ append-nil v.is.front ∙ number_is.is));
        })
    go true e (inr g) = part_from_constant low i.value y i.front i.back text i.first g i.parts
    go false e g = part_from_constant low i.value y i.front i.back text i.first g i.parts

constant_after : (b : Bool) (low : ℕ) (z : ℤ) → IsAfter b low z (part.Constant z) []
constant_after true low z = inr (record { value = refl; nothing = refl })
constant_after false low z = record { value = refl; nothing = refl }

part_to : (low : ℕ) (y : Part) (text : List ℕ) → IsPart low y text → IsPartInTurn low y text
part_to low (part.Constant z) text i = record {
  value = z;
  front = text;
  back = [];
  first = i;
  second = constant_after (may_have_variable low z) low z;
  parts = sym (append-nil text);
}
part_to low (part.Term t) text p =
    let within : nat_lt low 4294967296 ≡ true = above low t.var p.at_least p.at_most in
    let may : may_have_variable low t.coef ≡ true = join (not (int_eq t.coef (pos 0))) (nat_lt low 4294967296) (nonzero_to t.coef p.nonzero) within in
    record {
      value = t.coef;
      front = with_sign t.coef;
      back = 118 ∷ decimal t.var;
      first = record { at_least = omega arith; at_most = p.small; is = refl };
      second = subst (λ (b : Bool). IsAfter b low t.coef (part.Term t) (118 ∷ decimal t.var)) (sym may) (inl (record {
        back = decimal t.var;
        is = record {
          value = t.var;
          front = decimal t.var;
          back = [];
          first = record { at_least = p.at_least; at_most = p.at_most; is = refl };
          second = record { value = refl; nothing = refl };
          parts = sym (append-nil (decimal t.var));
        };
        parts = refl;
      }));
      parts = p.is;
    }
  where
    above : (m n : ℕ) → m ≤ n → n ≤ 4294967295 → nat_lt m 4294967296 ≡ true
    above m n h k = grind (arith, nat_tests)

exact-form_part : (low : ℕ) → Exact (form_part low) (IsPart low) Stops
unfolding form_part
exact-form_part low = exact_as _ (IsPartInTurn low) (IsPart low) Stops Stops
    (exact-in_turn _ _ (IsSigned 0 bound) (λ z. IsAfter (may_have_variable low z) low z) NoDigit Stops exact-number_of (λ z _ _. exact-after_number low z)
    (λ z y back rest i h. follows_number (may_have_variable low z) low z y back rest i h))
    (part_from low) (part_to low) (λ _ h. h)

-- ---- forms

pub record FormAt (room low : ℕ) (f : Linear) (text : List ℕ) : Type 0 where
  pub rising : IsRising low f.terms
  pub few : length f.terms ≤ room
  pub small : all_within f.terms ≡ true
  pub small_constant : is_within f.constant ≡ true
  pub variables : AreVariables f.terms
  pub is : text ≡ form_text f

same_sign : (z : ℤ) → with_sign z ≡ number_text z
same_sign (pos n) = refl
same_sign (negsuc n) = refl

within_from : (z : ℤ) → nat_abs z ≤ bound → is_within z ≡ true
within_from (pos n) h = grind (arith, nat_tests)
within_from (negsuc n) h = grind (arith, nat_tests)

within_to : (z : ℤ) → is_within z ≡ true → nat_abs z ≤ bound
within_to (pos n) h = grind (arith, nat_tests)
within_to (negsuc n) h = grind (arith, nat_tests)

terms-none : terms_text [] ≡ []
unfolding terms_text
terms-none = refl

terms-cons : (t : Term) (ts : List Term) → terms_text (t ∷ ts) ≡ term_text t ++ terms_text ts
unfolding terms_text
terms-cons t ts = refl

constant-text : (z : ℤ) → with_sign z ≡ form_text (constant_form z)
constant-text z = same_sign z ∙ ap (λ (t : List ℕ). t ++ number_text z) (sym terms-none)

front-text : (t : Term) (f : Linear) → (with_sign t.coef ++ (118 ∷ decimal t.var)) ++ form_text f ≡ form_text (with_front t f)
front-text t f =
    ap (λ (s : List ℕ). (s ++ (118 ∷ decimal t.var)) ++ form_text f) (same_sign t.coef)
    ∙ regroup (number_text t.coef) (decimal t.var) (terms_text f.terms) (number_text f.constant)
    ∙ ap (λ (s : List ℕ). s ++ number_text f.constant) (sym (terms-cons t f.terms))
  where
    regroup : (a b c d : List ℕ) → (a ++ (118 ∷ b)) ++ (c ++ d) ≡ ((a ++ codes "v" ++ b) ++ c) ++ d
    regroup a b c d =
        sym (append_assoc (a ++ (118 ∷ b)) c d) ∙ ap (λ (s : List ℕ). (s ++ c) ++ d) (sym (append_assoc a (codes "v") b))

-- one more part in front
abbrev IsRest : ℕ → Part → Linear → List ℕ → Type 0
IsRest room (part.Term t) = InTurn (FormAt room (suc t.var)) (λ f. IsGiven (with_front t f))
IsRest room (part.Constant z) = IsGiven (constant_form z)

sign_stops : (z : ℤ) (more : List ℕ) → Stops (number_text z ++ more)
sign_stops (pos n) more = record { item = refl; list = after_other 118 43 (decimal n ++ more) (λ e. omega arith) }
sign_stops (negsuc n) more = record { item = refl; list = after_other 118 45 (decimal (suc n) ++ more) (λ e. omega arith) }

-- a form begins with a sign
form_stops : (ts : List Term) (z : ℤ) (more : List ℕ) → Stops ((terms_text ts ++ number_text z) ++ more)
form_stops [] z more = subst (λ (t : List ℕ). Stops ((t ++ number_text z) ++ more)) (sym terms-none) (sign_stops z more)
form_stops (t ∷ ts) z more =
    subst Stops (sym (ap (λ (s : List ℕ). (s ++ number_text z) ++ more) (terms-cons t ts) ∙ regroup (number_text t.coef) (decimal t.var) (terms_text ts) (number_text z) more))
    (sign_stops t.coef ((codes "v" ++ decimal t.var) ++ (terms_text ts ++ (number_text z ++ more))))
  where
    regroup : (a b c d e : List ℕ) → ((((a ++ codes "v") ++ b) ++ c) ++ d) ++ e ≡ a ++ ((codes "v" ++ b) ++ (c ++ (d ++ e)))
    regroup a b c d e =
        append_assoc (((a ++ codes "v") ++ b) ++ c) d e ∙ append_assoc ((a ++ codes "v") ++ b) c (d ++ e)
        ∙ ap (λ (s : List ℕ). s ++ (c ++ (d ++ e))) (append_assoc a (codes "v") b) ∙ append_assoc a (codes "v" ++ b) (c ++ (d ++ e))

rest_stops : (room : ℕ) (p : Part) (y : Linear) (back rest : List ℕ) → IsRest room p y back → Stops rest → Stops (back ++ rest)
rest_stops room (part.Term t) y back rest i h =
    subst (λ (s : List ℕ). Stops (s ++ rest)) (sym (i.parts ∙ ap (λ (s : List ℕ). i.front ++ s) i.second.nothing ∙ append-nil i.front ∙ i.first.is))
    (form_stops i.value.terms i.value.constant rest)
rest_stops room (part.Constant z) y back rest g h = passed (constant_form z) y Stops back rest g h

constant_at : (room low : ℕ) (z : ℤ) (text : List ℕ) → IsSigned 0 bound z text → FormAt room low (constant_form z) text
constant_at room low z text i = record {
  rising = tt;
  few = omega arith;
  small = refl;
  small_constant = within_from z i.at_most;
  variables = tt;
  is = i.is ∙ constant-text z;
}

form_from : (room low : ℕ) (p : Part) (y : Linear) (front back text : List ℕ) → IsPart low p front → IsRest room p y back → text ≡ front ++ back → FormAt (suc room) low y text
form_from room low (part.Constant z) y front back text i g parts =
    subst (λ (f : Linear). FormAt (suc room) low f text) (sym g.value)
    (constant_at (suc room) low z text (subst (IsSigned 0 bound z) (sym (parts ∙ ap (λ (t : List ℕ). front ++ t) g.nothing ∙ append-nil front)) i))
form_from room low (part.Term t) y front back text p i parts =
    let f = i.value in
    let at = i.first in
    let rising_rest = at.rising in
    let few_rest = at.few in
    subst (λ (g : Linear). FormAt (suc room) low g text) (sym i.second.value) (record {
      rising = (p.at_least, p.nonzero, rising_rest);
      few = omega arith;
      small = join (is_within t.coef) (all_within f.terms) (within_from t.coef p.small) at.small;
      small_constant = at.small_constant;
      variables = (p.at_most, at.variables);
      is = parts ∙ ap (λ (s : List ℕ). s ++ back) p.is
          ∙ ap (λ (s : List ℕ). (with_sign t.coef ++ (118 ∷ decimal t.var)) ++ s) (i.parts ∙ ap (λ (s : List ℕ). i.front ++ s) i.second.nothing ∙ append-nil i.front ∙ at.is)
          ∙ front-text t f;
    })

abbrev IsFormInTurn : ℕ → ℕ → Linear → List ℕ → Type 0
IsFormInTurn room low = InTurn (IsPart low) (IsRest room)

form_to : (room low : ℕ) (ts : List Term) (z : ℤ) (text : List ℕ) → FormAt (suc room) low (record { terms = ts; constant = z }) text
    → IsFormInTurn room low (record { terms = ts; constant = z }) text
form_to room low [] z text at = record {
  value = part.Constant z;
  front = text;
  back = [];
  first = record { at_least = omega arith; at_most = within_to z at.small_constant; is = at.is ∙ sym (constant-text z) };
  second = record { value = refl; nothing = refl };
  parts = sym (append-nil text);
}
form_to room low (t ∷ ts) z text at =
    let f : Linear = record { terms = ts; constant = z } in
    let small = both (is_within t.coef) (all_within ts) at.small in
    let few_all = at.few in
    record {
      value = part.Term t;
      front = with_sign t.coef ++ (118 ∷ decimal t.var);
      back = form_text f;
      first = record { nonzero = at.rising.1; small = within_to t.coef small.0; at_least = at.rising.0; at_most = at.variables.0; is = refl };
      second = record {
        value = f;
        front = form_text f;
        back = [];
        first = record { rising = at.rising.2; few = omega arith; small = small.1; small_constant = at.small_constant; variables = at.variables.1; is = refl };
        second = record { value = refl; nothing = refl };
        parts = sym (append-nil (form_text f));
      };
      parts = at.is ∙ sym (front-text t f);
    }

pub exact-form : (room low : ℕ) → Exact (form room low) (FormAt room low) Stops
unfolding form
exact-form zero low = exact_as _ (InTurn (IsSigned 0 bound) (λ z. IsGiven (constant_form z))) (FormAt 0 low) Stops Stops
    (exact-in_turn _ _ (IsSigned 0 bound) (λ z. IsGiven (constant_form z)) NoDigit Stops exact-number_of (λ z _ _. given (constant_form z) Stops)
    (λ z y back rest g h. passed (constant_form z) y NoDigit back rest g h.item))
    (λ y text i. subst (λ (f : Linear). FormAt 0 low f text) (sym i.second.value)
    (constant_at 0 low i.value text (subst (IsSigned 0 bound i.value) (sym (i.parts ∙ ap (λ (t : List ℕ). i.front ++ t) i.second.nothing ∙ append-nil i.front)) i.first)))
    (λ y text at. only_constant y.terms y.constant text at)
    (λ _ h. h)
  where
    only_constant : (ts : List Term) (z : ℤ) (text : List ℕ) → FormAt 0 low (record { terms = ts; constant = z }) text
        → InTurn (IsSigned 0 bound) (λ w. IsGiven (constant_form w)) (record { terms = ts; constant = z }) text
    only_constant [] z text at = record {
      value = z;
      front = text;
      back = [];
      first = record { at_least = omega arith; at_most = within_to z at.small_constant; is = at.is ∙ sym (constant-text z) };
      second = record { value = refl; nothing = refl };
      parts = sym (append-nil text);
    }
    only_constant (t ∷ ts) z text at = let few = at.few in absurd (omega arith)
exact-form (suc room) low = exact_as _ (IsFormInTurn room low) (FormAt (suc room) low) Stops Stops
    (exact-in_turn _ _ (IsPart low) (IsRest room) Stops Stops (exact-form_part low) (λ p _ _. exact-rest p (λ v. exact-form room v)) (rest_stops room))
    (λ y text i. form_from room low i.value y i.front i.back text i.first i.second i.parts)
    (λ y text at. form_to room low y.terms y.constant text at)
    (λ _ h. h)
  where
    exact-rest : (p : Part) → ((v : ℕ) → Exact (form room v) (FormAt room v) Stops) → Exact (after_part (form room) p) (IsRest room p) Stops
    exact-rest (part.Term t) later = exact-in_turn _ _ (FormAt room (suc t.var)) (λ f. IsGiven (with_front t f)) Stops Stops (later (suc t.var))
        (λ f _ _. given (with_front t f) Stops) (λ f y back rest g h. passed (with_front t f) y Stops back rest g h)
    exact-rest (part.Constant z) later = given (constant_form z) Stops

-- ---- forms in the words of the spelling

abbrev pub IsFormLine : Linear → Type 0
IsFormLine f = IsForm f × AreVariables f.terms

pub fits_from : (f : Linear) (text : List ℕ) → FormAt 16 0 f text → IsFormLine f
fits_from f text at = (record { rising = at.rising; few = at.few; small = at.small; small_constant = at.small_constant }, at.variables)

pub spelled-form : Exact (form 16 0) (Spelled Any IsFormLine form_text) Stops
spelled-form = exact_as _ (FormAt 16 0) _ Stops Stops (exact-form 16 0)
    (λ f text at. record { known = tt; fits = fits_from f text at; is = at.is })
    (λ f text s. record {
      rising = s.fits.0.rising;
      few = s.fits.0.few;
      small = s.fits.0.small;
      small_constant = s.fits.0.small_constant;
      variables = s.fits.1;
      is = s.is;
    }) (λ _ h. h)
