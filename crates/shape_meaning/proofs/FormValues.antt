-- A form under way is worth what was added to it, and so is the form that is made of it.
use Rattle.std.proofs.Common.{◌≡◌, ◌∙◌, sym, ap, ℕ, suc, ◌<◌, ℤ, pos, ◌+ℤ◌, ◌*ℤ◌, Bool, true, false, List, [], ◌∷◌, map, Some, refl, arith}
use Rattle.std.specs.Prelude.{cond, filter, not, unwrap_or}
use Rattle.std.specs.BTreeMap.{insert_entry, is_at}
use Rattle.std.specs.Map.{lookup}
use Rattle.std.specs.declared.cmp.Ordering.{Ordering}
use Rattle.std.specs.declared.cmp.Ordering.TheVariants.{Less, Equal, Greater}
use Rattle.std.specs.Ordering.{nat_cmp, int_eq, is_eq, match_ordering, MatchOrdering}
use Rattle.std.proofs.lemmas.Bool.Decides.{Decides-int_eq}
use Rattle.std.proofs.lemmas.Cmp.{ranked}
use Rattle.std.proofs.lemmas.Int.{ints}
use Rattle.xan_lin.proofs.Ring.{add-mul, zero-mul}
use Rattle.type_shapes.specs.Linears.{Form, coefficient, constant_form, with_term, with_constant, is_term, term_of, linear}
use Rattle.type_shapes.proofs.ShapedForms.{KeysRise, rise_insert}
use Rattle.shape_meaning.specs.IndexValues.{Assignment, terms_value, form_value}

abbrev pub entries_value : Assignment → List (ℕ × ℤ) → ℤ
entries_value values [] = pos 0
entries_value values (e ∷ es) = (e.1 *ℤ values e.0) +ℤ entries_value values es

-- what a form under way is worth
abbrev pub worth : Assignment → Form → ℤ
worth values form = entries_value values form.coefficients +ℤ form.constant

-- ---- a coefficient

coefficient-none : (k : ℕ) → coefficient k [] ≡ pos 0
unfolding coefficient
coefficient-none k = refl

coefficient-cons : (k : ℕ) (e : ℕ × ℤ) (es : List (ℕ × ℤ)) → coefficient k (e ∷ es) ≡ cond (is_eq (nat_cmp k e.0)) e.1 (coefficient k es)
unfolding coefficient
coefficient-cons k e es = by (is_eq (nat_cmp k e.0))
  where
    by : (b : Bool) → unwrap_or (cond b (Some e.1) (lookup (is_at (nat_cmp k)) es)) (pos 0) ≡ cond b e.1 (unwrap_or (lookup (is_at (nat_cmp k)) es) (pos 0))
    by true = refl
    by false = refl

coefficient-below : (k low : ℕ) (es : List (ℕ × ℤ)) → KeysRise low es → k < low → coefficient k es ≡ pos 0
coefficient-below k low [] rise below = coefficient-none k
coefficient-below k low (e ∷ es) rise below =
    coefficient-cons k e es ∙ by (nat_cmp k e.0) (ranked k e.0 (nat_cmp k e.0) refl) (coefficient-below k (suc e.0) es rise.1 (omega (arith, rise.0, below)))
  where
    by : (o : Ordering) → MatchOrdering o (k < e.0) (k ≡ e.0) (e.0 < k) → coefficient k es ≡ pos 0 → cond (is_eq o) e.1 (coefficient k es) ≡ pos 0
    by Less at later = later
    by Equal at later = absurd (omega (arith, at, rise.0, below))
    by Greater at later = later

-- ---- a term more

new_entry : (t v whole : ℤ) → ((pos 0 +ℤ t) *ℤ v) +ℤ whole ≡ whole +ℤ (t *ℤ v)
new_entry t v whole = let h : pos 0 +ℤ t ≡ t = omega (arith, ints) in omega (arith, ints, ap (λ n. n *ℤ v) h)

more_entry : (c t v rest : ℤ) → ((c +ℤ t) *ℤ v) +ℤ rest ≡ ((c *ℤ v) +ℤ rest) +ℤ (t *ℤ v)
more_entry c t v rest = omega (arith, ints, add-mul c t v)

later_entry : (head rest more added : ℤ) → more ≡ rest +ℤ added → head +ℤ more ≡ (head +ℤ rest) +ℤ added
later_entry head rest more added h = omega (arith, ints, h)

insert_worth : (values : Assignment) (low k : ℕ) (t : ℤ) (es : List (ℕ × ℤ)) → KeysRise low es
    → entries_value values (insert_entry nat_cmp es k (coefficient k es +ℤ t)) ≡ entries_value values es +ℤ (t *ℤ values k)
insert_worth values low k t [] rise =
    ap (λ c. ((c +ℤ t) *ℤ values k) +ℤ pos 0) (coefficient-none k) ∙ new_entry t (values k) (pos 0)
insert_worth values low k t (e ∷ es) rise =
    ap (λ c. entries_value values (insert_entry nat_cmp (e ∷ es) k (c +ℤ t))) (coefficient-cons k e es)
    ∙ by (nat_cmp k e.0) (ranked k e.0 (nat_cmp k e.0) refl) (λ less. coefficient-below k (suc e.0) es rise.1 (omega (arith, less))) (insert_worth values (suc e.0) k t es rise.1)
  where
    by : (o : Ordering) → MatchOrdering o (k < e.0) (k ≡ e.0) (e.0 < k) → (k < e.0 → coefficient k es ≡ pos 0)
        → entries_value values (insert_entry nat_cmp es k (coefficient k es +ℤ t)) ≡ entries_value values es +ℤ (t *ℤ values k)
        → entries_value values (match_ordering o ((k, cond (is_eq o) e.1 (coefficient k es) +ℤ t) ∷ e ∷ es) ((e.0, cond (is_eq o) e.1 (coefficient k es) +ℤ t) ∷ es)
        (e ∷ insert_entry nat_cmp es k (cond (is_eq o) e.1 (coefficient k es) +ℤ t)))
        ≡ entries_value values (e ∷ es) +ℤ (t *ℤ values k)
    by Less at none later =
        ap (λ c. ((c +ℤ t) *ℤ values k) +ℤ entries_value values (e ∷ es)) (none at) ∙ new_entry t (values k) (entries_value values (e ∷ es))
    by Equal at none later =
        more_entry e.1 t (values e.0) (entries_value values es) ∙ ap (λ x. entries_value values (e ∷ es) +ℤ (t *ℤ values x)) (sym at)
    by Greater at none later = later_entry (e.1 *ℤ values e.0) (entries_value values es) _ (t *ℤ values k) later

-- ---- what a form is worth, with its keys in order

pub record Adds (values : Assignment) (form : Form) (added : ℤ) (more : Form) : Type 0 where
  pub rise : KeysRise 0 more.coefficients
  pub value : worth values more ≡ worth values form +ℤ added

term_sum : (entries more constant added : ℤ) → more ≡ entries +ℤ added → more +ℤ constant ≡ (entries +ℤ constant) +ℤ added
term_sum entries more constant added h = omega (arith, ints, h)

pub term_adds : (values : Assignment) (k : ℕ) (t : ℤ) (form : Form) → KeysRise 0 form.coefficients → Adds values form (t *ℤ values k) (with_term k t form)
unfolding with_term
term_adds values k t form rise = record {
  rise = rise_insert 0 form.coefficients k _ rise (omega arith);
  value = term_sum (entries_value values form.coefficients) _ form.constant (t *ℤ values k) (insert_worth values 0 k t form.coefficients rise);
}

pub constant_adds : (values : Assignment) (n : ℤ) (form : Form) → KeysRise 0 form.coefficients → Adds values form n (with_constant n form)
unfolding with_constant
constant_adds values n form rise = record { rise = rise; value = omega (arith, ints) }

pub constant_worth : (values : Assignment) (n : ℤ) → worth values (constant_form n) ≡ n
constant_worth values n = omega (arith, ints)

-- ---- the finished form

not_false : (b : Bool) → not b ≡ false → b ≡ true
not_false true e = refl
not_false false e = sym e

zero_term : (c v rest : ℤ) → not (int_eq c (pos 0)) ≡ false → rest ≡ (c *ℤ v) +ℤ rest
zero_term c v rest test =
    let product : c *ℤ v ≡ pos 0 = ap (λ n. n *ℤ v) ((Decides-int_eq c (pos 0)).0 (not_false (int_eq c (pos 0)) test)) ∙ zero-mul v in
    omega (arith, ints, product)

terms_worth : (values : Assignment) (es : List (ℕ × ℤ)) → terms_value values (map term_of (filter is_term es)) ≡ entries_value values es
terms_worth values [] = refl
terms_worth values (e ∷ es) = by (is_term e) refl (terms_worth values es)
  where
    by : (b : Bool) → is_term e ≡ b → terms_value values (map term_of (filter is_term es)) ≡ entries_value values es
        → terms_value values (map term_of (cond b (e ∷ filter is_term es) (filter is_term es))) ≡ (e.1 *ℤ values e.0) +ℤ entries_value values es
    by true test later = ap (λ n. (e.1 *ℤ values e.0) +ℤ n) later
    by false test later = later ∙ zero_term e.1 (values e.0) (entries_value values es) test

pub linear_worth : (values : Assignment) (form : Form) → form_value values (linear form) ≡ worth values form
unfolding linear
linear_worth values form = ap (λ n. n +ℤ form.constant) (terms_worth values form.coefficients)
