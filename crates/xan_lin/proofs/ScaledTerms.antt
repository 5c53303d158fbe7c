-- How far the product of terms by a number has come, and each step of it.
use Rattle.std.proofs.Common.{◌≡◌, ℕ, zero, suc, ◌+◌, ◌<◌, ◌≤◌, ℤ, pos, negsuc, ◌*ℤ◌, ◌&&◌, Result, Ok, Err, Bool, true, false, List, [], ◌∷◌, ◌++◌, length, drop, get_or, refl, sym, ◌∙◌, ap, subst, arith}
use Rattle.std.proofs.lemmas.List.{append_assoc, append-nil, length-append, drop_more, drop_all}
use Rattle.xan_lin.specs.Terms.{no_term, IsRising, with_multiple, scaled_terms}
use Rattle.xan_lin.specs.Linear.{Linear, IsForm, is_within, all_within, are_within, product_of}
use Rattle.xan_lin.specs.declared.term.Term.{Term}
use Rattle.xan_lin.specs.declared.term.TooLarge.{TooLarge}
use Rattle.xan_lin.specs.declared.term.TooLarge.TheVariants.{Magnitude}
use Rattle.xan_lin.proofs.Booleans.{both_true, second_false, first_false}
use Rattle.xan_lin.proofs.FormSizes.{sized-large, fits_is}
use Rattle.xan_lin.proofs.MergedTerms.{length-multiple}
use Rattle.xan_lin.proofs.TermSums.{rises_as, with_multiple-append, IsRising-with_multiple}

-- what was made, and the product of the terms from `at` on, are the whole product
pub record Scaling (made terms : List Term) (by : ℤ) (at : ℕ) : Type 0 where
  pub same : made ++ scaled_terms (drop at terms) by ≡ scaled_terms terms by
  pub small : all_within made ≡ true
  pub few : length made ≤ at

and_turn : (a b d e : Bool) → e ≡ (b && d) → (a && e) ≡ ((a && b) && d)
and_turn true b d e h = h
and_turn false b d e h = refl

all_within-append : (xs ys : List Term) → all_within (xs ++ ys) ≡ (all_within xs && all_within ys)
all_within-append [] ys = refl
all_within-append (x ∷ xs) ys = and_turn (is_within x.coef) (all_within xs) (all_within ys) (all_within (xs ++ ys)) (all_within-append xs ys)

scaled-cons : (t : Term) (ts : List Term) (by : ℤ) → scaled_terms (t ∷ ts) by ≡ with_multiple t.var (t.coef *ℤ by) [] ++ scaled_terms ts by
unfolding scaled_terms
scaled-cons t ts by = sym (with_multiple-append t.var (t.coef *ℤ by) (scaled_terms ts by))

scaled-none : (by : ℤ) → scaled_terms [] by ≡ []
unfolding scaled_terms
scaled-none by = refl

pub begins : (terms : List Term) (by : ℤ) → Scaling [] terms by 0
begins terms by = record { same = refl; small = refl; few = omega arith }

multiple-small : (var : ℕ) (coef : ℤ) → is_within coef ≡ true → all_within (with_multiple var coef []) ≡ true
multiple-small var (pos zero) h = refl
multiple-small var (pos (suc n)) h = ap (λ b. b && true) h
multiple-small var (negsuc n) h = ap (λ b. b && true) h

multiple-large : (var : ℕ) (coef : ℤ) → is_within coef ≡ false → all_within (with_multiple var coef []) ≡ false
multiple-large var (pos zero) h = cc
multiple-large var (pos (suc n)) h = ap (λ b. b && true) h
multiple-large var (negsuc n) h = ap (λ b. b && true) h

here : (terms : List Term) (by : ℤ) (at : ℕ) → at < length terms
    → scaled_terms (drop at terms) by
    ≡ with_multiple (get_or terms at no_term).var ((get_or terms at no_term).coef *ℤ by) [] ++ scaled_terms (drop (at + 1) terms) by
here terms by at h =
    ap (λ ts. scaled_terms ts by) (drop_more terms at no_term h) ∙ scaled-cons (get_or terms at no_term) (drop (at + 1) terms) by

pub goes_on : (made terms : List Term) (by : ℤ) (at : ℕ) → Scaling made terms by at → at < length terms
    → is_within ((get_or terms at no_term).coef *ℤ by) ≡ true
    → Scaling (made ++ with_multiple (get_or terms at no_term).var ((get_or terms at no_term).coef *ℤ by) []) terms by (at + 1)
goes_on made terms by at s h w =
    let t = get_or terms at no_term in
    let more = with_multiple t.var (t.coef *ℤ by) [] in
    record {
      same = append_assoc made more (scaled_terms (drop (at + 1) terms) by) ∙ ap (λ ts. made ++ ts) (sym (here terms by at h)) ∙ s.same;
      small = all_within-append made more ∙ both_true (all_within made) (all_within more) s.small (multiple-small t.var (t.coef *ℤ by) w);
      few = omega (arith, s.few, length-append made more, length-multiple t.var (t.coef *ℤ by));
    }

-- the same, with a coefficient and a list that are known to be these
pub goes_as : (made new terms : List Term) (by coef : ℤ) (at : ℕ) → Scaling made terms by at → at < length terms
    → coef ≡ (get_or terms at no_term).coef *ℤ by → is_within coef ≡ true → new ≡ made ++ with_multiple (get_or terms at no_term).var coef []
    → Scaling new terms by (at + 1)
goes_as made new terms by coef at s h e w change =
    let t = get_or terms at no_term in
    subst (λ (ts : List Term). Scaling ts terms by (at + 1)) (sym (change ∙ ap (λ n. made ++ with_multiple t.var n []) e))
    (goes_on made terms by at s h (ap is_within (sym e) ∙ w))

pub fails : (made terms : List Term) (by : ℤ) (at : ℕ) → Scaling made terms by at → at < length terms
    → is_within ((get_or terms at no_term).coef *ℤ by) ≡ false → all_within (scaled_terms terms by) ≡ false
fails made terms by at s h w =
    let t = get_or terms at no_term in
    let more = with_multiple t.var (t.coef *ℤ by) [] in
    let later = scaled_terms (drop (at + 1) terms) by in
    ap all_within (sym s.same)
    ∙ all_within-append made (scaled_terms (drop at terms) by)
    ∙ second_false (all_within made) (all_within (scaled_terms (drop at terms) by))
    (ap all_within (here terms by at h) ∙ all_within-append more later ∙ first_false (all_within more) (all_within later) (multiple-large t.var (t.coef *ℤ by) w))

pub ends : (made terms : List Term) (by : ℤ) (at : ℕ) → Scaling made terms by at → length terms ≤ at → made ≡ scaled_terms terms by
ends made terms by at s h =
    sym (append-nil made) ∙ ap (λ ts. made ++ ts) (sym (ap (λ ts. scaled_terms ts by) (drop_all at terms h) ∙ scaled-none by)) ∙ s.same

-- ---- what holds of a product

pub length-scaled : (terms : List Term) (by : ℤ) → length (scaled_terms terms by) ≤ length terms
length-scaled [] by = omega (arith, ap length (scaled-none by))
length-scaled (t ∷ ts) by =
    omega (arith, ap length (scaled-cons t ts by), length-append (with_multiple t.var (t.coef *ℤ by) []) (scaled_terms ts by), length-multiple t.var (t.coef *ℤ by), length-scaled ts by)

pub IsRising-scaled : (low : ℕ) (ts : List Term) (by : ℤ) → IsRising low ts → IsRising low (scaled_terms ts by)
unfolding scaled_terms
IsRising-scaled low [] by r = tt
IsRising-scaled low (t ∷ ts) by r = IsRising-with_multiple low t.var (t.coef *ℤ by) (scaled_terms ts by) r.0 (IsRising-scaled (suc t.var) ts by r.2)

-- ---- when a product is a form

pub product_large : (e : Linear) (by : ℤ) → length e.terms ≤ 16 → are_within (scaled_terms e.terms by) (e.constant *ℤ by) ≡ false
    → (let r : Result Linear TooLarge = Err Magnitude in r) ≡ product_of e by
product_large e by few h = sym (sized-large (scaled_terms e.terms by) (e.constant *ℤ by) (omega (arith, length-scaled e.terms by)) h)

pub constant_large : (e : Linear) (by : ℤ) → length e.terms ≤ 16 → is_within (e.constant *ℤ by) ≡ false
    → (let r : Result Linear TooLarge = Err Magnitude in r) ≡ product_of e by
constant_large e by few h = product_large e by few (second_false (all_within (scaled_terms e.terms by)) (is_within (e.constant *ℤ by)) h)

pub terms_large : (e : Linear) (by : ℤ) → length e.terms ≤ 16 → all_within (scaled_terms e.terms by) ≡ false
    → (let r : Result Linear TooLarge = Err Magnitude in r) ≡ product_of e by
terms_large e by few h = product_large e by few (first_false (all_within (scaled_terms e.terms by)) (is_within (e.constant *ℤ by)) h)

pub product_fits : (e : Linear) (by constant : ℤ) (ts : List Term) → length e.terms ≤ 16 → ts ≡ scaled_terms e.terms by → constant ≡ e.constant *ℤ by
    → all_within ts ≡ true → is_within constant ≡ true
    → (let r : Result Linear TooLarge = Ok (record { terms = ts; constant = constant }) in r) ≡ product_of e by
product_fits e by constant ts few is is_constant small small_constant =
    fits_is ts (scaled_terms e.terms by) constant (e.constant *ℤ by) is is_constant (omega (arith, length-scaled e.terms by))
    (both_true (all_within (scaled_terms e.terms by)) (is_within (e.constant *ℤ by)) (ap all_within (sym is) ∙ small) (ap is_within (sym is_constant) ∙ small_constant))

pub product-form : (e : Linear) (by constant : ℤ) (ts : List Term) → IsForm e → ts ≡ scaled_terms e.terms by → all_within ts ≡ true → is_within constant ≡ true
    → IsForm (record { terms = ts; constant = constant })
product-form e by constant ts f is small small_constant = record {
  rising = rises_as 0 ts (scaled_terms e.terms by) is (IsRising-scaled 0 e.terms by f.rising);
  few = omega (arith, ap length is, length-scaled e.terms by, f.few);
  small = small;
  small_constant = small_constant;
}
