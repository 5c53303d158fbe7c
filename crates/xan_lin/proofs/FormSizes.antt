-- When an exact result is a form.
use Rattle.std.proofs.Common.{◌≡◌, ◌<◌, ◌≤◌, ℤ, Bool, true, false, cond, List, length, nat_lt, Result, Ok, Err, IfErr, sym, ◌∙◌, ap}
use Rattle.xan_lin.specs.Linear.{Linear, are_within, sized}
use Rattle.xan_lin.specs.declared.term.Term.{Term}
use Rattle.xan_lin.specs.declared.term.TooLarge.{TooLarge}
use Rattle.xan_lin.specs.declared.term.TooLarge.TheVariants.{Terms, Magnitude}
use Rattle.xan_lin.proofs.Booleans.{less, not_less}

choice : (b r : Bool) (x y : Result Linear TooLarge) → b ≡ r → cond b x y ≡ cond r x y
choice b r x y e = ap (λ c. cond c x y) e

pub sized-many : (ts : List Term) (constant : ℤ) → 16 < length ts → sized ts constant ≡ Err Terms
unfolding sized
sized-many ts constant h = choice (nat_lt 16 (length ts)) true _ _ (less 16 (length ts) h)

pub sized-large : (ts : List Term) (constant : ℤ) → length ts ≤ 16 → are_within ts constant ≡ false → sized ts constant ≡ Err Magnitude
unfolding sized
sized-large ts constant h e =
    choice (nat_lt 16 (length ts)) false _ _ (not_less 16 (length ts) h) ∙ choice (are_within ts constant) false _ _ e

pub sized-fits : (ts : List Term) (constant : ℤ) → length ts ≤ 16 → are_within ts constant ≡ true
    → sized ts constant ≡ Ok (record { terms = ts; constant = constant })
unfolding sized
sized-fits ts constant h e =
    choice (nat_lt 16 (length ts)) false _ _ (not_less 16 (length ts) h) ∙ choice (are_within ts constant) true _ _ e

-- a form of these parts is the exact result
pub fits_is : (xs ts : List Term) (a constant : ℤ) → xs ≡ ts → a ≡ constant → length ts ≤ 16 → are_within ts constant ≡ true
    → (let r : Result Linear TooLarge = Ok (record { terms = xs; constant = a }) in r) ≡ sized ts constant
fits_is xs ts a constant e f h k =
    ap (λ ys. let r : Result Linear TooLarge = Ok (record { terms = ys; constant = a }) in r) e
    ∙ ap (λ b. let r : Result Linear TooLarge = Ok (record { terms = ts; constant = b }) in r) f
    ∙ sym (sized-fits ts constant h k)

chosen : (many within : Bool) (form given : Linear)
    → cond many (let r : Result Linear TooLarge = Err Terms in r) (cond within (Ok form) (Err Magnitude)) ≡ Ok given → form ≡ given
chosen true within form given e = cc
chosen false true form given e = cc
chosen false false form given e = cc

-- a form that an exact result is has its parts
pub sized-parts : (ts : List Term) (constant : ℤ) (given : Linear) → sized ts constant ≡ Ok given
    → (let form : Linear = record { terms = ts; constant = constant } in form) ≡ given
unfolding sized
sized-parts ts constant given e = chosen (nat_lt 16 (length ts)) (are_within ts constant) (record { terms = ts; constant = constant }) given e

chosen_error : (within : Bool) (form : Linear) (error : TooLarge) → cond within (let r : Result Linear TooLarge = Ok form in r) (Err Magnitude) ≡ Err error → error ≡ Magnitude
chosen_error true form error e = cc
chosen_error false form error e = cc

-- with few terms only a magnitude can be too large
pub sized-error : (ts : List Term) (constant : ℤ) (error : TooLarge) → length ts ≤ 16 → sized ts constant ≡ Err error → error ≡ Magnitude
unfolding sized
sized-error ts constant error h e =
    chosen_error (are_within ts constant) (record { terms = ts; constant = constant }) error
    (sym (choice (nat_lt 16 (length ts)) false _ _ (not_less 16 (length ts) h)) ∙ e)

-- the same of an answer
pub few_errors : (ts : List Term) (constant : ℤ) (answer : Result Linear TooLarge) → length ts ≤ 16 → answer ≡ sized ts constant → IfErr answer (λ error. error ≡ Magnitude)
few_errors ts constant (Ok form) h e = tt
few_errors ts constant (Err error) h e = sized-error ts constant error h (sym e)
