-- Forms over later variables, and rows that are added in order.
use Rattle.std.proofs.Common.{◌≡◌, ℕ, suc, ◌+◌, ◌<◌, ◌≤◌, ℤ, List, [], ◌∷◌, ◌++◌, take, drop, drop-cons, map, length, get_or, ◌&&◌, Bool, true, false, cond, nat_lt, nat_le, ◌⊎◌, inl, inr, Result, Ok, Err, refl, sym, ◌∙◌, ap, subst, arith}
use Rattle.std.specs.List.{All}
use Rattle.std.proofs.lemmas.List.{length-map, map_more, take-map, drop-map, take_all, take-append-drop}
use Rattle.std.proofs.lemmas.List.Elements.{All-map}
use Rattle.xan_lin.specs.Terms.{IsRising}
use Rattle.xan_lin.specs.Linear.{Linear, NamesBelow, is_within, all_within, are_within, sized, form_of}
use Rattle.xan_lin.specs.declared.term.Term.{Term}
use Rattle.xan_lin.specs.declared.term.TooLarge.{TooLarge}
use Rattle.xan_lin.proofs.TermSums.{IsRising-lower, sum-none}
use Rattle.xan_lin.proofs.FormSizes.{sized-fits}
use Rattle.std.specs.Prelude.{OnErr}
use Rattle.index_sorts.specs.Context.{IndexContext, fresh_from, with_variables}
use Rattle.index_sorts.specs.Known.{with_row, knows}
use Rattle.index_sorts.specs.declared.error.ContextError.{ContextError}
use Rattle.index_sorts.specs.declared.error.ContextError.TheVariants.{Variables, Rows, Memory}
use Rattle.state_types.specs.Unpacking.{shifted_term, shifted, with_rows, HasSome, IsLeft}
use Rattle.state_types.specs.declared.closed.Packed.{Packed}

-- ---- forms

IsRising-shifted : (first low : ℕ) (ts : List Term) → IsRising low ts → IsRising (first + low) (map (shifted_term first) ts)
IsRising-shifted first low [] r = tt
IsRising-shifted first low (t ∷ ts) r =
    (omega (arith, r.0), r.1, IsRising-lower (suc (first + t.var)) (first + suc t.var) (map (shifted_term first) ts) (omega arith) (IsRising-shifted first (suc t.var) ts r.2))

all_within-shifted : (first : ℕ) (ts : List Term) → all_within (map (shifted_term first) ts) ≡ all_within ts
all_within-shifted first [] = refl
all_within-shifted first (t ∷ ts) = ap (λ b. is_within t.coef && b) (all_within-shifted first ts)

-- the terms make a form again
shifted_fits : (first : ℕ) (form : Linear) (ts : List Term) → ts ≡ map (shifted_term first) form.terms → IsRising 0 form.terms → length form.terms ≤ 16
    → are_within form.terms form.constant ≡ true → form_of ts form.constant ≡ Ok (shifted first form)
shifted_fits first form ts e r few small =
    let made = map (shifted_term first) form.terms in
    ap (λ us. form_of us form.constant) e
    ∙ ap (λ us. sized us form.constant) (sum-none 0 made (IsRising-lower 0 (first + 0) made (omega arith) (IsRising-shifted first 0 form.terms r)))
    ∙ sized-fits made form.constant (omega (arith, length-map form.terms (shifted_term first)))
    (ap (λ b. b && is_within form.constant) (all_within-shifted first form.terms) ∙ small)

-- what the loop over the terms of a form makes
pub shifted_ok : (first : ℕ) (form : Linear) (read made seen : List Term) (i : ℕ) (given constant : ℤ) (answer : Result Linear TooLarge) → read ≡ form.terms → IsRising 0 read
    → length read ≤ 16 → are_within form.terms form.constant ≡ true → made ≡ map (shifted_term first) (take i form.terms) → length read ≤ i → seen ≡ made
    → given ≡ constant → constant ≡ form.constant → answer ≡ form_of seen given → answer ≡ Ok (shifted first form)
shifted_ok first form read made seen i given constant answer same r few small is h e c d a =
    let all : seen ≡ map (shifted_term first) form.terms =
    e ∙ is ∙ ap (λ us. map (shifted_term first) us) (take_all i form.terms (subst (λ (us : List Term). length us ≤ i) same h)) in
    a ∙ ap (λ n. form_of seen n) (c ∙ d)
    ∙ shifted_fits first form seen all (subst (λ us. IsRising 0 us) same r) (subst (λ (us : List Term). length us ≤ 16) same few) small

pub same_form : (answer : Result Linear TooLarge) (e f : Linear) → answer ≡ Ok e → answer ≡ Ok f → e ≡ f
same_form answer e f h k = cc

pub NamesBelow-shifted : (first vars : ℕ) (form : Linear) → NamesBelow vars form → NamesBelow (first + vars) (shifted first form)
NamesBelow-shifted first vars form named =
    All-map (λ t. t.var < first + vars) (shifted_term first) form.terms (λ k d h. omega (arith, named k d h))

-- ---- rows

pub rows-none : (ctx : IndexContext) → with_rows ctx [] ≡ Ok ctx
unfolding with_rows
rows-none ctx = refl

rows-ok : (ctx more : IndexContext) (row : Linear) (rows : List Linear) → with_row ctx row ≡ Ok more → with_rows ctx (row ∷ rows) ≡ with_rows more rows
unfolding with_rows
rows-ok ctx more row rows e = rw e refl

rows-err : (ctx : IndexContext) (row : Linear) (rows : List Linear) (error : ContextError) → with_row ctx row ≡ Err error → with_rows ctx (row ∷ rows) ≡ Err error
unfolding with_rows
rows-err ctx row rows error e = rw e refl

same_ok : (a b : IndexContext) → (let r : Result IndexContext ContextError = Ok a in r) ≡ Ok b → a ≡ b
same_ok a b e = cc

rows-step : (ctx now : IndexContext) (x : Linear) (xs ys : List Linear) (a : Result IndexContext ContextError) → with_row ctx x ≡ a
    → ((m : IndexContext) → with_rows m xs ≡ Ok now → with_rows m (xs ++ ys) ≡ with_rows now ys)
    → with_rows ctx (x ∷ xs) ≡ Ok now → with_rows ctx (x ∷ (xs ++ ys)) ≡ with_rows now ys
rows-step ctx now x xs ys (Ok m) is rec e = rows-ok ctx m x (xs ++ ys) is ∙ rec m (sym (rows-ok ctx m x xs is) ∙ e)
rows-step ctx now x xs ys (Err r) is rec e = (let bad = rows-err ctx x xs r is in cc)

-- first some rows, and then the others
rows-append : (ctx now : IndexContext) (xs ys : List Linear) → with_rows ctx xs ≡ Ok now → with_rows ctx (xs ++ ys) ≡ with_rows now ys
rows-append ctx now [] ys e = ap (λ m. with_rows m ys) (same_ok ctx now (sym (rows-none ctx) ∙ e))
rows-append ctx now (x ∷ xs) ys e = rows-step ctx now x xs ys (with_row ctx x) refl (λ m. rows-append m now xs ys) e

taken_more : (f : Linear → Linear) (rows : List Linear) (i : ℕ) (row given : Linear) → i < length rows → row ≡ get_or rows i row → given ≡ f row
    → take (i + 1) (map f rows) ≡ take i (map f rows) ++ given ∷ []
taken_more f rows i row given h is e =
    take-map f (i + 1) rows ∙ map_more f rows i row h
    ∙ ap (λ r. map f (take i rows) ++ f r ∷ []) (sym is) ∙ ap (λ r. map f (take i rows) ++ r ∷ []) (sym e)
    ∙ ap (λ rs. rs ++ given ∷ []) (sym (take-map f i rows))

pub rows_more : (f : Linear → Linear) (ctx now new : IndexContext) (rows : List Linear) (i : ℕ) (row given : Linear) → i < length rows → row ≡ get_or rows i row → given ≡ f row
    → with_rows ctx (take i (map f rows)) ≡ Ok now → with_row now given ≡ Ok new → with_rows ctx (take (i + 1) (map f rows)) ≡ Ok new
rows_more f ctx now new rows i row given h is e before added =
    ap (λ rs. with_rows ctx rs) (taken_more f rows i row given h is e) ∙ rows-append ctx now (take i (map f rows)) (given ∷ []) before
    ∙ rows-ok now new given [] added ∙ rows-none new

left_now : (f : Linear → Linear) (rows : List Linear) (i : ℕ) (row given : Linear) → i < length rows → row ≡ get_or rows i row → given ≡ f row
    → map f rows ≡ take i (map f rows) ++ given ∷ map f (drop (suc i) rows)
left_now f rows i row given h is e =
    sym (take-append-drop i (map f rows))
    ∙ ap (λ rs. take i (map f rows) ++ rs)
    (drop-map f i rows ∙ ap (λ rs. map f rs) (drop-cons rows i row h) ∙ ap (λ r. f r ∷ map f (drop (suc i) rows)) (sym is) ∙ ap (λ r. r ∷ map f (drop (suc i) rows)) (sym e))

rows_fail : (f : Linear → Linear) (ctx now : IndexContext) (rows : List Linear) (i : ℕ) (row given : Linear) (error : ContextError) → i < length rows → row ≡ get_or rows i row
    → given ≡ f row → with_rows ctx (take i (map f rows)) ≡ Ok now → with_row now given ≡ Err error → with_rows ctx (map f rows) ≡ Err error
rows_fail f ctx now rows i row given error h is e before refused =
    ap (λ rs. with_rows ctx rs) (left_now f rows i row given h is e)
    ∙ rows-append ctx now (take i (map f rows)) (given ∷ map f (drop (suc i) rows)) before
    ∙ rows-err now given (map f (drop (suc i) rows)) error refused

pub rows_all : (f : Linear → Linear) (ctx now : IndexContext) (rows : List Linear) (i : ℕ) → length rows ≤ i → with_rows ctx (take i (map f rows)) ≡ Ok now
    → with_rows ctx (map f rows) ≡ Ok now
rows_all f ctx now rows i h e = ap (λ rs. with_rows ctx rs) (sym (take_all i (map f rows) (omega (arith, length-map rows f)))) ∙ e

-- a row that names only variables of the type names only fresh ones
pub named_again : (first vars total : ℕ) (row given : Linear) → given ≡ shifted first row → NamesBelow vars row → total ≡ first + vars → NamesBelow total given
named_again first vars total row given e named is =
    subst (λ n. NamesBelow n given) (sym is) (subst (λ f. NamesBelow (first + vars) f) (sym e) (NamesBelow-shifted first vars row named))

-- ---- refusals

refused_by : (known full : Bool) (x y : IndexContext) (error : ContextError)
    → cond known (let r : Result IndexContext ContextError = Ok x in r) (cond full (Err Rows) (Ok y)) ≡ Err error → error ≡ Rows
refused_by true full x y error e = cc
refused_by false true x y error e = cc
refused_by false false x y error e = cc

pub row-error : (ctx : IndexContext) (row : Linear) (error : ContextError) → with_row ctx row ≡ Err error → error ≡ Rows
unfolding with_row
row-error ctx row error e = refused_by (knows ctx row) (nat_le 512 (length ctx.rows)) ctx (record ctx { rows = ctx.rows ++ row ∷ [] }) error e

pub never_variables : (ctx : IndexContext) (row : Linear) (error : ContextError) → (error ≡ Memory) ⊎ (with_row ctx row ≡ Err error) → error ≡ Variables → ⊥
never_variables ctx row error (inl e) v = cc
never_variables ctx row error (inr e) v = (let rows = row-error ctx row error e in cc)

-- all rows are some first ones
HasSome-all : (ctx left : IndexContext) (rows : List Linear) → with_rows ctx rows ≡ Ok left → HasSome ctx rows left
HasSome-all ctx left rows e = record { count = length rows; is = ap (λ rs. with_rows ctx rs) (take_all (length rows) rows (omega arith)) ∙ e }

pub first_is : (many : Bool) (n first : ℕ) → cond many (let r : Result ℕ ContextError = Err Variables in r) (Ok n) ≡ Ok first → first ≡ n
first_is true n first e = cc
first_is false n first e = cc

-- what want of memory for the parts leaves
pub IsLeft-all : (ctx fresh left : IndexContext) (packed seen : Packed) (first : ℕ) → seen ≡ packed → fresh_from ctx seen.vars ≡ Ok first → fresh ≡ with_variables ctx seen.vars
    → with_rows fresh (map (shifted first) seen.rows) ≡ Ok left → IsLeft ctx packed left
IsLeft-all ctx fresh left packed seen first same from is e =
    let here : first ≡ ctx.vars = first_is (nat_lt 1024 (ctx.vars + seen.vars)) ctx.vars first from in
    let rows : with_rows (with_variables ctx seen.vars) (map (shifted ctx.vars) seen.rows) ≡ Ok left =
    ap (λ n. with_rows (with_variables ctx seen.vars) (map (shifted n) seen.rows)) (sym here) ∙ ap (λ m. with_rows m (map (shifted first) seen.rows)) (sym is) ∙ e in
    subst (λ p. IsLeft ctx p left) same (inr (HasSome-all (with_variables ctx seen.vars) left (map (shifted ctx.vars) seen.rows) rows))

pub OnErr-any : {T E P : Type 0} (answer : Result T E) → P → OnErr answer P
OnErr-any (Ok x) p = tt
OnErr-any (Err e) p = p

pub row_named : (vars : ℕ) (rows : List Linear) (i : ℕ) (row : Linear) → All (NamesBelow vars) rows → i < length rows → row ≡ get_or rows i row → NamesBelow vars row
row_named vars rows i row named h is = subst (λ f. NamesBelow vars f) (sym is) (named i row h)

pub refused_rows : (f : Linear → Linear) (ctx now : IndexContext) (rows : List Linear) (i : ℕ) (row given : Linear) (error : ContextError) → i < length rows → row ≡ get_or rows i row
    → given ≡ f row → with_rows ctx (take i (map f rows)) ≡ Ok now → (error ≡ Memory) ⊎ (with_row now given ≡ Err error)
    → (error ≡ Memory) ⊎ (with_rows ctx (map f rows) ≡ Err error)
refused_rows f ctx now rows i row given error h is e before (inl m) = inl m
refused_rows f ctx now rows i row given error h is e before (inr r) = inr (rows_fail f ctx now rows i row given error h is e before r)
