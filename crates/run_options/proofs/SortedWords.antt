-- The loop that sorts words into values and options.
use Rattle.std.proofs.Common.{◌≡◌, ◌∙◌, ℕ, ◌-◌, ◌<◌, ◌≤◌, List, [], ◌∷◌, ◌++◌, length, get_or, take, drop, Option, None, Some, Result, Ok, Err, refl, sym, ap, arith}
use Rattle.std.proofs.lemmas.List.{take_rest}
use Rattle.std.specs.Prelude.{IfOk}
use Rattle.std.specs.Borrow.{Bor}
use Rattle.xan_io.specs.Words.{texts}
use Rattle.run_options.specs.declared.options.Met.{Met}
use Rattle.run_options.specs.declared.options.Met.TheVariants.{Value as value, Part}
use Rattle.run_options.specs.declared.options.Reading.{Reading}
use Rattle.run_options.specs.Options.{Rules, Sorted, sorted, none_yet, met, finished, goes_on, AreAllowed}

-- what is left of the words gives, behind what was met of them, what all give
pub record StillSorts (options : Rules) (words left values : List (Bor (List ℕ))) (reading : Reading) : Type 0 where
  pub same : sorted options (texts left) (texts values) reading ≡ sorted options (texts words) [] none_yet
  pub allowed : AreAllowed options.most reading.given

texts-one_more : (values : List (Bor (List ℕ))) (word : Bor (List ℕ)) → texts (values ++ (word ∷ [])) ≡ texts values ++ (word.now ∷ [])
texts-one_more [] word = refl
texts-one_more (v ∷ values) word = ap (λ rest. v.now ∷ rest) (texts-one_more values word)

-- the words behind the first one
abbrev others_of : List (Bor (List ℕ)) → List (Bor (List ℕ))
others_of left = take (length left - 1) (drop 1 left)

first_and_others : (left : List (Bor (List ℕ))) (d : Bor (List ℕ)) → 1 ≤ length left → left ≡ get_or left 0 d ∷ others_of left
first_and_others [] d some = absurd (omega (arith, some))
first_and_others (word ∷ others) d some = ap (λ rest. word ∷ rest) (sym (take_rest (word ∷ others) 1))

none_left : (left : List (Bor (List ℕ))) → length left < 1 → left ≡ []
none_left [] few = refl
none_left (word ∷ left) few = absurd (omega (arith, few))

module _ (options : Rules) (words left values : List (Bor (List ℕ))) (reading : Reading) (still : StillSorts options words left values reading) where
  module _ (d : Bor (List ℕ)) (some : 1 ≤ length left) where
    abbrev next : Option Met → Option Sorted
    next m = goes_on m (get_or left 0 d).now (texts values) reading (sorted options (texts (others_of left)))

    next_is : next (met options reading.next reading.given (get_or left 0 d).now) ≡ sorted options (texts words) [] none_yet
    unfolding sorted
    next_is = ap (λ l. sorted options (texts l) (texts values) reading) (sym (first_and_others left d some)) ∙ still.same

    -- the first word is a value
    pub still-value : (m : Met) → Some m ≡ met options reading.next reading.given (get_or left 0 d).now → m ≡ value
        → StillSorts options words (others_of left) (values ++ (get_or left 0 d ∷ [])) reading
    still-value m e is = record {
      same = ap (λ vs. sorted options (texts (others_of left)) vs reading) (texts-one_more values (get_or left 0 d)) ∙ sym (ap (λ x. next (Some x)) is) ∙ ap next e ∙ next_is;
      allowed = still.allowed;
    }

    -- it is a part of the options
    pub still-part : (m : Met) (more : Reading) → Some m ≡ met options reading.next reading.given (get_or left 0 d).now → m ≡ Part more → AreAllowed options.most more.given
        → StillSorts options words (others_of left) values more
    still-part m more e is allowed = record { same = sym (ap (λ x. next (Some x)) is) ∙ ap next e ∙ next_is; allowed = allowed }

    -- it may not stand there
    pub still-none : None ≡ met options reading.next reading.given (get_or left 0 d).now → sorted options (texts words) [] none_yet ≡ None
    still-none e = sym next_is ∙ sym (ap next e)

  -- no word is left
  pub still-ends : length left < 1 → finished reading.next (texts values) reading.given ≡ sorted options (texts words) [] none_yet
  unfolding sorted
  still-ends few = ap (λ l. sorted options (texts l) (texts values) reading) (sym (none_left left few)) ∙ still.same

pub if_ok-from : {A B : Type 0} (P Q : A → Type 0) → ((x : A) → P x → Q x) → (r : Result A B) → IfOk r P → IfOk r Q
if_ok-from {A} {B} P Q from (Ok x) p = from x p
if_ok-from {A} {B} P Q from (Err e) p = tt
