-- Arguments become words and blocks one after another.
use Rattle.std.proofs.Common.{◌≡◌, ◌∙◌, ap, refl, sym, arith, ℕ, suc, ◌+◌, ◌<◌, get_or, drop, drop-cons, ◌++◌, ℤ, pos, Bool as Truth, true, false, List, [], ◌∷◌, length, append_assoc, Option, Some, None, if◌then◌else◌}
use Rattle.xan_io.specs.declared.arg.Arg.{Arg}
use Rattle.xan_io.specs.declared.arg.Arg.TheVariants as arg
use Rattle.operation_rules.specs.Entry.{with_word, placed}
use Rattle.operation_rules.specs.FlatWords.{Flat, flat_words}
use Rattle.dtal_machine.specs.Placing.{named_block, arg_placed, placed_behind}

placed_after : List Arg → Option (ℤ × Flat) → Option (List ℤ × Flat)
placed_after more None = None
placed_after more (Some one) = with_word one.0 (placed flat_words more one.1)

array_placed : (more : List Arg) (test : Truth) (made : ℕ × Flat)
    → (if test then with_word (pos made.0) (placed flat_words more made.1) else None) ≡ placed_after more (if test then Some (named_block made) else None)
unfolding placed_after
array_placed more true made = refl
array_placed more false made = refl

placed_step : (a : Arg) (more : List Arg) (store : Flat) → placed flat_words (a ∷ more) store ≡ placed_after more (arg_placed a store)
unfolding placed placed_after
placed_step (arg.Int n) more store = refl
placed_step (arg.Bool b) more store = refl
placed_step (arg.Array cells) more store = array_placed more (flat_words.room store (length cells + 2)) (flat_words.made store 0 cells)

behind_word : (made : List ℤ) (word : ℤ) (others : Option (List ℤ × Flat)) → placed_behind made (with_word word others) ≡ placed_behind (made ++ word ∷ []) others
behind_word made word None = refl
behind_word made word (Some others) = ap (λ words. Some (words, others.1)) (sym (append_assoc made (word ∷ []) others.0))

-- the next argument has a word
pub placed_one : (a : Arg) (more : List Arg) (made : List ℤ) (word : ℤ) (store new : Flat) → arg_placed a store ≡ Some (word, new)
    → placed_behind made (placed flat_words (a ∷ more) store) ≡ placed_behind (made ++ word ∷ []) (placed flat_words more new)
unfolding placed_after
placed_one a more made word store new e =
    ap (placed_behind made) (placed_step a more store ∙ ap (placed_after more) e) ∙ behind_word made word (placed flat_words more new)

-- or there is no room for it
pub placed_none : (a : Arg) (more : List Arg) (made : List ℤ) (store : Flat) → arg_placed a store ≡ None → placed_behind made (placed flat_words (a ∷ more) store) ≡ None
unfolding placed_after
placed_none a more made store e = ap (placed_behind made) (placed_step a more store ∙ ap (placed_after more) e)

pub first_item : (args : List Arg) (i : ℕ) (a : Arg) → i < length args → a ≡ get_or args i a → drop i args ≡ a ∷ drop (i + 1) args
first_item args i a less is =
    let next : suc i ≡ i + 1 = omega arith in
    drop-cons args i a less ∙ ap (λ n. get_or args i a ∷ drop n args) next ∙ ap (λ b. b ∷ drop (i + 1) args) (sym is)
