-- The loop over the words that spell arguments.
use Rattle.std.proofs.Common.{◌≡◌, ◌∙◌, ℕ, suc, ◌+◌, ◌<◌, ◌≤◌, List, [], ◌∷◌, ◌++◌, length, get_or, drop, Option, None, Some, refl, sym, ap, append_assoc, append-nil, add-one}
use Rattle.std.specs.Prelude.{option_map}
use Rattle.std.specs.Borrow.{Bor}
use Rattle.std.proofs.Math.Seq.{drop-cons}
use Rattle.std.proofs.lemmas.List.{drop_all}
use Rattle.xan_io.specs.declared.arg.Arg.{Arg}
use Rattle.xan_io.specs.Arguments.{arg_of}
use Rattle.xan_io.specs.Words.{texts}
use Rattle.run_options.specs.Requests.{with_arg, args_of}

-- arguments that were read, and those that are spelled by what is left
abbrev pub behind : List Arg → Option (List Arg) → Option (List Arg)
behind made rest = option_map (λ others. made ++ others) rest

pub behind-none : (rest : Option (List Arg)) → behind [] rest ≡ rest
behind-none None = refl
behind-none (Some others) = refl

behind-more : (made : List Arg) (arg : Arg) (rest : Option (List Arg)) → behind (made ++ (arg ∷ [])) rest ≡ behind made (with_arg (Some arg) rest)
behind-more made arg None = refl
behind-more made arg (Some others) = ap Some (append_assoc made (arg ∷ []) others)

args-next : (words : List (Bor (List ℕ))) (index : ℕ) (d : Bor (List ℕ)) → index < length words
    → args_of (texts (drop index words)) ≡ with_arg (arg_of ((get_or words index d).now)) (args_of (texts (drop (suc index) words)))
unfolding args_of
args-next words index d lt = ap (λ list. args_of (texts list)) (drop-cons words index d lt)

-- the next word spells this argument
pub args-more : (words : List (Bor (List ℕ))) (index : ℕ) (d : Bor (List ℕ)) (made : List Arg) (arg : Arg) (whole : Option (List Arg)) → index < length words
    → arg_of ((get_or words index d).now) ≡ Some arg → behind made (args_of (texts (drop index words))) ≡ whole
    → behind (made ++ (arg ∷ [])) (args_of (texts (drop (index + 1) words))) ≡ whole
args-more words index d made arg whole lt spells so_far =
    ap (λ n. behind (made ++ (arg ∷ [])) (args_of (texts (drop n words)))) (add-one index)
    ∙ behind-more made arg (args_of (texts (drop (suc index) words)))
    ∙ ap (λ o. behind made (with_arg o (args_of (texts (drop (suc index) words))))) (sym spells)
    ∙ ap (behind made) (sym (args-next words index d lt)) ∙ so_far

-- the next word spells none
pub args-none : (words : List (Bor (List ℕ))) (index : ℕ) (d : Bor (List ℕ)) (made : List Arg) (whole : Option (List Arg)) → index < length words
    → arg_of ((get_or words index d).now) ≡ None → behind made (args_of (texts (drop index words))) ≡ whole → whole ≡ None
args-none words index d made whole lt spells so_far =
    sym so_far ∙ ap (behind made) (args-next words index d lt) ∙ ap (λ o. behind made (with_arg o (args_of (texts (drop (suc index) words))))) spells

-- no word is left
pub args-end : (words : List (Bor (List ℕ))) (index : ℕ) (made : List Arg) (whole : Option (List Arg)) → length words ≤ index
    → behind made (args_of (texts (drop index words))) ≡ whole → whole ≡ Some made
unfolding args_of
args-end words index made whole le so_far =
    sym so_far ∙ ap (λ list. behind made (args_of (texts list))) (drop_all index words le) ∙ ap Some (append-nil made)
