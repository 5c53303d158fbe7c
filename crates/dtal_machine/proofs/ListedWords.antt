-- Words of listed places.
use Rattle.std.proofs.Common.{◌≡◌, ◌∙◌, ap, sym, ℕ, suc, ◌++◌, ◌/◌, ◌%◌, ℤ, pos, List, [], ◌∷◌, append_assoc, Some}
use Rattle.std.specs.List.{slice_get}
use Rattle.std.proofs.lemmas.Option.{get_or_from_slice_get}
use Rattle.dtal_code.specs.Guessed.{bytes_in}
use Rattle.dtal_machine.specs.Acting.{read_words}

-- the words read so far, and those of the places that are left
pub next_read : (places made new total : List ℤ) (left less list : ℕ) (word : ℤ) → left ≡ suc less → made ++ read_words places (bytes_in left list) ≡ total
    → slice_get places (list % 256) ≡ Some word → new ≡ made ++ word ∷ [] → new ++ read_words places (bytes_in less (list / 256)) ≡ total
unfolding bytes_in
next_read places made new total left less list word is before got step =
    ap (λ ws. ws ++ read_words places (bytes_in less (list / 256))) step ∙ append_assoc made (word ∷ []) (read_words places (bytes_in less (list / 256)))
    ∙ ap (λ w. made ++ w ∷ read_words places (bytes_in less (list / 256))) (sym (get_or_from_slice_get places (list % 256) word (pos 0) got))
    ∙ ap (λ n. made ++ read_words places (bytes_in n list)) (sym is) ∙ before
