-- Words in places.
use Rattle.std.proofs.Common.{◌≡◌, ◌∙◌, ap, refl, sym, subst, arith, ℕ, zero, suc, ◌<◌, ◌/◌, ◌%◌, ℤ, pos, negsuc, ◌<ℤ◌, Bool as Truth, true, false, List, [], ◌∷◌, length, Option, Some, None, IsSome, IfNone, if◌then◌else◌}
use Rattle.std.specs.List.{slice_get, slice_set, slice_index_or}
use Rattle.std.proofs.lemmas.Bool.{lt-ltb}
use Rattle.std.proofs.lemmas.Int.{ints}
use Rattle.std.proofs.lemmas.List.{length-map}
use Rattle.std.proofs.lemmas.Option.{slice_get-get_or}
use Rattle.xan_io.specs.Outcome as how
use Rattle.operation_rules.specs.Effects.{Effect, Writes, Prints, Takes, Calls, Gives, Ends, effect, fits_word, writes_exact, divided}
use Rattle.operation_rules.specs.FlatWords.{Flat, flat_words}
use Rattle.operation_rules.specs.declared.operation.Operation.{Operation}
use Rattle.dtal_code.specs.Guessed.{bytes_in}
use Rattle.dtal_code.specs.Instructions.{Instruction, does}
use Rattle.dtal_code.specs.Running.{with_first, words_in, with_words}
use Rattle.dtal_machine.specs.declared.done.Done.{Done}
use Rattle.dtal_machine.specs.declared.done.Done.TheVariants as done
use Rattle.dtal_machine.specs.declared.event.End.TheVariants as ends
use Rattle.dtal_machine.specs.Acting.{NotStuck, Left, leaves, left, left_by, left_exact, after_block, given_block, read_words, with_read, wrote, fitting}

pub read_one : (places : List ℤ) (p : ℕ) (a : ℤ) → slice_get places p ≡ Some a → words_in places (p ∷ []) ≡ Some (a ∷ [])
unfolding words_in
read_one places p a e = ap (λ o. with_first o (Some [])) e

pub read_two : (places : List ℤ) (p q : ℕ) (a b : ℤ) → slice_get places p ≡ Some a → slice_get places q ≡ Some b → words_in places (p ∷ q ∷ []) ≡ Some (a ∷ b ∷ [])
unfolding words_in
read_two places p q a b e f = ap (λ o. with_first o (words_in places (q ∷ []))) e ∙ ap (with_first (Some a)) (read_one places q b f)

pub read_three : (places : List ℤ) (p q r : ℕ) (a b c : ℤ) → slice_get places p ≡ Some a → slice_get places q ≡ Some b → slice_get places r ≡ Some c
    → words_in places (p ∷ q ∷ r ∷ []) ≡ Some (a ∷ b ∷ c ∷ [])
unfolding words_in
read_three places p q r a b c e f g = ap (λ o. with_first o (words_in places (q ∷ r ∷ []))) e ∙ ap (with_first (Some a)) (read_two places q r b c f g)

pub read_none : (places : List ℤ) → words_in places [] ≡ Some []
unfolding words_in
read_none places = refl

pub write_one : (places : List ℤ) (p : ℕ) (word : ℤ) → p < length places → with_words places (p ∷ []) (word ∷ []) ≡ Some (slice_set places p word)
unfolding with_words
write_one places p word less = rw (lt-ltb p (length places) less) refl

pub write_none : (places : List ℤ) → with_words places [] [] ≡ Some places
unfolding with_words
write_none places = refl

pub ruleset places_read = (read_none, read_one, read_two, read_three, write_one, write_none)

-- ---- results

-- what is left where the words are read
pub left_read : (i : Instruction) (places words : List ℤ) (store : Flat) → words_in places i.reads ≡ Some words
    → left_by i places store ≡ left i places store (effect flat_words i.operation words store)
left_read i places words store e = ap (λ o. with_read o (λ ws. left i places store (effect flat_words i.operation ws store))) e

exact_left : (o : Operation) (reads : List ℕ) (rd : ℕ) (places : List ℤ) (e : ℤ) (store : Flat) (test : Truth) → rd < length places
    → left (does o (rd ∷ []) reads) places store (writes_exact flat_words test e store) ≡ left_exact places rd (if test then Some e else None) store
exact_left o reads rd places e store true less = ap (λ p. wrote p store) (write_one places rd e less)
exact_left o reads rd places e store false less = refl

pub two_exact : (o : Operation) (rd ra rb : ℕ) (places : List ℤ) (a b e : ℤ) (store : Flat) → rd < length places → slice_get places ra ≡ Some a → slice_get places rb ≡ Some b
    → effect flat_words o (a ∷ b ∷ []) store ≡ writes_exact flat_words (fits_word e) e store
    → left_by (does o (rd ∷ []) (ra ∷ rb ∷ [])) places store ≡ left_exact places rd (fitting e) store
two_exact o rd ra rb places a b e store less got got' is =
    let i = does o (rd ∷ []) (ra ∷ rb ∷ []) in
    left_read i places (a ∷ b ∷ []) store (read_two places ra rb a b got got') ∙ ap (left i places store) is
    ∙ exact_left o (ra ∷ rb ∷ []) rd places e store (fits_word e) less

none_left : (x : Option Left) → (let o : Option Left = None in o) ≡ x → IsSome x → ⊥
none_left None e some = (let no : false ≡ true = some in cc)
none_left (Some y) e some = cc

above_zero : (i : Instruction) (f : ℤ → ℤ → ℤ) (places : List ℤ) (a b : ℤ) (store : Flat) → IsSome (left i places store (divided flat_words f a b store)) → pos 0 <ℤ b
above_zero i f places a (pos zero) store some = absurd (none_left None refl some)
above_zero i f places a (pos (suc n)) store some = omega (arith, ints)
above_zero i f places a (negsuc n) store some = absurd (none_left None refl some)

pub divisor_above : (o : Operation) (f : ℤ → ℤ → ℤ) (rd ra rb : ℕ) (places : List ℤ) (a b : ℤ) (store : Flat) → slice_get places ra ≡ Some a → slice_get places rb ≡ Some b
    → effect flat_words o (a ∷ b ∷ []) store ≡ divided flat_words f a b store → IsSome (left_by (does o (rd ∷ []) (ra ∷ rb ∷ [])) places store) → pos 0 <ℤ b
divisor_above o f rd ra rb places a b store got got' is some =
    let i = does o (rd ∷ []) (ra ∷ rb ∷ []) in
    above_zero i f places a b store (subst IsSome (left_read i places (a ∷ b ∷ []) store (read_two places ra rb a b got got') ∙ ap (left i places store) is) some)

-- ---- blocks

-- no effect that is stuck leaves anything
some_goes : (i : Instruction) (places : List ℤ) (store : Flat) (e : Effect Flat) → IsSome (left i places store e) → NotStuck e
some_goes i places store (Writes words new) some = tt
some_goes i places store (Prints number) some = tt
some_goes i places store (Takes holds) some = tt
some_goes i places store (Calls fun words) some = tt
some_goes i places store (Gives word) some = tt
some_goes i places store (Ends how.NoStore) some = tt
some_goes i places store (Ends how.Overflow) some = tt
some_goes i places store (Ends (how.Returned word)) some = tt
some_goes i places store (Ends how.Running) some = tt
some_goes i places store (Ends how.Stuck) some = absurd (none_left None refl some)

pub goes_by : (i : Instruction) (places words : List ℤ) (store : Flat) → words_in places i.reads ≡ Some words → IsSome (left_by i places store)
    → NotStuck (effect flat_words i.operation words store)
goes_by i places words store e some = some_goes i places store (effect flat_words i.operation words store) (subst IsSome (left_read i places words store e) some)

-- a block is made, or there is no room for it
block_made : (o : Operation) (reads : List ℕ) (rd : ℕ) (places places' : List ℤ) (store new : Flat) (made : Option ℤ) (result : Done) → rd < length places
    → IfNone made (new ≡ store) → after_block places rd made ≡ (result, places') → left (does o (rd ∷ []) reads) places store (given_block made new) ≡ leaves result places' new
block_made o reads rd places places' store new None result less same after =
    ap (λ (s : Flat). leaves (done.Ends ends.NoStore) places s) (sym same) ∙ ap (λ (x : Done × List ℤ). leaves x.0 x.1 new) after
block_made o reads rd places places' store new (Some address) result less same after =
    ap (λ p. wrote p new) (write_one places rd address less) ∙ ap (λ (x : Done × List ℤ). leaves x.0 x.1 new) after

pub block_left : (o : Operation) (reads : List ℕ) (rd : ℕ) (places places' words : List ℤ) (store new : Flat) (made : Option ℤ) (result : Done) → rd < length places
    → words_in places reads ≡ Some words → effect flat_words o words store ≡ given_block made new → IfNone made (new ≡ store)
    → after_block places rd made ≡ (result, places') → left_by (does o (rd ∷ []) reads) places store ≡ leaves result places' new
block_left o reads rd places places' words store new made result less read is same after =
    let i = does o (rd ∷ []) reads in
    left_read i places words store read ∙ ap (left i places store) is ∙ block_made o reads rd places places' store new made result less same after

-- ---- listed places

pub listed_count : (count list : ℕ) → length (bytes_in count list) ≡ count
unfolding bytes_in
listed_count zero list = refl
listed_count (suc count) list = ap suc (listed_count count (list / 256))

pub listed_read : (places : List ℤ) (count list : ℕ) → length places ≡ 256 → words_in places (bytes_in count list) ≡ Some (read_words places (bytes_in count list))
unfolding bytes_in words_in
listed_read places zero list is = refl
listed_read places (suc count) list is =
    let less : list % 256 < length places = omega (arith, is) in
    ap (λ o. with_first o (words_in places (bytes_in count (list / 256)))) (slice_get-get_or places (list % 256) (pos 0) less)
    ∙ ap (with_first (Some (slice_index_or places (list % 256) (pos 0)))) (listed_read places count (list / 256) is)

pub read_length : (places : List ℤ) (count list : ℕ) → length (read_words places (bytes_in count list)) ≡ count
read_length places count list = length-map (bytes_in count list) (λ place. slice_index_or places place (pos 0)) ∙ listed_count count list
