-- Only a call calls, and only a return gives a result.
use Rattle.std.proofs.Common.{ℕ, zero, suc, ◌+◌, ◌*◌, ℤ, pos, negsuc, ◌+ℤ◌, ◌-ℤ◌, ◌*ℤ◌, Bool as Truth, true, false, List, [], ◌∷◌, length, Option, Some, None}
use Rattle.std.specs.Int.{int_div_euclid, int_rem_euclid}
use Rattle.xan_io.specs.Outcome as how
use Rattle.state_types.specs.Words.{Header}
use Rattle.operation_rules.specs.Effects.{Effect, Calls, Gives, Ends, with_none, with_one, with_two, with_three, writes_exact, divided, index_within, header_of, measures, reads_word, reads_at, loads_from, loads, puts_at, puts_into, puts, cells_from, splits_cells, splits_if, splits_block, splits, makes_equal, makes_array, makes_tuple, fits_word, effect}
use Rattle.operation_rules.specs.FlatWords.{Flat, flat_words}
use Rattle.operation_rules.specs.declared.operation.Operation.{Operation}
use Rattle.operation_rules.specs.declared.operation.Operation.TheVariants as operation

abbrev pub IsPlain : Effect Flat → Type 0
IsPlain (Calls fun words) = ⊥
IsPlain (Gives word) = ⊥
IsPlain (Ends (how.Returned word)) = ⊥
IsPlain (Ends how.Running) = ⊥
IsPlain _ = Unit {0}

abbrev pub IsPlainOperation : Operation → Type 0
IsPlainOperation (operation.Call fun) = ⊥
IsPlainOperation operation.Return = ⊥
IsPlainOperation _ = Unit {0}

none : (words : List ℤ) (e : Effect Flat) → IsPlain e → IsPlain (with_none flat_words words e)
none [] e plain = plain
none (w ∷ words) e plain = tt

one : (words : List ℤ) (f : ℤ → Effect Flat) → ((a : ℤ) → IsPlain (f a)) → IsPlain (with_one flat_words words f)
one [] f plain = tt
one (a ∷ []) f plain = plain a
one (a ∷ b ∷ words) f plain = tt

two : (words : List ℤ) (f : ℤ → ℤ → Effect Flat) → ((a b : ℤ) → IsPlain (f a b)) → IsPlain (with_two flat_words words f)
two [] f plain = tt
two (a ∷ []) f plain = tt
two (a ∷ b ∷ []) f plain = plain a b
two (a ∷ b ∷ c ∷ words) f plain = tt

three : (words : List ℤ) (f : ℤ → ℤ → ℤ → Effect Flat) → ((a b c : ℤ) → IsPlain (f a b c)) → IsPlain (with_three flat_words words f)
three [] f plain = tt
three (a ∷ []) f plain = tt
three (a ∷ b ∷ []) f plain = tt
three (a ∷ b ∷ c ∷ []) f plain = plain a b c
three (a ∷ b ∷ c ∷ d ∷ words) f plain = tt

exact : (test : Truth) (n : ℤ) (store : Flat) → IsPlain (writes_exact flat_words test n store)
exact true n store = tt
exact false n store = tt

division : (f : ℤ → ℤ → ℤ) (a b : ℤ) (store : Flat) → IsPlain (divided flat_words f a b store)
division f a (pos zero) store = tt
division f a (pos (suc n)) store = tt
division f a (negsuc n) store = tt

measure : (found : Option Header) (store : Flat) → IsPlain (measures flat_words found store)
measure None store = tt
measure (Some header) store = tt

read : (found : Option ℤ) (store : Flat) → IsPlain (reads_word flat_words found store)
read None store = tt
read (Some word) store = tt

read_at : (index : Option ℕ) (address : ℕ) (store : Flat) → IsPlain (reads_at flat_words index address store)
read_at None address store = tt
read_at (Some index) address store = read (flat_words.cell store address index) store

load_from : (found : Option Header) (address : ℕ) (index : ℤ) (store : Flat) → IsPlain (loads_from flat_words found address index store)
load_from None address index store = tt
load_from (Some header) address index store = read_at (index_within flat_words header.cells index) address store

load : (a index : ℤ) (store : Flat) → IsPlain (loads flat_words a index store)
load (pos address) index store = load_from (flat_words.headers store address) address index store
load (negsuc n) index store = tt

put_at : (index : Option ℕ) (address : ℕ) (word : ℤ) (store : Flat) → IsPlain (puts_at flat_words index address word store)
put_at None address word store = tt
put_at (Some index) address word store = tt

put_into : (found : Option Header) (address : ℕ) (index word : ℤ) (store : Flat) → IsPlain (puts_into flat_words found address index word store)
put_into None address index word store = tt
put_into (Some header) address index word store = put_at (index_within flat_words header.cells index) address word store

put : (a index word : ℤ) (store : Flat) → IsPlain (puts flat_words a index word store)
put (pos address) index word store = put_into (flat_words.headers store address) address index word store
put (negsuc n) index word store = tt

split_cells : (found : Option (List ℤ)) (store : Flat) → IsPlain (splits_cells flat_words found store)
split_cells None store = tt
split_cells (Some words) store = tt

split_if : (test : Truth) (address count : ℕ) (store : Flat) → IsPlain (splits_if flat_words test address count store)
split_if true address count store = split_cells (cells_from flat_words store address 0 count) store
split_if false address count store = tt

split_block : (found : Option Header) (address count : ℕ) (store : Flat) → IsPlain (splits_block flat_words found address count store)
split_block None address count store = tt
split_block (Some header) address count store = split_if _ address count store

split : (a : ℤ) (count : ℕ) (store : Flat) → IsPlain (splits flat_words a count store)
split (pos address) count store = split_block (flat_words.headers store address) address count store
split (negsuc n) count store = tt

make_equal : (room : Truth) (descriptor count : ℕ) (word : ℤ) (store : Flat) → IsPlain (makes_equal flat_words room descriptor count word store)
make_equal true descriptor count word store = tt
make_equal false descriptor count word store = tt

make_array : (cells : ℕ) (n fill : ℤ) (store : Flat) → IsPlain (makes_array flat_words cells n fill store)
make_array cells (pos n) fill store = make_equal (flat_words.room store (n + 2)) (2 * cells) n fill store
make_array cells (negsuc n) fill store = tt

make_tuple : (room : Truth) (number : ℕ) (words : List ℤ) (store : Flat) → IsPlain (makes_tuple flat_words room number words store)
make_tuple true number words store = tt
make_tuple false number words store = tt

pub plain_effect : (o : Operation) (words : List ℤ) (store : Flat) → IsPlainOperation o → IsPlain (effect flat_words o words store)
plain_effect (operation.Literal n) words store plain = none words _ tt
plain_effect (operation.Truth b) words store plain = none words _ tt
plain_effect operation.Move words store plain = one words _ (λ a. tt)
plain_effect operation.Add words store plain = two words _ (λ a b. exact (fits_word (a +ℤ b)) (a +ℤ b) store)
plain_effect operation.Sub words store plain = two words _ (λ a b. exact (fits_word (a -ℤ b)) (a -ℤ b) store)
plain_effect operation.Mul words store plain = two words _ (λ a b. exact (fits_word (a *ℤ b)) (a *ℤ b) store)
plain_effect operation.Div words store plain = two words _ (λ a b. division int_div_euclid a b store)
plain_effect operation.Mod words store plain = two words _ (λ a b. division int_rem_euclid a b store)
plain_effect (operation.Compare c) words store plain = two words _ (λ a b. tt)
plain_effect (operation.Branch c) words store plain = two words _ (λ a b. tt)
plain_effect (operation.BranchTruth b) words store plain = one words _ (λ a. tt)
plain_effect operation.Jump words store plain = none words _ tt
plain_effect (operation.Call fun) words store plain = absurd plain
plain_effect operation.Return words store plain = absurd plain
plain_effect operation.Length words store plain = one words _ (λ a. measure (header_of flat_words store a) store)
plain_effect operation.Load words store plain = two words _ (λ a i. load a i store)
plain_effect operation.Store words store plain = three words _ (λ a i v. put a i v store)
plain_effect (operation.New cells) words store plain = two words _ (λ n v. make_array cells n v store)
plain_effect (operation.Tuple number) words store plain = make_tuple (flat_words.room store (length words + 2)) number words store
plain_effect (operation.Untuple number count) words store plain = one words _ (λ a. split a count store)
plain_effect operation.Print words store plain = one words _ (λ a. tt)
