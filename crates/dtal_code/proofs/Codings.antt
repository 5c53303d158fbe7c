-- What is coded in two words is read off them.
use Rattle.std.proofs.Common.{arith, ◌≡◌, ◌∙◌, sym, ℕ, ℤ, pos, negsuc, ◌==◌, ◌<◌, ◌≤◌, Bool as Truth, true, false, FitsSigned, List, [], ◌∷◌, length, nat_lt, Some, None, refl, ap, if◌then◌else◌}
use Rattle.std.specs.Int.{w64, cast_signed, cast_unsigned}
use Rattle.std.proofs.lemmas.Bool.{le-ltb}
use Rattle.std.proofs.lemmas.Int.{to_z-of_z}
use Rattle.std.proofs.lemmas.Option.{same_Some}
use Rattle.std.specs.List.{All}
use Rattle.dtal_code.specs.declared.instruction.Cmp.{Cmp}
use Rattle.dtal_code.specs.declared.instruction.Cmp.TheVariants as cmp
use Rattle.dtal_code.specs.declared.object.RunOp.{RunOp}
use Rattle.dtal_code.specs.declared.object.RunOp.TheVariants as op
use Rattle.dtal_code.specs.Guessed.{bytes_in, comparison_of, first_of, second_of, third_of, high_of, guessed_at, guessed}
use Rattle.dtal_code.specs.Instructions.{comparison}
use Rattle.dtal_code.specs.ObjectWords.{bits_of, truth_bit, word_of, words_of, IsRunOp, IsPair}
use Rattle.dtal_code.proofs.WordBytes.{Parts, parts, bytes_again}

-- ---- single values

negative_bits : (n : ℕ) → bits_of (negsuc n) ≡ cast_unsigned w64 (negsuc n)
negative_bits n = omega arith

pub number_bits : (number : ℤ) → cast_unsigned w64 number ≡ bits_of number
number_bits (pos n) = refl
number_bits (negsuc n) = sym (negative_bits n)

number_again : (number : ℤ) → FitsSigned w64 number → cast_signed w64 (bits_of number) ≡ number
number_again (pos n) fits = to_z-of_z w64 (pos n) fits
number_again (negsuc n) fits = ap (cast_signed w64) (negative_bits n) ∙ to_z-of_z w64 (negsuc n) fits

truth_again : (b : Truth) → (truth_bit b == 1) ≡ b
truth_again true = refl
truth_again false = refl

comparison_again : (c : Cmp) → comparison_of (comparison c) ≡ c
comparison_again cmp.Lt = refl
comparison_again cmp.Le = refl
comparison_again cmp.Eq = refl
comparison_again cmp.Ne = refl

comparison_small : (c : Cmp) → comparison c < 256
comparison_small cmp.Lt = omega arith
comparison_small cmp.Le = omega arith
comparison_small cmp.Eq = omega arith
comparison_small cmp.Ne = omega arith

truth_small : (b : Truth) → truth_bit b < 256
truth_small true = omega arith
truth_small false = omega arith

-- ---- instructions

-- what is made of a word's parts is made of these
of_parts : (make : (a b c high : ℕ) → RunOp) → (opcode a b c high word second : ℕ) → Parts opcode a b c high word
    → guessed_at opcode word second ≡ Some (make (first_of word) (second_of word) (third_of word) (high_of word)) → guessed word second ≡ Some (make a b c high)
of_parts make opcode a b c high word second p made = ap (λ k. guessed_at k word second) p.opcode_is ∙ made
    ∙ ap (λ x. Some (make x (second_of word) (third_of word) (high_of word))) p.first_is
    ∙ ap (λ x. Some (make a x (third_of word) (high_of word))) p.second_is
    ∙ ap (λ x. Some (make a b x (high_of word))) p.third_is
    ∙ ap (λ x. Some (make a b c x)) p.high_is

-- the same of the three that list places
of_places : (make : (places : List ℕ) (p number : ℕ) → RunOp) → (opcode p number : ℕ) (places : List ℕ) → opcode < 256 → p < 256 → length places ≤ 8 → All (λ place. place < 256) places
    → ((word second : ℕ) → nat_lt 8 (second_of word) ≡ false → guessed_at opcode word second ≡ Some (make (bytes_in (second_of word) second) (first_of word) (high_of word)))
    → guessed (word_of (opcode ∷ p ∷ length places ∷ 0 ∷ number ∷ [])) (word_of places) ≡ Some (make places p number)
of_places make opcode p number places o-less p-less few are made =
    let p-parts = parts opcode p (length places) 0 number o-less p-less (omega arith) (omega arith) in
    let word = word_of (opcode ∷ p ∷ length places ∷ 0 ∷ number ∷ []) in
    let fits : nat_lt 8 (second_of word) ≡ false = ap (nat_lt 8) p-parts.second_is ∙ le-ltb 8 (length places) few in
    ap (λ k. guessed_at k word (word_of places)) p-parts.opcode_is ∙ made word (word_of places) fits
    ∙ ap (λ x. Some (make (bytes_in x (word_of places)) (first_of word) (high_of word))) p-parts.second_is
    ∙ ap (λ x. Some (make x (first_of word) (high_of word))) (bytes_again places are)
    ∙ ap (λ x. Some (make places x (high_of word))) p-parts.first_is
    ∙ ap (λ x. Some (make places p x)) p-parts.high_is

pub coded_again : (o : RunOp) → IsRunOp o → guessed (words_of o).0 (words_of o).1 ≡ Some o
unfolding word_of
coded_again (op.Li rd number) fit = of_parts (λ a b c h. op.Li a (cast_signed w64 (bits_of number))) 1 rd 0 0 0 _ (bits_of number) (parts 1 rd 0 0 0 (omega arith) (omega arith) (omega arith) (omega arith)) refl
    ∙ ap (λ n. Some (op.Li rd n)) (number_again number fit.1)
coded_again (op.Lb rd b) fit = of_parts (λ a b c h. op.Lb a (b == 1)) 2 rd (truth_bit b) 0 0 _ 0 (parts 2 rd (truth_bit b) 0 0 (omega arith) (omega arith) (truth_small b) (omega arith)) refl
    ∙ ap (λ n. Some (op.Lb rd n)) (truth_again b)
coded_again (op.Mv p q) fit = of_parts (λ a b c h. op.Mv a b) 3 p q 0 0 _ 0 (parts 3 p q 0 0 (omega arith) fit.0 fit.1 (omega arith)) refl
coded_again (op.Add rd ra rb) fit = of_parts (λ a b c h. op.Add a b c) 4 rd ra rb 0 _ 0 (parts 4 rd ra rb 0 (omega arith) (omega arith) (omega arith) (omega arith)) refl
coded_again (op.Sub rd ra rb) fit = of_parts (λ a b c h. op.Sub a b c) 5 rd ra rb 0 _ 0
    (parts 5 rd ra rb 0 (omega arith) (omega arith) (omega arith) (omega arith)) refl
coded_again (op.Mul rd ra rb) fit = of_parts (λ a b c h. op.Mul a b c) 6 rd ra rb 0 _ 0
    (parts 6 rd ra rb 0 (omega arith) (omega arith) (omega arith) (omega arith)) refl
coded_again (op.Div rd ra rb) fit = of_parts (λ a b c h. op.Div a b c) 7 rd ra rb 0 _ 0
    (parts 7 rd ra rb 0 (omega arith) (omega arith) (omega arith) (omega arith)) refl
coded_again (op.Mod rd ra rb) fit = of_parts (λ a b c h. op.Mod a b c) 8 rd ra rb 0 _ 0
    (parts 8 rd ra rb 0 (omega arith) (omega arith) (omega arith) (omega arith)) refl
coded_again (op.Set c rd ra rb) fit = of_parts (λ x y z h. op.Set (comparison_of h) x y z) 9 rd ra rb (comparison c) _ 0
    (parts 9 rd ra rb (comparison c) (omega arith) (omega arith) (omega arith) (omega arith)) refl
    ∙ ap (λ d. Some (op.Set d rd ra rb)) (comparison_again c)
coded_again (op.Br c ra rb to) fit = of_parts (λ x y z h. op.Br (comparison_of x) y z to) 10 (comparison c) ra rb 0 _ to
    (parts 10 (comparison c) ra rb 0 (omega arith) (comparison_small c) (omega arith) (omega arith)) refl
    ∙ ap (λ d. Some (op.Br d ra rb to)) (comparison_again c)
coded_again (op.Bt ra to) fit = of_parts (λ a b c h. op.Bt a to) 11 ra 0 0 0 _ to
    (parts 11 ra 0 0 0 (omega arith) (omega arith) (omega arith) (omega arith)) refl
coded_again (op.Bf ra to) fit = of_parts (λ a b c h. op.Bf a to) 12 ra 0 0 0 _ to
    (parts 12 ra 0 0 0 (omega arith) (omega arith) (omega arith) (omega arith)) refl
coded_again (op.Jmp to) fit = of_parts (λ a b c h. op.Jmp to) 13 0 0 0 0 _ to
    (parts 13 0 0 0 0 (omega arith) (omega arith) (omega arith) (omega arith)) refl
coded_again (op.Call fun p args) fit = of_places (λ places p number. op.Call number p (record { items = places })) 14 p fun args.items (omega arith) fit.1 fit.2.few fit.2.are
    (λ word second few. ap (λ t. if t then None else Some (op.Call (high_of word) (first_of word) (record { items = bytes_in (second_of word) second }))) few)
coded_again (op.Ret p) fit = of_parts (λ a b c h. op.Ret a) 15 p 0 0 0 _ 0
    (parts 15 p 0 0 0 (omega arith) fit (omega arith) (omega arith)) refl
coded_again (op.Len rd ra) fit = of_parts (λ a b c h. op.Len a b) 16 rd ra 0 0 _ 0
    (parts 16 rd ra 0 0 (omega arith) (omega arith) (omega arith) (omega arith)) refl
coded_again (op.Ld rd ra ri) fit = of_parts (λ a b c h. op.Ld a b c) 17 rd ra ri 0 _ 0
    (parts 17 rd ra ri 0 (omega arith) (omega arith) (omega arith) (omega arith)) refl
coded_again (op.St ra ri rv) fit = of_parts (λ a b c h. op.St a b c) 18 ra ri rv 0 _ 0
    (parts 18 ra ri rv 0 (omega arith) (omega arith) (omega arith) (omega arith)) refl
coded_again (op.New rd cells rn rv) fit = of_parts (λ a b c h. op.New a h b c) 19 rd rn rv cells _ 0
    (parts 19 rd rn rv cells (omega arith) (omega arith) (omega arith) (omega arith)) refl
coded_again (op.Tup p number places) fit = of_places (λ places p number. op.Tup p number (record { items = places })) 20 p number places.items (omega arith) fit.0 fit.2.few fit.2.are
    (λ word second few. ap (λ t. if t then None else Some (op.Tup (first_of word) (high_of word) (record { items = bytes_in (second_of word) second }))) few)
coded_again (op.Untup number q places) fit = of_places (λ places q number. op.Untup number q (record { items = places })) 21 q number places.items (omega arith) fit.1 fit.2.few fit.2.are
    (λ word second few. ap (λ t. if t then None else Some (op.Untup (high_of word) (first_of word) (record { items = bytes_in (second_of word) second }))) few)
coded_again (op.Print ra) fit = of_parts (λ a b c h. op.Print a) 22 ra 0 0 0 _ 0
    (parts 22 ra 0 0 0 (omega arith) (omega arith) (omega arith) (omega arith)) refl

-- the pair of an instruction is guessed to code it
pub pair_guessed : (first second : ℕ) (o : RunOp) → IsPair first second o → guessed first second ≡ Some o
pair_guessed first second o pair = ap (λ words. guessed words.0 words.1) pair.is ∙ coded_again o pair.in_range

pub one_instruction : (first second : ℕ) (o p : RunOp) → IsPair first second o → IsPair first second p → o ≡ p
one_instruction first second o p o-pair p-pair = same_Some o p (sym (pair_guessed first second o o-pair) ∙ pair_guessed first second p p-pair)
