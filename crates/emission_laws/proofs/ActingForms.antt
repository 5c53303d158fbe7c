-- The acting instruction of an emitted stretch is the operation of the instruction over places, over other places.
use Rattle.std.proofs.Common.{◌≡◌, ℕ, zero, suc, ◌+◌, ◌-◌, ◌^◌, ◌==◌, ◌≤◌, ℤ, pos, negsuc, Bool, true, false, List, [], ◌∷◌, length, take, drop, Option, Some, None, nat_lt, nat_le, if◌then◌else◌, refl, sym, ap, ◌∙◌, arith}
use Rattle.std.specs.Prelude.{int_lt}
use Rattle.std.proofs.lemmas.Bool.Decides.{nat_tests}
use Rattle.std.proofs.lemmas.Int.{ints}
use Rattle.std.proofs.lemmas.Option.{none-some, same_Some}
use Rattle.operation_rules.specs.declared.operation.Operation.{Operation}
use Rattle.operation_rules.specs.declared.operation.Operation.TheVariants.{Literal, Truth, Move, Add, Sub, Mul, Div, Mod, Compare, Branch, BranchTruth, Jump, Call, Return, Length, Load, Store, New, Tuple, Untuple, Print}
use Rattle.three_address.specs.Instructions.{of_truth, of_comparison, of_type, operation_of}
use Rattle.three_address.specs.Splits.{Parts, fixed, one_first, taken_apart, where_so, parts_by}
use Rattle.three_address.specs.declared.instruction.Op22.{Op22}
use Rattle.three_address.specs.declared.instruction.Op22.TheVariants as low
use Rattle.dtal_code.specs.Instructions.{Instruction, comparison, instruction_of, resolved}
use Rattle.emission_laws.specs.ApartHomes.{names_type}
use Rattle.dtal_emit.specs.Acting.{nth, comparison_of, type_of, takes_places, acting}

-- ---- counts of places

-- so many are written and so many are read
pub record AreCounted (writes reads : ℕ) (parts : Parts) : Type 0 where
  pub writes_are : length parts.0 ≡ writes
  pub reads_are : length parts.1 ≡ reads

pub length_take : {A : Type 0} (n : ℕ) (xs : List A) → n ≤ length xs → length (take n xs) ≡ n
length_take zero xs h = refl
length_take (suc n) [] h = absurd (omega arith)
length_take (suc n) (x ∷ xs) h = ap suc (length_take n xs (omega arith))

pub length_drop : {A : Type 0} (n : ℕ) (xs : List A) → length (drop n xs) ≡ length xs - n
length_drop zero xs = omega arith
length_drop (suc n) [] = omega arith
length_drop (suc n) (x ∷ xs) = length_drop n xs ∙ omega arith

if_counted : (b : Bool) (writes reads : ℕ) (places : List ℕ) (parts : Parts) → length places == writes + reads ≡ b
    → (if b then Some (take writes places, drop writes places) else None) ≡ Some parts → AreCounted writes reads parts
if_counted true writes reads places parts t e =
    let sum : length places ≡ writes + reads = grind (arith, nat_tests) in
    let same = same_Some (take writes places, drop writes places) parts e in
    record {
      writes_are = ap (λ (p : Parts). length p.0) (sym same) ∙ length_take writes places (omega (arith, sum));
      reads_are = ap (λ (p : Parts). length p.1) (sym same) ∙ length_drop writes places ∙ omega (arith, sum);
    }
if_counted false writes reads places parts t e = absurd (none-some parts e)

pub fixed_counted : (writes reads : ℕ) (places : List ℕ) (parts : Parts) → fixed writes reads places ≡ Some parts → AreCounted writes reads parts
fixed_counted writes reads places parts e = if_counted (length places == writes + reads) writes reads places parts refl e

pub so_is : (b : Bool) (p : Option Parts) (parts : Parts) → where_so b p ≡ Some parts → p ≡ Some parts
so_is true p parts e = e
so_is false p parts e = absurd (none-some parts e)

some_first : (b : Bool) (places : List ℕ) (parts : Parts) → nat_le 1 (length places) ≡ b
    → (if b then Some (take 1 places, drop 1 places) else None) ≡ Some parts → AreCounted 1 (length places - 1) parts
some_first true places parts t e =
    let many : 1 ≤ length places = grind (arith, nat_tests) in
    let same = same_Some (take 1 places, drop 1 places) parts e in
    record {
      writes_are = ap (λ (p : Parts). length p.0) (sym same) ∙ length_take 1 places many;
      reads_are = ap (λ (p : Parts). length p.1) (sym same) ∙ length_drop 1 places;
    }
some_first false places parts t e = absurd (none-some parts e)

some_taken : (b : Bool) (places : List ℕ) (parts : Parts) → nat_le 1 (length places) ≡ b
    → (if b then Some (drop 1 places, take 1 places) else None) ≡ Some parts → AreCounted (length places - 1) 1 parts
some_taken true places parts t e =
    let many : 1 ≤ length places = grind (arith, nat_tests) in
    let same = same_Some (drop 1 places, take 1 places) parts e in
    record {
      writes_are = ap (λ (p : Parts). length p.0) (sym same) ∙ length_drop 1 places;
      reads_are = ap (λ (p : Parts). length p.1) (sym same) ∙ length_take 1 places many;
    }
some_taken false places parts t e = absurd (none-some parts e)

pub first_counted : (places : List ℕ) (parts : Parts) → one_first places ≡ Some parts → AreCounted 1 (length places - 1) parts
first_counted places parts e = some_first (nat_le 1 (length places)) places parts refl e

pub taken_counted : (places : List ℕ) (parts : Parts) → taken_apart places ≡ Some parts → AreCounted (length places - 1) 1 parts
taken_counted places parts e = some_taken (nat_le 1 (length places)) places parts refl e

-- what is over registers reads three places at most, and writes one at most
pub record AreFew (parts : Parts) : Type 0 where
  pub few_written : length parts.0 ≤ 1
  pub few_read : length parts.1 ≤ 3

few_of : (writes reads : ℕ) (parts : Parts) → writes ≤ 1 → reads ≤ 3 → AreCounted writes reads parts → AreFew parts
few_of writes reads parts w r c = (let a = c.writes_are in let b = c.reads_are in record { few_written = omega (arith, a, w); few_read = omega (arith, b, r) })

few_fixed : (writes reads : ℕ) (places : List ℕ) (parts : Parts) → writes ≤ 1 → reads ≤ 3 → fixed writes reads places ≡ Some parts → AreFew parts
few_fixed writes reads places parts w r e = few_of writes reads parts w r (fixed_counted writes reads places parts e)

pub are_few : (o : Op22) (number : ℤ) (places : List ℕ) (parts : Parts) → takes_places o ≡ false → parts_by o number places ≡ Some parts → AreFew parts
are_few low.Li number places parts t e = few_fixed 1 0 places parts (omega arith) (omega arith) e
are_few low.Lb number places parts t e = few_fixed 1 0 places parts (omega arith) (omega arith) (so_is _ _ parts e)
are_few low.Mv number places parts t e = absurd (let bad : ⊥ = cc in bad)
are_few low.Add number places parts t e = few_fixed 1 2 places parts (omega arith) (omega arith) e
are_few low.Sub number places parts t e = few_fixed 1 2 places parts (omega arith) (omega arith) e
are_few low.Mul number places parts t e = few_fixed 1 2 places parts (omega arith) (omega arith) e
are_few low.Div number places parts t e = few_fixed 1 2 places parts (omega arith) (omega arith) e
are_few low.Mod number places parts t e = few_fixed 1 2 places parts (omega arith) (omega arith) e
are_few low.Set number places parts t e = few_fixed 1 2 places parts (omega arith) (omega arith) (so_is _ _ parts e)
are_few low.Br number places parts t e = few_fixed 0 2 places parts (omega arith) (omega arith) (so_is _ _ parts e)
are_few low.Bt number places parts t e = few_fixed 0 1 places parts (omega arith) (omega arith) e
are_few low.Bf number places parts t e = few_fixed 0 1 places parts (omega arith) (omega arith) e
are_few low.Jmp number places parts t e = few_fixed 0 0 places parts (omega arith) (omega arith) e
are_few low.Call number places parts t e = absurd (let bad : ⊥ = cc in bad)
are_few low.Ret number places parts t e = absurd (let bad : ⊥ = cc in bad)
are_few low.Len number places parts t e = few_fixed 1 1 places parts (omega arith) (omega arith) e
are_few low.Ld number places parts t e = few_fixed 1 2 places parts (omega arith) (omega arith) e
are_few low.St number places parts t e = few_fixed 0 3 places parts (omega arith) (omega arith) e
are_few low.New number places parts t e = few_fixed 1 2 places parts (omega arith) (omega arith) (so_is _ _ parts e)
are_few low.Tup number places parts t e = absurd (let bad : ⊥ = cc in bad)
are_few low.Untup number places parts t e = absurd (let bad : ⊥ = cc in bad)
are_few low.Print number places parts t e = few_fixed 0 1 places parts (omega arith) (omega arith) e

-- ---- lists by their elements

none_is : (xs : List ℕ) → length xs ≡ 0 → [] ≡ xs
none_is [] h = refl
none_is (x ∷ xs) h = absurd (omega (arith, h))

one_is : (xs : List ℕ) → length xs ≡ 1 → nth xs 0 ∷ [] ≡ xs
one_is [] h = absurd (omega (arith, h))
one_is (x ∷ xs) h = ap (λ ys. x ∷ ys) (none_is xs (omega (arith, h)))

two_are : (xs : List ℕ) → length xs ≡ 2 → nth xs 0 ∷ nth xs 1 ∷ [] ≡ xs
two_are [] h = absurd (omega (arith, h))
two_are (x ∷ []) h = absurd (omega (arith, h))
two_are (x ∷ y ∷ xs) h = ap (λ ys. x ∷ y ∷ ys) (none_is xs (omega (arith, h)))

three_are : (xs : List ℕ) → length xs ≡ 3 → nth xs 0 ∷ nth xs 1 ∷ nth xs 2 ∷ [] ≡ xs
three_are [] h = absurd (omega (arith, h))
three_are (x ∷ []) h = absurd (omega (arith, h))
three_are (x ∷ y ∷ []) h = absurd (omega (arith, h))
three_are (x ∷ y ∷ z ∷ xs) h = ap (λ ys. x ∷ y ∷ z ∷ ys) (none_is xs (omega (arith, h)))

-- ---- the acting instruction

-- the target, where the operation goes to a label
abbrev pub target_for : Op22 → ℕ → ℕ
target_for low.Br n = n
target_for low.Bt n = n
target_for low.Bf n = n
target_for low.Jmp n = n
target_for _ n = 0

-- the number of a type is one of 32 bits
abbrev pub IsNamed : Op22 → ℤ → Type 0
IsNamed o number = names_type o ≡ true → int_lt number (pos (2 ^ 32)) ≡ true

abbrev over : Operation → (writes reads : List ℕ) → (target : ℕ) → Instruction
over operation writes reads target = record { operation = operation; writes = writes; reads = reads; target = target }

same_over : (a b : Operation) (ws vs rs qs : List ℕ) (target : ℕ) → a ≡ b → ws ≡ vs → rs ≡ qs → over a ws rs target ≡ over b vs qs target
same_over a b ws vs rs qs target e f g = ap (λ x. over x ws rs target) e ∙ ap (λ x. over b x rs target) f ∙ ap (λ x. over b vs x target) g

-- the number of a comparison comes back
compared : (n : ℕ) (make : ℕ → Operation) (operation : Operation) → (if nat_lt n 4 then Some (make n) else None) ≡ Some operation → make (comparison (comparison_of (pos n))) ≡ operation
compared zero make operation e = same_Some (make 0) operation e
compared (suc zero) make operation e = same_Some (make 1) operation e
compared (suc (suc zero)) make operation e = same_Some (make 2) operation e
compared (suc (suc (suc zero))) make operation e = same_Some (make 3) operation e
compared (suc (suc (suc (suc n)))) make operation e =
    let past : nat_lt (suc (suc (suc (suc n)))) 4 ≡ false = grind (arith, nat_tests) in
    absurd (none-some operation (ap (λ b. if b then Some (make (suc (suc (suc (suc n))))) else None) (sym past) ∙ e))

-- and that of a type
type_is : (n : ℕ) → int_lt (pos n) (pos (2 ^ 32)) ≡ true → type_of (pos n) ≡ n
type_is n h = (let small : nat_lt n (2 ^ 32) ≡ true = grind (arith, ints, nat_tests) in ap (λ b. if b then n else 0) small)

module _ (at_label : ℕ → ℕ) (number : ℤ) (target : ℕ) (ws rs : List ℕ) where
  abbrev made : Op22 → Instruction
  made o = instruction_of (resolved at_label (acting o number target ws rs))

  abbrev Acts : Op22 → Operation → Type 0
  Acts o operation = made o ≡ over operation ws rs (target_for o (at_label target))

  plain_two : (a operation : Operation) → AreCounted 1 2 (ws, rs) → Some a ≡ Some operation → over a (nth ws 0 ∷ []) (nth rs 0 ∷ nth rs 1 ∷ []) 0 ≡ over operation ws rs 0
  plain_two a operation c e = same_over a operation _ ws _ rs 0 (same_Some a operation e) (one_is ws c.writes_are) (two_are rs c.reads_are)

  plain_one : (a operation : Operation) → AreCounted 1 1 (ws, rs) → Some a ≡ Some operation → over a (nth ws 0 ∷ []) (nth rs 0 ∷ []) 0 ≡ over operation ws rs 0
  plain_one a operation c e = same_over a operation _ ws _ rs 0 (same_Some a operation e) (one_is ws c.writes_are) (one_is rs c.reads_are)

  plain_none : (a operation : Operation) → AreCounted 1 0 (ws, rs) → a ≡ operation → over a (nth ws 0 ∷ []) [] 0 ≡ over operation ws rs 0
  plain_none a operation c e = same_over a operation _ ws _ rs 0 e (one_is ws c.writes_are) (none_is rs c.reads_are)

  read_one : (a operation : Operation) (t : ℕ) → AreCounted 0 1 (ws, rs) → Some a ≡ Some operation → over a [] (nth rs 0 ∷ []) t ≡ over operation ws rs t
  read_one a operation t c e = same_over a operation _ ws _ rs t (same_Some a operation e) (none_is ws c.writes_are) (one_is rs c.reads_are)

  -- as many places as the parts have
  alike : (writes reads : ℕ) (parts : Parts) → AreCounted writes reads parts → length ws ≡ length parts.0 → length rs ≡ length parts.1 → AreCounted writes reads (ws, rs)
  alike writes reads parts c w r = record { writes_are = w ∙ c.writes_are; reads_are = r ∙ c.reads_are }

module _ (at_label : ℕ → ℕ) (target : ℕ) (ws rs places : List ℕ) (operation : Operation) (parts : Parts) (many : length ws ≡ length parts.0) (as_many : length rs ≡ length parts.1) where
  truth_acts : (number : ℤ) → of_truth number ≡ Some operation → fixed 1 0 places ≡ Some parts → Acts at_label number target ws rs low.Lb operation
  truth_acts (pos zero) e f = plain_none at_label (pos 0) target ws rs (Truth false) operation (alike at_label (pos 0) target ws rs 1 0 parts (fixed_counted 1 0 places parts f) many as_many) (same_Some _ operation e)
  truth_acts (pos (suc zero)) e f = plain_none at_label (pos 0) target ws rs (Truth true) operation (alike at_label (pos 0) target ws rs 1 0 parts (fixed_counted 1 0 places parts f) many as_many) (same_Some _ operation e)
  truth_acts (pos (suc (suc n))) e f = absurd (none-some operation e)
  truth_acts (negsuc n) e f = absurd (none-some operation e)

  set_acts : (number : ℤ) → of_comparison number Compare ≡ Some operation → fixed 1 2 places ≡ Some parts → Acts at_label number target ws rs low.Set operation
  set_acts (pos n) e f = (let c = alike at_label (pos n) target ws rs 1 2 parts (fixed_counted 1 2 places parts f) many as_many in
      same_over _ operation _ ws _ rs 0 (compared n Compare operation e) (one_is ws c.writes_are) (two_are rs c.reads_are))
  set_acts (negsuc n) e f = absurd (none-some operation e)

  branch_acts : (number : ℤ) → of_comparison number Branch ≡ Some operation → fixed 0 2 places ≡ Some parts → Acts at_label number target ws rs low.Br operation
  branch_acts (pos n) e f = (let c = alike at_label (pos n) target ws rs 0 2 parts (fixed_counted 0 2 places parts f) many as_many in
      same_over _ operation _ ws _ rs (at_label target) (compared n Branch operation e) (none_is ws c.writes_are) (two_are rs c.reads_are))
  branch_acts (negsuc n) e f = absurd (none-some operation e)

  new_acts : (number : ℤ) → int_lt number (pos (2 ^ 32)) ≡ true → of_type number New ≡ Some operation → fixed 1 2 places ≡ Some parts → Acts at_label number target ws rs low.New operation
  new_acts (pos n) h e f = (let c = alike at_label (pos n) target ws rs 1 2 parts (fixed_counted 1 2 places parts f) many as_many in
      same_over _ operation _ ws _ rs 0 (ap New (type_is n h) ∙ same_Some (New n) operation e) (one_is ws c.writes_are) (two_are rs c.reads_are))
  new_acts (negsuc n) h e f = absurd (none-some operation e)

  tuple_acts : (number : ℤ) → int_lt number (pos (2 ^ 32)) ≡ true → of_type number Tuple ≡ Some operation → one_first places ≡ Some parts → Acts at_label number target ws rs low.Tup operation
  tuple_acts (pos n) h e f = (let c = first_counted places parts f in
      same_over _ operation _ ws _ rs 0 (ap Tuple (type_is n h) ∙ same_Some (Tuple n) operation e) (one_is ws (many ∙ c.writes_are)) refl)
  tuple_acts (negsuc n) h e f = absurd (none-some operation e)

  untuple_acts : (number : ℤ) → int_lt number (pos (2 ^ 32)) ≡ true → of_type number (λ p. Untuple p (length places - 1)) ≡ Some operation → taken_apart places ≡ Some parts
      → Acts at_label number target ws rs low.Untup operation
  untuple_acts (pos n) h e f = (let c = taken_counted places parts f in
      same_over _ operation _ ws _ rs 0 (ap (λ m. Untuple m (length ws)) (type_is n h) ∙ ap (λ m. Untuple n m) (many ∙ c.writes_are) ∙ same_Some (Untuple n (length places - 1)) operation e) refl (one_is rs (as_many ∙ c.reads_are)))
  untuple_acts (negsuc n) h e f = absurd (none-some operation e)

  counted : (writes reads : ℕ) → fixed writes reads places ≡ Some parts → AreCounted writes reads (ws, rs)
  counted writes reads f = alike at_label (pos 0) target ws rs writes reads parts (fixed_counted writes reads places parts f) many as_many

  pub acts_so : (o : Op22) (number : ℤ) → IsNamed o number → operation_of o number target (length places) ≡ Some operation → parts_by o number places ≡ Some parts
      → Acts at_label number target ws rs o operation
  acts_so low.Li number named e f = plain_none at_label number target ws rs (Literal number) operation (counted 1 0 f) (same_Some (Literal number) operation e)
  acts_so low.Lb number named e f = truth_acts number e (so_is _ _ parts f)
  acts_so low.Mv number named e f = plain_one at_label number target ws rs Move operation (counted 1 1 f) e
  acts_so low.Add number named e f = plain_two at_label number target ws rs Add operation (counted 1 2 f) e
  acts_so low.Sub number named e f = plain_two at_label number target ws rs Sub operation (counted 1 2 f) e
  acts_so low.Mul number named e f = plain_two at_label number target ws rs Mul operation (counted 1 2 f) e
  acts_so low.Div number named e f = plain_two at_label number target ws rs Div operation (counted 1 2 f) e
  acts_so low.Mod number named e f = plain_two at_label number target ws rs Mod operation (counted 1 2 f) e
  acts_so low.Set number named e f = set_acts number e (so_is _ _ parts f)
  acts_so low.Br number named e f = branch_acts number e (so_is _ _ parts f)
  acts_so low.Bt number named e f = read_one at_label number target ws rs (BranchTruth true) operation (at_label target) (counted 0 1 f) e
  acts_so low.Bf number named e f = read_one at_label number target ws rs (BranchTruth false) operation (at_label target) (counted 0 1 f) e
  acts_so low.Jmp number named e f = (let c = counted 0 0 f in same_over Jump operation _ ws _ rs (at_label target) (same_Some Jump operation e) (none_is ws c.writes_are) (none_is rs c.reads_are))
  acts_so low.Call number named e f = (let c = first_counted places parts f in
      same_over (Call target) operation _ ws _ rs 0 (same_Some (Call target) operation e) (one_is ws (many ∙ c.writes_are)) refl)
  acts_so low.Ret number named e f = read_one at_label number target ws rs Return operation 0 (counted 0 1 f) e
  acts_so low.Len number named e f = plain_one at_label number target ws rs Length operation (counted 1 1 f) e
  acts_so low.Ld number named e f = plain_two at_label number target ws rs Load operation (counted 1 2 f) e
  acts_so low.St number named e f = (let c = counted 0 3 f in same_over Store operation _ ws _ rs 0 (same_Some Store operation e) (none_is ws c.writes_are) (three_are rs c.reads_are))
  acts_so low.New number named e f = new_acts number (named refl) e (so_is _ _ parts f)
  acts_so low.Tup number named e f = tuple_acts number (named refl) e (so_is _ _ parts f)
  acts_so low.Untup number named e f = untuple_acts number (named refl) e (so_is _ _ parts f)
  acts_so low.Print number named e f = read_one at_label number target ws rs Print operation 0 (counted 0 1 f) e
