-- How many instructions emission writes for one: at most four.
use Rattle.std.proofs.Common.{◌≡◌, ℕ, zero, suc, ◌+◌, ◌*◌, ◌≤◌, ◌==◌, ℤ, Bool, true, false, List, [], ◌∷◌, ◌++◌, length, take, drop, Option, Some, None, nat_lt, if◌then◌else◌, refl, subst, arith, length-append}
use Rattle.std.proofs.lemmas.Bool.Decides.{nat_tests}
use Rattle.std.proofs.lemmas.Option.{none-some, same_Some}
use Rattle.std.proofs.lemmas.List.{length-map}
use Rattle.three_address.specs.Splits.{Parts, fixed, where_so, is_among, is_natural, parts_by, parts_of}
use Rattle.three_address.specs.declared.instruction.LowInstr.{LowInstr}
use Rattle.three_address.specs.declared.instruction.Op22.{Op22}
use Rattle.three_address.specs.declared.instruction.Op22.TheVariants as low
use Rattle.three_address.specs.declared.typed.Edge.{Edge}
use Rattle.dtal_code.specs.declared.instruction.Instr.{Instr}
use Rattle.dtal_emit.specs.Acting.{takes_places}
use Rattle.dtal_emit.specs.Emitted.{by_kind, with_parts, emitted_instr, emitted_all, fewer}
use Rattle.dtal_emit.specs.Homes.{home_of, homes_of, is_slot, moved_if, scratch_behind, loads, stores, entry_move, entry_moves}

-- ---- moves

moved_few : (b : Bool) (to from : ℕ) → length (moved_if b to from) ≤ 1
moved_few true to from = omega arith
moved_few false to from = omega arith

loads_few : (scratch : ℕ) (homes : List ℕ) → length (loads scratch homes) ≤ length homes
unfolding loads
loads_few scratch [] = omega arith
loads_few scratch (home ∷ homes) =
    let one = moved_few (is_slot home) scratch home in
    let later = loads_few (scratch_behind scratch home) homes in
    let both = length-append (moved_if (is_slot home) scratch home) (loads (scratch_behind scratch home) homes) in
    omega (arith, one, later, both)

one_at_most : (n more : ℕ) → n ≤ 1 → n ≤ suc more
one_at_most n more le = omega (arith, le)

stores_few : (homes : List ℕ) → length (stores homes) ≤ length homes
stores_few [] = omega arith
stores_few (home ∷ homes) = one_at_most (length (stores (home ∷ homes))) (length homes) (moved_few (is_slot home) home _)

pub entry_few : (homes : List ℕ) (count : ℕ) → length (entry_moves homes count) ≤ count
unfolding entry_moves
entry_few homes zero = omega arith
entry_few homes (suc place) =
    let later = entry_few homes place in
    let one = moved_few (is_slot (home_of homes place)) (home_of homes place) place in
    let both = length-append (entry_moves homes place) (entry_move homes place) in
    omega (arith, one, later, both)

fewer_by : (b : Bool) (m n : ℕ) → nat_lt m n ≡ b → (if b then m else n) ≤ m
fewer_by true m n e = omega arith
fewer_by false m n e = grind (arith, nat_tests)

pub fewer_few : (m n : ℕ) → fewer m n ≤ m
fewer_few m n = fewer_by (nat_lt m n) m n refl

-- ---- parts

taken : (n : ℕ) (xs : List ℕ) → length (take n xs) + length (drop n xs) ≡ length xs
taken zero xs = omega arith
taken (suc n) [] = refl
taken (suc n) (x ∷ xs) = (let h = taken n xs in omega (arith, h))

taken_few : (n : ℕ) (xs : List ℕ) → length (take n xs) ≤ length xs
taken_few n xs = (let h = taken n xs in omega (arith, h))

abbrev many : Parts → ℕ
many parts = length parts.0 + length parts.1

fixed_by : (b : Bool) (writes reads : ℕ) (places : List ℕ) (parts : Parts) → (length places == writes + reads) ≡ b → (if b then Some (take writes places, drop writes places) else None) ≡ Some parts
    → many parts ≤ writes + reads
fixed_by true writes reads places parts t e =
    let all = taken writes places in
    let same = same_Some (take writes places, drop writes places) parts e in
    let long : length places ≡ writes + reads = grind (arith, nat_tests) in
    subst (λ (p : Parts). many p ≤ writes + reads) same (omega (arith, all, long))
fixed_by false writes reads places parts t e = absurd (none-some parts e)

fixed_few : (writes reads : ℕ) (places : List ℕ) (parts : Parts) → fixed writes reads places ≡ Some parts → many parts ≤ writes + reads
fixed_few writes reads places parts e = fixed_by (length places == writes + reads) writes reads places parts refl e

so_few : (b : Bool) (writes reads : ℕ) (places : List ℕ) (parts : Parts) → where_so b (fixed writes reads places) ≡ Some parts → many parts ≤ writes + reads
so_few true writes reads places parts e = fixed_few writes reads places parts e
so_few false writes reads places parts e = absurd (none-some parts e)

upto : (parts : Parts) (n : ℕ) → n ≤ 3 → many parts ≤ n → many parts ≤ 3
upto parts n few h = omega (arith, few, h)

parts_few : (o : Op22) (number : ℤ) (places : List ℕ) (parts : Parts) → takes_places o ≡ false → parts_by o number places ≡ Some parts → many parts ≤ 3
parts_few low.Li number places parts t e = upto parts 1 (omega arith) (fixed_few 1 0 places parts e)
parts_few low.Lb number places parts t e = upto parts 1 (omega arith) (so_few (is_among number 2) 1 0 places parts e)
parts_few low.Mv number places parts t e = absurd (let bad : ⊥ = cc in bad)
parts_few low.Add number places parts t e = upto parts 3 (omega arith) (fixed_few 1 2 places parts e)
parts_few low.Sub number places parts t e = upto parts 3 (omega arith) (fixed_few 1 2 places parts e)
parts_few low.Mul number places parts t e = upto parts 3 (omega arith) (fixed_few 1 2 places parts e)
parts_few low.Div number places parts t e = upto parts 3 (omega arith) (fixed_few 1 2 places parts e)
parts_few low.Mod number places parts t e = upto parts 3 (omega arith) (fixed_few 1 2 places parts e)
parts_few low.Set number places parts t e = upto parts 3 (omega arith) (so_few (is_among number 4) 1 2 places parts e)
parts_few low.Br number places parts t e = upto parts 2 (omega arith) (so_few (is_among number 4) 0 2 places parts e)
parts_few low.Bt number places parts t e = upto parts 1 (omega arith) (fixed_few 0 1 places parts e)
parts_few low.Bf number places parts t e = upto parts 1 (omega arith) (fixed_few 0 1 places parts e)
parts_few low.Jmp number places parts t e = upto parts 0 (omega arith) (fixed_few 0 0 places parts e)
parts_few low.Call number places parts t e = absurd (let bad : ⊥ = cc in bad)
parts_few low.Ret number places parts t e = absurd (let bad : ⊥ = cc in bad)
parts_few low.Len number places parts t e = upto parts 2 (omega arith) (fixed_few 1 1 places parts e)
parts_few low.Ld number places parts t e = upto parts 3 (omega arith) (fixed_few 1 2 places parts e)
parts_few low.St number places parts t e = upto parts 3 (omega arith) (fixed_few 0 3 places parts e)
parts_few low.New number places parts t e = upto parts 3 (omega arith) (so_few (is_natural number) 1 2 places parts e)
parts_few low.Tup number places parts t e = absurd (let bad : ⊥ = cc in bad)
parts_few low.Untup number places parts t e = absurd (let bad : ⊥ = cc in bad)
parts_few low.Print number places parts t e = upto parts 1 (omega arith) (fixed_few 0 1 places parts e)

-- ---- instructions

homes_few : (homes places : List ℕ) → length (homes_of homes places) ≤ length places
homes_few homes places = (let a = length-map (take 8 places) (home_of homes) in let b = taken_few 8 places in omega (arith, a, b))

-- moves, the one that acts, and moves
together : (front behind : List Instr) (reads writes : ℕ) (acts : Instr) → length front ≤ reads → length behind ≤ writes → writes + reads ≤ 3 → length (front ++ acts ∷ behind) ≤ 4
together front behind reads writes acts a b few = (let both = length-append front (acts ∷ behind) in omega (arith, a, b, few, both))

kind_few : (b : Bool) (homes : List ℕ) (i : LowInstr) (edge : Edge) (writes reads : List ℕ) → (b ≡ false → length writes + length reads ≤ 3)
    → length (by_kind b homes i edge writes reads) ≤ 4
kind_few true homes i edge writes reads few = omega arith
kind_few false homes i edge writes reads few = together _ _ (length reads) (length writes) _ (loads_few _ reads) (stores_few writes) (few refl)

with_few : (homes : List ℕ) (i : LowInstr) (edge : Edge) (parts : Option Parts) → parts_by i.op i.number i.places ≡ parts → length (with_parts homes i edge parts) ≤ 4
with_few homes i edge None e = omega arith
with_few homes i edge (Some parts) e =
    let written = homes_few homes parts.0 in
    let read = homes_few homes parts.1 in
    kind_few (takes_places i.op) homes i edge (homes_of homes parts.0) (homes_of homes parts.1)
    (λ t. (let most = parts_few i.op i.number i.places parts t e in omega (arith, most, written, read)))

instr_few : (homes : List ℕ) (i : LowInstr) (edge : Edge) → length (emitted_instr homes i edge) ≤ 4
unfolding emitted_instr parts_of
instr_few homes i edge = with_few homes i edge (parts_of i) refl

pub all_few : (homes : List ℕ) (code : List LowInstr) (edges : List Edge) → length (emitted_all homes code edges) ≤ 4 * length code
unfolding emitted_all
all_few homes [] edges = omega arith
all_few homes (i ∷ is) [] = omega arith
all_few homes (i ∷ is) (edge ∷ edges) =
    let one = instr_few homes i edge in
    let later = all_few homes is edges in
    let both = length-append (emitted_instr homes i edge) (emitted_all homes is edges) in
    omega (arith, one, later, both)
