-- The slots of a function are one for each place.
use Rattle.std.proofs.Common.{◌≡◌, ◌∙◌, ℕ, zero, suc, ◌+◌, ◌<◌, ◌≤◌, List, [], ◌∷◌, ◌++◌, length, map, Option, Some, slice_get, refl, sym, ap, inl, inr, ◌⊎◌, arith, length-append}
use Rattle.std.specs.List.{slice_index_or}
use Rattle.std.proofs.lemmas.Bool.{cases_lt}
use Rattle.std.proofs.lemmas.Option.{none-some, same_Some}
use Rattle.three_address.specs.declared.assignment.Assignment.{Assignment}
use Rattle.three_address.specs.declared.function.LowFun.{LowFun}
use Rattle.dtal_emit.specs.Homes.{home_of}
use Rattle.emission_laws.specs.ApartHomes.{AreSlots}
use Rattle.lowered_acceptance.specs.SlottedCode.{HasSlots}
use Rattle.program_builder.specs.Slots.{slots, all_slots}

many : (count : ℕ) → length (slots count) ≡ count
unfolding slots
many zero = refl
many (suc place) = length-append (slots place) _ ∙ (let rest = many place in omega (arith, rest))

in_front : (xs ys : List ℕ) (at : ℕ) → at < length xs → slice_index_or (xs ++ ys) at 0 ≡ slice_index_or xs at 0
in_front [] ys at h = absurd (omega (arith, h))
in_front (x ∷ xs) ys zero h = refl
in_front (x ∷ xs) ys (suc at) h = in_front xs ys at (omega (arith, h))

at_end : (xs : List ℕ) (y at : ℕ) → at ≡ length xs → slice_index_or (xs ++ y ∷ []) at 0 ≡ y
at_end [] y zero e = refl
at_end [] y (suc at) e = absurd (omega (arith, e))
at_end (x ∷ xs) y zero e = absurd (omega (arith, e))
at_end (x ∷ xs) y (suc at) e = at_end xs y at (omega (arith, e))

each : (count place : ℕ) → place < count → home_of (slots count) place ≡ 16 + place
unfolding slots
each zero place h = absurd (omega (arith, h))
each (suc last) place h = by_order (each last place) (cases_lt place last)
  where
    by_order : (place < last → home_of (slots last) place ≡ 16 + place) → (place < last) ⊎ (last ≤ place) → home_of (slots last ++ (16 + last) ∷ []) place ≡ 16 + place
    by_order before (inl lt) = in_front (slots last) _ place (let m = many last in omega (arith, m, lt)) ∙ before lt
    by_order before (inr le) =
        let same : place ≡ last = omega (arith, h, le) in
        at_end (slots last) (16 + last) place (same ∙ sym (many last)) ∙ ap (λ n. 16 + n) (sym same)

pub are_slots : (count : ℕ) → count ≤ 240 → AreSlots (slots count) count
are_slots count few = record { as_many = many count; few = few; each = each count }

mapped_at : {A B : Type 0} (f : A → B) (xs : List A) (n : ℕ) (x : A) → slice_get xs n ≡ Some x → slice_get (map f xs) n ≡ Some (f x)
mapped_at f [] n x e = absurd (none-some x e)
mapped_at f (y ∷ xs) zero x e = ap (λ z. let o : Option _ = Some (f z) in o) (same_Some y x e)
mapped_at f (y ∷ xs) (suc n) x e = mapped_at f xs n x e

pub have_slots : (homes : Assignment) (funs : List LowFun) → homes.homes ≡ all_slots funs → (number : ℕ) (fun : LowFun) → slice_get funs number ≡ Some fun → fun.places ≤ 240
    → HasSlots homes number fun
have_slots homes funs e number fun there few = record {
  own = slots fun.places;
  there = ap (λ all. slice_get all number) e ∙ mapped_at (λ (f : LowFun). slots f.places) funs number fun there;
  slots = are_slots fun.places few;
}
