-- Variables that are alone, one after the other; and when a form is a variable.
use Rattle.std.proofs.Common.{◌≡◌, ℕ, zero, suc, ◌+◌, ◌-◌, ◌<◌, List, Bool as Truth, true, false, refl, arith}
use Rattle.std.specs.List.{list_any}
use Rattle.state_types.specs.Matching.{is_alone}
use Rattle.state_types.specs.Types.{index_of}
use Rattle.state_types.specs.declared.types.Ty.{Ty}
use Rattle.dtal_code.specs.Declarations.{are_alone}

abbrev somewhere : ℕ → List Ty → Truth
somewhere var types = list_any (λ t. is_alone var (index_of t)) types

pub alone_turn : (var left : ℕ) (types : List Ty) → 0 < left → somewhere var types ≡ true → are_alone (var + 1) (left - 1) types ≡ are_alone var left types
unfolding are_alone
alone_turn var zero types some e = absurd (let bad : ⊥ = omega (arith, some) in bad)
alone_turn var (suc left) types some e =
    let p : suc left - 1 ≡ left = omega arith in
    let q : var + 1 ≡ suc var = omega arith in
    rw (e, p, q) refl

pub alone_not : (var left : ℕ) (types : List Ty) → 0 < left → somewhere var types ≡ false → are_alone var left types ≡ false
unfolding are_alone
alone_not var zero types some e = absurd (let bad : ⊥ = omega (arith, some) in bad)
alone_not var (suc left) types some e = rw e refl

pub alone_end : (var : ℕ) (types : List Ty) → are_alone var 0 types ≡ true
unfolding are_alone
alone_end var types = refl
