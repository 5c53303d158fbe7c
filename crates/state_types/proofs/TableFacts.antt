-- What is kept of each type of a table.
use Rattle.std.proofs.Common.{◌≡◌, ℕ, ◌<◌, List, [], ◌∷◌, ◌++◌, length, get_or, true, nat_lt, Option, Some, None, sym, subst, length-append, arith}
use Rattle.std.specs.Prelude.{IfSome, is_some}
use Rattle.xan_lin.proofs.Booleans.{is_less}
use denote.Ref.{Bor}
use Rattle.std.proofs.lemmas.List.Elements.{All-append, All-cons}
use Rattle.state_types.specs.Tables.{IsClosed, IsTable}
use Rattle.state_types.specs.declared.closed.Packed.{Packed}

pub IsTable-pushed : (types more : List Packed) (packed : Packed) → more ≡ types ++ packed ∷ [] → length types < 65536 → IsClosed packed → IsTable types → IsTable more
IsTable-pushed types more packed e few closed table =
    subst IsTable (sym e) (record {
      few = omega (arith, length-append types (packed ∷ []));
      closed = All-append IsClosed types (packed ∷ []) table.closed (All-cons IsClosed packed [] closed (λ k d h. absurd (omega arith)));
    })

pub closed-at : (types : List Packed) (id : ℕ) (packed : Packed) → IsTable types → id < length types → packed ≡ get_or types id packed → IsClosed packed
closed-at types id packed table h e = subst IsClosed (sym e) (table.closed id packed h)

found_within : (id count : ℕ) → true ≡ nat_lt id count → id < count
found_within id count e = is_less id count (sym e)

pub closed-found : (types : List Packed) (id : ℕ) (answer : Option (Bor Packed)) → IsTable types → is_some answer ≡ nat_lt id (length types)
    → IfSome answer (λ x. x.now ≡ get_or types id x.now) → IfSome answer (λ x. IsClosed x.now)
closed-found types id None table some is = tt
closed-found types id (Some x) table some is = closed-at types id x.now table (found_within id (length types) some) is
