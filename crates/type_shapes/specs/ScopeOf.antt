-- How a scope is seen: an index of what each name means now, and the declarations, each with what its name meant before.
use Rattle.std.specs.Prelude.{◌≡◌, ℕ, List, [], ◌∷◌, map, bytes_eq, Option, Some, None}
use Rattle.std.specs.Borrow.{Bor}
use Rattle.std.specs.Map.{lookup}
use Rattle.type_shapes.specs.declared.scope.Declared.{Declared}
use Rattle.type_shapes.specs.Names.{Scope, meaning}

abbrev pub entry_of : Declared → List ℕ × ℕ
entry_of d = (d.name.now, d.number)

-- declarations, the latest first
abbrev pub seen : List Declared → Scope
seen ds = map entry_of ds

abbrev pub or_nothing : Option (Option ℕ) → Option ℕ
or_nothing None = None
or_nothing (Some o) = o

-- what the index says of a name
abbrev pub current : List ℕ → List (Bor (List ℕ) × Option ℕ) → Option ℕ
current name entries = or_nothing (lookup (λ key. bytes_eq name key.now) entries)

-- each declaration holds what its name meant before it
abbrev pub KeepBefore : List Declared → Type 0
KeepBefore [] = Unit {0}
KeepBefore (d ∷ ds) = (d.before ≡ meaning d.name.now (seen ds)) × KeepBefore ds

pub record IsKept (entries : List (Bor (List ℕ) × Option ℕ)) (ds : List Declared) : Type 0 where
  pub now : (name : List ℕ) → current name entries ≡ meaning name (seen ds)
  pub before : KeepBefore ds
