-- Rows that are added one by one.
use Rattle.std.proofs.Common.{◌≡◌, Result, Ok, Err}
use Rattle.index_sorts.specs.declared.error.ContextError.{ContextError}
use Rattle.state_types.specs.Answers.{◌>>=◌}
use Rattle.typed_core.specs.Limits.{Stop, in_context}

pub in_context_then : {A B : Type 0} (m : Result A ContextError) (next : A → Result B ContextError) (x : A) → in_context m ≡ Ok x
    → in_context (m >>= next) ≡ in_context (next x)
in_context_then (Ok y) next x e = cc
in_context_then (Err why) next x e = absurd (let bad : ⊥ = cc in bad)

pub in_context_stops : {A B : Type 0} (m : Result A ContextError) (next : A → Result B ContextError) (why : Stop) → in_context m ≡ Err why
    → in_context (m >>= next) ≡ Err why
in_context_stops (Ok y) next why e = absurd (let bad : ⊥ = cc in bad)
in_context_stops (Err other) next why e = cc
