-- Parts of a walk in turn: what follows from the answer of the first.
use Rattle.std.proofs.Common.{◌≡◌, Ok, Err, ap}
use Rattle.type_shapes.specs.declared.error.ShapeError.{ShapeError}
use Rattle.type_shapes.specs.declared.error.ShapeError.TheVariants as shape_error
use Rattle.type_shapes.specs.Code.{Fails}
use Rattle.type_shapes.specs.Faults.{Check, Fault, ◌>>=◌}

module _ {A B : Type 0} where
  pub then-ok : (m : Check A) (next : A → Check B) (x : A) → m ≡ Ok x → (m >>= next) ≡ next x
  then-ok m next x is = ap (λ c. c >>= next) is

  pub then-err : (m : Check A) (next : A → Check B) (f : Fault) → m ≡ Err f → (m >>= next) ≡ Err f
  then-err m next f is = ap (λ c. c >>= next) is

  -- where a fault of the one is one of the other
  pub fails_as : (e : ShapeError) (m : Check A) (n : Check B) → ((f : Fault) → m ≡ Err f → n ≡ Err f) → Fails e m → Fails e n
  fails_as (shape_error.Fault at kind) m n same failed = same (record { at = at; kind = kind }) failed
  fails_as shape_error.Memory m n same failed = tt

  pub fails-then : (e : ShapeError) (m : Check A) (next : A → Check B) → Fails e m → Fails e (m >>= next)
  fails-then e m next failed = fails_as e m (m >>= next) (λ f is. then-err m next f is) failed
