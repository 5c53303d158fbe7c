-- Headers and bodies, each seen as the definitions have it, put together.
use Rattle.std.proofs.Common.{◌≡◌, List, [], ◌∷◌, map, refl, ap}
use Rattle.std.specs.Prelude.{zip}
use Rattle.xanadu_tree.specs.Plain as core
use Rattle.scope_shapes.specs.BodiesOf.{inner_of}
use Rattle.type_shapes.specs.HeadersOf.{header_of}
use Rattle.scope_shapes.specs.Shape.{fun, funs}
use Rattle.scope_shapes.specs.declared.bodies.Inner.{Inner}
use Rattle.type_shapes.specs.declared.headers.Header.{Header}

abbrev pub made_of : Header × Inner → core.Fun
made_of p = fun (header_of p.0) (inner_of p.1)

pub funs-seen : (hs : List Header) (bs : List Inner) → map made_of (zip hs bs) ≡ funs (map header_of hs) (map inner_of bs)
unfolding funs
funs-seen [] bs = refl
funs-seen (h ∷ hs) [] = refl
funs-seen (h ∷ hs) (b ∷ bs) = ap (λ fs. made_of (h, b) ∷ fs) (funs-seen hs bs)

-- what a loop over both was given, pair by pair
pub made-again : (ps : List (Header × Inner)) → map made_of ps ≡ map made_of (map (λ p. (p.0, p.1)) ps)
made-again [] = refl
made-again (p ∷ ps) = ap (λ fs. made_of p ∷ fs) (made-again ps)
