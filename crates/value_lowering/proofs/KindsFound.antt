-- The kind of a value is found from what makes it.
use Rattle.std.proofs.Common.{◌≡◌, ℕ, zero, suc, List, [], ◌∷◌, map, slice_get, cond, Bool as Truth, true, false, Some, refl, sym, ap, ◌∙◌, subst}
use Rattle.std.specs.Option.{option_and_then}
use Rattle.xanadu_tree.specs.declared.types.Kind.{Kind}
use Rattle.xanadu_tree.specs.declared.types.Kind.TheVariants as kind
use Rattle.xanadu_tree.specs.KindRules.{kind_of, IsValue, gives_value, result_kind, header, Header, HasKind}
use Rattle.xanadu_tree.specs.Plain as core
use Rattle.xanadu_tree.specs.Shaped.{setting}
use Rattle.value_lowering.specs.Frames.{frame_of, cell_of, kind_found, number_in, tuple_number}

some_kind : (a b : Kind) → Some a ≡ Some b → a ≡ b
some_kind a b e = cc

no_unit : IsValue kind.Unit → ⊥
no_unit v = v

-- the declared result of a function whose calls have a value is of the kind that a call has
declared_result : (f : core.Fun) → IsValue (result_kind f) → kind_of f.result ≡ result_kind f
declared_result f v = by (gives_value f.body) v
  where
    by : (b : Truth) → IsValue (cond b (kind_of f.result) kind.Unit) → kind_of f.result ≡ cond b (kind_of f.result) kind.Unit
    by true v = refl
    by false v = absurd (no_unit v)

called_result : (funs : List core.Fun) (fun : ℕ) (called : Header) → slice_get (map header funs) fun ≡ Some called → IsValue called.result
    → slice_get (map (λ g. kind_of g.result) funs) fun ≡ Some called.result
called_result [] fun called e v = cc
called_result (f ∷ funs) zero called e v =
    let same : header f ≡ called = first (header f) called e in
    subst (λ h. IsValue h.result → Some (kind_of f.result) ≡ Some h.result) same (λ w. ap Some (declared_result f w)) v
  where
    first : (a b : Header) → Some a ≡ Some b → a ≡ b
    first a b e = cc
called_result (f ∷ funs) (suc fun) called e v = called_result funs fun called e v

module _ (program : core.Program) (f : core.Fun) (visible : List ℕ) where
  pub kind_is_found : (e : core.Expr) (k : Kind) → HasKind (setting program.types (map header program.funs) f) visible e k → IsValue k
      → kind_found (frame_of program f) e ≡ Some k
  unfolding kind_found HasKind
  kind_is_found (core.Int n) k h v = ap Some (sym h)
  kind_is_found (core.Bool b) k h v = ap Some (sym h)
  kind_is_found (core.Var x) k h v = h.1
  kind_is_found (core.Neg e) k h v = ap Some (sym h.0)
  kind_is_found (core.Chain first rest) k h v = ap Some (sym h.0)
  kind_is_found (core.Compare r left right) k h v = ap Some (sym h.0)
  kind_is_found (core.Index array index at) k h v =
      ap (λ o. option_and_then (cell_of program.types) o) (kind_is_found array (kind.Array h.0) h.1 tt) ∙ h.3
  kind_is_found (core.Len array) k h v = ap Some (sym h.1)
  kind_is_found (core.Call fun args at) k h v =
      called_result program.funs fun h.0 h.1 (subst IsValue h.3 v) ∙ ap Some (sym h.3)
  kind_is_found (core.Make number args at) k h v = ap Some (sym h.3)
  kind_is_found (core.New element len fill at) k h v = ap Some (sym h.1)

  pub number_is_found : (e : core.Expr) (number : ℕ) → HasKind (setting program.types (map header program.funs) f) visible e (kind.Named number)
      → tuple_number (frame_of program f) e ≡ number
  number_is_found e number h = ap number_in (kind_is_found e (kind.Named number) h tt)
