-- What is known of all signatures is known of each.
use Rattle.std.proofs.Common.{◌≡◌, ℕ, zero, suc, List, [], ◌∷◌, Some, subst}
use Rattle.std.specs.Prelude.{slice_get}
use Rattle.std.specs.List.{All}
use Rattle.std.proofs.lemmas.List.Elements.{All-head, All-tail}
use Rattle.std.proofs.lemmas.Option.{same_Some}
use Rattle.state_types.specs.declared.closed.Signature.{Signature}
use Rattle.operation_rules.specs.Settings.{IsFew}
use Rattle.operation_rules.specs.Sound.{IsHeader}

each : {A : Type 0} (P : A → Type 0) (xs : List A) (n : ℕ) (x : A) → All P xs → slice_get xs n ≡ Some x → P x
each P [] n x all e = absurd (let bad : ⊥ = cc in bad)
each P (y ∷ ys) zero x all e = subst P (same_Some y x e) (All-head P y ys all)
each P (y ∷ ys) (suc n) x all e = each P ys n x (All-tail P y ys all) e

pub own_few : (sigs : List Signature) (n : ℕ) (sig : Signature) → All IsFew sigs → slice_get sigs n ≡ Some sig → IsFew sig
own_few sigs n sig all e = each IsFew sigs n sig all e

pub own_header : (sigs : List Signature) (n : ℕ) (sig : Signature) → All IsHeader sigs → slice_get sigs n ≡ Some sig → IsHeader sig
own_header sigs n sig all e = each IsHeader sigs n sig all e
