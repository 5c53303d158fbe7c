-- Intervals by a table of live places.
use Rattle.std.proofs.Common.{◌≡◌, ℕ, zero, suc, ◌+◌, ◌==◌, ◌<◌, ◌≤◌, Bool, true, false, ◌||◌, ◌&&◌, nat_lt, inl, inr, length, Some, None, refl, sym, ap, ◌∙◌, subst, arith}
use Rattle.std.proofs.lemmas.Bool.{cases_lt, eqb-true}
use Rattle.std.proofs.lemmas.Bool.Decides.{nat_tests}
use Rattle.std.proofs.lemmas.Option.{none-some}
use Rattle.three_address.specs.declared.function.LowFun.{LowFun}
use Rattle.three_address.specs.Flow.{writes_at}
use Rattle.three_address.specs.Intervals.{Held, IsLive, IsWritten, IsParameter, IsInterval}
use Rattle.three_address.specs.LiveTables.{has, bit, round, rounds}
use Rattle.three_address.specs.TableIntervals.{first_if, first_from, last_if, last_from, held, first_held, last_held}
use Rattle.three_address.proofs.LiveRounds.{either, both, and-true, left_true, right_true, there-has, has-there, rounds-live, live-found, live-within, written-within}

-- ---- the first and the last of so many numbers from one on that pass a test

some-same : (a b : ℕ) → Some a ≡ Some b → a ≡ b
some-same a b e = cc

-- it passes, and none before it does
first-passes : (p : ℕ → Bool) (from count first : ℕ) → first_from p from count ≡ Some first → p first ≡ true
unfolding first_from
first-passes p from zero first e = absurd (none-some first e)
first-passes p from (suc count) first e =
    elim (p from) as (λ b. p from ≡ b → first_if b from (first_from p (suc from) count) ≡ Some first → p first ≡ true) [
      | true ↦ λ h f. ap p (sym (some-same from first f)) ∙ h
      | false ↦ λ h f. first-passes p (suc from) count first f
    ] refl e

first-least : (p : ℕ → Bool) (from count first at : ℕ) → first_from p from count ≡ Some first → p at ≡ true → from ≤ at → first ≤ at
unfolding first_from
first-least p from zero first at e passes le = absurd (none-some first e)
first-least p from (suc count) first at e passes le =
    elim (p from) as (λ b. p from ≡ b → first_if b from (first_from p (suc from) count) ≡ Some first → first ≤ at) [
      | true ↦ λ h f. let same : from ≡ first = some-same from first f in omega arith
      | false ↦ λ h f. elim (cases_lt from at) [
        | inl lt ↦ let le' : suc from ≤ at = omega arith in first-least p (suc from) count first at f passes le'
        | inr ge ↦ let same : from ≡ at = omega arith in absurd (false-true _ h (ap p same ∙ passes))
      ]
    ] refl e
  where
    false-true : (b : Bool) → b ≡ false → b ≡ true → ⊥
    false-true b e f = cc

last-passes : (p : ℕ → Bool) (from count last : ℕ) → last_from p from count ≡ Some last → p last ≡ true
unfolding last_from
last-passes p from zero last e = absurd (none-some last e)
last-passes p from (suc count) last e =
    elim (last_from p (suc from) count) as (λ o. last_from p (suc from) count ≡ o → last_if o (p from) from ≡ Some last → p last ≡ true) [
      | Some later ↦ λ h f. last-passes p (suc from) count last (h ∙ f)
      | None ↦ λ h f. elim (p from) as (λ b. p from ≡ b → last_if None b from ≡ Some last → p last ≡ true) [
        | true ↦ λ k g. ap p (sym (some-same from last g)) ∙ k
        | false ↦ λ k g. absurd (none-some last g)
      ] refl f
    ] refl e

-- where one passes there is a last one, and it is no earlier
last-greatest : (p : ℕ → Bool) (from count at : ℕ) → p at ≡ true → from ≤ at → at < from + count → (last : ℕ) × (last_from p from count ≡ Some last) × (at ≤ last)
unfolding last_from
last-greatest p from zero at passes le lt = absurd (omega arith)
last-greatest p from (suc count) at passes le lt = elim (cases_lt from at) [
  | inl more ↦
      let le' : suc from ≤ at = omega arith in
      let lt' : at < suc from + count = omega arith in
      let found = last-greatest p (suc from) count at passes le' lt' in
      (found.0, ap (λ o. last_if o (p from) from) found.1, found.2)
  | inr ge ↦
      let same : from ≡ at = omega arith in
      elim (last_from p (suc from) count) as (λ o. (r : last_from p (suc from) count ≡ o) → (last : ℕ) × (last_if o (p from) from ≡ Some last) × (at ≤ last)) [
        | Some later ↦ λ r. (later, refl, omega (arith, last-behind p (suc from) count later r))
        | None ↦ λ r. (from, ap (λ b. last_if None b from) (ap p same ∙ passes), omega arith)
      ] refl
]
  where
    last-behind : (p : ℕ → Bool) (from count last : ℕ) → last_from p from count ≡ Some last → from ≤ last
    last-behind p from zero last e = absurd (none-some last e)
    last-behind p from (suc count) last e =
        elim (last_from p (suc from) count) as (λ o. last_from p (suc from) count ≡ o → last_if o (p from) from ≡ Some last → from ≤ last) [
          | Some later ↦ λ h f. omega (arith, last-behind p (suc from) count last (h ∙ f))
          | None ↦ λ h f. elim (p from) as (λ b. last_if None b from ≡ Some last → from ≤ last) [
            | true ↦ λ g. let same : from ≡ last = some-same from last g in omega arith
            | false ↦ λ g. absurd (none-some last g)
          ] f
        ] refl e

-- ---- intervals

-- in a table of live places that a round leaves as it is
module _ (fun : LowFun) (count : ℕ) (done : round fun (rounds fun count) ≡ rounds fun count) (some : 0 < length fun.code) (place : ℕ) (small : place < fun.places) where
  held-is : (at : ℕ) → held fun (rounds fun count) place at ≡ true → Held fun place at
  held-is at e = elim (either (bit (rounds fun count) at place) (has (writes_at fun at) place || ((at == 0) && nat_lt place (length fun.sig.params))) e) [
    | inl h ↦ IsLive place at (rounds-live fun count at place h)
    | inr h ↦ elim (either (has (writes_at fun at) place) ((at == 0) && nat_lt place (length fun.sig.params)) h) [
      | inl k ↦ IsWritten place at (has-there (writes_at fun at) place k)
      | inr k ↦
          let parts = both (at == 0) (nat_lt place (length fun.sig.params)) k in
          subst (λ (n : ℕ). Held fun place n) (sym (eqb-true at 0 parts.0)) (IsParameter place (grind (arith, nat_tests)))
    ]
  ]

  held-found : (at : ℕ) → Held fun place at → held fun (rounds fun count) place at ≡ true
  held-found at (IsLive _ _ live) = left_true _ _ (live-found fun (rounds fun count) done at place small live)
  held-found at (IsWritten _ _ there) = right_true (bit (rounds fun count) at place) _ (left_true _ _ (there-has (writes_at fun at) place there))
  held-found _ (IsParameter _ lt) =
      right_true (bit (rounds fun count) 0 place) _ (right_true (has (writes_at fun 0) place) _ (and-true (0 == 0) (nat_lt place (length fun.sig.params)) refl (grind (arith, nat_tests))))

  held-within : (at : ℕ) → Held fun place at → at < length fun.code
  held-within at (IsLive _ _ live) = live-within fun at place live
  held-within at (IsWritten _ _ there) = written-within fun at place there
  held-within _ (IsParameter _ lt) = some

  pub is-interval : (first last : ℕ) → first_held fun (rounds fun count) place ≡ Some first → last_held fun (rounds fun count) place ≡ Some last
      → IsInterval fun place first last
  is-interval first last e f = record {
    first_held = held-is first (first-passes (held fun (rounds fun count) place) 0 (length fun.code) first e);
    last_held = held-is last (last-passes (held fun (rounds fun count) place) 0 (length fun.code) last f);
    within = λ at h.
        let found = last-greatest (held fun (rounds fun count) place) 0 (length fun.code) at (held-found at h) (omega arith) (omega (arith, held-within at h)) in (
          first-least (held fun (rounds fun count) place) 0 (length fun.code) first at e (held-found at h) (omega arith),
          omega (arith, some-same found.0 last (sym found.1 ∙ f), found.2),
        );
  }
