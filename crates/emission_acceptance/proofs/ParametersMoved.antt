-- A function begins: its parameters are moved to their homes, and each kept place has its type there.
use Rattle.std.proofs.Common.{◌≡◌, ◌≢◌, ◌⊎◌, inl, inr, ℕ, zero, suc, ◌+◌, ◌<◌, ◌≤◌, ◌==◌, Bool as Truth, true, false, cond, List, [], ◌∷◌, ◌++◌, length, Some, nat_lt, refl, sym, ap, ◌∙◌, arith, subst, append-nil, if◌then◌else◌}
use Rattle.std.proofs.lemmas.Bool.{cases_lt}
use Rattle.std.proofs.lemmas.Bool.Decides.{nat_tests, Decides-eqb}
use Rattle.index_sorts.specs.Context.{IndexContext}
use Rattle.xan_seq.proofs.NumberTests.{equal, unequal, Order, Lt, Gt, Eq, order}
use Rattle.state_types.specs.PlaceTypes.{type_at, with_type}
use Rattle.state_types.specs.declared.state.StateType.{StateType}
use Rattle.state_types.specs.declared.types.Ty.{Ty}
use Rattle.operation_rules.specs.Rules.{Setting}
use Rattle.three_address.specs.Typing.{numbered as low_numbered}
use Rattle.three_address.specs.declared.function.LowFun.{LowFun}
use Rattle.dtal_code.specs.Declarations.{numbered, state_of}
use Rattle.dtal_code.specs.declared.instruction.Op.TheVariants as op
use Rattle.dtal_emit.specs.Emitted.{fewer}
use Rattle.dtal_emit.specs.Homes.{home_of, is_slot, alone, moved_if, entry_move, entry_moves}
use Rattle.emission_laws.specs.ApartHomes.{Kept, AreApart}
use Rattle.emission_acceptance.specs.TypesThrough.{Through, Walks, WalkEnds, WalkGoesOn}
use Rattle.emission_acceptance.proofs.MovesTyped.{walk_joined, move_verdict}
use Rattle.emission_acceptance.proofs.TypesHeld.{type_same, type_other}

-- ---- numbered types

pub same_numbered : (place : ℕ) (types : List Ty) → numbered place types ≡ low_numbered place types
unfolding numbered low_numbered
same_numbered place [] = refl
same_numbered place (t ∷ types) = ap (λ l. (place, t) ∷ l) (same_numbered (suc place) types)

numbered_below : (from place : ℕ) (types : List Ty) (t : Ty) → type_at place (numbered from types) ≡ Some t → place < from + length types
unfolding numbered
numbered_below from place [] t e = absurd (let bad : ⊥ = cc in bad)
numbered_below from place (u ∷ types) t e = by_test (from == place) refl e (λ f. numbered_below (suc from) place types t f)
  where
    by_test : (b : Truth) → (from == place) ≡ b → cond b (Some u) (type_at place (numbered (suc from) types)) ≡ Some t
        → (type_at place (numbered (suc from) types) ≡ Some t → place < suc from + length types) → place < from + suc (length types)
    by_test true s f later = (let same = (Decides-eqb from place).0 s in omega (arith, same))
    by_test false s f later = (let h = later f in omega (arith, h))

record Numbered (from place : ℕ) (types : List Ty) : Type 0 where
  t : Ty
  is : type_at place (numbered from types) ≡ Some t

numbered_there : (from place : ℕ) (types : List Ty) → from ≤ place → place < from + length types → Numbered from place types
unfolding numbered
numbered_there from place [] h l = absurd (omega (arith, h, l))
numbered_there from place (u ∷ types) h l = elim (order from place) [
  | Lt less ↦ (let r = numbered_there (suc from) place types less (omega (arith, l)) in
      record { t = r.t; is = ap (λ b. cond b (Some u) (type_at place (numbered (suc from) types))) (unequal from place (λ e. absurd (omega (arith, e, less)))) ∙ r.is })
  | Gt more ↦ absurd (omega (arith, h, more))
  | Eq same ↦ record { t = u; is = ap (λ b. cond b (Some u) (type_at place (numbered (suc from) types))) (equal from place same) }
]

-- ---- all moves

module _ (st : Setting) (labels : List StateType) (homes : List ℕ) (first : StateType) (few : first.ctx.vars ≤ 1024) where
  pub record AreMoved (n : ℕ) : Type 0 where
    pub befores : List StateType
    pub places : List (ℕ × Ty)
    pub walks : Walks st labels first (entry_moves homes n) befores (state_of first.ctx places)
    pub registers : (k : ℕ) → k < 16 → type_at k places ≡ type_at k first.places
    pub params : (q : ℕ) (t : Ty) → q < n → 16 ≤ home_of homes q → ((r : ℕ) → r < n → r ≢ q → home_of homes r ≢ home_of homes q) → type_at q first.places ≡ Some t
        → type_at (home_of homes q) places ≡ Some t

  no_move : AreMoved 0
  unfolding entry_moves
  no_move = record { befores = []; places = first.places; walks = WalkEnds first; registers = λ k h. refl; params = λ q t h. absurd (omega (arith, h)) }

  stays_there : (n : ℕ) → is_slot (home_of homes n) ≡ false → AreMoved n → AreMoved (suc n)
  unfolding entry_moves
  stays_there n s m = record {
    befores = m.befores;
    places = m.places;
    walks = subst (λ l. Walks st labels first l m.befores (state_of first.ctx m.places))
        (sym (append-nil (entry_moves homes n)) ∙ ap (λ k. entry_moves homes n ++ moved_if k (home_of homes n) n) (sym s)) m.walks;
    registers = m.registers;
    params = λ q t lt high apart e. m.params q t (below q lt high) high (λ r l. apart r (omega (arith, l))) e;
  }
    where
      below : (q : ℕ) → q < suc n → 16 ≤ home_of homes q → q < n
      below q lt high = by_order (cases_lt q n)
        where
          by_order : (q < n) ⊎ (n ≤ q) → q < n
          by_order (inl l) = l
          by_order (inr g) =
              let same : q ≡ n = omega (arith, lt, g) in
              let h : 16 ≤ home_of homes n = subst (λ x. 16 ≤ home_of homes x) same high in
              let t : is_slot (home_of homes n) ≡ true = grind (arith, nat_tests, h) in
              absurd (let bad : ⊥ = (let b : true ≡ false = sym t ∙ s in cc) in bad)

  goes_there : (n : ℕ) (u : Ty) → n < 16 → is_slot (home_of homes n) ≡ true → type_at n first.places ≡ Some u → AreMoved n → AreMoved (suc n)
  unfolding entry_moves
  goes_there n u low s there m =
      let home = home_of homes n in
      let high : 16 ≤ home = grind (arith, nat_tests, s) in
      let mid = state_of first.ctx m.places in
      let last = state_of first.ctx (with_type home u m.places) in
      let one : entry_move homes n ≡ alone (op.Mv home n) ∷ [] = ap (λ k. moved_if k home n) s in
      let passes = move_verdict st labels mid home n u few (m.registers n low ∙ there) in
      record {
        befores = m.befores ++ mid ∷ [];
        places = with_type home u m.places;
        walks = walk_joined st labels first mid last (entry_moves homes n) (entry_move homes n) m.befores (mid ∷ []) m.walks
            (subst (λ l. Walks st labels mid l (mid ∷ []) last) (sym one) (WalkGoesOn mid last last (alone (op.Mv home n)) [] [] passes (WalkEnds last)));
        registers = λ k l. type_other home k u m.places (λ e. absurd (omega (arith, e, l, high))) ∙ m.registers k l;
        params = λ q t lt high_q apart e. by_order q t high_q apart e lt (order q n);
      }
    where
      by_order : (q : ℕ) (t : Ty) → 16 ≤ home_of homes q → ((r : ℕ) → r < suc n → r ≢ q → home_of homes r ≢ home_of homes q) → type_at q first.places ≡ Some t → q < suc n → Order q n
          → type_at (home_of homes q) (with_type (home_of homes n) u m.places) ≡ Some t
      by_order q t high_q apart e lt (Lt l) =
          type_other (home_of homes n) (home_of homes q) u m.places (apart n (omega arith) (λ f. absurd (omega (arith, f, l))))
          ∙ m.params q t l high_q (λ r k. apart r (omega (arith, k))) e
      by_order q t high_q apart e lt (Gt g) = absurd (omega (arith, lt, g))
      by_order q t high_q apart e lt (Eq same) =
          ap (λ x. type_at (home_of homes x) (with_type (home_of homes n) u m.places)) same ∙ type_same (home_of homes n) u m.places ∙ sym there ∙ ap (λ x. type_at x first.places) (sym same) ∙ e

  moved : (n : ℕ) → n ≤ 16 → ((q : ℕ) → q < n → (t : Ty) × (type_at q first.places ≡ Some t)) → AreMoved n
  moved zero le typed = no_move
  moved (suc n) le typed =
      let m = moved n (omega (arith, le)) (λ q l. typed q (omega (arith, l))) in
      let there = typed n (omega arith) in
      by_test (is_slot (home_of homes n)) refl m there
    where
      by_test : (b : Truth) → is_slot (home_of homes n) ≡ b → AreMoved n → (t : Ty) × (type_at n first.places ≡ Some t) → AreMoved (suc n)
      by_test true s m there = goes_there n there.0 (omega (arith, le)) s there.1 m
      by_test false s m there = stays_there n s m

-- ---- the whole

fewer_same : (n : ℕ) → n ≤ 8 → fewer 8 n ≡ n
fewer_same n h = ap (λ b. if b then 8 else n) (let e : nat_lt 8 n ≡ false = grind (arith, nat_tests) in e)

-- the moves of a function's parameters lead to a state with the types of its places
pub record Enters (st : Setting) (labels : List StateType) (homes : List ℕ) (kept : ℕ → Type 0) (ctx : IndexContext) (params : List Ty) : Type 0 where
  pub befores : List StateType
  pub last : StateType
  pub walks : Walks st labels (state_of ctx (numbered 0 params)) (entry_moves homes (fewer 8 (length params))) befores last
  pub through : Through homes kept (state_of ctx (low_numbered 0 params)) last

pub enters : (st : Setting) (labels : List StateType) (fun : LowFun) (homes : List ℕ) (kept : Kept) (ctx : IndexContext) → ctx.vars ≤ 1024 → length fun.sig.params ≤ 8 → AreApart fun homes kept
    → Enters st labels homes (kept 0) ctx fun.sig.params
enters st labels fun homes kept ctx few short apart =
    let params = fun.sig.params in
    let n = length params in
    let first = state_of ctx (numbered 0 params) in
    let m = moved st labels homes first few n (omega (arith, short)) (λ q l. (let r = numbered_there 0 q params (omega arith) (omega (arith, l)) in (r.t, r.is))) in
    record {
      befores = m.befores;
      last = state_of ctx m.places;
      walks = subst (λ k. Walks st labels first (entry_moves homes k) m.befores (state_of ctx m.places)) (sym (fewer_same n short)) m.walks;
      through = record {
        ctx = refl;
        places = record {
          typed = λ place t keeps there.
              (let e : type_at place (numbered 0 params) ≡ Some t = ap (type_at place) (same_numbered 0 params) ∙ there in
              let small = numbered_below 0 place params t e in
              by_home place t e (omega (arith, small)) keeps m (apart.begins place keeps));
        };
      };
    }
  where
    by_home : (place : ℕ) (t : Ty) → type_at place (numbered 0 fun.sig.params) ≡ Some t → place < length fun.sig.params → kept 0 place
        → (m : AreMoved st labels homes (state_of ctx (numbered 0 fun.sig.params)) few (length fun.sig.params)) → (home_of homes place ≡ place) ⊎ (16 ≤ home_of homes place)
        → type_at (home_of homes place) m.places ≡ Some t
    by_home place t e small keeps m (inl same) = ap (λ h. type_at h m.places) same ∙ m.registers place (omega (arith, small, short)) ∙ e
    by_home place t e small keeps m (inr high) = m.params place t small high (λ r l differ. apart.params_apart r place l keeps differ) e
