-- What a rule that is applied gives.
use Rattle.std.proofs.Common.{◌≡◌, ℕ, ◌+◌, ℤ, List, [], ◌∷◌, ◌++◌, map, length, length-append, Result, Ok, Err, Option, Some, None, refl, sym, ◌∙◌, ap, subst}
use Rattle.std.specs.List.{All, AllZip}
use Rattle.std.proofs.lemmas.List.{append-nil}
use Rattle.std.proofs.lemmas.List.Elements.{All-nil, All-cons, All-head, All-tail}
use Rattle.index_sorts.specs.Context.{IndexContext, fresh_from, with_variables}
use Rattle.index_sorts.specs.Known.{with_row}
use Rattle.index_sorts.specs.Entails.{AllHold}
use Rattle.index_sorts.specs.declared.error.ContextError.{ContextError}
use Rattle.xan_lin.specs.Linear.{Linear, NamesBelow}
use Rattle.xan_lin.specs.Value.{Holds}
use Rattle.xan_lin.specs.declared.term.TooLarge.{TooLarge}
use Rattle.state_types.specs.Types.{TypeBelow}
use Rattle.state_types.specs.Unpacking.{shifted, shifted_type}
use Rattle.state_types.specs.Words.{Headers, HasType}
use Rattle.state_types.specs.declared.closed.Packed.{Packed}
use Rattle.state_types.specs.declared.types.Ty.{Ty}
use Rattle.state_types.proofs.Thens.{then_ok, ok_same}
use Rattle.operation_rules.specs.Applied.{Ruled, applied, widened, all_assuming, all_given}
use Rattle.operation_rules.specs.Faults.{Fault, needed, filled, or_fault}
use Rattle.operation_rules.specs.Rules.{Rule, gives, opens}
use Rattle.operation_rules.specs.Sound.{Written}
use Rattle.operation_rules.specs.Stored.{Packs}
use Rattle.operation_rules.proofs.LongerValues.{row-behind}
use Rattle.state_types.proofs.Unpacked.{rows_grow, present_keeps, part_carries, holds-front}
use Rattle.state_types.specs.Unpacking.{with_rows}

-- ---- answers

pub needed_ok : {A : Type 0} (r : Result A TooLarge) (x : A) → needed r ≡ Ok x → r ≡ Ok x
needed_ok (Ok y) x e = cc
needed_ok (Err why) x e = absurd (let bad : ⊥ = cc in bad)

pub filled_ok : {A : Type 0} (r : Result A ContextError) (x : A) → filled r ≡ Ok x → r ≡ Ok x
filled_ok (Ok y) x e = cc
filled_ok (Err why) x e = absurd (let bad : ⊥ = cc in bad)

pub or_fault_ok : {A : Type 0} (fault : Fault) (o : Option A) (x : A) → or_fault fault o ≡ Ok x → o ≡ Some x
or_fault_ok fault (Some y) x e = cc
or_fault_ok fault None x e = absurd (let bad : ⊥ = cc in bad)

-- ---- rows that are taken to hold

abbrev pub OkHolds : List ℤ → Result Linear TooLarge → Type 0
OkHolds values (Ok row) = Holds values row
OkHolds values (Err why) = Unit {0}

abbrev pub OkHas : Headers → List ℤ → ℤ → Result Ty TooLarge → Type 0
OkHas headers values word (Ok t) = HasType headers values word t
OkHas headers values word (Err why) = Unit {0}

one_row : (ctx : IndexContext) (row : Linear) (more : IndexContext) → with_row ctx row ≡ Ok more → with_rows ctx (row ∷ []) ≡ Ok more
unfolding with_rows
one_row ctx row more e = rw e refl

row_kept : (values : List ℤ) (ctx : IndexContext) (row : Linear) (more : IndexContext) → with_row ctx row ≡ Ok more → AllHold values ctx.rows → Holds values row
    → (more.vars ≡ ctx.vars) × AllHold values more.rows
row_kept values ctx row more e before here = rows_grow values ctx more (row ∷ []) (one_row ctx row more e) before (All-cons (Holds values) row [] here (All-nil (Holds values)))

pub assuming_grows : (values : List ℤ) (rows : List (Result Linear TooLarge)) (ctx more : IndexContext) → all_assuming rows ctx ≡ Ok more → AllHold values ctx.rows
    → All (OkHolds values) rows → (more.vars ≡ ctx.vars) × AllHold values more.rows
unfolding all_assuming
assuming_grows values [] ctx more e before all =
    let same : ctx ≡ more = ok_same ctx more e in
    (ap (λ c. c.vars) (sym same), subst (λ c. AllHold values c.rows) same before)
assuming_grows values (Ok row ∷ rows) ctx more e before all =
    let s = then_ok (with_row ctx row) (λ m. all_assuming rows m) more e in
    let g = row_kept values ctx row s.value s.first before (All-head (OkHolds values) (Ok row) rows all) in
    let later = assuming_grows values rows s.value more s.second g.1 (All-tail (OkHolds values) (Ok row) rows all) in
    (later.0 ∙ g.0, later.1)
assuming_grows values (Err why ∷ rows) ctx more e before all =
    assuming_grows values rows ctx more e before (All-tail (OkHolds values) (Err why) rows all)

pub given_typed : (headers : Headers) (values words : List ℤ) (given : List (Result Ty TooLarge)) (types : List Ty) → all_given given ≡ Ok types
    → AllZip (OkHas headers values) words given → AllZip (HasType headers values) words types
unfolding all_given
given_typed headers values [] [] types e has = subst (λ (ts : List Ty). AllZip (HasType headers values) [] ts) (ok_same [] types e) tt
given_typed headers values [] (g ∷ given) types e has = absurd has
given_typed headers values (w ∷ words) [] types e has = absurd has
given_typed headers values (w ∷ words) (Err why ∷ given) types e has = absurd (let bad : ⊥ = cc in bad)
given_typed headers values (w ∷ words) (Ok t ∷ given) types e has =
    let s = then_ok (all_given given) (λ others. let r : Result (List Ty) TooLarge = Ok (t ∷ others) in r) types e in
    subst (λ ts. AllZip (HasType headers values) (w ∷ words) ts) (ok_same (t ∷ s.value) types s.second) (has.0, given_typed headers values words given s.value s.first has.1)

-- ---- a rule

-- values of the fresh variables, under which the assumed rows hold and words have the types given
pub record Meets (headers : Headers) (assignment : List ℤ) (r : Rule) (words : List ℤ) : Type 0 where
  pub own : List ℤ
  pub count : length own ≡ r.fresh
  pub hold : All (OkHolds (assignment ++ own)) r.assumed
  pub typed : AllZip (OkHas headers (assignment ++ own)) words r.given

widened_is : (count : ℕ) (ctx wide : IndexContext) → widened count ctx ≡ Ok wide → with_variables ctx count ≡ wide
unfolding widened
widened_is count ctx wide e =
    let s = then_ok (fresh_from ctx count) (λ first. let r : Result IndexContext ContextError = Ok (with_variables ctx count) in r) wide e in
    ok_same (with_variables ctx count) wide s.second

pub record Parts (r : Rule) (ctx : IndexContext) (ruled : Ruled) : Type 0 where
  pub given : all_given r.given ≡ Ok ruled.types
  pub assumed : all_assuming r.assumed (with_variables ctx r.fresh) ≡ Ok ruled.ctx
  pub demands : r.demands ≡ ruled.demands

pub parts_of : (r : Rule) (ctx : IndexContext) (ruled : Ruled) → applied r ctx ≡ Ok ruled → Parts r ctx ruled
unfolding applied
parts_of r ctx ruled e =
    let s = then_ok (needed (all_given r.given)) _ ruled e in
    let t = then_ok (filled (widened r.fresh ctx)) _ ruled s.second in
    let u = then_ok (filled (all_assuming r.assumed t.value)) _ ruled t.second in
    let same = ok_same _ ruled u.second in
    record {
      given = subst (λ ts. all_given r.given ≡ Ok ts) (ap (λ x. x.types) same) (needed_ok (all_given r.given) s.value s.first);
      assumed = subst (λ c. all_assuming r.assumed (with_variables ctx r.fresh) ≡ Ok c) (ap (λ x. x.ctx) same)
          (subst (λ w. all_assuming r.assumed w ≡ Ok u.value) (sym (widened_is r.fresh ctx t.value (filled_ok (widened r.fresh ctx) t.value t.first)))
          (filled_ok (all_assuming r.assumed t.value) u.value u.first));
      demands = ap (λ x. x.demands) same;
    }

pub applied_written : (headers : Headers) (assignment words : List ℤ) (r : Rule) (ctx : IndexContext) (ruled : Ruled) → applied r ctx ≡ Ok ruled
    → length assignment ≡ ctx.vars → AllHold assignment ctx.rows → All (NamesBelow ctx.vars) ctx.rows → Meets headers assignment r words
    → Written headers assignment ctx ruled words
applied_written headers assignment words r ctx ruled e count hold named meets =
    let p = parts_of r ctx ruled e in
    let longer = assignment ++ meets.own in
    let before = holds-front assignment meets.own ctx.rows (subst (λ n. All (NamesBelow n) ctx.rows) (sym count) named) hold in
    let g = assuming_grows longer r.assumed (with_variables ctx r.fresh) ruled.ctx p.assumed before meets.hold in
    record {
      own = meets.own;
      grows = record {
        one_each = length-append assignment meets.own ∙ ap (λ n. n + length meets.own) count ∙ ap (λ n. ctx.vars + n) meets.count ∙ sym g.0;
        hold = g.1;
        keep = λ t below. present_keeps assignment meets.own t (subst (λ n. TypeBelow n t) (sym count) below);
      };
      typed = given_typed headers longer words r.given ruled.types p.given meets.typed;
    }

-- ---- rules of two forms

map_given : (headers : Headers) (values words : List ℤ) (types : List Ty) → AllZip (HasType headers values) words types → AllZip (OkHas headers values) words (map Ok types)
map_given headers values [] [] has = tt
map_given headers values [] (t ∷ types) has = absurd has
map_given headers values (w ∷ words) [] has = absurd has
map_given headers values (w ∷ words) (t ∷ types) has = (has.0, map_given headers values words types has.1)

pub meets_gives : (headers : Headers) (assignment words : List ℤ) (demands : List Linear) (types : List Ty) → AllZip (HasType headers assignment) words types
    → Meets headers assignment (gives demands types) words
meets_gives headers assignment words demands types has = record {
  own = [];
  count = refl;
  hold = All-nil (OkHolds (assignment ++ []));
  typed = map_given headers (assignment ++ []) words types (subst (λ a. AllZip (HasType headers a) words types) (sym (append-nil assignment)) has);
}

opened_rows : (xs ys : List ℤ) (rows : List Linear) → AllHold ys rows → All (OkHolds (xs ++ ys)) (map (λ row. let r : Result Linear TooLarge = Ok (shifted (length xs) row) in r) rows)
opened_rows xs ys [] hold = All-nil (OkHolds (xs ++ ys))
opened_rows xs ys (row ∷ rows) hold =
    All-cons (OkHolds (xs ++ ys)) (Ok (shifted (length xs) row)) _ (row-behind xs ys row (All-head (Holds ys) row rows hold)) (opened_rows xs ys rows (All-tail (Holds ys) row rows hold))

opened_types : (headers : Headers) (xs ys words : List ℤ) (types : List Ty) → AllZip (HasType headers ys) words types
    → AllZip (OkHas headers (xs ++ ys)) words (map (λ t. let r : Result Ty TooLarge = Ok (shifted_type (length xs) t) in r) types)
opened_types headers xs ys [] [] has = tt
opened_types headers xs ys [] (t ∷ types) has = absurd has
opened_types headers xs ys (w ∷ words) [] has = absurd has
opened_types headers xs ys (w ∷ words) (t ∷ types) has = ((part_carries xs ys t).carries headers w has.0, opened_types headers xs ys words types has.1)

pub meets_opens : (headers : Headers) (assignment words : List ℤ) (first : ℕ) (demands : List Linear) (packed : Packed) → length assignment ≡ first → Packs headers packed words
    → Meets headers assignment (opens first demands packed) words
meets_opens headers assignment words first demands packed count packs =
    subst (λ n. Meets headers assignment (opens n demands packed) words) count (record {
      own = packs.own;
      count = packs.one_each;
      hold = opened_rows assignment packs.own packed.rows packs.hold;
      typed = opened_types headers assignment packs.own words packed.parts packs.fit;
    })
