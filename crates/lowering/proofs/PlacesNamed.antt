-- The places that code names are those that the limits count.
use Rattle.std.proofs.Common.{◌≡◌, ℕ, zero, suc, ◌+◌, ◌<◌, ◌≤◌, max, List, [], ◌∷◌, ◌++◌, map, length, slice_get, pos, Bool as Truth, true, false, not, Option, Some, None, refl, sym, ap, ◌∙◌, subst, arith, le_antisymm}
use Rattle.xanadu_tree.specs.declared.types.CoreTy.{CoreTy}
use Rattle.xanadu_tree.specs.declared.types.Kind.{Kind}
use Rattle.xanadu_tree.specs.declared.types.Kind.TheVariants as kind
use Rattle.xanadu_tree.specs.declared.types.Packing.{Packing}
use Rattle.xanadu_tree.specs.declared.expr.Rel.{Rel}
use Rattle.xanadu_tree.specs.declared.expr.Rel.TheVariants as rel
use Rattle.std.specs.List.{AllZip}
use Rattle.xanadu_tree.specs.BodyRules.{Point, behind_block, completes_all, IsReturn, IsStatement, AreStatements}
use Rattle.xanadu_tree.specs.KindRules.{Setting, Header, kind_of, IsSomeLink, HasKind, HaveKinds, AreNumbers, IsTest, AreTests}
use Rattle.xanadu_tree.specs.Plain as core
use Rattle.typed_core.specs.Places.{is_put, behind, next_to, put, named_by, named_by_operands, named_by_links, operand_named, leaf_named, test_named, tests_named, return_named, statement_named, statements_named}
use Rattle.three_address.specs.declared.instruction.LowInstr.{LowInstr}
use Rattle.value_lowering.specs.Frames.{Frame, temporary, operand_place}
use Rattle.lowering.specs.Lowered.{places_reach, code_reach}
use Rattle.value_lowering.specs.OneInstruction.{Aim, in_order, that_is, branch, truth_branch, compared, literal, jump, jump_if}
use Rattle.lowering.specs.StatementCode.{return_code, statement_size, first_at, second_at, behind_loop, unless, statement_code, block_code}
use Rattle.lowering.specs.TestCode.{leaf_code, turned, inner_aim, past_parts, test_size, test_code, parts_code}
use Rattle.value_lowering.specs.ValueCode.{operand_places, value_code, operands_code, links_code, operand_at}

pub reach_and : (one two : List LowInstr) → code_reach (one ++ two) ≡ max (code_reach one) (code_reach two)
unfolding code_reach
reach_and [] two = omega arith
reach_and (i ∷ one) two = omega (arith, reach_and one two)

get_within : {A : Type 0} (xs : List A) (i : ℕ) (x : A) → slice_get xs i ≡ Some x → i < length xs
get_within [] i x e = cc
get_within (y ∷ xs) zero x e = omega arith
get_within (y ∷ xs) (suc i) x e = omega (arith, get_within xs i x e)

module _ (vars : ℕ) where
  -- the code names so many temporaries
  pub record Names (code : List LowInstr) (n : ℕ) : Type 0 where
    pub is : max vars (code_reach code) ≡ vars + n

  -- the place is a variable's, or the last of so many temporaries
  pub record Place (place m : ℕ) : Type 0 where
    pub is : max vars (suc place) ≡ vars + m

  -- the places are variables' or among so many temporaries
  pub record Within (places : List ℕ) (n : ℕ) : Type 0 where
    pub is : max vars (places_reach places) ≤ vars + n

  names_as : (code : List LowInstr) (m n : ℕ) → m ≡ n → Names code m → Names code n
  names_as code m n e h = record { is = h.is ∙ ap (λ k. vars + k) e }

  names_none : Names [] 0
  unfolding code_reach
  names_none = record { is = omega arith }

  names_and : (one two : List LowInstr) (m n : ℕ) → Names one m → Names two n → Names (one ++ two) (max m n)
  names_and one two m n h k = record { is = omega (arith, reach_and one two, h.is, k.is) }

  one_reach : (i : LowInstr) → code_reach (i ∷ []) ≡ max (places_reach i.places) 0
  unfolding code_reach
  one_reach i = refl

  two_reach : (to : ℕ) (rest : List ℕ) → places_reach (to ∷ rest) ≡ max (suc to) (places_reach rest)
  unfolding places_reach
  two_reach to rest = refl

  -- code, and an instruction that writes a place and reads some
  names_to : (code : List LowInstr) (i : LowInstr) (to : ℕ) (rest : List ℕ) (m n : ℕ) → i.places ≡ to ∷ rest → Names code n → Place to m → Within rest n
      → Names (code ++ i ∷ []) (max m n)
  names_to code i to rest m n same h p w = record {
    is = omega (arith, reach_and code (i ∷ []), one_reach i, ap places_reach same, two_reach to rest, h.is, p.is, w.is);
  }

  -- and one that only reads
  names_read : (code : List LowInstr) (i : LowInstr) (n : ℕ) → Names code n → Within i.places n → Names (code ++ i ∷ []) n
  names_read code i n h w = record { is = omega (arith, reach_and code (i ∷ []), one_reach i, h.is, w.is) }

  -- the same behind two pieces
  names_two : (one two : List LowInstr) (i : LowInstr) (to : ℕ) (rest : List ℕ) (m p q : ℕ) → i.places ≡ to ∷ rest → Names one p → Names two q → Place to m
      → Within rest (max p q) → Names (one ++ (two ++ i ∷ [])) (max m (max p q))
  names_two one two i to rest m p q same h k place w = record {
    is = omega (arith, reach_and one (two ++ i ∷ []), reach_and two (i ∷ []), one_reach i, ap places_reach same, two_reach to rest, h.is, k.is, place.is, w.is);
  }

  names_two_read : (one two : List LowInstr) (i : LowInstr) (p q : ℕ) → Names one p → Names two q → Within i.places (max p q)
      → Names (one ++ (two ++ i ∷ [])) (max p q)
  names_two_read one two i p q h k w = record { is = omega (arith, reach_and one (two ++ i ∷ []), reach_and two (i ∷ []), one_reach i, h.is, k.is, w.is) }

  names_three_read : (one two three : List LowInstr) (i : LowInstr) (p q r : ℕ) → Names one p → Names two q → Names three r
      → Within i.places (max p (max q r)) → Names (one ++ (two ++ (three ++ i ∷ []))) (max p (max q r))
  names_three_read one two three i p q r h k l w = record {
    is = omega (arith, reach_and one (two ++ (three ++ i ∷ [])), reach_and two (three ++ i ∷ []), reach_and three (i ∷ []), one_reach i, h.is, k.is, l.is, w.is);
  }

  names_first : (i : LowInstr) (code : List LowInstr) (to m n : ℕ) → i.places ≡ to ∷ [] → Place to m → Names code n → Names (i ∷ code) (max m n)
  unfolding code_reach places_reach
  names_first i code to m n same p h = record { is = omega (arith, ap places_reach same, p.is, h.is) }

  -- an instruction without places
  names_jump : (b : Truth) (to : ℕ) → Names (jump_if b to) 0
  unfolding code_reach places_reach
  names_jump true to = record { is = omega arith }
  names_jump false to = record { is = omega arith }

  names_behind_jump : (i : LowInstr) (code : List LowInstr) (n : ℕ) → i.places ≡ [] → Names code n → Names (i ∷ code) n
  unfolding code_reach places_reach
  names_behind_jump i code n same h = record { is = omega (arith, ap places_reach same, h.is) }

  -- ---- places

  variable_place : (x : ℕ) → x < vars → Place x 0
  variable_place x h = record { is = omega (arith, h) }

  temporary_place : (d : ℕ) → Place (temporary vars d) (suc d)
  temporary_place d = record { is = omega arith }

  within_none : (n : ℕ) → Within [] n
  unfolding places_reach
  within_none n = record { is = omega arith }

  within_more : (place m : ℕ) (rest : List ℕ) (n : ℕ) → Place place m → m ≤ n → Within rest n → Within (place ∷ rest) n
  unfolding places_reach
  within_more place m rest n p le w = record { is = omega (arith, p.is, le, w.is) }

  within_more_of : (m n : ℕ) (places : List ℕ) → m ≤ n → Within places m → Within places n
  within_more_of m n places le w = record { is = omega (arith, le, w.is) }

  -- both operands of a comparison, in whichever order
  within_order : (r : Rel) (p q a b n : ℕ) → Place p a → Place q b → a ≤ n → b ≤ n → Within (in_order r p q) n
  within_order rel.Lt p q a b n h k le lt = within_more p a _ n h le (within_more q b [] n k lt (within_none n))
  within_order rel.Le p q a b n h k le lt = within_more p a _ n h le (within_more q b [] n k lt (within_none n))
  within_order rel.Gt p q a b n h k le lt = within_more q b _ n k lt (within_more p a [] n h le (within_none n))
  within_order rel.Ge p q a b n h k le lt = within_more q b _ n k lt (within_more p a [] n h le (within_none n))
  within_order rel.Eq p q a b n h k le lt = within_more p a _ n h le (within_more q b [] n k lt (within_none n))
  within_order rel.Ne p q a b n h k le lt = within_more p a _ n h le (within_more q b [] n k lt (within_none n))

  -- an operator of a chain, behind its operand and in front of the others
  module _ (v c l r p q n : ℕ) where
    joined : max v c ≡ v + p → max v l ≤ v + max n p → v + n ≤ max v l → max v (max c l) ≡ v + max n p
    joined h w k = omega (arith, h, w, k)

    three_joined : max v (max c l) ≡ v + p → max v r ≡ v + q → max v (max c (max l r)) ≡ v + max p q
    three_joined h k = omega (arith, h, k)

  at_least_both : (v m l x : ℕ) → v + m ≤ x → v + l ≤ x → v + max m l ≤ x
  at_least_both v m l x h k = omega (arith, h, k)

  first_least : (to : ℕ) (rest : List ℕ) (m : ℕ) → Place to m → vars + m ≤ max vars (places_reach (to ∷ rest))
  unfolding places_reach
  first_least to rest m p = omega (arith, p.is)

  second_least : (to left : ℕ) (rest : List ℕ) (l : ℕ) → Place left l → vars + l ≤ max vars (places_reach (to ∷ left ∷ rest))
  unfolding places_reach
  second_least to left rest l p = omega (arith, p.is)

  names_link : (code rest : List LowInstr) (i : LowInstr) (to left q m l p r : ℕ) → i.places ≡ to ∷ left ∷ q ∷ [] → Names code p → Place to m → Place left l
      → Within (q ∷ []) p → Names rest r → Names (code ++ (i ∷ rest)) (max (max (max m l) p) r)
  unfolding code_reach
  names_link code rest i to left q m l p r same h place_to place_left w k =
      let all = max (max m l) p in
      let within : Within (to ∷ left ∷ q ∷ []) all =
      within_more to m _ all place_to (omega arith) (within_more left l _ all place_left (omega arith) (within_more_of p all _ (omega arith) w)) in
      let least = at_least_both vars m l _ (first_least to _ m place_to) (second_least to left _ l place_left) in
      let here : max vars (max (code_reach code) (places_reach i.places)) ≡ vars + all =
      subst (λ places. max vars (max (code_reach code) (places_reach places)) ≡ vars + all) (sym same)
      (joined vars (code_reach code) (places_reach (to ∷ left ∷ q ∷ [])) 0 p 0 (max m l) h.is within.is least) in
      record {
        is = ap (λ n. max vars n) (reach_and code (i ∷ rest)) ∙ three_joined vars (code_reach code) (places_reach i.places) (code_reach rest) all r 0 here k.is;
      }

put_more : (e : core.Expr) (d n : ℕ) → put e d 0 ≤ put e d n
put_more (core.Var x) d n = omega arith
put_more e d n = omega arith

-- ---- greatest numbers

below_both : (a b c : ℕ) → a ≤ c → b ≤ c → max a b ≤ c
below_both a b c h k = omega (arith, h, k)

-- the same numbers in another order
reordered : (s l p m n : ℕ) → max (max (max s l) p) (max s (max m n)) ≡ max l (max m (max p (max s n)))
reordered s l p m n =
    let to_left : max (max (max s l) p) (max s (max m n)) ≤ max l (max m (max p (max s n))) =
    below_both _ _ _ (below_both _ _ _ (below_both _ _ _ (omega arith) (omega arith)) (omega arith)) (below_both _ _ _ (omega arith) (below_both _ _ _ (omega arith) (omega arith))) in
    let to_right : max l (max m (max p (max s n))) ≤ max (max (max s l) p) (max s (max m n)) =
    below_both _ _ _ (omega arith) (below_both _ _ _ (omega arith) (below_both _ _ _ (omega arith) (below_both _ _ _ (omega arith) (omega arith)))) in
    le_antisymm to_left to_right

-- ---- expressions

module _ (set : Setting) (visible : List ℕ) where
  operand_is : (e : core.Expr) (d : ℕ) (k : Kind) → HasKind set visible e k → Place (length set.kinds) (operand_place (length set.kinds) e d) (put e d 0)
  unfolding HasKind
  operand_is (core.Var x) d k h = variable_place _ x (get_within set.kinds x k h.1)
  operand_is e d k h = record { is = omega arith }

  operand_names : (e : core.Expr) (d : ℕ) (k : Kind) → HasKind set visible e k
      → ((m : ℕ) → Place (length set.kinds) (temporary (length set.kinds) d) m → Names (length set.kinds) (value_code (length set.kinds) e d (temporary (length set.kinds) d)) (max m (named_by e d)))
      → Names (length set.kinds) (operand_at (length set.kinds) e d) (put e d (named_by e d))
  operand_names (core.Var x) d k h f = names_none _
  operand_names e d k h f = f (suc d) (temporary_place _ d)

  -- its place is among those that its code names
  operand_within : (e : core.Expr) (d : ℕ) (k : Kind) (n m : ℕ) (rest : List ℕ) → HasKind set visible e k → put e d n ≤ m → Within (length set.kinds) rest m
      → Within (length set.kinds) (operand_place (length set.kinds) e d ∷ rest) m
  operand_within e d k n m rest h le w = within_more _ _ (put e d 0) rest m (operand_is e d k h) (omega (arith, put_more e d n, le)) w

  operands_within : (es : core.Exprs) (d : ℕ) (ks : List Kind) → HaveKinds set visible es ks
      → Within (length set.kinds) (operand_places (length set.kinds) es d) (named_by_operands es d)
  unfolding operand_places named_by HasKind
  operands_within core.NoExpr d ks h = within_none _ _
  operands_within (core.AnExpr e es) d [] h = absurd h
  operands_within (core.AnExpr e es) d (k ∷ ks) h =
      operand_within e d k (named_by e d) _ _ h.0 (omega arith)
      (within_more_of _ (named_by_operands es (behind e d)) _ _ (omega arith) (operands_within es (behind e d) ks h.1))

  mutual
    unfolding value_code named_by HasKind

    pub value_names : (e : core.Expr) (d to m : ℕ) (k : Kind) → HasKind set visible e k → Place (length set.kinds) to m
        → Names (length set.kinds) (value_code (length set.kinds) e d to) (max m (named_by e d))
    value_names (core.Int n) d to m k h p = names_to _ [] _ to [] m 0 refl (names_none _) p (within_none _ 0)
    value_names (core.Bool b) d to m k h p = names_to _ [] _ to [] m 0 refl (names_none _) p (within_none _ 0)
    value_names (core.Var x) d to m k h p =
        names_to _ [] _ to (x ∷ []) m 0 refl (names_none _) p
        (within_more _ x 0 [] 0 (variable_place _ x (get_within set.kinds x k h.1)) (omega arith) (within_none _ 0))
    value_names (core.Neg e) d to m k h p =
        names_to _ _ _ to _ m (max (suc d) (put e (suc d) (named_by e (suc d)))) refl
        (names_first _ _ _ _ (suc d) _ refl (temporary_place _ d) (operand_names e (suc d) kind.Int h.1 (λ q pq. value_names e (suc d) _ q kind.Int h.1 pq)))
        p
        (within_more _ _ (suc d) _ _ (temporary_place _ d) (omega arith)
        (operand_within e (suc d) kind.Int (named_by e (suc d)) _ [] h.1 (omega arith) (within_none _ _)))
    value_names (core.Chain first rest) d to m k h p =
        names_as _ _ _ _ (omega (arith, put_more first d (named_by first d)))
        (names_and _ _ _ _ _ (operand_names first d kind.Int h.1 (λ q pq. value_names first d _ q kind.Int h.1 pq))
        (links_name rest (is_put first) _ (put first d 0) d to m h.2 h.3 (operand_is first d kind.Int h.1) p))
    value_names (core.Compare r left right) d to m k h p =
        names_two _ _ _ (compared r to (operand_place (length set.kinds) left d) (operand_place (length set.kinds) right (behind left d))) to _ m _ _ refl
        (operand_names left d kind.Int h.1 (λ q pq. value_names left d _ q kind.Int h.1 pq))
        (operand_names right (behind left d) kind.Int h.2 (λ q pq. value_names right (behind left d) _ q kind.Int h.2 pq))
        p
        (within_order _ r _ _ (put left d 0) (put right (behind left d) 0) _ (operand_is left d kind.Int h.1) (operand_is right (behind left d) kind.Int h.2)
        (omega (arith, put_more left d (named_by left d))) (omega (arith, put_more right (behind left d) (named_by right (behind left d)))))
    value_names (core.Index array index at) d to m k h p =
        names_two _ _ _ _ to _ m _ _ refl
        (operand_names array d (kind.Array h.0) h.1 (λ q pq. value_names array d _ q (kind.Array h.0) h.1 pq))
        (operand_names index (behind array d) kind.Int h.2 (λ q pq. value_names index (behind array d) _ q kind.Int h.2 pq))
        p
        (operand_within array d (kind.Array h.0) (named_by array d) _ _ h.1 (omega arith)
        (operand_within index (behind array d) kind.Int (named_by index (behind array d)) _ [] h.2 (omega arith) (within_none _ _)))
    value_names (core.Len array) d to m k h p =
        names_to _ _ _ to _ m _ refl
        (operand_names array d (kind.Array h.0) h.2 (λ q pq. value_names array d _ q (kind.Array h.0) h.2 pq)) p
        (operand_within array d (kind.Array h.0) (named_by array d) _ [] h.2 (omega arith) (within_none _ _))
    value_names (core.Call fun args at) d to m k h p =
        names_to _ _ _ to _ m _ refl (operands_name args d h.0.params h.2) p (operands_within args d h.0.params h.2)
    value_names (core.Make number args at) d to m k h p =
        names_to _ _ _ to _ m _ refl (operands_name args d (map kind_of h.0.parts) h.2) p (operands_within args d (map kind_of h.0.parts) h.2)
    value_names (core.New element len fill at) d to m k h p =
        names_two _ _ _ _ to _ m _ _ refl
        (operand_names len d kind.Int h.2 (λ q pq. value_names len d _ q kind.Int h.2 pq))
        (operand_names fill (behind len d) h.0 h.4 (λ q pq. value_names fill (behind len d) _ q h.0 h.4 pq))
        p
        (operand_within len d kind.Int (named_by len d) _ _ h.2 (omega arith)
        (operand_within fill (behind len d) h.0 (named_by fill (behind len d)) _ [] h.4 (omega arith) (within_none _ _)))

    pub operands_name : (es : core.Exprs) (d : ℕ) (ks : List Kind) → HaveKinds set visible es ks
        → Names (length set.kinds) (operands_code (length set.kinds) es d) (named_by_operands es d)
    operands_name core.NoExpr d ks h = names_none _
    operands_name (core.AnExpr e es) d [] h = absurd h
    operands_name (core.AnExpr e es) d (k ∷ ks) h =
        names_and _ _ _ _ _ (operand_names e d k h.0 (λ q pq. value_names e d _ q k h.0 pq)) (operands_name es (behind e d) ks h.1)

    -- behind a left side in a place of this count
    pub links_name : (links : core.Links) (in_temporary : Truth) (left l d to m : ℕ) → IsSomeLink links → AreNumbers set visible links
        → Place (length set.kinds) left l → Place (length set.kinds) to m
        → Names (length set.kinds) (links_code (length set.kinds) links (next_to in_temporary d) left d to) (max l (max m (named_by_links links in_temporary d)))
    links_name core.NoLink b left l d to m some h p q = absurd some
    links_name (core.ALink o e at core.NoLink) b left l d to m some h p q =
        names_as _ _ _ _ (omega arith)
        (names_link _ _ [] _ to left _ m l (put e (next_to b d) (named_by e (next_to b d))) 0 refl
        (operand_names e (next_to b d) kind.Int h.0 (λ x px. value_names e (next_to b d) _ x kind.Int h.0 px)) q p
        (operand_within e (next_to b d) kind.Int (named_by e (next_to b d)) _ [] h.0 (omega arith) (within_none _ _)) (names_none _))
    links_name (core.ALink o e at (core.ALink o2 e2 at2 others)) b left l d to m some h p q =
        names_as _ _ _ _ (reordered (suc d) l (put e (next_to b d) (named_by e (next_to b d))) m (named_by_links (core.ALink o2 e2 at2 others) true d))
        (names_link _ _ _ _ _ left _ (suc d) l (put e (next_to b d) (named_by e (next_to b d))) _ refl
        (operand_names e (next_to b d) kind.Int h.0 (λ x px. value_names e (next_to b d) _ x kind.Int h.0 px)) (temporary_place _ d) p
        (operand_within e (next_to b d) kind.Int (named_by e (next_to b d)) _ [] h.0 (omega arith) (within_none _ _))
        (links_name (core.ALink o2 e2 at2 others) true _ (suc d) d to m tt h.1 (temporary_place _ d) q))

  -- ---- tests

  names_operand : (e : core.Expr) (d : ℕ) (k : Kind) → HasKind set visible e k
      → Names (length set.kinds) (operand_at (length set.kinds) e d) (operand_named e d)
  names_operand e d k h = operand_names e d k h (λ q p. value_names e d _ q k h p)

  -- an operand that is read at once
  names_one_read : (e : core.Expr) (k : Kind) (i : LowInstr) (rest : List ℕ) → HasKind set visible e k → i.places ≡ operand_place (length set.kinds) e 0 ∷ rest
      → Within (length set.kinds) rest (operand_named e 0) → Names (length set.kinds) (operand_at (length set.kinds) e 0 ++ i ∷ []) (operand_named e 0)
  names_one_read e k i rest h same w =
      names_read _ _ i _ (names_operand e 0 k h)
      (subst (λ places. Within (length set.kinds) places (operand_named e 0)) (sym same) (operand_within e 0 k (named_by e 0) _ rest h (omega arith) w))

  other_leaf_names : (aim : Aim) (e : core.Expr) → HasKind set visible e kind.Bool
      → Names (length set.kinds) (operand_at (length set.kinds) e 0 ++ truth_branch aim (operand_place (length set.kinds) e 0) ∷ []) (operand_named e 0)
  other_leaf_names aim e h = names_one_read e kind.Bool _ [] h refl (within_none _ _)

  leaf_names : (aim : Aim) (e : core.Expr) → HasKind set visible e kind.Bool → Names (length set.kinds) (leaf_code (length set.kinds) aim e) (leaf_named e)
  unfolding HasKind named_by
  leaf_names aim (core.Compare r left right) h =
      names_two_read _ _ _ (branch aim r (operand_place (length set.kinds) left 0) (operand_place (length set.kinds) right (behind left 0))) _ _
      (names_operand left 0 kind.Int h.1) (names_operand right (behind left 0) kind.Int h.2)
      (within_order _ (that_is aim.on r) _ _ (put left 0 0) (put right (behind left 0) 0) _ (operand_is left 0 kind.Int h.1) (operand_is right (behind left 0) kind.Int h.2)
      (omega (arith, put_more left 0 (named_by left 0))) (omega (arith, put_more right (behind left 0) (named_by right (behind left 0)))))
  leaf_names aim (core.Int n) h = other_leaf_names aim (core.Int n) h
  leaf_names aim (core.Bool b) h = other_leaf_names aim (core.Bool b) h
  leaf_names aim (core.Var x) h = other_leaf_names aim (core.Var x) h
  leaf_names aim (core.Neg e) h = other_leaf_names aim (core.Neg e) h
  leaf_names aim (core.Chain first rest) h = other_leaf_names aim (core.Chain first rest) h
  leaf_names aim (core.Index array index at) h = other_leaf_names aim (core.Index array index at) h
  leaf_names aim (core.Len array) h = other_leaf_names aim (core.Len array) h
  leaf_names aim (core.Call fun args at) h = other_leaf_names aim (core.Call fun args at) h
  leaf_names aim (core.Make number args at) h = other_leaf_names aim (core.Make number args at) h
  leaf_names aim (core.New element len fill at) h = other_leaf_names aim (core.New element len fill at) h

  -- code, and a jump that may stand behind it
  names_and_jump : (code : List LowInstr) (b : Truth) (to n : ℕ) → Names (length set.kinds) code n → Names (length set.kinds) (code ++ jump_if b to) n
  names_and_jump code b to n h = names_as _ _ _ _ (omega arith) (names_and _ code (jump_if b to) n 0 h (names_jump _ b to))

  mutual
    unfolding test_code test_named IsTest

    pub test_names : (aim : Aim) (t : core.Test) (at : ℕ) → IsTest set visible t → Names (length set.kinds) (test_code (length set.kinds) aim t at) (test_named t)
    test_names aim (core.Leaf e) at is = leaf_names aim e is
    test_names aim (core.All parts) at is =
        names_and_jump _ aim.on _ _ (parts_name (inner_aim aim.on aim (past_parts aim.on aim.on parts at)) aim parts at is.1)
    test_names aim (core.Any parts) at is =
        names_and_jump _ (not aim.on) _ _ (parts_name (inner_aim (not aim.on) aim (past_parts (not aim.on) aim.on parts at)) aim parts at is.1)
    test_names aim (core.Not part) at is = test_names (turned aim) part at is

    pub parts_name : (inner last : Aim) (parts : core.Tests) (at : ℕ) → AreTests set visible parts
        → Names (length set.kinds) (parts_code (length set.kinds) inner last parts at) (tests_named parts)
    parts_name inner last core.NoTest at are = names_none _
    parts_name inner last (core.ATest t core.NoTest) at are = names_and _ _ _ _ _ (test_names last t at are.0) (names_none _)
    parts_name inner last (core.ATest t (core.ATest u ts)) at are =
        names_and _ _ _ _ _ (test_names inner t at are.0) (parts_name inner last (core.ATest u ts) (at + test_size inner.on t) are.1)

-- ---- statements

-- the pieces of an `if`, and of a loop
module _ (vars : ℕ) (T A B : List LowInstr) (b c : Truth) (to over p q r : ℕ) where
  if_names : Names vars T p → Names vars A q → Names vars B r → Names vars (T ++ (A ++ (jump_if b to ++ (B ++ jump_if c over)))) (max p (max q r))
  if_names h k l =
      names_as vars _ _ _ (omega arith)
      (names_and vars T _ p _ h (names_and vars A _ q _ k (names_and vars (jump_if b to) _ 0 _ (names_jump vars b to) (names_and vars B _ r 0 l (names_jump vars c over)))))

loop_names : (vars : ℕ) (T A : List LowInstr) (b : Truth) (to p q : ℕ) (i : LowInstr) → i.places ≡ [] → Names vars T p → Names vars A q
    → Names vars (i ∷ (T ++ (A ++ jump_if b to))) (max p q)
loop_names vars T A b to p q i same h k =
    names_behind_jump vars i _ _ same (names_as vars _ _ _ (omega arith) (names_and vars T _ p _ h (names_and vars A _ q 0 k (names_jump vars b to))))

-- the names of a split are variables
split_within : (kinds : List Kind) (xs : List ℕ) (parts : List CoreTy) (n : ℕ) → AllZip (λ x part. slice_get kinds x ≡ Some (kind_of part)) xs parts
    → Within (length kinds) xs n
split_within kinds [] parts n h = within_none _ n
split_within kinds (x ∷ xs) [] n h = absurd h
split_within kinds (x ∷ xs) (part ∷ parts) n h =
    within_more _ x 0 xs n (variable_place _ x (get_within kinds x (kind_of part) h.0)) (omega arith) (split_within kinds xs parts n h.1)

-- a function's body, of these variables
module _ (frame : Frame) (types : List Packing) (headers : List Header) (result : Kind) where
  abbrev set : Setting
  set = record { types = types; headers = headers; kinds = frame.kinds; result = result }

  return_names : (value : Option core.Expr) (visible : List ℕ) → IsReturn set visible value → Names (length frame.kinds) (return_code (length frame.kinds) value) (return_named value)
  return_names None visible is =
      names_as _ _ _ _ (omega arith)
      (names_to _ (literal (temporary (length frame.kinds) 0) (pos 0) ∷ []) _ (temporary (length frame.kinds) 0) [] 1 1 refl
      (names_as _ _ _ _ (omega arith) (names_to _ [] _ (temporary (length frame.kinds) 0) [] 1 0 refl (names_none _) (temporary_place _ 0) (within_none _ 0)))
      (temporary_place _ 0) (within_none _ 1))
  return_names (Some e) visible is = names_one_read set visible e result _ [] is.1 refl (within_none _ _)

  mutual
    unfolding statement_code statement_named IsStatement named_by

    pub statement_names : (s : core.Stmt) (at : ℕ) (before after : Point) → IsStatement set before s after
        → Names (length frame.kinds) (statement_code frame s at) (statement_named s)
    statement_names (core.Set x e) at before after is =
        names_as _ _ _ _ (omega arith)
        (value_names set before.visible e 0 x 0 is.0 is.1 (variable_place _ x (get_within frame.kinds x is.0 is.3)))
    statement_names (core.Split xs e a) at before after is =
        names_one_read set before.visible e (kind.Named is.0) _ xs is.2 refl (split_within frame.kinds xs is.1.parts _ is.4.kinds)
    statement_names (core.Store array index e a) at before after is =
        names_as _ _ _ _ (omega arith)
        (names_three_read _ _ _ _ _ _ _ _ (names_operand set before.visible array 0 (kind.Array is.0) is.2)
        (names_operand set before.visible index (behind array 0) kind.Int is.3)
        (names_operand set before.visible e (behind index (behind array 0)) is.1 is.5)
        (operand_within set before.visible array 0 (kind.Array is.0) (named_by array 0) _ _ is.2 (omega arith)
        (operand_within set before.visible index (behind array 0) kind.Int (named_by index (behind array 0)) _ _ is.3 (omega arith)
        (operand_within set before.visible e (behind index (behind array 0)) is.1 (named_by e (behind index (behind array 0))) _ [] is.5 (omega arith) (within_none _ _)))))
    statement_names (core.Do call) at before after is = value_names set before.visible call 0 _ 1 is.0 is.2 (temporary_place _ 0)
    statement_names (core.Print e) at before after is = names_one_read set before.visible e kind.Int _ [] is.0 refl (within_none _ _)
    statement_names (core.If test on_true on_false join a) at before after is =
        if_names _ _ _ _ _ _ _ _ _ _ _ (test_names set before.visible (unless (second_at test on_true at)) test at is.2)
        (block_names on_true (first_at test at) before is.0 is.3) (block_names on_false (second_at test on_true at) (behind_block before is.0) is.1 is.4)
    statement_names (core.While test head body a) at before after is =
        loop_names _ _ _ (completes_all body) (suc at) _ _ (jump (suc at)) refl
        (test_names set before.visible (unless (behind_loop test body at)) test (suc at) is.2) (block_names body (first_at test (suc at)) is.0 is.1 is.4)
    statement_names (core.Return value a) at before after is = return_names value before.visible is.0

    pub block_names : (ss : core.Stmts) (at : ℕ) (before after : Point) → AreStatements set before ss after
        → Names (length frame.kinds) (block_code frame ss at) (statements_named ss)
    block_names core.NoStmt at before after is = names_none _
    block_names (core.AStmt s ss) at before after is =
        names_and _ _ _ _ _ (statement_names s at before is.0 is.1) (block_names ss (at + statement_size s) is.0 after is.3)
