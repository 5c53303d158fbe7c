-- Each operation goes well.
use Rattle.std.proofs.Common.{◌≡◌, ◌≤◌, ℤ, List, Ok, sym, subst}
use Rattle.index_sorts.specs.Context.{IndexContext}
use Rattle.index_sorts.specs.Entails.{AllHold}
use Rattle.xan_lin.specs.Linear.{Linear}
use Rattle.state_types.specs.declared.types.Ty.{Ty}
use Rattle.operation_rules.specs.Applied.{Ruled, applied}
use Rattle.operation_rules.specs.Effects.{Stores, effect}
use Rattle.operation_rules.specs.Operations.{Operation, Literal, Truth, Move, Add, Sub, Mul, Div, Mod, Compare, Branch, BranchTruth, Jump, Call, Return, Length, Load, Store, New, Tuple, Untuple, Print}
use Rattle.operation_rules.specs.Rules.{Setting, Rule, rule}
use Rattle.operation_rules.specs.Sound.{IsSetting, Stands, Fares}
use Rattle.operation_rules.specs.Stored.{IsStores, StoreFits}
use Rattle.operation_rules.proofs.BlocksMade.{new_fares, tuple_fares, store_fares}
use Rattle.operation_rules.proofs.BlocksRead.{length_fares, load_fares, split_fares}
use Rattle.operation_rules.proofs.CallsFare.{call_fares, return_fares}
use Rattle.operation_rules.proofs.NumbersFare.{literal_fares, truth_fares, move_fares, print_fares, add_fares, sub_fares, mul_fares, div_fares, mod_fares, compare_fares}
use Rattle.operation_rules.proofs.RuleFacts.{parts_of}
use Rattle.operation_rules.proofs.SidesTaken.{branch_fares, branch_truth_fares, jump_fares}
use Rattle.operation_rules.proofs.WordsRead.{Acts}

module _ {S : Type 0} (stores : Stores S) (st : Setting) (store : S) (assignment : List ℤ) (ctx : IndexContext) where
  by_operation : (op : Operation) (types : List Ty) (words : List ℤ) (r : Rule) (ruled : Ruled) → Acts stores st store assignment ctx types words r ruled
      → rule st op types ctx.vars ≡ Ok r → Fares stores st op types store assignment ctx ruled (effect stores op words store)
  by_operation (Literal n) types words r ruled acts e = literal_fares stores st store assignment ctx n types words r ruled acts e
  by_operation (Truth b) types words r ruled acts e = truth_fares stores st store assignment ctx b types words r ruled acts e
  by_operation Move types words r ruled acts e = move_fares stores st store assignment ctx types words r ruled acts e
  by_operation Add types words r ruled acts e = add_fares stores st store assignment ctx types words r ruled acts e
  by_operation Sub types words r ruled acts e = sub_fares stores st store assignment ctx types words r ruled acts e
  by_operation Mul types words r ruled acts e = mul_fares stores st store assignment ctx types words r ruled acts e
  by_operation Div types words r ruled acts e = div_fares stores st store assignment ctx types words r ruled acts e
  by_operation Mod types words r ruled acts e = mod_fares stores st store assignment ctx types words r ruled acts e
  by_operation (Compare c) types words r ruled acts e = compare_fares stores st store assignment ctx c types words r ruled acts e
  by_operation (Branch c) types words r ruled acts e = branch_fares stores st store assignment ctx c types words r ruled acts e
  by_operation (BranchTruth b) types words r ruled acts e = branch_truth_fares stores st store assignment ctx b types words r ruled acts e
  by_operation Jump types words r ruled acts e = jump_fares stores st store assignment ctx types words r ruled acts e
  by_operation (Call fun) types words r ruled acts e = call_fares stores st store assignment ctx fun types words r ruled acts e
  by_operation Return types words r ruled acts e = return_fares stores st store assignment ctx types words r ruled acts e
  by_operation Length types words r ruled acts e = length_fares stores st store assignment ctx types words r ruled acts e
  by_operation Load types words r ruled acts e = load_fares stores st store assignment ctx types words r ruled acts e
  by_operation Store types words r ruled acts e = store_fares stores st store assignment ctx types words r ruled acts e
  by_operation (New cells) types words r ruled acts e = new_fares stores st store assignment ctx cells types words r ruled acts e
  by_operation (Tuple number) types words r ruled acts e = tuple_fares stores st store assignment ctx number types words r ruled acts e
  by_operation (Untuple number count) types words r ruled acts e = split_fares stores st store assignment ctx number count types words r ruled acts e
  by_operation Print types words r ruled acts e = print_fares stores st store assignment ctx types words r ruled acts e

pub operation_fares : {S : Type 0} (stores : Stores S) (st : Setting) (op : Operation) (types : List Ty) (ctx : IndexContext) (r : Rule) (ruled : Ruled)
    (assignment words : List ℤ) (store : S) → IsStores stores → IsSetting st → st.own.vars ≤ ctx.vars
    → rule st op types ctx.vars ≡ Ok r → applied r ctx ≡ Ok ruled → Stands (stores.headers store) assignment ctx words types
    → StoreFits stores st.table store → AllHold assignment ruled.demands
    → Fares stores st op types store assignment ctx ruled (effect stores op words store)
operation_fares stores st op types ctx r ruled assignment words store laws setting own is does stands fits demands =
    by_operation stores st store assignment ctx op types words r ruled (record {
      laws = laws;
      setting = setting;
      own = own;
      does = does;
      stands = stands;
      fits = fits;
      demands = subst (λ (ds : List Linear). AllHold assignment ds) (sym (parts_of r ctx ruled does).demands) demands;
    }) is
