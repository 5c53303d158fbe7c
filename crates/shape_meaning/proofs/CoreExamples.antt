-- Worked sources and their cores: those of which `typed_core` speaks, and two that are written out here.
use Rattle.std.proofs.Common.{refl, ℕ, pos, negsuc, List, [], ◌∷◌, false, Some, None}
use Rattle.std.specs.Prelude.{codes}
use Rattle.xanadu_tree.specs.declared.expr.Op.TheVariants as op
use Rattle.xanadu_tree.specs.declared.expr.Rel.TheVariants as rel
use Rattle.xanadu_tree.specs.declared.types.CoreTy.TheVariants as ty
use Rattle.xanadu_tree.specs.declared.types.Kind.TheVariants as kind
use Rattle.xanadu_tree.specs.declared.types.Packing.{Packing}
use Rattle.xanadu_tree.specs.Small.{int_of, free}
use Rattle.xanadu_tree.specs.Plain.{Program, Fun, NoStmt, AStmt, Set, Split, Store, Do, Print, If, Return, Leaf, Int, Var, Neg, Compare, Index, Len, Call, Make, New, NoExpr, AnExpr}
use Rattle.xanadu_lexer.specs.Lexing.{keyword_of as lex_keyword_of, word as lex_word, number as lex_number, long_symbol as lex_long_symbol, short_symbol as lex_short_symbol, front as lex_front, lexed_from as lex_lexed_from}
use Rattle.xan_read.specs.Symbols.{eat as reader_eat, take as reader_take, repeated_from as reader_repeated_from, until_from as reader_until_from}
use Rattle.xan_read.specs.Combinators.{literal as reader_literal, after as reader_after}
use Rattle.expression_parser.specs.Tables.{keyword as parse_keyword, mark as parse_mark, symbol_among as parse_symbol_among, next_symbol as parse_next_symbol, lower as parse_lower, upper as parse_upper, number as parse_number}
use Rattle.expression_parser.specs.Index.{scaled as parse_scaled, term as parse_term, terms as parse_terms, index as parse_index, between as parse_between, relation as parse_relation, relations as parse_relations, assumed as parse_assumed, sort as parse_sort, binder as parse_binder, binders as parse_binders, quantified as parse_quantified, quantifier as parse_quantifier}
use Rattle.expression_parser.specs.Types.{element as parse_element, length_of as parse_length_of, number_type as parse_number_type, written_type as parse_written_type, types as parse_types, parameter as parse_parameter, listed_parameters as parse_listed_parameters, some_parameters as parse_some_parameters, parameters as parse_parameters, quantified_clause as parse_quantified_clause, clause as parse_clause, clause_behind as parse_clause_behind}
use Rattle.expression_parser.specs.Expressions.{listed as parse_listed, some_arguments as parse_some_arguments, arguments as parse_arguments, named as parse_named, tuple as parse_tuple, closed as parse_closed, length_of as parse_length_of_expressions, new_array as parse_new_array, marked as parse_marked, primary as parse_primary, indices as parse_indices, postfix as parse_postfix, unary as parse_unary, operands as parse_operands, product as parse_product, products as parse_products, sum as parse_sum, compared as parse_compared, comparison as parse_comparison, negation as parse_negation, negations as parse_negations, conjunction as parse_conjunction, conjunctions as parse_conjunctions, disjunction as parse_disjunction, expression as parse_expression}
use Rattle.xanadu_parser.specs.Statements.{names as parse_names, ended as parse_ended, condition as parse_condition, declared as parse_declared, split as parse_split, returned as parse_returned, called as parse_called, assigned as parse_assigned, named as parse_named_statements, simple as parse_simple, otherwise as parse_otherwise, branches as parse_branches, repeated_block as parse_repeated_block, statement as parse_statement, statements as parse_statements, block as parse_block}
use Rattle.xanadu_parser.specs.Declarations.{type_body as parse_type_body, type_declaration as parse_type_declaration, value_type as parse_value_type, result_type as parse_result_type, function_declaration as parse_function_declaration, declaration as parse_declaration, declarations_from as parse_declarations_from, declarations as parse_declarations}
use Rattle.xanadu_lexer.specs.Lexing.{lexed}
use Rattle.xanadu_parser.specs.Parsing.{parsed}
use Rattle.xanadu_tree.specs.Nesting.{nesting, open_at}
use Rattle.type_shapes.specs.Names.{meaning, first, place, added, type_number, tuple_type}
use Rattle.type_shapes.specs.Linears.{coefficient, with_term, with_constant, linear, variable_form, lone, term_in, terms_in, index_in, row_in, relation_in, relations_in}
use Rattle.type_shapes.specs.Quantifiers.{with_variable, bind, opened, index, element_number, length_of, type_in, types_in, unindexed, closed}
use Rattle.type_shapes.specs.Kinds.{kind_at, element_kind, parts_of}
use Rattle.type_shapes.specs.Headers.{type_names, packing_in, packing, packings, parameters_in, given_in, header_in, header, headers, parameter_names, binder_names, quantifier_names, odd_parameter, odd_main, main_number}
use Rattle.expression_shapes.specs.Sites.{declared, new_variable, without, variable, asked, asked_array, asked_tuple, asked_value, function, called as callee_of, made}
use Rattle.expression_shapes.specs.Expressions.{without_or, without_and, expression, expression_test}
use Rattle.scope_shapes.specs.Statements.{clause_variable, clause_variables, clause, clause_or_none, declare, split_names, split, assign, called, printed, return_none, return_value, returned, statement}
use Rattle.scope_shapes.specs.Shape.{entered, inner_in, inner, inners, fun, funs, globals, walked, shape}
use Rattle.typed_core.proofs.Sources as source
use Rattle.typed_core.proofs.Sources.{form, var, assuming, two, main_of, program_of}
use Rattle.shape_meaning.proofs.SourceReading.{HasCore, has_core}

-- the function, which stands at this place of a source
abbrev standing_at : ℕ → Fun → Fun
standing_at at f = record f { at = at }

-- ---- a program with every relation, whose sides are not alike

-- fun main{a: int, b: nat, c: int | a < b, a <= 2*c - 3, b > c, c >= -a, a + b = c}(x: int(a), y: int(b), z: int(c)): {r: int | r <= a + b} int(r) { return x; }
abbrev relations_core : Program
relations_core = program_of (record {
  name = codes "main";
  quant = assuming 3 (
      var 1
      ∷ form ((negsuc 0, 0) ∷ (pos 1, 1) ∷ []) (negsuc 0)
      ∷ form ((negsuc 0, 0) ∷ (pos 2, 2) ∷ []) (negsuc 2)
      ∷ form ((pos 1, 1) ∷ (negsuc 0, 2) ∷ []) (negsuc 0)
      ∷ form ((pos 1, 0) ∷ (pos 1, 2) ∷ []) (pos 0)
      ∷ form ((pos 1, 0) ∷ (pos 1, 1) ∷ (negsuc 0, 2) ∷ []) (pos 0)
      ∷ form ((negsuc 0, 0) ∷ (negsuc 0, 1) ∷ (pos 1, 2) ∷ []) (pos 0)
      ∷ []);
  params = int_of 0 ∷ int_of 1 ∷ int_of 2 ∷ [];
  result_quant = assuming 1 (form ((pos 1, 0) ∷ (pos 1, 1) ∷ (negsuc 0, 3) ∷ []) (pos 0) ∷ []);
  result = int_of 3;
  kinds = kind.Int ∷ kind.Int ∷ kind.Int ∷ [];
  body = AStmt (Return (Some (Var 0)) 147) NoStmt;
  at = 0;
})

-- ---- a program with arrays of cells and of tuples

-- type Cell = int;
abbrev cell_packing : Packing
cell_packing = record { quant = free 1; parts = int_of 0 ∷ []; tuple = false }

-- fun fill{n: nat}(a: Pair[n], v: int): unit { if (0 < len(a)) { a[0] = Pair(v, v + 1); } return; }
abbrev fill : Fun
fill = record {
  name = codes "fill";
  quant = assuming 2 (var 0 ∷ []);
  params = ty.Array 3 (var 0) ∷ int_of 1 ∷ [];
  result_quant = free 0;
  result = ty.Int (form [] (pos 0));
  kinds = kind.Array 3 ∷ kind.Int ∷ [];
  body = AStmt (If (Leaf (Compare rel.Lt (Int (pos 0)) (Len (Var 0))))
      (AStmt (Store (Var 0) (Int (pos 0)) (Make 3 (AnExpr (Var 1) (AnExpr (two op.Add (Var 1) 153 (Int (pos 1))) NoExpr)) 143) 137) NoStmt) NoStmt None 118)
      (AStmt (Return None 161) NoStmt);
  at = 73;
}

-- fun main(x: int): int { var c = new Cell[3](x); var t = new Pair[2](Pair(x, x)); fill(t, c[1] * -2); let (u, v) = t[0]; print u; return v % 3; }
abbrev filling : Fun
filling = main_of (free 1) (int_of 0 ∷ []) (kind.Int ∷ kind.Array 2 ∷ kind.Array 3 ∷ kind.Int ∷ kind.Int ∷ [])
    (AStmt (Set 1 (New 2 (Int (pos 3)) (Var 0) 203))
    (AStmt (Set 2 (New 3 (Int (pos 2)) (Make 3 (AnExpr (Var 0) (AnExpr (Var 0) NoExpr)) 239) 227))
    (AStmt (Do (Call 0 (AnExpr (Var 2) (AnExpr (two op.Mul (Index (Var 1) (Int (pos 1)) 261) 265 (Neg (Int (pos 2)))) NoExpr)) 252))
    (AStmt (Split (3 ∷ 4 ∷ []) (Index (Var 2) (Int (pos 0)) 286) 272)
    (AStmt (Print (Var 3))
    (AStmt (Return (Some (two op.Mod (Var 4) 309 (Int (pos 3)))) 300) NoStmt))))))

abbrev cells_core : Program
cells_core = record { types = cell_packing ∷ source.pair ∷ []; funs = fill ∷ standing_at 171 filling ∷ []; main = 1 }

-- ---- the sources have these cores

abbrev second_fun : Program → Fun
second_fun program = second program.funs
  where
    second : List Fun → Fun
    second (f ∷ g ∷ fs) = g
    second _ = source.nested

abbrev sum_of_cells_source : List ℕ
sum_of_cells_source = codes "fun main{n: nat}(a: int[n]): int {\n  var i = 0;\n  var s = 0;\n  while (i < len(a)) with {k: int | 0 <= k, k <= n} (i: int(k)) {\n    s = s + a[i];\n    i = i + 1;\n  }\n  return s;\n}"

abbrev pairs_source : List ℕ
pairs_source = codes "type Pair = {p: int, q: int | p <= q} (int(p), int(q));\nfun main(x: int): int { let (u, v) = Pair(x, x + 1); return v - u; }"

abbrev inner_clause_source : List ℕ
inner_clause_source = codes "fun main(a: int[]): int { if (len(a) < 3) { while (false) with {n: nat} (a: int[n]) { } } return len(a); }"

abbrev stores_source : List ℕ
stores_source = codes "fun main{n: nat}(a: int[n], i: int): int { a[i] = i; return 0; }"

abbrev calls_source : List ℕ
calls_source = codes "fun f{n: nat}(x: int(n)): {m: int | n <= m} int(m) { return x; } fun main(x: int): int { return f(x); }"

abbrev branch_assigns_source : List ℕ
branch_assigns_source = codes "fun main(x: int): int { var y = 1; if (x < 1) { y = 2; } return 7 / y; }"

abbrev either_source : List ℕ
either_source = codes "fun main(b: bool, x: int): int { if (b || !(0 < x)) { return 1; } return 5 / x; }"

abbrev search_of_cells_source : List ℕ
search_of_cells_source = codes "fun main{n: nat}(x: int, a: int[n]): int {\n  var l = 0;\n  var h = len(a);\n  while (l < h) with {p: int, q: int | 0 <= p, p <= q, q <= n} (l: int(p), h: int(q)) {\n    var m = (l + h) / 2;\n    var y = a[m];\n    if (y == x) { return m; }\n    if (y < x) { l = m + 1; } else { h = m; }\n    join {p: int, q: int | 0 <= p, p <= q, q <= n} (l: int(p), h: int(q))\n  }\n  return -1;\n}"

abbrev relations_source : List ℕ
relations_source = codes "fun main{a: int, b: nat, c: int | a < b, a <= 2*c - 3, b > c, c >= -a, a + b = c}(x: int(a), y: int(b), z: int(c)): {r: int | r <= a + b} int(r) { return x; }"

abbrev cells_source : List ℕ
cells_source = codes "type Cell = int;\ntype Pair = {p: int, q: int | p <= q} (int(p), int(q));\nfun fill{n: nat}(a: Pair[n], v: int): unit { if (0 < len(a)) { a[0] = Pair(v, v + 1); } return; }\nfun main(x: int): int { var c = new Cell[3](x); var t = new Pair[2](Pair(x, x)); fill(t, c[1] * -2); let (u, v) = t[0]; print u; return v % 3; }"

-- the second declaration of these stands at its place

abbrev pairs_core : Program
pairs_core = record source.pairs { funs = standing_at 56 (source.main_fun source.pairs) ∷ [] }

abbrev calls_core : Program
calls_core = record source.calls { funs = source.callee ∷ standing_at 65 (second_fun source.calls) ∷ [] }

pub worked_sources :
    HasCore sum_of_cells_source source.sum_of_cells
    × HasCore pairs_source pairs_core
    × HasCore inner_clause_source source.inner_clause
    × HasCore stores_source source.stores
    × HasCore calls_source calls_core
    × HasCore branch_assigns_source source.branch_assigns
    × HasCore either_source source.either
    × HasCore search_of_cells_source source.search_of_cells
    × HasCore relations_source relations_core
    × HasCore cells_source cells_core
unfolding lex_keyword_of lex_word lex_number lex_long_symbol lex_short_symbol lex_front lex_lexed_from reader_eat reader_take reader_repeated_from reader_until_from reader_literal reader_after parse_keyword parse_mark parse_symbol_among parse_next_symbol parse_lower parse_upper parse_number parse_scaled parse_term parse_terms parse_index parse_between parse_relation parse_relations parse_assumed parse_sort parse_binder parse_binders parse_quantified parse_quantifier parse_element parse_length_of parse_number_type parse_written_type parse_types parse_parameter parse_listed_parameters parse_some_parameters parse_parameters parse_quantified_clause parse_clause parse_clause_behind parse_listed parse_some_arguments parse_arguments parse_named parse_tuple parse_closed parse_length_of_expressions parse_new_array parse_marked parse_primary parse_indices parse_postfix parse_unary parse_operands parse_product parse_products parse_sum parse_compared parse_comparison parse_negation parse_negations parse_conjunction parse_conjunctions parse_disjunction parse_expression parse_names parse_ended parse_condition parse_declared parse_split parse_returned parse_called parse_assigned parse_named_statements parse_simple parse_otherwise parse_branches parse_repeated_block parse_statement parse_statements parse_block parse_type_body parse_type_declaration parse_value_type parse_result_type parse_function_declaration parse_declaration parse_declarations_from parse_declarations lexed parsed nesting open_at meaning first place added type_number tuple_type coefficient with_term with_constant linear variable_form lone term_in terms_in index_in row_in relation_in relations_in with_variable bind opened index element_number length_of type_in types_in unindexed closed kind_at element_kind parts_of type_names packing_in packing packings parameters_in given_in header_in header headers parameter_names binder_names quantifier_names odd_parameter odd_main main_number declared new_variable without variable asked asked_array asked_tuple asked_value function callee_of made without_or without_and expression expression_test clause_variable clause_variables clause clause_or_none declare split_names split assign called printed return_none return_value returned statement entered inner_in inner inners fun funs globals walked shape
worked_sources = (
  has_core sum_of_cells_source source.sum_of_cells refl,
  has_core pairs_source pairs_core refl,
  has_core inner_clause_source source.inner_clause refl,
  has_core stores_source source.stores refl,
  has_core calls_source calls_core refl,
  has_core branch_assigns_source source.branch_assigns refl,
  has_core either_source source.either refl,
  has_core search_of_cells_source source.search_of_cells refl,
  has_core relations_source relations_core refl,
  has_core cells_source cells_core refl,
)
