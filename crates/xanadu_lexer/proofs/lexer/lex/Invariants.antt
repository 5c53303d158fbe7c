use Rattle.std.proofs.Common.{◌≡◌, ◌+◌, length}
use Rattle.xanadu_lexer.specs.Lexing.{lexed_from}
use Rattle.xanadu_lexer.proofs.PieceSteps.{after}
use Rattle.xanadu_lexer.proofs.lexer.lex.Given as goal

abbrev pub invariant-loop-text : goal.invariant-loop-text
invariant-loop-text l = record {
  same : after l.tokens.items (lexed_from 0 l.at l.text) ≡ lexed_from 0 0 l.fn.bytes;
  place : l.at + length l.text ≡ length l.fn.bytes;
}

abbrev pub decreases-loop-text : goal.decreases-loop-text
decreases-loop-text l = length l.text
