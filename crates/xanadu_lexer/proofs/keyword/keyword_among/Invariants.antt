use Rattle.std.proofs.Common.{◌≡◌, length}
use Rattle.xanadu_lexer.specs.Lexing.{keyword_among}
use Rattle.xanadu_lexer.proofs.keyword.keyword_among.Given as goal

abbrev pub invariant-loop-keywords : goal.invariant-loop-keywords
invariant-loop-keywords l = keyword_among l.keywords l.word ≡ keyword_among l.initial.keywords l.word

abbrev pub decreases-loop-keywords : goal.decreases-loop-keywords
decreases-loop-keywords l = length l.keywords
