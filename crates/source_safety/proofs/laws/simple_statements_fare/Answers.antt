use Rattle.source_safety.proofs.CellsPut.{store_fares}
use Rattle.source_safety.proofs.ReturnsFare.{return_fares}
use Rattle.source_safety.proofs.SimpleStatements.{set_fares, do_fares, print_fares}
use Rattle.source_safety.proofs.SplitsFare.{split_fares}
use Rattle.source_safety.proofs.laws.simple_statements_fare.Goals as goal

pub returns-clause-assignments : goal.returns-clause-assignments
returns-clause-assignments g c = λ site recorder call fun bound place env st more assignment run x e setting calls is goals stands within.
    set_fares site setting recorder call calls fun bound place env st more assignment run stands goals x e within is

pub returns-clause-calls : goal.returns-clause-calls
returns-clause-calls g c = λ site recorder call fun bound place env st more assignment run e setting calls is goals stands.
    do_fares site setting recorder call calls fun bound place env st more assignment run stands goals e is

pub returns-clause-prints : goal.returns-clause-prints
returns-clause-prints g c = λ site recorder call fun bound place env st more assignment run e setting calls is goals stands.
    print_fares site setting recorder call calls fun bound place env st more assignment run stands goals e is

pub returns-clause-gives : goal.returns-clause-gives
returns-clause-gives g c = λ site recorder call fun bound place env st more assignment run e at setting calls is goals stands.
    return_fares site setting recorder call calls fun bound place env st more assignment run stands goals e at is

pub returns-clause-stores : goal.returns-clause-stores
returns-clause-stores g c = λ site recorder call fun bound place env st more assignment run array index e at setting calls is goals stands.
    store_fares site setting recorder call calls fun bound place env st more assignment run stands goals array index e at is

pub returns-clause-splits : goal.returns-clause-splits
returns-clause-splits g c = λ site recorder call fun bound place env st more assignment run xs e at setting calls is goals stands within.
    split_fares site setting recorder call calls fun bound place env st more assignment run stands goals xs e at within is
