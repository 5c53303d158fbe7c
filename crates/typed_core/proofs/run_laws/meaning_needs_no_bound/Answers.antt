use Rattle.typed_core.proofs.FreeBounds.{call_free, behind_free, branch_free, turn_free, run_free}
use Rattle.typed_core.proofs.run_laws.meaning_needs_no_bound.Goals as goal

pub returns-clause-calls : goal.returns-clause-calls
returns-clause-calls g c = λ recorder funs depth live fun values st. call_free recorder funs depth live fun values st

pub returns-clause-blocks : goal.returns-clause-blocks
returns-clause-blocks g c = λ recorder funs depth live fun place number s ss env st. behind_free recorder funs depth live fun place number s ss env st

pub returns-clause-branches : goal.returns-clause-branches
returns-clause-branches g c = λ recorder funs depth live fun place test on_true on_false join at env st.
    branch_free recorder funs depth live fun place test on_true on_false join at env st

pub returns-clause-turns : goal.returns-clause-turns
returns-clause-turns g c = λ recorder funs depth live fun place test head inner at env st. turn_free recorder funs depth live fun place test head inner at env st

pub returns-clause-runs : goal.returns-clause-runs
returns-clause-runs g c = λ recorder log bound program args heap depth fuel low. run_free _ recorder log bound program args heap depth fuel low
