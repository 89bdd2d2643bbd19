use Rattle.std.proofs.Common.{◌+◌, ◌++◌, length, drop, sym, subst, arith}
use Rattle.std.proofs.lemmas.List.{drop_more, drop_all}
use Rattle.ct_sexpr.specs.Scanning.{Reached, Refutes}
use Rattle.ct_sexpr.proofs.scan.scan_bytes.Goals as goal

pub loop-index-preserved : goal.loop-index-preserved
loop-index-preserved c =
    let xs = c.args.bytes.now in
    let i = c.loop-index.index in
    let d = drop_more xs i 0 c.loop-index-test.true in
    let step = rw c.in-Ok-Going.field-0-is at c.in-Ok-Going.ensures.steps in (
      omega (arith, c.in-Ok-Going.ensures.lines),
      λ whole more r. step whole (drop (i + 1) xs ++ more) (subst (λ l. Reached c.loop-index.scanner whole (l ++ more)) d (c.loop-index.invariant.1 whole more r)),
    )

pub returns-in-Ok-Command-clause-scans : goal.returns-in-Ok-Command-clause-scans
returns-in-Ok-Command-clause-scans c =
    let xs = c.args.bytes.now in
    let i = c.loop-index.index in
    let d = drop_more xs i 0 c.loop-index-test.true in
    let step = rw c.in-Ok-Command.field-0-is at c.in-Ok-Command.ensures.steps in
    λ whole more r. step whole (drop (i + 1) xs ++ more) (subst (λ l. Reached c.loop-index.scanner whole (l ++ more)) d (c.loop-index.invariant.1 whole more r))

pub returns-in-Ok-Wrong-clause-scans : goal.returns-in-Ok-Wrong-clause-scans
returns-in-Ok-Wrong-clause-scans c =
    let xs = c.args.bytes.now in
    let i = c.loop-index.index in
    let d = drop_more xs i 0 c.loop-index-test.true in
    let step = rw c.in-Ok-Wrong.field-0-is at c.in-Ok-Wrong.ensures.steps in
    λ whole more r. subst (λ l. Refutes c.step.new.self c.in-Ok-Wrong.code whole (l ++ more)) (sym d)
    (step whole (drop (i + 1) xs ++ more) (subst (λ l. Reached c.loop-index.scanner whole (l ++ more)) d (c.loop-index.invariant.1 whole more r)))

pub returns-in-Err-clause-scans : goal.returns-in-Err-clause-scans
returns-in-Err-clause-scans c =
    let xs = c.args.bytes.now in
    let i = c.loop-index.index in
    let d = drop_more xs i 0 c.loop-index-test.true in (
      c.in-Err.ensures.steps.0,
      λ whole more r. subst (λ l. Reached c.step.new.self whole (l ++ more)) (sym d)
          (c.in-Err.ensures.steps.1 whole (drop (i + 1) xs ++ more) (subst (λ l. Reached c.loop-index.scanner whole (l ++ more)) d (c.loop-index.invariant.1 whole more r))),
    )

pub returns-clause-scans : goal.returns-clause-scans
returns-clause-scans c =
    let xs = c.args.bytes.now in
    let end = drop_all c.loop-index.index xs c.loop-index-test.false in (
      drop_all (length xs) xs (omega arith),
      λ whole more r. subst (λ l. Reached c.loop-index.scanner whole (l ++ more)) end (c.loop-index.invariant.1 whole more r),
    )
