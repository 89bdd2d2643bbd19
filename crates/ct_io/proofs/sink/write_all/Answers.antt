use Rattle.std.proofs.Common.{rules, ◌<◌, length, ◌++◌, take, ◌∙◌, arith}
use Rattle.std.proofs.lemmas.List.{take_rest}
use Rattle.ct_io.proofs.Prefixes.{written_part, written_more}
use Rattle.ct_io.proofs.sink.write_all.Goals as goal

pub returns-in_err-n-clause-refused : goal.returns-in_err-n-clause-refused
returns-in_err-n-clause-refused g c =
    let some : 0 < length c.loop-rest.rest.now = search (rules, arith) in
    let part = written_part c.loop-rest.invariant.written.1 some in search (rules, part)

pub loop-rest-preserved : goal.loop-rest-preserved
loop-rest-preserved g c = record {
  written = (c.loop-rest.invariant.written.0 ++ take c.in_ok-n.n c.loop-rest.rest.now, rw (take_rest c.loop-rest.rest.now c.in_ok-n.n) (written_more c.in_ok-n.n _ c.loop-rest.invariant.written.1 c.in_ok-n.ensures.taken));
  same = c.in_ok-n.ensures.cause.uncounted ∙ c.loop-rest.invariant.same;
}
