use Rattle.std.proofs.Common.{◌-◌, List, All, Result, Ok, Err, OnOk, subst, sym, arith}
use Rattle.ct_log.specs.declared.line.Line.{Line}
use Rattle.ct_kept.specs.Lemmas.{IsAcceptedLemma, theory_lemmas}
use Rattle.ct_kept.specs.declared.error.KeptError.{KeptError}
use Rattle.ct_kept.specs.Kept.{most_lemmas}
use Rattle.ct_kept.specs.Taken.{TakesFirst}
use Rattle.ct_kept.proofs.TakenLemmas.{first_accepted, takes, taken_few}
use Rattle.ct_kept.proofs.taking.take_lines.Goals as goal

-- what follows from what holds on success
on_ok : {P Q : Type 0} (r : Result Unit KeptError) → (P → Q) → OnOk r P → OnOk r Q
on_ok (Ok u) f h = f h
on_ok (Err e) f h = h

pub take_first-requires-clause-accepted : goal.take_first-requires-clause-accepted
take_first-requires-clause-accepted c =
    subst (λ (ls : List Line). All (IsAcceptedLemma c.args.sig.now c.args.terms.now) (theory_lemmas ls)) (sym c.beginning-lines.ensures.value)
    (first_accepted c.args.sig.now c.args.terms.now c.fitting-count.result c.args.lines.now c.requires.accepted)

-- what was taken, where it was
pub returns-clause-taken : goal.returns-clause-taken
returns-clause-taken c = on_ok c.take_first.result (λ first. takes c.args.terms.now c.args.lines.now c.fitting-count.result (record { table = c.args.table.now; lemmas = c.args.lemmas.now.items }) (record { table = c.take_first.new.table; lemmas = c.take_first.new.lemmas.items }) (most_lemmas - c.len.result)
    (omega (arith, c.len.ensures, c.requires.few)) c.fitting-count.ensures.within c.fitting-count.ensures.few c.fitting-count.ensures.all
    (subst (λ (ls : List Line). TakesFirst (record { table = c.args.table.now; lemmas = c.args.lemmas.now.items }) c.args.terms.now ls (record { table = c.take_first.new.table; lemmas = c.take_first.new.lemmas.items })) c.beginning-lines.ensures.value first)) c.take_first.ensures.taken

pub returns-clause-few : goal.returns-clause-few
returns-clause-few c = on_ok c.take_first.result (λ first. taken_few c.args.terms.now c.args.lines.now c.fitting-count.result (record { table = c.args.table.now; lemmas = c.args.lemmas.now.items }) (record { table = c.take_first.new.table; lemmas = c.take_first.new.lemmas.items }) (most_lemmas - c.len.result)
    (omega (arith, c.len.ensures, c.requires.few)) c.fitting-count.ensures.within c.fitting-count.ensures.few c.fitting-count.ensures.all
    (subst (λ (ls : List Line). TakesFirst (record { table = c.args.table.now; lemmas = c.args.lemmas.now.items }) c.args.terms.now ls (record { table = c.take_first.new.table; lemmas = c.take_first.new.lemmas.items })) c.beginning-lines.ensures.value first)) c.take_first.ensures.taken
