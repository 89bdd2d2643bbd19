use Rattle.std.proofs.Common.{List, [], ℕ, sym, subst}
use Rattle.ct_sexpr.specs.Reading.{BeginsCommand}
use Rattle.ct_log_text.specs.Written.{expression_of_record}
use Rattle.ct_log_text.proofs.text.derivation_text.Goals as goal

pub returns-clause-reads_back : goal.returns-clause-reads_back
returns-clause-reads_back c = λ can.
    let d = c.args.sig.now in
    let rec = c.args.rec.now in
    let consistent = c.sorts.ensures.consistent in
    let e = expression_of_record d c.args.number rec in
    record {
      expression = e;
      whole = subst (λ (bytes : List ℕ). BeginsCommand bytes e []) (sym c.in_ok-text.ensures.text) (c.text_is_read.ensures.derivation_is_read d c.args.number rec consistent can);
      reads = c.reads_back.ensures.same_record d c.args.number rec consistent can;
      number = c.reads_back.ensures.same_number d c.args.number rec can;
    }
