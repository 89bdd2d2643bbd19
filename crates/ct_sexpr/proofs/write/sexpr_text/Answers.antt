use Rattle.std.proofs.Common.{◌≡◌, ◌++◌, [], ◌∙◌, sym, ap, subst}
use Rattle.ct_sexpr.specs.Reading.{BeginsCommand}
use Rattle.ct_sexpr.specs.View.{expression_of}
use Rattle.ct_sexpr.specs.Written.{written, canonical}
use Rattle.ct_sexpr.proofs.ReadBack.{written_is_read}
use Rattle.ct_sexpr.proofs.write.sexpr_text.Goals as goal

pub returns-clause-reads_back : goal.returns-clause-reads_back
returns-clause-reads_back c =
    let e = expression_of c.args.expr.now in
    let text_is : c.new.result ≡ written e = c.new.ensures.value ∙ c.in_ok-write.ensures.ok ∙ ap (λ before. before ++ written e) c.new-out.ensures.items in
    λ bytes rest h. subst (λ text. BeginsCommand text (canonical e) []) (sym text_is) (written_is_read bytes e rest h)
