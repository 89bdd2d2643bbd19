use Rattle.std.proofs.Common.{◌∙◌, sym, arith, rules, tests}
use Rattle.std.proofs.lemmas.Iterator.{YieldsList-from_slice}
use Rattle.std.proofs.lemmas.Iterator.Search.{all_from_yields_List}
use Rattle.ct_sexpr.specs.Atom.{is_word_byte}
use Rattle.ct_sexpr.proofs.Writing.{forms_symbol-some}
use Rattle.ct_sexpr.proofs.reserved.forms_symbol.Goals as goal

pub returns-then-not-is_ascii_digit : goal.returns-then-not-is_ascii_digit
returns-then-not-is_ascii_digit c =
    let name = c.args.name.now in
    record {
      forms = all_from_yields_List is_word_byte _ _ c.all.result c.all.ensures.ran (YieldsList-from_slice name cc) (λ x b q k. search (rules, tests)) ∙ sym (forms_symbol-some name (omega arith) (sym c.is_ascii_digit.ensures.value ∙ c.if-not-is_ascii_digit.true));
    }
