use Rattle.std.proofs.Common.{◌∙◌, sym, arith, rules, tests}
use Rattle.std.specs.Char.{is_ascii_hexdigit}
use Rattle.std.proofs.lemmas.Bool.Decides.{nat_tests}
use Rattle.std.proofs.lemmas.Iterator.{YieldsList-from_slice}
use Rattle.std.proofs.lemmas.Iterator.Search.{all_from_yields_List}
use Rattle.ct_sexpr.proofs.Numbers.{are_digits-some}
use Rattle.ct_sexpr.proofs.atom.are_hexadecimal_digits.Goals as goal

pub returns-then-not-is_empty : goal.returns-then-not-is_empty
returns-then-not-is_empty c =
    let text = c.args.text.now in
    record {
      digits = all_from_yields_List is_ascii_hexdigit _ _ c.all.result c.all.ensures.ran (YieldsList-from_slice text cc) (λ x b q k. search (rules, tests)) ∙ sym (are_digits-some is_ascii_hexdigit text (grind (arith, nat_tests)));
    }
