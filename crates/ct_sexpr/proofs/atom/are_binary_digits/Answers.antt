use Rattle.std.proofs.Common.{◌∙◌, sym, arith, rules, tests}
use Rattle.std.proofs.lemmas.Bool.Decides.{nat_tests}
use Rattle.std.proofs.lemmas.Iterator.{YieldsList-from_slice}
use Rattle.std.proofs.lemmas.Iterator.Search.{all_from_yields_List}
use Rattle.ct_sexpr.specs.Atom.{is_binary_digit}
use Rattle.ct_sexpr.proofs.Numbers.{are_digits-some}
use Rattle.ct_sexpr.proofs.atom.are_binary_digits.Goals as goal

pub returns-then-not-is_empty : goal.returns-then-not-is_empty
returns-then-not-is_empty c =
    let text = c.args.text.now in
    record {
      digits = all_from_yields_List is_binary_digit _ _ c.all.result c.all.ensures.ran (YieldsList-from_slice text cc) (λ x b q k. search (rules, tests)) ∙ sym (are_digits-some is_binary_digit text (grind (arith, nat_tests)));
    }
