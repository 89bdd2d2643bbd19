use Rattle.std.proofs.Common.{length, sym, subst, ◌∙◌}
use Rattle.ct_generics.specs.Expression.{Expression}
use Rattle.ct_generics.specs.Lengths.{IsCount}
use Rattle.ct_generics.specs.Text.{text_length}
use Rattle.ct_generics.proofs.TextLemmas.{IsCount-one}
use Rattle.ct_generics.proofs.NodeLemmas.{Stands-param, Stands-head}
use Rattle.ct_generics.proofs.text.node_length.Goals as goal

pub returns-in-Param : goal.returns-in-Param
returns-in-Param c =
    record {
      count = λ hs e all known at stands. subst (λ (x : Expression). IsCount 1 (text_length hs x)) (sym (Stands-param c.args.table.now (length c.args.counts.now) c.in-Param.field-0 e (at ∙ cc) stands)) IsCount-one;
    }

pub returns-in-Head : goal.returns-in-Head
returns-in-Head c =
    record {
      count = λ hs e all known at stands. subst (λ (x : Expression). IsCount c.head_length.result (text_length hs x)) (sym (Stands-head c.args.table.now (length c.args.counts.now) c.in-Head.h e (at ∙ cc) stands)) (c.head_length.ensures.count hs all);
    }
