use Rattle.std.proofs.Common.{◌≡◌, List, take, sym, ◌∙◌, ap, subst, subst₂}
use Rattle.ct_generics.specs.declared.nodes.ExprId.{ExprId}
use Rattle.ct_generics.specs.declared.nodes.Node.{Node}
use Rattle.ct_generics.specs.Denoted.{declared_of, sorts_of}
use Rattle.ct_generics.specs.Nodes.{StandFor, Stands}
use Rattle.ct_generics.specs.SortTable.{AreSorts}
use Rattle.ct_generics.specs.Stored.{AreDeclared}
use Rattle.ct_generics.specs.Synonyms.{first_of}
use Rattle.ct_sorts.specs.Growing.{IsCutTo}
use Rattle.ct_sorts.specs.Lengths.{Lengths}
use Rattle.ct_sorts.proofs.CutLemmas.{AllZip-take}
use Rattle.ct_sorts.proofs.tables.cut_tables.Goals as goal

pub returns-clause-standing : goal.returns-clause-standing
returns-clause-standing c =
    let declared = c.cut_to.ensures.first (declared_of c.args.tables.now.generics) c.requires.standing.declared in
    let table = c.forget_counts.new.self in
    let ids : table.sorts ≡ take c.mark.inside.sorts c.args.tables.now.table.sorts = c.forget_counts.ensures.sorts ∙ c.truncate-4.ensures.first in
    let stand : AreSorts table (take c.mark.inside.sorts (sorts_of c.args.tables.now.table)) =
    subst₂ (λ (nodes : List Node) (xs : List ExprId). StandFor nodes xs (take c.mark.inside.sorts (sorts_of c.args.tables.now.table))) (sym c.forget_counts.ensures.expressions) (sym ids)
    (AllZip-take (λ id e. Stands c.args.tables.now.table.expressions id.0 e) c.mark.inside.sorts c.args.tables.now.table.sorts (sorts_of c.args.tables.now.table) c.requires.standing.stand) in
    record {
      declared = subst (AreDeclared c.cut_to.new.self) (sym (c.denotations.ensures.declared c.cut_to.new.self _ declared)) declared;
      stand = subst (AreSorts table) (sym (c.denotations.ensures.sorts table _ stand)) stand;
    }

pub returns-clause-counted : goal.returns-clause-counted
returns-clause-counted c = c.forget_counts.ensures.counted c.cut_to.new.self

pub returns-clause-first : goal.returns-clause-first
returns-clause-first c =
    subst (λ (m : Lengths). IsCutTo m c.args.tables.now (record { generics = c.cut_to.new.self; spellings = c.truncate.new.self; determined = c.truncate-2.new.self; symbols = c.truncate-3.new.self; table = c.forget_counts.new.self; sorts = c.truncate-5.new.self; ctors = c.truncate-6.new.self; sels = c.truncate-7.new.self })) c.mark.view_is
    (record {
      declared = c.denotations.ensures.declared c.cut_to.new.self _ (c.cut_to.ensures.first (declared_of c.args.tables.now.generics) c.requires.standing.declared);
      spellings = c.truncate.ensures.first;
      determined = c.truncate-2.ensures.first;
      symbols = c.truncate-3.ensures.first;
      table = c.forget_counts.ensures.sorts ∙ c.truncate-4.ensures.first;
      expressions = c.forget_counts.ensures.expressions;
      sorts = c.truncate-5.ensures.first;
      ctors = c.truncate-6.ensures.first;
      sels = c.truncate-7.ensures.first;
    })
