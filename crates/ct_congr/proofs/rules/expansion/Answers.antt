use Rattle.std.proofs.Common.{◌≡◌, List, sym, subst, ◌∙◌}
use Rattle.std.proofs.lemmas.Option.{IfSome_then, same_Some}
use Rattle.ct_lemmas.proofs.Lists.{slice_get-there}
use Rattle.ct_terms.specs.declared.ids.TermId.{TermId}
use Rattle.ct_terms.specs.declared.term.Core.TheVariants.{Con}
use Rattle.ct_terms.specs.Terms.{Has}
use Rattle.ct_congr.proofs.RuleLemmas.{find_unique}
use Rattle.ct_congr.proofs.rules.expansion.Goals as goal

pub returns-in-Some-clause-found : goal.returns-in-Some-clause-found
returns-in-Some-clause-found c =
    let ctor = slice_get-there c.args.sig.now.ctors c.args.c.0 c.requires.constructor in
    let selected = rw c.in-Some.is at c.in_ok-args.ensures.found in
    IfSome_then c.find.result c.find.ensures.found (λ con has. (ctor.0, c.in-Some.args, ctor.1, has, selected ctor.0 ctor.1))

pub returns-in-Some-clause-unique : goal.returns-in-Some-clause-unique
returns-in-Some-clause-unique c = λ ctor args con declared has all.
    let same : c.in-Some.args ≡ args = same_Some c.in-Some.args args (sym c.in-Some.is ∙ c.in_ok-args.ensures.unique ctor args declared all) in
    let mine : Has c.args.table.now (Con c.args.c c.in-Some.args) con.0 = subst (λ (xs : List TermId). Has c.args.table.now (Con c.args.c xs) con.0) (sym same) has in
    find_unique c.args.table.now (Con c.args.c c.in-Some.args) c.find.result con c.len.ensures.single c.find.ensures.found c.find.ensures.absent mine
