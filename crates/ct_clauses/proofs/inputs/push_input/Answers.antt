use Rattle.std.proofs.Common.{◌≡◌, [], ◌∷◌, All, subst, sym}
use Rattle.ct_lemmas.proofs.Each.{All-one}
use Rattle.ct_terms.specs.declared.ids.Lit.{Lit}
use Rattle.ct_terms.specs.Literal.{literal_of, IsStripped}
use Rattle.ct_clauses.proofs.inputs.push_input.Goals as goal

pub returns-clause-grown : goal.returns-clause-grown
returns-clause-grown c = λ d asserts inside.
    let table = c.args.table.now in
    let is : c.in_ok-clause.clause.items ≡ c.lit.result ∷ [] = c.in_ok-clause.ensures.items in
    let of : c.in_ok-clause.clause.items ≡ literal_of table c.args.t ∷ [] = cc (is, c.lit.ensures.value) in
    c.in_ok-push_line.ensures.grown d table asserts (record {
      literals = subst (All (λ (l : Lit). IsStripped table l.term)) (sym is) (All-one (λ (l : Lit). IsStripped table l.term) c.lit.result c.lit.ensures.stripped);
      justified = (inside, of);
    })
