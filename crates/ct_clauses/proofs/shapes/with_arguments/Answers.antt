use Rattle.std.proofs.Common.{◌≡◌, List, [], ◌∷◌, ◌++◌, ◌∙◌, map, take, get_or, sym, ap, subst, All}
use Rattle.std.proofs.lemmas.List.{map_more}
use Rattle.std.proofs.lemmas.List.Elements.{All-push}
use Rattle.ct_lemmas.proofs.Each.{All-one}
use Rattle.ct_terms.specs.declared.ids.TermId.{TermId}
use Rattle.ct_terms.specs.declared.ids.Lit.{Lit}
use Rattle.ct_terms.specs.Literal.{literal_of, IsStripped}
use Rattle.ct_log.specs.Look.{signed}
use Rattle.ct_clauses.proofs.GateLemmas.{signed_stripped}
use Rattle.ct_clauses.proofs.shapes.with_arguments.Goals as goal

pub loop-a-init : goal.loop-a-init
loop-a-init c = record {
  items = c.in_ok-clause.ensures.items;
  literals = subst (All (λ (l : Lit). IsStripped c.args.table.now l.term)) (sym c.in_ok-clause.ensures.items) (All-one (λ (l : Lit). IsStripped c.args.table.now l.term) c.args.first c.requires.stripped);
}

pub loop-a-preserved : goal.loop-a-preserved
loop-a-preserved c =
    let table = c.args.table.now in
    let args = c.args.args.now in
    let i = c.loop-a.a-index in
    let f : TermId → Lit = λ a. signed c.args.keep (literal_of table a) in
    let a : TermId = get_or args i (record { 0 = 0 }) in
    let pushed : c.push.new.self.items ≡ c.loop-a.clause.items ++ c.signed.result ∷ [] = c.in_ok-push.ensures.items in
    let literal : c.signed.result ≡ f a = c.signed.ensures.value ∙ ap (signed c.args.keep) c.lit.ensures.value in
    record {
      items =
          pushed
          ∙ ap (λ (ls : List Lit). ls ++ c.signed.result ∷ []) c.loop-a.invariant.items
          ∙ ap (λ (l : Lit). c.args.first ∷ (map f (take i args) ++ l ∷ [])) literal
          ∙ ap (λ (ls : List Lit). c.args.first ∷ ls) (sym (map_more f args i (record { 0 = 0 }) c.loop-a-test.true));
      literals = subst (All (λ (l : Lit). IsStripped table l.term)) (sym pushed)
          (All-push (λ (l : Lit). IsStripped table l.term) c.loop-a.clause.items c.signed.result c.loop-a.invariant.literals
          (signed_stripped table c.args.keep c.lit.result c.signed.result c.signed.ensures.value c.lit.ensures.stripped));
    }
