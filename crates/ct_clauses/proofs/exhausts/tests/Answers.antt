use Rattle.std.proofs.Common.{◌≡◌, List, [], ◌∷◌, ◌++◌, ◌+◌, take, get_or, sym, subst, All}
use Rattle.std.specs.List.{AllZip}
use Rattle.std.proofs.lemmas.List.{take_more}
use Rattle.std.proofs.lemmas.List.Elements.{All-push}
use Rattle.ct_lemmas.proofs.Pairs.{AllZip-push}
use Rattle.ct_sorts.specs.declared.ids.CtorId.{CtorId}
use Rattle.ct_terms.specs.declared.ids.Lit.{Lit}
use Rattle.ct_terms.specs.Literal.{IsStripped}
use Rattle.ct_log.specs.Gates.{IsTestOf}
use Rattle.ct_clauses.proofs.exhausts.tests.Goals as goal

pub loop-c-preserved : goal.loop-c-preserved
loop-c-preserved c =
    let table = c.args.table.now in
    let ctors = c.args.ctors.now in
    let i = c.loop-c.c-index in
    let k : CtorId = get_or ctors i (record { 0 = 0 }) in
    let more : take (i + 1) ctors ≡ take i ctors ++ k ∷ [] = take_more ctors i (record { 0 = 0 }) c.loop-c-test.true in
    let pushed : c.push.new.self.items ≡ c.loop-c.clause.items ++ c.test.result ∷ [] = c.in_ok-push.ensures.items in
    record {
      tests =
          subst (AllZip (IsTestOf table c.args.t) c.push.new.self.items) (sym more)
          (subst (λ (ls : List Lit). AllZip (IsTestOf table c.args.t) ls (take i ctors ++ k ∷ [])) (sym pushed)
          (AllZip-push (IsTestOf table c.args.t) c.loop-c.clause.items (take i ctors) c.test.result k c.loop-c.invariant.tests c.test.ensures.test));
      literals =
          subst (All (λ (l : Lit). IsStripped table l.term)) (sym pushed)
          (All-push (λ (l : Lit). IsStripped table l.term) c.loop-c.clause.items c.test.result c.loop-c.invariant.literals c.test.ensures.stripped);
    }
