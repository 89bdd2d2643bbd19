use Rattle.std.proofs.Common.{◌≡◌, ◌<◌, ◌%◌, ◌+◌, ◌∙◌, ◌∷◌, [], ◌++◌, ℕ, List, length, set, slice_get, Some, ap, sym, subst, mod-lt}
use Rattle.std.proofs.lemmas.Option.{slice_get-get_or}
use Rattle.ct_equivalence.specs.declared.chained.Row.{Row}
use Rattle.ct_equivalence.specs.Chains.{AreChained}
use Rattle.ct_equivalence.proofs.ChainLemmas.{AreChained-push}
use Rattle.ct_equivalence.proofs.chained.push_row.Goals as goal

pub returns-clause-chained : goal.returns-clause-chained
returns-clause-chained c =
    let tops = c.args.tops.now.items in
    let rows = c.args.rows.now.items in
    let row : Row = record { digest = c.args.digest; term = c.args.term; before = c.index-before.result.now } in
    let pushed : c.push.new.self.items ≡ rows ++ row ∷ [] = rw c.unwrap.ensures at c.push.ensures.items ∙ ap (λ (rs : List Row). rs ++ row ∷ []) c.in_ok-reserve.ensures.items in
    let long : c.len.result ≡ length tops = c.len.ensures ∙ c.args.tops.now.ok.0 in
    let count : c.len-len.result ≡ length rows = c.len-len.ensures ∙ c.args.rows.now.ok.0 in
    let chain = c.args.digest % c.len.result in
    let within : chain < length tops = subst (λ (n : ℕ). c.args.digest % n < length tops) (sym long) (mod-lt c.args.digest c.requires.chained.some) in
    let at : slice_get tops chain ≡ Some c.index-before.result.now = slice_get-get_or tops chain c.index-before.result.now within ∙ ap Some (sym c.index-before.ensures) in
    let top = subst (λ (n : ℕ). slice_get tops (c.args.digest % n) ≡ Some c.index-before.result.now) long at in
    subst (λ (rs : List Row). AreChained rs (set tops chain (c.len-len.result + 1))) (sym pushed)
    (subst (λ (k : ℕ). AreChained (rows ++ row ∷ []) (set tops chain (k + 1))) (sym count)
    (subst (λ (n : ℕ). AreChained (rows ++ row ∷ []) (set tops (c.args.digest % n) (length rows + 1))) (sym long) (AreChained-push rows tops row c.requires.chained top)))
