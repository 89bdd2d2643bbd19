use Rattle.std.proofs.Common.{ℕ, List, Option, None, replicate, unwrap_or, option_map, sym, ap, ◌∙◌}
use Rattle.ct_generics.specs.Declarations.{Head}
use Rattle.ct_sorts.specs.declared.ids.SortId.{SortId}
use Rattle.ct_instances.specs.Pairs.{assigned}
use Rattle.ct_instances.proofs.MatchLemmas.{assigned_none}
use Rattle.ct_instances.proofs.matching.Matching.new.Goals as goal

pub returns-clause-unmatched : goal.returns-clause-unmatched
returns-clause-unmatched c =
    let d = c.args.sig.now in
    let head = c.requires.ctor.1.0 in
    ap (λ (items : List (Option SortId)). assigned d items) c.in_ok-sorts.ensures.none
    ∙ assigned_none d c.gen_params.result
    ∙ ap (λ (n : ℕ). replicate n None) (c.gen_params.ensures.value head.0 head.1 ∙ sym (ap (λ (o : Option Head). unwrap_or (option_map (λ (h : Head). h.params) o) 0) head.1.0))
