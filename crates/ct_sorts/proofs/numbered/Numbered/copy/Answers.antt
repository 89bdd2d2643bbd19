use Rattle.std.proofs.Common.{◌≡◌, [], ◌∷◌, ◌++◌, take, Some, option_map, slice_get, sym, ◌∙◌, ap, subst}
use Rattle.ct_sorts.specs.Availability.{IsListed}
use Rattle.ct_sorts.specs.Lookup.{names_of}
use Rattle.ct_sorts.proofs.NumberedLemmas.{take_pair, fresh_before}
use Rattle.ct_sorts.proofs.numbered.Numbered.copy.Goals as goal

pub push-requires : goal.push-requires
push-requires g c =
    let i = c.loop-index.index in
    let xs = c.args.self.now in
    let at : option_map (λ e. e.0) (slice_get xs i) ≡ Some c.in_ok-name.name = c.name.ensures.name ∙ ap Some (sym c.in_ok-name.ensures.ok) in
    let before : IsListed (names_of (take i xs)) c.in_ok-name.name → ⊥ = fresh_before xs i c.in_ok-name.name c.len-index-end.ensures.distinct at in
    record { fresh = subst (λ ys. IsListed (names_of ys) c.in_ok-name.name → ⊥) (sym c.loop-index.invariant) before }

pub loop-index-preserved : goal.loop-index-preserved
loop-index-preserved g c =
    let i = c.loop-index.index in
    let xs = c.args.self.now in
    let at_name : option_map (λ e. e.0) (slice_get xs i) ≡ Some c.in_ok-name.name = c.name.ensures.name ∙ ap Some (sym c.in_ok-name.ensures.ok) in
    let at_value : option_map (λ e. e.1) (slice_get xs i) ≡ Some c.in_ok-duplicate.field-0 = c.get.ensures.value ∙ ap Some (sym c.in_ok-duplicate.ensures.equal) in
    c.in_ok-push.ensures.ok ∙ ap (λ ys. ys ++ (c.in_ok-name.name, c.in_ok-duplicate.field-0) ∷ []) c.loop-index.invariant ∙ sym (take_pair xs i c.in_ok-name.name c.in_ok-duplicate.field-0 at_name at_value)
