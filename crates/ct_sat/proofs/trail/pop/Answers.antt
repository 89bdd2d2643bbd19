use Rattle.std.proofs.Common.{◌≡◌, ◌∙◌, ◌+◌, ◌-◌, ◌++◌, ◌∷◌, [], ℕ, List, Option, refl, sym, ap, length, arith}
use Rattle.std.proofs.lemmas.Option.{slice_get_within, slice_get_read}
use Rattle.ct_lemmas.proofs.Lists.{slice_get-there}
use Rattle.ct_sat.proofs.TrailLemmas.{AreIndexed-truncate, split_last}
use Rattle.ct_sat.proofs.trail.pop.Goals as goal

pub index_mut-requires : goal.index_mut-requires
index_mut-requires c =
    let at = slice_get_read c.args.literals.now.items (length c.args.literals.now.items) (c.len-count.result - 1) c.index-l.result.now refl (omega (arith, c.args.literals.now.ok.0)) c.index-l.ensures in
    let within = slice_get_within c.args.indices.now.items c.index-l.result.now.term.0 _ (c.requires.indexed.indexed (c.len-count.result - 1) c.index-l.result.now at) in
    omega (arith, c.args.indices.now.ok.0)

pub returns-clause-indexed : goal.returns-clause-indexed
returns-clause-indexed c =
    let at = slice_get_read c.args.literals.now.items (length c.args.literals.now.items) (c.len-count.result - 1) c.index-l.result.now refl (omega (arith, c.args.literals.now.ok.0)) c.index-l.ensures in
    rw (c.truncate.ensures.items, c.truncate-2.ensures.items) (AreIndexed-truncate c.args.literals.now.items c.args.reasons.now.items c.args.indices.now.items (c.len-count.result - 1) c.index-l.result.now c.requires.indexed (omega (arith, c.args.literals.now.ok.0)) at)

pub returns-clause-literals : goal.returns-clause-literals
returns-clause-literals c =
    let at = slice_get_read c.args.literals.now.items (length c.args.literals.now.items) (c.len-count.result - 1) c.index-l.result.now refl (omega (arith, c.args.literals.now.ok.0)) c.index-l.ensures in
    (c.index-l.result.now, rw c.truncate.ensures.items (split_last c.args.literals.now.items (c.len-count.result - 1) c.index-l.result.now (omega (arith, c.args.literals.now.ok.0)) at))

pub returns-clause-reasons : goal.returns-clause-reasons
returns-clause-reasons c =
    let long : length c.args.reasons.now.items ≡ c.len-count.result - 1 + 1 = omega (arith, c.args.literals.now.ok.0, c.requires.indexed.one_each) in
    let r = slice_get-there c.args.reasons.now.items (c.len-count.result - 1) (omega arith) in
    (r.0, split_last c.args.reasons.now.items (c.len-count.result - 1) r.0 long r.1 ∙ ap (λ (rs : List (Option ℕ)). rs ++ r.0 ∷ []) (sym c.truncate-2.ensures.items))
