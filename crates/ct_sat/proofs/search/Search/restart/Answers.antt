use Rattle.std.proofs.Common.{◌≡◌, ◌∙◌, ◌<◌, ℕ, ap, subst, sym, length, arith, refl, true≢false}
use Rattle.std.proofs.lemmas.Option.{slice_get_within, slice_get_read}
use Rattle.ct_lemmas.proofs.Lists.{slice_get-there}
use Rattle.ct_sat.specs.Assigned.{Assigned}
use Rattle.ct_sat.specs.Watching.{IsGoneBack}
use Rattle.ct_sat.proofs.SearchLemmas.{IsSearch-cut}
use Rattle.ct_sat.proofs.WatchingLemmas.{watching-cut, length-taken}
use Rattle.ct_sat.proofs.CursorLemmas.{cursor-cut}
use Rattle.ct_sat.proofs.search.Search.restart.Goals as goal

pub invariant_of-self : goal.invariant_of-self
invariant_of-self c =
    let some : 0 < length c.self.inside.trail.decided = rw (← c.decided.ensures.value) (omega arith) in
    let next = slice_get-there c.self.inside.trail.decided 0 some in
    let cut = c.cut_to.ensures.after next.0 next.1 in
    let whole = c.decided.ensures.whole in
    let index_within = slice_get_within c.self.inside.trail.literals next.0.index next.0.literal (whole.decisions.stand 0 next.0 next.1) in
    let index : c.len.result ≡ next.0.index = c.len.ensures.count ∙ ap (λ (a : Assigned). length a.literals) cut ∙ length-taken next.0.index c.self.inside.trail.literals (omega arith) in
    let long = c.self.invariant.1.saved_are.long in
    let saved = slice_get-there c.self.inside.saved.items 0 (omega arith) in
    let back = subst (λ (n : ℕ). IsGoneBack c.self.inside.progress saved.0 n c.go_back.new.progress) index (c.go_back.ensures.back saved.0 saved.1) in
    rw (cut, c.go_back.ensures.saved, c.go_back.ensures.capacity) (
      IsSearch-cut c.self.inside.variables.items c.self.inside.clauses.items c.self.inside.trail c.self.inside.count c.self.inside.budget 0 next.0 c.self.invariant.0,
      watching-cut c.self.inside.clauses.items c.self.inside.trail c.self.inside.watches.of_clauses.items c.self.inside.watches.lists.items c.self.inside.short.items c.self.inside.saved.items c.self.inside.progress c.go_back.new.progress 0 next.0 saved.0 next.1 saved.1 (omega arith) whole.decisions.in_order back c.self.invariant.1,
      c.self.invariant.2,
      λ e. absurd (true≢false (sym e)),
      cursor-cut c.self.inside.variables.items c.self.inside.trail c.self.inside.saved.items c.self.inside.cursor 0 next.0 c.index.result.now next.1 (slice_get_read c.self.inside.saved.items (length c.self.inside.saved.items) 0 c.index.result.now refl (omega arith) c.index.ensures) whole.decisions.in_order c.self.invariant.4,
    )

pub returns : goal.returns
returns c =
    let some : 0 < length c.self.inside.trail.decided = rw (← c.decided.ensures.value) (omega arith) in
    let next = slice_get-there c.self.inside.trail.decided 0 some in
    let cut = c.cut_to.ensures.after next.0 next.1 in
    record { restarted = rw (← c.self.view_is) (record { first = next.0; stands = next.1; after = rw cut refl }) }
