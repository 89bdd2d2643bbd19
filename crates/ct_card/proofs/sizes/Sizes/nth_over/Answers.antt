use Rattle.std.proofs.Common.{ℕ, List, Option, sym, ◌∙◌, ap, subst}
use Rattle.ct_card.specs.declared.made.Made.{Made}
use Rattle.ct_card.specs.Built.{HaveTheirSorts}
use Rattle.ct_card.specs.Made.{HaveMadeSorts, Prepared, IsPrepared}
use Rattle.ct_card.specs.Sizes.{Table}
use Rattle.ct_card.proofs.MadeLemmas.{nth_of_table, prepared_more}
use Rattle.ct_card.proofs.PathLemmas.{Agrees}
use Rattle.ct_card.proofs.sizes.Sizes.nth_over.Goals as goal

pub append_nth-requires-clause-sorted : goal.append_nth-requires-clause-sorted
append_nth-requires-clause-sorted c =
    let d = c.args.sig.now in
    let g = c.args.g.now in
    let base = ap (λ (p : Prepared). p.base) c.prepared.view_is in
    let ranks = c.as_slice-2.ensures.value ∙ ap (λ (t : Table). t.ranks) c.self.view_is in
    subst (λ (b : ℕ). HaveTheirSorts d c.as_slice-2.result.now b g) (sym base)
    (subst (λ (l : List ℕ). HaveTheirSorts d l c.args.prepared.now.base g) (sym ranks) c.requires.prepared.defaults.sorted)

pub append_nth-requires-clause-made : goal.append_nth-requires-clause-made
append_nth-requires-clause-made c =
    let made = c.as_slice-4.ensures.value ∙ ap (λ (p : Prepared). p.made) c.prepared.view_is in
    subst (λ (l : List (Option Made)). HaveMadeSorts c.args.sig.now c.args.g.now l) (sym made) c.requires.prepared.sorted

pub returns-clause-nth : goal.returns-clause-nth
returns-clause-nth c =
    let p = c.prepared.view_is in
    let t = c.self.view_is in
    nth_of_table c.args.sig.now c.args.self.now c.args.g.now c.append_nth.new.g c.args.prepared.now c.args.s.0 c.args.n c.in_ok-k.k c.as_slice.result.now c.as_slice-2.result.now c.as_slice-3.result.now c.as_slice-4.result.now c.prepared.inside.base c.prepared.inside.second
    (c.as_slice.ensures.value ∙ ap (λ (x : Table). x.several) t) (c.as_slice-2.ensures.value ∙ ap (λ (x : Table). x.ranks) t) (c.as_slice-3.ensures.value ∙ ap (λ (x : Table). x.layers) t)
    (c.as_slice-4.ensures.value ∙ ap (λ (x : Prepared). x.made) p) (ap (λ (x : Prepared). x.base) p) (ap (λ (x : Prepared). x.second) p)
    c.requires.sizes.departures c.requires.prepared c.in_ok-k.ensures.nth

pub returns-clause-prepared : goal.returns-clause-prepared
returns-clause-prepared c =
    let d = c.args.sig.now in
    let table = c.args.self.now in
    let g = c.args.g.now in
    let longer = c.append_nth.new.g in
    let p = c.prepared.view_is in
    let t = c.self.view_is in
    let laws : Agrees = record { always = c.agreement.ensures.always; turned = c.agreement.ensures.turned; grown = c.agreement.ensures.always_grown } in
    let nth = nth_of_table d table g longer c.args.prepared.now c.args.s.0 c.args.n c.in_ok-k.k c.as_slice.result.now c.as_slice-2.result.now c.as_slice-3.result.now c.as_slice-4.result.now c.prepared.inside.base c.prepared.inside.second
    (c.as_slice.ensures.value ∙ ap (λ (x : Table). x.several) t) (c.as_slice-2.ensures.value ∙ ap (λ (x : Table). x.ranks) t) (c.as_slice-3.ensures.value ∙ ap (λ (x : Table). x.layers) t)
    (c.as_slice-4.ensures.value ∙ ap (λ (x : Prepared). x.made) p) (ap (λ (x : Prepared). x.base) p) (ap (λ (x : Prepared). x.second) p)
    c.requires.sizes.departures c.requires.prepared c.in_ok-k.ensures.nth in
    prepared_more laws d table g longer (record { base = c.prepared.inside.base; second = c.prepared.inside.second; made = c.prepared.inside.made.items }) c.args.s.0 c.args.n c.in_ok-k.k c.store_made.new.made.items c.len.ensures.closed c.in_ok-k.ensures.grown c.in_ok-k.ensures.sorted nth
    c.store_made.ensures.stored
    (subst (λ (x : Prepared). IsPrepared d table g x) (sym p) c.requires.prepared)
