use Rattle.std.proofs.Common.{◌≡◌, length, sym, ap, subst, arith}
use Rattle.ct_card.specs.Extended.{IsLater}
use Rattle.ct_card.specs.Sizes.{Table, AreSizes}
use Rattle.ct_card.proofs.GrownLemmas.{none_added}
use Rattle.ct_card.proofs.sizes.Sizes.extend.Goals as goal

pub returns-then-len-sorts-clause-sizes : goal.returns-then-len-sorts-clause-sizes
returns-then-len-sorts-clause-sizes c =
    let d = c.args.sig.now in
    let (e, consistent, extends, before) = c.requires.earlier in
    let later : IsLater d e = record { extends = extends; own_ctors = c.structure.ensures.own_constructors e consistent; own_sels = c.structure.ensures.own_selectors e consistent; fields = consistent.fields } in
    let s = c.structure.ensures in
    let k = c.sorts.ensures.consistent in
    let same : length e.sorts ≡ length d.sorts = omega (arith, c.if-len-sorts.true, c.len.ensures, c.self.inside.sizes.ok.0, ap (λ (t : Table). length t.sizes) c.self.view_is, before.long, c.sorts-2.ensures.count) in
    none_added d e later k (s.own_constructors d k) (s.own_selectors d k) (s.of_their_sorts d k) (s.of_their_constructors d k) c.args.self.now before same

pub grown-requires : goal.grown-requires
grown-requires c =
    let d = c.args.sig.now in
    let (e, consistent, extends, before) = c.requires.earlier in
    let later : IsLater d e = record { extends = extends; own_ctors = c.structure.ensures.own_constructors e consistent; own_sels = c.structure.ensures.own_selectors e consistent; fields = consistent.fields } in
    record { earlier = (e, later, subst (λ (t : Table). AreSizes e t) (sym c.in_ok-copy.ensures.value) before) }

pub returns : goal.returns
returns c = record { sizes = subst (λ (t : Table). AreSizes c.args.sig.now t) (sym c.drop.view_is) c.in_ok-sizes.ensures.sizes; unchanged = tt }
