use Rattle.std.proofs.Common.{◌≡◌, ◌-◌, ◌≤◌, List, ℕ, length, take, drop, vec_len, ap, sym, ◌∙◌, subst}
use Rattle.ct_input.specs.Held.{Held}
use Rattle.ct_input.proofs.SourceLemmas.{held, cut_back}
use Rattle.ct_input.proofs.held.HeldBytes.take_back.Goals as goal

pub returns : goal.returns
returns c =
    let i = c.self.inside in
    let xs = i.bytes.items in
    let count : vec_len i.bytes ≡ length xs = i.bytes.ok.0 in
    let kept : c.truncate.new.self.items ≡ take (length xs - c.args.count) xs = c.truncate.ensures.items ∙ ap (λ n. take (n - c.args.count) xs) (c.len.ensures ∙ count) in
    let few : c.args.count ≤ length (drop i.end xs) = subst (λ (h : Held). c.args.count ≤ length h.rest) (sym c.self.view_is) c.requires.within in
    let cut = cut_back i.start i.end c.args.count xs c.self.invariant.0 c.self.invariant.1 few in
    record {
      left =
          ap (λ (ys : List ℕ). held (take (i.end - i.start) (drop i.start ys)) (drop i.end ys)) kept
          ∙ subst
          (λ (h : Held). held (take (i.end - i.start) (drop i.start (take (length xs - c.args.count) xs))) (drop i.end (take (length xs - c.args.count) xs)) ≡ held h.command (take (length h.rest - c.args.count) h.rest))
          c.self.view_is cut;
    }
