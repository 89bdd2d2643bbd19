use Rattle.std.proofs.Common.{◌≡◌, ℕ, suc, ◌+◌, ◌*◌, ◌≤◌, length, List, [], ◌∷◌, ◌++◌, reverse, ap, ◌∙◌, sym, subst, arith}
use Rattle.std.proofs.lemmas.List.{length-reverse, nil_from_length}
use Rattle.ct_value_text.specs.declared.tree_text.Item.{Item}
use Rattle.ct_value_text.specs.declared.tree_text.Item.TheVariants.{Node, Close}
use Rattle.ct_value_text.specs.ValueText.{most_plain}
use Rattle.ct_value_text.specs.Walk.{IsBegun, IsWalked}
use Rattle.ct_value_text.proofs.WalkLemmas.{walked-start, walked-close, walked-node, walked-end, walked-great, walked-many, reverse-push}
use Rattle.ct_value_text.proofs.tree_text.tree_text.Goals as goal

pub loop-item-init : goal.loop-item-init
loop-item-init c =
    let d = c.args.sig.now in
    let g = c.args.g.now in
    let out = c.begin.new.out.items in
    let after = reverse c.begin.new.stack.items in
    let from_nothing : IsBegun d g c.args.root [] out [] after =
    subst (λ (old : List ℕ). IsBegun d g c.args.root old out [] after) c.new-out.ensures.items
    (subst (λ (before : List Item). IsBegun d g c.args.root c.new-out.result.items out (reverse before) after) c.new-stack.ensures.items c.in_ok-begin.ensures.begun) in
    walked-start d g c.args.root out after from_nothing

pub loop-item-preserved-in_default-item : goal.loop-item-preserved-in_default-item
loop-item-preserved-in_default-item c =
    let d = c.args.sig.now in
    let g = c.args.g.now in
    let before = c.loop-item.stack.items in
    let left = c.pop.new.self.items in
    let top : reverse before ≡ Close ∷ reverse left = reverse-push left before c.in-Some.item c.in-Some.ensures.items ∙ ap (λ (i : Item). i ∷ reverse left) c.in_default-item.is in
    let walked = subst (λ (items : List Item). IsWalked d g c.args.root c.loop-item.out.items items c.loop-item.count) top c.loop-item.invariant in
    subst (λ (out : List ℕ). IsWalked d g c.args.root out (reverse left) c.loop-item.count) (sym c.in_ok-push.ensures.items) (walked-close d g c.args.root c.loop-item.out.items (reverse left) c.loop-item.count walked)

pub returns-then-count-ge-MOST_PLAIN : goal.returns-then-count-ge-MOST_PLAIN
returns-then-count-ge-MOST_PLAIN c =
    let d = c.args.sig.now in
    let g = c.args.g.now in
    let before = c.loop-item.stack.items in
    let left = c.pop.new.self.items in
    let top : reverse before ≡ Node c.in-Node.n ∷ reverse left = reverse-push left before c.in-Some.item c.in-Some.ensures.items ∙ ap (λ (i : Item). i ∷ reverse left) c.in-Node.is in
    let walked = subst (λ (items : List Item). IsWalked d g c.args.root c.loop-item.out.items items c.loop-item.count) top c.loop-item.invariant in
    record { text = walked-great d g c.args.root c.in-Node.n c.loop-item.out.items (reverse left) c.loop-item.count walked c.if-count-ge-MOST_PLAIN.true }

pub returns-then-len-ge-MOST_ITEMS : goal.returns-then-len-ge-MOST_ITEMS
returns-then-len-ge-MOST_ITEMS c =
    let d = c.args.sig.now in
    let g = c.args.g.now in
    let before = c.loop-item.stack.items in
    let left = c.pop.new.self.items in
    let top : reverse before ≡ Node c.in-Node.n ∷ reverse left = reverse-push left before c.in-Some.item c.in-Some.ensures.items ∙ ap (λ (i : Item). i ∷ reverse left) c.in-Node.is in
    let walked = subst (λ (items : List Item). IsWalked d g c.args.root c.loop-item.out.items items c.loop-item.count) top c.loop-item.invariant in
    let long : length left ≡ c.len.result = omega (arith, c.len.ensures, c.pop.new.self.ok.0) in
    let many : 2 * most_plain ≤ length (reverse left) = omega (arith, length-reverse left, c.if-len-ge-MOST_ITEMS.true) in
    record { text = walked-many d g c.args.root c.in-Node.n c.loop-item.out.items (reverse left) c.loop-item.count walked many }

pub loop-item-preserved : goal.loop-item-preserved
loop-item-preserved c =
    let d = c.args.sig.now in
    let g = c.args.g.now in
    let before = c.loop-item.stack.items in
    let left = c.pop.new.self.items in
    let out = c.loop-item.out.items in
    let new = c.begin-in-Some.new.out.items in
    let after = reverse c.begin-in-Some.new.stack.items in
    let top : reverse before ≡ Node c.in-Node.n ∷ reverse left = reverse-push left before c.in-Some.item c.in-Some.ensures.items ∙ ap (λ (i : Item). i ∷ reverse left) c.in-Node.is in
    let walked = subst (λ (items : List Item). IsWalked d g c.args.root out items c.loop-item.count) top c.loop-item.invariant in
    let begun : IsBegun d g c.in-Node.n (out ++ 32 ∷ []) new (reverse left) after =
    subst (λ (old : List ℕ). IsBegun d g c.in-Node.n old new (reverse left) after) c.in_ok-push-2.ensures.items c.in_ok-begin-2.ensures.begun in
    let next : suc c.loop-item.count ≡ c.loop-item.count + 1 = omega arith in
    subst (λ (k : ℕ). IsWalked d g c.args.root new after k) next (walked-node d g c.args.root c.in-Node.n out new (reverse left) after c.loop-item.count walked c.if-count-ge-MOST_PLAIN.false begun)

pub returns : goal.returns
returns c =
    let d = c.args.sig.now in
    let g = c.args.g.now in
    let before = c.loop-item.stack.items in
    let none_left : before ≡ [] = nil_from_length before (omega (arith, c.in_default.ensures.cases, c.loop-item.stack.ok.0)) in
    let walked : IsWalked d g c.args.root c.loop-item.out.items [] c.loop-item.count =
    subst (λ (items : List Item). IsWalked d g c.args.root c.loop-item.out.items (reverse items) c.loop-item.count) none_left c.loop-item.invariant in
    record { text = walked-end d g c.args.root c.loop-item.out.items c.loop-item.count walked }
