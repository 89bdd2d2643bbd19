-- The steps of a walk that writes a tree.
use Rattle.std.proofs.Common.{◌≡◌, ℕ, suc, ◌+◌, ◌*◌, ◌<◌, ◌≤◌, List, [], ◌∷◌, ◌++◌, length, map, reverse, Some, option_map, slice_get, Result, Ok, Err, OnOk, refl, sym, ap, subst, ◌∙◌, arith, append_assoc, length-append}
use Rattle.std.specs.List.{AllByRecursion}
use Rattle.std.proofs.lemmas.List.{append-nil, map-append, reverse-append}
use Rattle.ct_sorts.specs.declared.ids.CtorId.{CtorId}
use Rattle.ct_sorts.specs.declared.ids.SortId.{SortId}
use Rattle.ct_sorts.specs.Declarations.{Declarations}
use Rattle.ct_sexpr.specs.Expression.{Expression, Expressions, more}
use Rattle.ct_sexpr.specs.Written.{written, written_after}
use Rattle.ct_values.specs.declared.node.NodeId.{NodeId}
use Rattle.ct_values.specs.declared.node.Head.TheVariants.{Con, Elem}
use Rattle.ct_value_text.specs.declared.tree_text.Item.{Item}
use Rattle.ct_value_text.specs.declared.tree_text.Item.TheVariants.{Node, Close}
use Rattle.ct_values.specs.Graph.{Nodes, node_head, node_children}
use Rattle.ct_values.specs.Value.{Value, Values, element, construct, no_values, with_value, subterms, subterms_of_all}
use Rattle.ct_value_text.specs.ValueText.{IsTreeText, IsTooGreat, most_plain, ctor_expression, applied, element_text, expression, expressions}
use Rattle.ct_value_text.specs.Walk.{StandAs, AreWithin, closes, opening, pending, IsBegun, IsWalked}
use Rattle.ct_value_text.proofs.StandLemmas.{StandForAll, stands_constructor, constructor_stands, stands_element, element_stands, subterms_positive}

-- ---- trees on the stack, and a parenthesis after them

split_trees : (d : Declarations) (g : Nodes) (ns : List NodeId) (items : List Item) (rest : List ℕ) (others : ℕ) → StandAs d g (map Node ns ++ Close ∷ items) rest others
    → (vs : Values) × (text : List ℕ) × (count : ℕ) × StandForAll g ns vs × StandAs d g items text count × (rest ≡ written_after (expressions d vs) ++ 41 ∷ text) × (others ≡ length (subterms_of_all vs) + count)
split_trees d g [] items rest others h = (no_values, h.0, others, tt, h.2, h.1, omega arith)
split_trees d g (n ∷ ns) items rest others h =
    let v = h.0 in
    let w = written (expression d v) in
    let later = split_trees d g ns items h.1 h.2 h.6 in
    let vs = later.0 in
    let b = written_after (expressions d vs) in (
      with_value v vs,
      later.1,
      later.2,
      (h.3, later.3),
      later.4,
      h.4 ∙ ap (λ r. 32 ∷ (w ++ r)) later.5 ∙ ap (λ r. 32 ∷ r) (sym (append_assoc w b (41 ∷ later.1))),
      omega (arith, h.5, later.6, length-append (subterms v) (subterms_of_all vs)),
    )

join_trees : (d : Declarations) (g : Nodes) (ns : List NodeId) (items : List Item) (vs : Values) (text : List ℕ) (count : ℕ) → StandForAll g ns vs → StandAs d g items text count
    → StandAs d g (map Node ns ++ Close ∷ items) (written_after (expressions d vs) ++ 41 ∷ text) (length (subterms_of_all vs) + count)
join_trees d g [] items no_values text count all h = (text, refl, subst (λ (k : ℕ). StandAs d g items text k) (omega arith) h)
join_trees d g [] items (with_value v vs) text count all h = absurd all
join_trees d g (n ∷ ns) items no_values text count all h = absurd all
join_trees d g (n ∷ ns) items (with_value v vs) text count all h =
    let w = written (expression d v) in
    let b = written_after (expressions d vs) in (
      v,
      b ++ 41 ∷ text,
      length (subterms_of_all vs) + count,
      all.0,
      ap (λ r. 32 ∷ r) (append_assoc w b (41 ∷ text)),
      omega (arith, length-append (subterms v) (subterms_of_all vs)),
      join_trees d g ns items vs text count all.1 h,
    )

within_trees : (g : Nodes) (ns : List NodeId) (items : List Item) → AllByRecursion (λ n. n.0 < length g) ns → AreWithin g items → AreWithin g (map Node ns ++ Close ∷ items)
within_trees g [] items each h = h
within_trees g (n ∷ ns) items each h = (each.0, within_trees g ns items each.1 h)

closes_trees : (ns : List NodeId) (items : List Item) → closes (map Node ns ++ Close ∷ items) ≡ suc (closes items)
closes_trees [] items = refl
closes_trees (n ∷ ns) items = closes_trees ns items

-- ---- a tree is begun

applied_text : (head first : Expression) (others : Expressions) (old text : List ℕ) → old ++ (written (applied head (more first others)) ++ text) ≡ (old ++ 40 ∷ written head) ++ (written_after (more first others) ++ 41 ∷ text)
applied_text head first others old text =
    let args = written_after (more first others) in
    let h = written head in
    ap (λ w. old ++ 40 ∷ w) (append_assoc (h ++ args) (41 ∷ []) text ∙ append_assoc h args (41 ∷ text))
    ∙ sym (append_assoc old (40 ∷ h) (args ++ 41 ∷ text))

begun_element : (d : Declarations) (g : Nodes) (n : NodeId) (s : SortId) (k : ℕ) (old : List ℕ) (before : List Item) → option_map node_head (slice_get g n.0) ≡ Some (Elem s k) → IsBegun d g n old (old ++ written (element_text d s.0 k)) before before
begun_element d g n s k old before head_is =
    let w = written (element_text d s.0 k) in
    record {
      within = λ h. h;
      few_closes = omega arith;
      forward = λ v text count stands h.
          let is = stands_element g n s k v head_is stands in
          let one : length (subterms v) ≡ 1 = ap (λ (u : Value). length (subterms u)) is in
          (text, count, h, ap (λ (u : Value). old ++ (written (expression d u) ++ text)) is ∙ sym (append_assoc old w text), omega arith);
      backward = λ rest others h. (element s k, rest, others, element_stands g n s k head_is, h, sym (append_assoc old w rest), omega arith);
    }

begun_alone : (d : Declarations) (g : Nodes) (n : NodeId) (c : CtorId) (old : List ℕ) (before : List Item) → option_map node_head (slice_get g n.0) ≡ Some (Con c) → option_map node_children (slice_get g n.0) ≡ Some [] → IsBegun d g n old (old ++ written (ctor_expression d c)) before before
begun_alone d g n c old before head_is below =
    let w = written (ctor_expression d c) in
    record {
      within = λ h. h;
      few_closes = omega arith;
      forward = λ v text count stands h.
          let made = stands_constructor g n c [] v head_is below stands in
          let is : v ≡ construct c no_values = made.1 ∙ ap (construct c) (none_for made.0 made.2) in
          let one : length (subterms v) ≡ 1 = ap (λ (u : Value). length (subterms u)) is in
          (text, count, h, ap (λ (u : Value). old ++ (written (expression d u) ++ text)) is ∙ sym (append_assoc old w text), omega arith);
      backward = λ rest others h. (construct c no_values, rest, others, constructor_stands g n c [] no_values head_is below tt, h, sym (append_assoc old w rest), omega arith);
    }
  where
    none_for : (vs : Values) → StandForAll g [] vs → vs ≡ no_values
    none_for no_values all = refl
    none_for (with_value v vs) all = absurd all

begun_over : (d : Declarations) (g : Nodes) (n : NodeId) (c : CtorId) (m : NodeId) (ms : List NodeId) (old : List ℕ) (before : List Item) → option_map node_head (slice_get g n.0) ≡ Some (Con c) → option_map node_children (slice_get g n.0) ≡ Some (m ∷ ms) → AllByRecursion (λ k. k.0 < length g) (m ∷ ms)
    → IsBegun d g n old (old ++ 40 ∷ written (ctor_expression d c)) before (map Node (m ∷ ms) ++ Close ∷ before)
begun_over d g n c m ms old before head_is below inside =
    let w = written (ctor_expression d c) in
    record {
      within = λ h. within_trees g (m ∷ ms) before inside h;
      few_closes = omega (arith, closes_trees (m ∷ ms) before);
      forward = λ v text count stands h.
          let made = stands_constructor g n c (m ∷ ms) v head_is below stands in
          let vs = made.0 in
          let many : length (subterms v) ≡ suc (length (subterms_of_all vs)) = ap (λ (u : Value). length (subterms u)) made.1 in (
            written_after (expressions d vs) ++ 41 ∷ text,
            length (subterms_of_all vs) + count,
            join_trees d g (m ∷ ms) before vs text count made.2 h,
            ap (λ (u : Value). old ++ (written (expression d u) ++ text)) made.1 ∙ text_of vs text made.2,
            omega arith,
          );
      backward = λ rest others h.
          let parts = split_trees d g (m ∷ ms) before rest others h in
          let vs = parts.0 in (
            construct c vs,
            parts.1,
            parts.2,
            constructor_stands g n c (m ∷ ms) vs head_is below parts.3,
            parts.4,
            text_of vs parts.1 parts.3 ∙ ap (λ r. (old ++ 40 ∷ w) ++ r) (sym parts.5),
            omega (arith, parts.6),
          );
    }
  where
    text_of : (vs : Values) (text : List ℕ) → StandForAll g (m ∷ ms) vs → old ++ (written (expression d (construct c vs)) ++ text) ≡ (old ++ 40 ∷ written (ctor_expression d c)) ++ (written_after (expressions d vs) ++ 41 ∷ text)
    text_of no_values text all = absurd all
    text_of (with_value v vs) text all = applied_text (ctor_expression d c) (expression d v) (expressions d vs) old text

-- the same, as a program knows it
pub begun-element : (d : Declarations) (g : Nodes) (n : NodeId) (s : SortId) (k : ℕ) (old new : List ℕ) (before after : List Item) → option_map node_head (slice_get g n.0) ≡ Some (Elem s k) → new ≡ old ++ written (element_text d s.0 k) → after ≡ before → IsBegun d g n old new before after
begun-element d g n s k old new before after head_is new_is after_is =
    subst (λ (items : List Item). IsBegun d g n old new before items) (sym after_is) (subst (λ (out : List ℕ). IsBegun d g n old out before before) (sym new_is) (begun_element d g n s k old before head_is))

pub begun-constructor : (d : Declarations) (g : Nodes) (n : NodeId) (c : CtorId) (ns : List NodeId) (old new : List ℕ) (before after : List Item) → option_map node_head (slice_get g n.0) ≡ Some (Con c) → option_map node_children (slice_get g n.0) ≡ Some ns → AllByRecursion (λ k. k.0 < length g) ns
    → new ≡ old ++ opening (written (ctor_expression d c)) ns → after ≡ pending ns ++ before → IsBegun d g n old new before after
begun-constructor d g n c [] old new before after head_is below inside new_is after_is =
    subst (λ (items : List Item). IsBegun d g n old new before items) (sym after_is) (subst (λ (out : List ℕ). IsBegun d g n old out before before) (sym new_is) (begun_alone d g n c old before head_is below))
begun-constructor d g n c (m ∷ ms) old new before after head_is below inside new_is after_is =
    let moved : after ≡ map Node (m ∷ ms) ++ Close ∷ before = after_is ∙ append_assoc (map Node (m ∷ ms)) (Close ∷ []) before in
    subst (λ (items : List Item). IsBegun d g n old new before items) (sym moved) (subst (λ (out : List ℕ). IsBegun d g n old out before (map Node (m ∷ ms) ++ Close ∷ before)) (sym new_is) (begun_over d g n c m ms old before head_is below inside))

-- ---- the walk

pub walked-start : (d : Declarations) (g : Nodes) (root : NodeId) (out : List ℕ) (after : List Item) → IsBegun d g root [] out [] after → IsWalked d g root out after 1
walked-start d g root out after begun = record {
  within = begun.within tt;
  few = omega arith;
  few_closes = omega (arith, begun.few_closes);
  forward = λ v stands.
      let b = begun.forward v [] 0 stands (refl, refl) in
      (b.0, b.1, b.2, sym (append-nil (written (expression d v))) ∙ b.3, omega (arith, b.4));
  backward = λ rest others h.
      let b = begun.backward rest others h in
      let text_is : written (expression d b.0) ++ b.1 ≡ written (expression d b.0) = ap (λ t. written (expression d b.0) ++ t) b.4.0 ∙ append-nil (written (expression d b.0)) in
      (b.0, b.3, sym text_is ∙ b.5, omega (arith, b.6, b.4.1));
}

pub walked-close : (d : Declarations) (g : Nodes) (root : NodeId) (out : List ℕ) (items : List Item) (count : ℕ) → IsWalked d g root out (Close ∷ items) count → IsWalked d g root (out ++ 41 ∷ []) items count
walked-close d g root out items count walked = record {
  within = walked.within;
  few = walked.few;
  few_closes = omega (arith, walked.few_closes);
  forward = λ v stands.
      let w = walked.forward v stands in
      (w.2.0, w.1, w.2.2, w.3 ∙ ap (λ r. out ++ r) w.2.1 ∙ sym (append_assoc out (41 ∷ []) w.2.0), w.4);
  backward = λ rest others h.
      let w = walked.backward (41 ∷ rest) others (rest, refl, h) in
      (w.0, w.1, w.2 ∙ sym (append_assoc out (41 ∷ []) rest), w.3);
}

pub walked-node : (d : Declarations) (g : Nodes) (root n : NodeId) (out new : List ℕ) (items after : List Item) (count : ℕ) → IsWalked d g root out (Node n ∷ items) count → count < most_plain → IsBegun d g n (out ++ 32 ∷ []) new items after → IsWalked d g root new after (suc count)
walked-node d g root n out new items after count walked room begun = record {
  within = begun.within walked.within.1;
  few = omega arith;
  few_closes = omega (arith, begun.few_closes, walked.few_closes);
  forward = λ v stands.
      let w = walked.forward v stands in
      let top = w.2 in
      let b = begun.forward top.0 top.1 top.2 top.3 top.6 in (
        b.0,
        b.1,
        b.2,
        w.3 ∙ ap (λ r. out ++ r) top.4 ∙ sym (append_assoc out (32 ∷ []) (written (expression d top.0) ++ top.1)) ∙ b.3,
        omega (arith, w.4, top.5, b.4),
      );
  backward = λ rest others h.
      let b = begun.backward rest others h in
      let u = written (expression d b.0) in
      let w = walked.backward (32 ∷ (u ++ b.1)) (length (subterms b.0) + b.2) (b.0, b.1, b.2, b.3, refl, refl, b.4) in
      (w.0, w.1, w.2 ∙ sym (append_assoc out (32 ∷ []) (u ++ b.1)) ∙ b.5, omega (arith, w.3, b.6));
}

pub walked-end : (d : Declarations) (g : Nodes) (root : NodeId) (out : List ℕ) (count : ℕ) → IsWalked d g root out [] count → IsTreeText d g root out
walked-end d g root out count walked =
    let w = walked.backward [] 0 (refl, refl) in
    record {
      tree = w.0;
      stands_for = w.1;
      few = omega (arith, w.3, walked.few);
      text_is = sym (append-nil out) ∙ sym w.2;
    }

pub walked-great : (d : Declarations) (g : Nodes) (root n : NodeId) (out : List ℕ) (items : List Item) (count : ℕ) → IsWalked d g root out (Node n ∷ items) count → most_plain ≤ count → IsTooGreat g root
walked-great d g root n out items count walked many v stands =
    let w = walked.forward v stands in
    omega (arith, w.4, w.2.5, subterms_positive w.2.0)

-- items that are no parentheses stand for a node each at least
items_count : (d : Declarations) (g : Nodes) (items : List Item) (text : List ℕ) (count : ℕ) → StandAs d g items text count → length items ≤ closes items + count
items_count d g [] text count h = omega arith
items_count d g (Close ∷ items) text count h = omega (arith, items_count d g items h.0 count h.2)
items_count d g (Node n ∷ items) text count h = omega (arith, h.5, items_count d g items h.1 h.2 h.6, subterms_positive h.0)

pub walked-many : (d : Declarations) (g : Nodes) (root n : NodeId) (out : List ℕ) (items : List Item) (count : ℕ) → IsWalked d g root out (Node n ∷ items) count → 2 * most_plain ≤ length items → IsTooGreat g root
walked-many d g root n out items count walked many v stands =
    let w = walked.forward v stands in
    let top = w.2 in
    omega (arith, walked.few_closes, w.4, top.5, items_count d g items top.1 top.2 top.6)

-- what follows from two facts that hold where nothing failed
pub on_both : {E : Type 0} {P Q R : Type 0} (r : Result (Unit {0}) E) → (P → Q → R) → OnOk r P → OnOk r Q → OnOk r R
on_both (Ok u) give h k = give h k
on_both (Err e) give h k = tt

-- ---- the stack, whose top is its last item

module _ {X : Type 0} where
  -- a stack is its top before those below it
  pub reverse-push : (below whole : List X) (top : X) → whole ≡ below ++ top ∷ [] → reverse whole ≡ top ∷ reverse below
  reverse-push below whole top e = ap reverse e ∙ reverse-append below (top ∷ [])

-- one more node on top, of those that are still to be put there
pub pushed-node : (rest left : List NodeId) (n : NodeId) (old new items : List Item) → rest ≡ left ++ n ∷ [] → new ≡ old ++ Node n ∷ [] → map Node rest ++ reverse old ≡ items → map Node left ++ reverse new ≡ items
pushed-node rest left n old new items rest_is new_is e =
    ap (λ (s : List Item). map Node left ++ s) (reverse-push old new (Node n) new_is)
    ∙ sym (append_assoc (map Node left) (Node n ∷ []) (reverse old))
    ∙ ap (λ (s : List Item). s ++ reverse old) (sym (map-append Node left (n ∷ [])) ∙ ap (map Node) (sym rest_is))
    ∙ e
