use Rattle.std.proofs.Common.{◌≡◌, List, slice_get, length, Some, sym, ap, subst, ◌∙◌}
use Rattle.std.proofs.lemmas.Option.{slice_get_within}
use Rattle.ct_sorts.specs.declared.ids.CtorId.{CtorId}
use Rattle.ct_terms.specs.declared.ids.TermId.{TermId}
use Rattle.ct_terms.specs.declared.term.Core.{Core}
use Rattle.ct_terms.specs.declared.term.Core.TheVariants.{Con}
use Rattle.ct_terms.specs.Terms.{Has, HasArgumentsBelow}
use Rattle.ct_congr.proofs.TermLemmas.{Has-constructor, arity, argument_below}
use Rattle.ct_congr.proofs.pairing.pair.Goals as goal
use Rattle.ct_congr.proofs.pairing.pair.Goals.{In-Con, In-Con-core}

-- the two terms, with their arguments
left : (c : In-Con) → Has c.args.table.now (Con c.in-Con.c c.in-Con.xs) c.args.t.0
left c = rw (← c.in-Con.is) c.core.ensures.value

right : (c : In-Con-core) → Has c.args.table.now (Con c.in-Con-core.k c.in-Con-core.ys) c.args.u.0
right c = rw (← c.in-Con-core.is) c.core-2.ensures.value

pub returns-then-not-same_constructor-clause-paired : goal.returns-then-not-same_constructor-clause-paired
returns-then-not-same_constructor-clause-paired c =
    let at = goal.at.returns-then-not-same_constructor-clause-paired c in
    record {
      first = c.in-Con.c;
      second = c.in-Con-core.k;
      xs = c.in-Con.xs;
      ys = c.in-Con-core.ys;
      left = left at.In-Con;
      right = right at.In-Con-core;
      apart = rw c.if-not-same_constructor.true at c.same_constructor.ensures.value;
      equal = c.requires.equal;
    }

pub pair_arguments-requires-clause-constructor : goal.pair_arguments-requires-clause-constructor
pair_arguments-requires-clause-constructor c =
    let has = left (goal.at.pair_arguments-requires-clause-constructor c).In-Con in
    let built = c.requires.sorted c.args.t.0 (Con c.in-Con.c c.in-Con.xs) has.0 has.1 in
    slice_get_within c.args.sig.now.ctors c.in-Con.c.0 built.ctor built.declared

pub pair_arguments-requires-clause-left : goal.pair_arguments-requires-clause-left
pair_arguments-requires-clause-left c = λ ctor declared.
    rw c.as_slice.ensures.value (arity c.args.sig.now c.args.table.now c.in-Con.c ctor c.in-Con.xs c.args.t.0 c.requires.sorted declared (left (goal.at.pair_arguments-requires-clause-left c).In-Con))

-- the second term has the constructor of the first
one : (c : In-Con-core) → c.in-Con.c ≡ c.in-Con-core.k → Has c.args.table.now (Con c.in-Con.c c.in-Con-core.ys) c.args.u.0
one c same = subst (λ (q : CtorId). Has c.args.table.now (Con q c.in-Con-core.ys) c.args.u.0) (sym same) (right c)

pub pair_arguments-requires-clause-right : goal.pair_arguments-requires-clause-right
pair_arguments-requires-clause-right c = λ ctor declared.
    let stands = one (goal.at.pair_arguments-requires-clause-right c).In-Con-core (rw c.if-not-same_constructor.false at c.same_constructor.ensures.value) in
    rw c.as_slice-2.ensures.value (arity c.args.sig.now c.args.table.now c.in-Con.c ctor c.in-Con-core.ys c.args.u.0 c.requires.sorted declared stands)

pub pair_arguments-requires-clause-left_inside : goal.pair_arguments-requires-clause-left_inside
pair_arguments-requires-clause-left_inside c = λ k x at.
    let below : HasArgumentsBelow (length c.args.table.now) (Con c.in-Con.c c.in-Con.xs) = subst (λ (q : Core). HasArgumentsBelow (length c.args.table.now) q) c.in-Con.is c.core.ensures.inside in
    rw c.requires.long (argument_below (length c.args.table.now) c.in-Con.xs k x below (rw c.as_slice.ensures.value at at))

pub pair_arguments-requires-clause-right_inside : goal.pair_arguments-requires-clause-right_inside
pair_arguments-requires-clause-right_inside c = λ k x at.
    let below : HasArgumentsBelow (length c.args.table.now) (Con c.in-Con-core.k c.in-Con-core.ys) = subst (λ (q : Core). HasArgumentsBelow (length c.args.table.now) q) c.in-Con-core.is c.core-2.ensures.inside in
    rw c.requires.long (argument_below (length c.args.table.now) c.in-Con-core.ys k x below (rw c.as_slice-2.ensures.value at at))

pub returns-clause-waits : goal.returns-clause-waits
returns-clause-waits c =
    let at = goal.at.returns-clause-waits c in
    let stands = one at.In-Con-core (rw c.if-not-same_constructor.false at c.same_constructor.ensures.value) in
    c.in_ok-pair_arguments.ensures.waits c.args.table.now c.requires.equal (rw c.as_slice.ensures.value (left at.In-Con)) (rw c.as_slice-2.ensures.value stands)

pub returns-clause-paired : goal.returns-clause-paired
returns-clause-paired c = λ e f zs ws p q.
    let at = goal.at.returns-clause-paired c in
    let terms = c.args.table.now in
    let same = rw c.if-not-same_constructor.false at c.same_constructor.ensures.value in
    let first = Has-constructor terms c.in-Con.c e c.in-Con.xs zs c.args.t.0 (left at.In-Con) p in
    let second = Has-constructor terms c.in-Con-core.k f c.in-Con-core.ys ws c.args.u.0 (right at.In-Con-core) q in (
      sym first.0 ∙ (same ∙ second.0),
      λ place x y at_x at_y.
          let x_at : slice_get c.in-Con.xs place ≡ Some x = ap (λ (list : List TermId). slice_get list place) first.1 ∙ at_x in
          let y_at : slice_get c.in-Con-core.ys place ≡ Some y = ap (λ (list : List TermId). slice_get list place) second.1 ∙ at_y in
          c.in_ok-pair_arguments.ensures.joined place x y (rw c.as_slice.ensures.value x_at) (rw c.as_slice-2.ensures.value y_at),
    )
