use Rattle.std.proofs.Common.{◌≡◌, ℕ, ◌<◌, zero, suc, false, nat_eq, length, take, All, refl, sym, ◌∙◌, subst, arith, true≢false}
use Rattle.std.proofs.lemmas.List.Elements.{All-more}
use Rattle.std.proofs.lemmas.List.{take_all}
use Rattle.ct_sorts.specs.Declarations.{bool_sort}
use Rattle.ct_terms.specs.Terms.{IsBoolean}
use Rattle.ct_terms.proofs.sorting.are_boolean.Goals as goal

-- a number that the test tells apart from 0 is above it
above_zero : (n : ℕ) → nat_eq n 0 ≡ false → 0 < n
above_zero zero e = absurd (true≢false e)
above_zero (suc n) e = omega arith

pub loop-t-preserved : goal.loop-t-preserved
loop-t-preserved c =
    All-more (IsBoolean c.args.table.now) c.args.terms.now c.loop-t.t-index (record { 0 = 0 }) c.loop-t-test.true c.loop-t.invariant (c.is_of_sort.ensures.sorted.0 c.if-not-is_of_sort.false)

pub returns : goal.returns
returns c =
    let whole : take c.loop-t.t-index c.args.terms.now ≡ c.args.terms.now = take_all c.loop-t.t-index c.args.terms.now c.loop-t-test.false in
    record {
      sorted = (
        λ e. (
          bool_sort,
          record {
            some = above_zero (length c.args.terms.now) (sym c.is_empty.ensures ∙ c.if-is_empty.false);
            booleans = subst (All (IsBoolean c.args.table.now)) whole c.loop-t.invariant;
            result = refl;
          },
        ),
        λ joins. cc,
      );
    }
