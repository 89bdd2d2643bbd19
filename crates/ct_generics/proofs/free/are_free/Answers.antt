use Rattle.std.proofs.Common.{List, ℕ, ◌++◌, ◌∷◌, [], ap₂, refl, sym, subst, ◌∙◌, arith}
use Rattle.std.proofs.lemmas.Bool.{true≢false, false≢true}
use Rattle.ct_generics.specs.declared.decl.SortDecl.{SortDecl}
use Rattle.ct_generics.specs.Names.{IsListed}
use Rattle.ct_generics.specs.Stored.{AreFree}
use Rattle.ct_generics.proofs.FreeLemmas.{free-more, free-stop, names-more, names_of, not-taken}
use Rattle.ct_generics.proofs.ResolveLemmas.{take-past}
use Rattle.ct_generics.proofs.free.are_free.Goals as goal

pub loop-decl-init : goal.loop-decl-init
loop-decl-init c = record { seen_are = c.new-seen.ensures.empty; free = tt }

pub returns-then-is_taken-clause-free : goal.returns-then-is_taken-clause-free
returns-then-is_taken-clause-free c = (
  λ h. absurd (false≢true h),
  λ free. absurd (free-stop c.args.g.now.head_names c.args.block.now c.loop-decl.decl-index c.decl-item.result c.loop-decl-test.true c.decl-item.is
      (subst (λ (seen : List (List ℕ)). IsListed (c.args.g.now.head_names ++ seen) c.decl-item.result.name) c.loop-decl.invariant.seen_are (c.is_taken.ensures.taken.0 c.if-is_taken.true)) free),
)

pub push-requires : goal.push-requires
push-requires c =
    record { fresh = rw (c.in_ok-name.ensures.ok, c.as_slice.ensures.value) (not-taken c.args.g.now.head_names c.loop-decl.seen c.decl-item.result.name c.is_taken.result c.is_taken.ensures.taken c.if-is_taken.false) }

pub loop-decl-preserved : goal.loop-decl-preserved
loop-decl-preserved c =
    let names = c.args.g.now.head_names in
    let block = c.args.block.now in
    let i = c.loop-decl.decl-index in
    let x = c.decl-item.result in
    record {
      seen_are = c.in_ok-push.ensures.ok ∙ ap₂ (λ (xs : List (List ℕ)) (y : List ℕ). xs ++ y ∷ []) c.loop-decl.invariant.seen_are (c.in_ok-name.ensures.ok ∙ c.as_slice.ensures.value) ∙ sym (names-more block i x c.loop-decl-test.true c.decl-item.is);
      free = free-more names block i x c.loop-decl-test.true c.decl-item.is c.loop-decl.invariant.free (λ listed. true≢false (sym (c.is_taken.ensures.taken.1 (subst (λ (seen : List (List ℕ)). IsListed (names ++ seen) x.name) (sym c.loop-decl.invariant.seen_are) listed)) ∙ c.if-is_taken.false));
    }

pub returns-clause-free : goal.returns-clause-free
returns-clause-free c =
    (λ _. subst (λ (block : List SortDecl). AreFree c.args.g.now.head_names (names_of block)) (take-past c.args.block.now c.loop-decl.decl-index (omega (arith, c.loop-decl-test.false))) c.loop-decl.invariant.free, λ _. refl)
