use Rattle.std.proofs.Common.{ℕ, ◌≡◌, List, length, take, refl, subst, arith}
use Rattle.ct_lemmas.proofs.Prefixes.{take-whole}
use Rattle.ct_generics.specs.declared.decl.SortDecl.{SortDecl}
use Rattle.ct_sorts.specs.Block.{block_ctors}
use Rattle.ct_sorts.specs.Room.{IsLeft, decl_fields}
use Rattle.ct_sorts.proofs.LimitLemmas.{IsLeft-none, IsLeft-more, DoesNotFit-more, ctors_more, fields_more, ctors_among, fields_among}
use Rattle.ct_sorts.proofs.limits.room_after.Goals as goal

pub loop-decl-init : goal.loop-decl-init
loop-decl-init c = IsLeft-none c.args.room

pub loop-decl-preserved : goal.loop-decl-preserved
loop-decl-preserved c =
    let block = c.args.block.now in
    let i = c.loop-decl.decl-index in
    let decl = c.decl-item.result in
    IsLeft-more c.args.room c.loop-decl.left c.in-Some.rest i (length (block_ctors (take i block))) (length (decl_fields (block_ctors (take i block)))) 1 (length decl.ctors) (length (decl_fields decl.ctors)) _ _ _ c.loop-decl.invariant c.in-Some.ensures.left refl (ctors_more block i decl c.loop-decl-test.true c.decl-item.is) (fields_more block i decl c.loop-decl-test.true c.decl-item.is)

pub returns-in-None : goal.returns-in-None
returns-in-None c =
    let block = c.args.block.now in
    let i = c.loop-decl.decl-index in
    let decl = c.decl-item.result in
    record {
      left = tt;
      none = DoesNotFit-more c.args.room c.loop-decl.left i (length (block_ctors (take i block))) (length (decl_fields (block_ctors (take i block)))) 1 (length decl.ctors) (length (decl_fields decl.ctors)) _ _ _ c.loop-decl.invariant c.in-None.ensures.none (omega (arith, c.loop-decl-test.true)) (ctors_among block i decl c.loop-decl-test.true c.decl-item.is) (fields_among block i decl c.loop-decl-test.true c.decl-item.is);
    }

pub returns : goal.returns
returns c =
    let block = c.args.block.now in
    let all : c.loop-decl.decl-index ≡ length block = omega (arith, c.loop-decl-test.false, c.loop-decl.auto.decl-index-end) in
    let counted = subst (λ n. IsLeft c.args.room c.loop-decl.left n (length (block_ctors (take n block))) (length (decl_fields (block_ctors (take n block))))) all c.loop-decl.invariant in
    record {
      left = subst (λ (xs : List SortDecl). IsLeft c.args.room c.loop-decl.left (length block) (length (block_ctors xs)) (length (decl_fields (block_ctors xs)))) (take-whole block) counted;
      none = tt;
    }
