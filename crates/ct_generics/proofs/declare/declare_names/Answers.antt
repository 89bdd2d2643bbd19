use Rattle.std.proofs.Common.{subst, take}
use Rattle.ct_generics.specs.Block.{with_names}
use Rattle.ct_generics.specs.Stored.{AreDeclared}
use Rattle.ct_generics.proofs.DeclareLemmas.{AreFree-rest, IsBegun-same, IsBegun-trans, with_names-more, with_names-none}
use Rattle.ct_generics.proofs.declare.declare_names.Goals as goal

pub loop-decl-init : goal.loop-decl-init
loop-decl-init c = record { begun = IsBegun-same c.args.g.now; free = c.requires.free; known = λ d is. subst (AreDeclared c.args.g.now) (with_names-none d c.args.kind) is }

pub add_named-requires : goal.add_named-requires
add_named-requires c =
    record { fresh = (AreFree-rest c.loop-decl.g.head_names c.args.block.now c.loop-decl.decl-index c.decl-item.result c.loop-decl-test.true c.decl-item.is c.loop-decl.invariant.free).0.0 }

pub loop-decl-preserved : goal.loop-decl-preserved
loop-decl-preserved c =
    let block = c.args.block.now in
    let i = c.loop-decl.decl-index in
    let x = c.decl-item.result in
    record {
      begun = IsBegun-trans c.args.g.now c.loop-decl.g c.add_named.new.g c.loop-decl.invariant.begun c.add_named.ensures.begun;
      free = rw c.in_ok-add_named.ensures.names (AreFree-rest c.loop-decl.g.head_names block i x c.loop-decl-test.true c.decl-item.is c.loop-decl.invariant.free).1;
      known = λ d is. with_names-more c.add_named.new.g d c.args.kind block i x c.loop-decl-test.true c.decl-item.is (c.in_ok-add_named.ensures.ok (with_names d c.args.kind (take i block)) (c.loop-decl.invariant.known d is));
    }
