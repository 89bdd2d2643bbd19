use Rattle.std.proofs.lemmas.Result.{IfOk-weaker}
use Rattle.ct_terms.specs.CoreTree.{tree_layer, term_at}
use Rattle.ct_operators.specs.Effect.{Stands}
use Rattle.ct_operators.proofs.MakeLemmas.{layer_back, made_stands, make_effect}
use Rattle.ct_operators.proofs.making.make.Goals as goal

pub make-requires : goal.make-requires
make-requires c = record {
  well_sorted = (
    c.requires.sorted.0,
    layer_back c.args.sig.now c.args.table.now c.requires.kept c.args.core c.requires.sorted.0 c.requires.below c.requires.sorted.1,
  );
}

pub returns-clause-core : goal.returns-clause-core
returns-clause-core c =
    IfOk-weaker c.make.result _ (λ t. Stands c.make.new.self t (tree_layer (term_at c.args.table.now) c.args.core))
    (λ t made. made_stands c.args.sig.now c.args.table.now c.make.new.self c.args.core t c.requires.kept c.requires.below c.make.ensures.sorted made)
    c.make.ensures.made

pub returns-clause-effect : goal.returns-clause-effect
returns-clause-effect c = λ allowed inside.
    make_effect c.args.sig.now c.args.table.now c.make.new.self c.args.core c.requires.sorted.0 c.make.result allowed c.requires.kept c.requires.below
    c.make.ensures.sorted c.make.ensures.made c.make.ensures.refused c.make.ensures.full.0 inside
