use Rattle.std.proofs.Common.{◌≡◌, ℕ, List, [], Ok, Err, map, refl, sym, ◌∙◌, ap, subst}
use Rattle.std.proofs.lemmas.List.{append-nil}
use Rattle.ct_generics.specs.declared.kind.Kind.{Kind as HeadKind}
use Rattle.ct_generics.specs.Block.{heads_in, with_heads, IsBlockRefusal as IsRefusalOfHeads}
use Rattle.ct_generics.specs.Declarations.{Head}
use Rattle.ct_generics.specs.Denoted.{declared_of}
use Rattle.ct_generics.specs.Stored.{AreDeclared, AreFree}
use Rattle.ct_sorts.specs.Block.{block_names}
use Rattle.ct_generics.specs.declared.generics.Generics.{Generics}
use Rattle.ct_sorts.specs.Growing.{HaveGrown, IsStanding}
use Rattle.ct_sorts.proofs.GrowLemmas.{grown_self}
use Rattle.ct_sorts.proofs.StepLemmas.{grown_heads, refused_below, standing_heads}
use Rattle.ct_sorts.proofs.block.declare_heads.Goals as goal

pub add_block-requires-clause-declared : goal.add_block-requires-clause-declared
add_block-requires-clause-declared c = (declared_of c.args.tables.now.generics, c.requires.standing.declared)

pub add_block-requires-clause-free : goal.add_block-requires-clause-free
add_block-requires-clause-free c = subst (λ (names : List (List ℕ)). AreFree names (block_names c.args.block.now)) (sym c.requires.standing.declared.names_are) c.requires.free

pub returns-in-Ok-clause-ok : goal.returns-in-Ok-clause-ok
returns-in-Ok-clause-ok c =
    let d = declared_of c.args.tables.now.generics in
    let own = c.in-Ok.ensures.ok d c.requires.standing.declared in
    (own.0, subst (λ (k : HeadKind). heads_in d k c.args.block.now ≡ Ok own.0) c.head_kind.ensures.value own.1, c.facts.ensures.all.declared c.add_block.new.g (with_heads d own.0) own.2)

pub returns-in-Ok-clause-accepted : goal.returns-in-Ok-clause-accepted
returns-in-Ok-clause-accepted c = λ n refused.
    let d = declared_of c.args.tables.now.generics in
    let own = c.in-Ok.ensures.ok d c.requires.standing.declared in
    own.3 n (subst (λ (k : HeadKind). IsRefusalOfHeads d k c.args.block.now n) (sym c.head_kind.ensures.value) refused)

pub returns-in-Ok-clause-grown : goal.returns-in-Ok-clause-grown
returns-in-Ok-clause-grown c =
    let d = declared_of c.args.tables.now.generics in
    let own = c.in-Ok.ensures.ok d c.requires.standing.declared in
    grown_heads c.facts.ensures.all c.args.tables.now c.add_block.new.g own.0 own.2

pub returns-in-Ok-clause-standing : goal.returns-in-Ok-clause-standing
returns-in-Ok-clause-standing c =
    let d = declared_of c.args.tables.now.generics in
    let own = c.in-Ok.ensures.ok d c.requires.standing.declared in
    standing_heads c.facts.ensures.all c.args.tables.now c.add_block.new.g (with_heads d own.0) c.requires.standing own.2

pub returns-in-Err-clause-refused : goal.returns-in-Err-clause-refused
returns-in-Err-clause-refused c = λ n err.
    let d = declared_of c.args.tables.now.generics in
    subst (λ (k : HeadKind). IsRefusalOfHeads d k c.args.block.now n) c.head_kind.ensures.value (c.in-Err.ensures.refused n d (ap Err (refused_below c.in-Err.error c.sig_error.result n (c.sig_error.ensures.refused n).0 err)) c.requires.standing.declared)

-- a refusal leaves the tables as they were
pub returns-in-Err-clause-grown : goal.returns-in-Err-clause-grown
returns-in-Err-clause-grown c = subst (λ (g : Generics). HaveGrown c.args.tables.now (record c.args.tables.now { generics = g })) (sym c.in-Err.ensures.unchanged) (grown_self c.args.tables.now)

pub returns-in-Err-clause-standing : goal.returns-in-Err-clause-standing
returns-in-Err-clause-standing c = subst (λ (g : Generics). IsStanding (record c.args.tables.now { generics = g })) (sym c.in-Err.ensures.unchanged) c.requires.standing
