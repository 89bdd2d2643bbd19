use Rattle.std.proofs.Common.{◌≡◌, List, [], ◌∷◌, ◌++◌, sym, ◌∙◌, ap, subst}
use Rattle.ct_generics.specs.declared.generics.Generics.{Generics}
use Rattle.ct_generics.specs.Block.{with_heads}
use Rattle.ct_generics.specs.Denoted.{declared_of}
use Rattle.ct_generics.specs.Stored.{AreDeclared}
use Rattle.ct_sorts.specs.declared.tables.Tables.{Tables}
use Rattle.ct_sorts.specs.Growing.{HaveGrown, IsStanding}
use Rattle.ct_sorts.proofs.FreeLemmas.{free_head}
use Rattle.ct_sorts.proofs.GrowLemmas.{grown_self}
use Rattle.ct_sorts.proofs.ResultLemmas.{on_ok}
use Rattle.ct_sorts.proofs.StepLemmas.{grown_free, standing_free}
use Rattle.ct_sorts.proofs.free.declare_head.Goals as goal

pub returns-in-Ok-clause-declared : goal.returns-in-Ok-clause-declared
returns-in-Ok-clause-declared c =
    let t = c.args.tables.now in
    let declared : AreDeclared c.add_named.new.g (with_heads (declared_of t.generics) (free_head c.args.name.now c.args.params ∷ [])) = c.in-Ok.ensures.ok (declared_of t.generics) c.requires.standing.declared in
    on_ok c.push_no_ctors.result (λ _. ap (λ (x : Tables). declared_of x.generics) c.push_no_ctors.ensures.others ∙ c.facts.ensures.all.declared c.add_named.new.g (with_heads (declared_of t.generics) (free_head c.args.name.now c.args.params ∷ [])) declared) c.push_no_ctors.ensures.spellings

pub returns-in-Ok-clause-others : goal.returns-in-Ok-clause-others
returns-in-Ok-clause-others c = c.push_no_ctors.ensures.others ∙ ap (λ (g : Generics). record c.args.tables.now { generics = g; spellings = c.push_no_ctors.new.tables.spellings; determined = c.push_no_ctors.new.tables.determined }) (sym (ap (λ (x : Tables). x.generics) c.push_no_ctors.ensures.others))

pub returns-in-Ok-clause-grown : goal.returns-in-Ok-clause-grown
returns-in-Ok-clause-grown c =
    let t = c.args.tables.now in
    let declared : AreDeclared c.add_named.new.g (with_heads (declared_of t.generics) (free_head c.args.name.now c.args.params ∷ [])) = c.in-Ok.ensures.ok (declared_of t.generics) c.requires.standing.declared in
    subst (HaveGrown t) (sym c.push_no_ctors.ensures.others) (grown_free c.facts.ensures.all t c.add_named.new.g (free_head c.args.name.now c.args.params ∷ []) c.push_no_ctors.new.tables.spellings c.push_no_ctors.new.tables.determined declared c.push_no_ctors.ensures.grown.0 c.push_no_ctors.ensures.grown.1)

pub returns-in-Ok-clause-standing : goal.returns-in-Ok-clause-standing
returns-in-Ok-clause-standing c =
    let t = c.args.tables.now in
    let declared : AreDeclared c.add_named.new.g (with_heads (declared_of t.generics) (free_head c.args.name.now c.args.params ∷ [])) = c.in-Ok.ensures.ok (declared_of t.generics) c.requires.standing.declared in
    subst IsStanding (sym c.push_no_ctors.ensures.others) (standing_free c.facts.ensures.all t c.add_named.new.g (free_head c.args.name.now c.args.params ∷ []) c.push_no_ctors.new.tables.spellings c.push_no_ctors.new.tables.determined c.requires.standing declared)

pub returns-in-Err-clause-grown : goal.returns-in-Err-clause-grown
returns-in-Err-clause-grown c = subst (λ (g : Generics). HaveGrown c.args.tables.now (record c.args.tables.now { generics = g })) (sym c.in-Err.ensures.unchanged) (grown_self c.args.tables.now)

pub returns-in-Err-clause-standing : goal.returns-in-Err-clause-standing
returns-in-Err-clause-standing c = subst (λ (g : Generics). IsStanding (record c.args.tables.now { generics = g })) (sym c.in-Err.ensures.unchanged) c.requires.standing
